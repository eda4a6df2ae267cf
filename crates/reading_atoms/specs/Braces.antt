-- Quantifiers: * + ? {n} {n,} {n,m}, each lazy with a ? after it. Definitions only.
use Rattle.std.specs.Prelude.{Bool, cond, ◌||◌, ◌&&◌, List, ℕ, zero, suc, ◌+◌, ◌-◌, ◌*◌, eqb, ltb, length}
use Rattle.std.proofs.Math.Option.{Option, none, some}
use Rattle.sets.specs.Sets.{is_digit}
use Rattle.meaning.specs.Refusals as No
use Rattle.meaning.specs.Limits.{count_limit}
use Rattle.reading_atoms.specs.Chars.{byte_at, choose, star, plus, question, open_brace, close_brace, comma}

-- A count is taken apart into its two numbers and the place behind it, or refused by a number. A maximum of none is no maximum.
pub data Braces : Type 0 where
  counts : ℕ → Option ℕ → ℕ → Braces
  refused : ℕ → Braces

-- The value of the digits from a place on, and the place behind them. Leading zeros are allowed, and any number of digits.
pub record Number : Type 0 where
  pub value : ℕ
  pub end : ℕ

unfoldable pub number_go : List ℕ → ℕ → ℕ → ℕ → Number
number_go s zero value at = record { value = value; end = at }
number_go s (suc fuel) value at =
    choose (is_digit (byte_at s at))
    (λ _. number_go s fuel (10 * value + (byte_at s at - 0x30)) (at + 1))
    (λ _. record { value = value; end = at })

unfoldable pub number_at : List ℕ → ℕ → Number
number_at s at = number_go s (length s) 0 at

-- Two counts: 8 for one above the limit, 9 for a minimum above the maximum.
abbrev pub judged : ℕ → ℕ → ℕ → Braces
judged min max end =
    cond (ltb count_limit min || ltb count_limit max) (refused No.high_count)
    (cond (ltb max min) (refused No.reversed_counts) (counts min (some max) end))

abbrev pub unlimited : ℕ → ℕ → Braces
unlimited min end = cond (ltb count_limit min) (refused No.high_count) (counts min none end)

-- Behind the comma: `}`, or a number and `}`.
abbrev pub after_comma : List ℕ → ℕ → ℕ → Braces
after_comma s min at =
    let m : Number = number_at s at in
    cond (eqb (byte_at s at) close_brace) (unlimited min (at + 1))
    (cond (is_digit (byte_at s at) && eqb (byte_at s m.end) close_brace) (judged min m.value (m.end + 1))
    (refused No.bad_braces))

-- The counts whose `{` stands at a place: 7 if it is not one of the three forms.
unfoldable pub braces_at : List ℕ → ℕ → Braces
braces_at s at =
    let n : Number = number_at s (at + 1) in
    cond (is_digit (byte_at s (at + 1)))
    (cond (eqb (byte_at s n.end) close_brace) (judged n.value n.value (n.end + 1))
    (cond (eqb (byte_at s n.end) comma) (after_comma s n.value (n.end + 1)) (refused No.bad_braces)))
    (refused No.bad_braces)

-- What stands behind an atom: no quantifier; one, with its counts, its laziness and the place behind it; or a refusal at its
-- `{`.
pub data Quantifier : Type 0 where
  once : Quantifier
  repeated : ℕ → Option ℕ → Bool → ℕ → Quantifier
  miscounted : ℕ → ℕ → Quantifier

-- A ? makes it lazy. What may be added to the minimum is the maximum less the minimum.
abbrev pub lazily : List ℕ → ℕ → Braces → Quantifier
lazily s at (counts min none end) = repeated min none (eqb (byte_at s end) question)
    (cond (eqb (byte_at s end) question) (end + 1) end)
lazily s at (counts min (some max) end) =
    repeated min (some (max - min)) (eqb (byte_at s end) question) (cond (eqb (byte_at s end) question) (end + 1) end)
lazily s at (refused number) = miscounted number at

unfoldable pub quantifier_at : List ℕ → ℕ → Quantifier
quantifier_at s at =
    let b : ℕ = byte_at s at in
    cond (eqb b star) (lazily s at (counts 0 none (at + 1)))
    (cond (eqb b plus) (lazily s at (counts 1 none (at + 1)))
    (cond (eqb b question) (lazily s at (counts 0 (some 1) (at + 1)))
    (cond (eqb b open_brace) (lazily s at (braces_at s at)) once)))
