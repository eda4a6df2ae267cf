-- A captured span as a number: how one is written, its value as a float, and what reading it answers. Definitions only.
use Rattle.std.specs.Prelude.{◌≡◌, Bool, true, false, cond, ◌&&◌, List, [], ◌∷◌, ◌++◌, ℕ, ◌+◌, ◌-◌, ◌*◌, ◌^◌, ◌≤◌, ◌<◌, leb, ℤ, pos, negsuc, Float, length, take, drop}
use Rattle.std.proofs.Math.Option.{Option, none, some}
use Rattle.std.specs.Float.{binary64}
use Rattle.std.specs.Float.Ieee.{div, neg, of_int}
use Rattle.sets.specs.Sets.{is_digit}
use Rattle.meaning.specs.Limits.{digit_limit}
use Rattle.meaning.specs.Refusals as No
use Rattle.fields.specs.declared.Reading.{Reading}
use Rattle.fields.specs.Field.{Field, Number, Refused}

-- The bytes of a number beside its digits.
abbrev pub minus_sign : ℕ
minus_sign = 0x2D

abbrev pub point : ℕ
point = 0x2E

-- A span's bytes: it has some exactly if 0 ≤ start ≤ end ≤ the text's length.
abbrev pub span_of : List ℕ → ℤ → ℤ → Option (List ℕ)
span_of text (negsuc _) end = none
span_of text (pos start) (negsuc _) = none
span_of text (pos start) (pos end) =
    cond (leb start end && leb end (length text)) (some (take (end - start) (drop start text))) none

-- Whether each byte is a digit.
abbrev pub all_digits : List ℕ → Bool
all_digits [] = true
all_digits (b ∷ s) = is_digit b && all_digits s

-- The digits as a whole number, behind those of another.
abbrev pub number_from : ℕ → List ℕ → ℕ
number_from n [] = n
number_from n (b ∷ s) = number_from (10 * n + (b - 0x30)) s

abbrev pub number_of : List ℕ → ℕ
number_of s = number_from 0 s

-- One or more digits.
pub record Digits (s : List ℕ) : Type 0 where
  pub one : 0 < length s
  pub each : all_digits s ≡ true

-- What is written: whether a minus stands there, the digits as a whole number, and how many of them are decimals.
pub record Numeral : Type 0 where
  pub minus : Bool
  pub number : ℕ
  pub decimals : ℕ

abbrev pub numeral : Bool → ℕ → ℕ → Numeral
numeral minus number decimals = record { minus = minus; number = number; decimals = decimals }

-- One or more digits, optionally a point and one or more digits, 15 digits at most in all.
pub data Unsigned : List ℕ → ℕ → ℕ → Type 0 where
  whole : {s : List ℕ} → Digits s → length s ≤ digit_limit → Unsigned s (number_of s) 0
  pointed : {s t : List ℕ} → Digits s → Digits t → length s + length t ≤ digit_limit
      → Unsigned (s ++ (point ∷ t)) (number_of (s ++ t)) (length t)

-- The same behind an optional minus.
pub data Written : List ℕ → Numeral → Type 0 where
  plain : {s : List ℕ} {n d : ℕ} → Unsigned s n d → Written s (numeral false n d)
  negative : {s : List ℕ} {n d : ℕ} → Unsigned s n d → Written (minus_sign ∷ s) (numeral true n d)

-- The digits as a whole number divided once by a power of ten, as 64-bit floats, then negated if a minus stood there.
abbrev pub quotient : ℕ → ℕ → Float
quotient number decimals = div binary64 (of_int binary64 (pos number)) (of_int binary64 (pos (10 ^ decimals)))

abbrev pub value_of : Numeral → Float
value_of n = cond n.minus (neg (quotient n.number n.decimals)) (quotient n.number n.decimals)

-- A reading keeps its value beside the number of decimals.
abbrev pub reading_of : Numeral → Reading
reading_of n = record { value = value_of n; decimals = n.decimals }

-- The outline's number and values for each case: what was read, or 28 at place 0.
abbrev pub field_by : Option Numeral → Field
field_by none = Refused No.bad_field 0
field_by (some n) = Number (reading_of n)
