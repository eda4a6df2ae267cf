-- A quantifier lies within the pattern and its counts within the limits.
use Rattle.std.specs.Prelude.{◌≡◌, Bool, true, false, cond, ◌||◌, ◌&&◌, List, ltb, length}
use Rattle.std.proofs.Math.Path.{refl}
use Rattle.std.proofs.Common.{sym, ap, ◌∙◌, eqb-true, ltb-true, ltb-false, lt-ltb, ne_eqb}
use Rattle.std.proofs.Math.Bool.{or-true}
use Rattle.std.proofs.Math.Option.{none, some}
use Prim.Native.Nat.{ℕ, zero, suc, ◌+◌, ◌-◌, ◌*◌, ◌≤◌, ◌<◌, min}
use native.Mathlib.Omega.{arith}
use Rattle.std.proofs.Math.Dec.{eqb}
use Rattle.sets.specs.Sets.{is_digit}
use Rattle.meaning.specs.Limits.{count_limit, no_maximum}
use Rattle.meaning.specs.Node.{Within}
use Rattle.meaning.specs.Refusals as No
use Rattle.reading_atoms.specs.Chars.{byte_at, choose, star, plus, question, open_brace, close_brace, comma}
use Rattle.reading_atoms.specs.Braces.{Braces, Braces.counts, Braces.refused, Number, number_go, number_at}
use Rattle.reading_atoms.specs.Braces.{judged, unlimited, after_comma, braces_at}
use Rattle.reading_atoms.specs.Braces.{Quantifier, Quantifier.once, Quantifier.repeated, Quantifier.miscounted}
use Rattle.reading_atoms.specs.Braces.{lazily, quantifier_at}
use Rattle.reading_atoms.specs.Answers.{counts_of}
use Rattle.reading_atoms.specs.Places.{by_cond, byte_passes, both, neither, digit_none}

-- What a count answers.
abbrev pub BracesBy : List ℕ → ℕ → Braces → Type 0
BracesBy s at (counts min none end) = (at < end) × (end ≤ length s) × (min ≤ count_limit)
BracesBy s at (counts min (some max) end) = (at < end) × (end ≤ length s) × (min ≤ max) × (max ≤ count_limit)
BracesBy s at (refused number) = Unit {0}

pub record BracesFine (s : List ℕ) (at : ℕ) (x : Braces) : Type 0 where
  pub by : BracesBy s at x

-- What a quantifier answers.
abbrev pub QuantifierBy : List ℕ → ℕ → Quantifier → Type 0
QuantifierBy s at once = Unit {0}
QuantifierBy s at (repeated min extra lazy end) = (at < end) × (end ≤ length s) × Within min extra
QuantifierBy s at (miscounted number place) = Unit {0}

pub record QuantifierFine (s : List ℕ) (at : ℕ) (x : Quantifier) : Type 0 where
  pub by : QuantifierBy s at x

-- Digits go on from where they begin.
number_on : (s : List ℕ) (fuel value at : ℕ) → at ≤ (number_go s fuel value at).end
unfolding number_go
number_on s zero value at = omega arith
number_on s (suc fuel) value at =
    let more = 10 * value + (byte_at s at - 0x30) in
    go (is_digit (byte_at s at)) (number_go s fuel more (at + 1)) (number_on s fuel more (at + 1))
  where
    go : (p : Bool) (n : Number) → at + 1 ≤ n.end → at ≤ (choose p (λ _. n) (λ _. record { value = value; end = at })).end
    go true n h = omega arith
    go false n h = omega arith

-- A `}` is within the pattern.
closes : (s : List ℕ) (i : ℕ) → eqb (byte_at s i) close_brace ≡ true → i < length s
closes s i e = byte_passes (λ x. eqb x close_brace) s i refl e

-- Counts are within the limits, and the place behind them within the pattern.
module _ (s : List ℕ) (at : ℕ) where
  judged_fine : (min max end : ℕ) → at < end → end ≤ length s → BracesFine s at (judged min max end)
  judged_fine min max end h l =
      by_cond (BracesFine s at) (ltb count_limit min || ltb count_limit max) (λ e. record { by = tt }) (λ e.
      by_cond (BracesFine s at) (ltb max min) (λ f. record { by = tt }) (λ f.
      let low = neither (ltb count_limit min) (ltb count_limit max) e in
      record { by = (h, l, ltb-false max min f, ltb-false count_limit max low.1) }))

  unlimited_fine : (min end : ℕ) → at < end → end ≤ length s → BracesFine s at (unlimited min end)
  unlimited_fine min end h l =
      by_cond (BracesFine s at) (ltb count_limit min) (λ e. record { by = tt })
      (λ e. record { by = (h, l, ltb-false count_limit min e) })

  comma_fine : (min from : ℕ) → at ≤ from → BracesFine s at (after_comma s min from)
  unfolding number_at
  comma_fine min from h =
      let m : Number = number_at s from in
      by_cond (BracesFine s at) (eqb (byte_at s from) close_brace)
      (λ e. let l = closes s from e in unlimited_fine min (from + 1) (omega arith) (omega arith)) (λ e.
      by_cond (BracesFine s at) (is_digit (byte_at s from) && eqb (byte_at s m.end) close_brace)
      (λ f. let l = closes s m.end (both (is_digit (byte_at s from)) (eqb (byte_at s m.end) close_brace) f).1 in
      let on = number_on s (length s) 0 from in
      judged_fine min m.value (m.end + 1) (omega arith) (omega arith))
      (λ f. record { by = tt }))

  pub braces_fine : BracesFine s at (braces_at s at)
  unfolding braces_at number_at
  braces_fine =
      let n : Number = number_at s (at + 1) in
      let on = number_on s (length s) 0 (at + 1) in
      by_cond (BracesFine s at) (is_digit (byte_at s (at + 1))) (λ e.
      by_cond (BracesFine s at) (eqb (byte_at s n.end) close_brace)
      (λ f. let l = closes s n.end f in judged_fine n.value n.value (n.end + 1) (omega arith) (omega arith)) (λ f.
      by_cond (BracesFine s at) (eqb (byte_at s n.end) comma) (λ g. comma_fine n.value (n.end + 1) (omega arith))
      (λ g. record { by = tt })))
      (λ e. record { by = tt })

  behind : (end : ℕ) → at < end → end ≤ length s
      → (at < cond (eqb (byte_at s end) question) (end + 1) end) × (cond (eqb (byte_at s end) question) (end + 1) end ≤ length s)
  behind end h l =
      by_cond (λ n. (at < n) × (n ≤ length s)) (eqb (byte_at s end) question)
      (λ e. let k = byte_passes (λ x. eqb x question) s end refl e in (omega arith, omega arith)) (λ e. (h, l))

  lazily_fine : (x : Braces) → BracesFine s at x → QuantifierFine s at (lazily s at x)
  lazily_fine (counts min none end) f =
      let e = behind end f.by.0 f.by.1 in record { by = (e.0, e.1, f.by.2) }
  lazily_fine (counts min (some max) end) f =
      let e = behind end f.by.0 f.by.1 in record { by = (e.0, e.1, omega arith) }
  lazily_fine (refused number) f = record { by = tt }

  pub quantifier_fine : QuantifierFine s at (quantifier_at s at)
  unfolding quantifier_at
  quantifier_fine =
      let b = byte_at s at in
      by_cond (QuantifierFine s at) (eqb b star) (λ e.
      let h = byte_passes (λ x. eqb x star) s at refl e in
      lazily_fine (counts 0 none (at + 1)) (record { by = (omega arith, omega arith, omega arith) })) (λ e.
      by_cond (QuantifierFine s at) (eqb b plus) (λ e.
      let h = byte_passes (λ x. eqb x plus) s at refl e in
      lazily_fine (counts 1 none (at + 1)) (record { by = (omega arith, omega arith, omega arith) })) (λ e.
      by_cond (QuantifierFine s at) (eqb b question) (λ e.
      let h = byte_passes (λ x. eqb x question) s at refl e in
      lazily_fine (counts 0 (some 1) (at + 1)) (record { by = (omega arith, omega arith, omega arith, omega arith) })) (λ e.
      by_cond (QuantifierFine s at) (eqb b open_brace) (λ e. lazily_fine (braces_at s at) braces_fine)
      (λ e. record { by = tt }))))

-- What is the same of every count above the limit does not see that a number is held at the cap.
capped_same : (f : ℕ → Braces) (rest : Braces) → ((x : ℕ) → count_limit < x → f x ≡ rest) → (v : ℕ) → f (min v no_maximum) ≡ f v
capped_same f rest above v = go (ltb count_limit v) refl
  where
    go : (p : Bool) → ltb count_limit v ≡ p → f (min v no_maximum) ≡ f v
    go true e = let h = ltb-true count_limit v e in above (min v no_maximum) (omega arith) ∙ sym (above v h)
    go false e = ap f (omega (arith, ltb-false count_limit v e))

pub judged_maximum : (m v end : ℕ) → judged m (min v no_maximum) end ≡ judged m v end
judged_maximum m v end =
    capped_same (λ x. judged m x end) (refused No.high_count) (λ x h. rw (lt-ltb count_limit x h, or-true)) v

pub judged_both : (v end : ℕ) → judged (min v no_maximum) (min v no_maximum) end ≡ judged v v end
judged_both v end = capped_same (λ x. judged x x end) (refused No.high_count) (λ x h. rw (lt-ltb count_limit x h)) v

pub comma_minimum : (s : List ℕ) (v at : ℕ) → after_comma s (min v no_maximum) at ≡ after_comma s v at
comma_minimum s v at =
    let closed = eqb (byte_at s (number_at s at).end) close_brace in
    capped_same (λ x. after_comma s x at)
    (cond (eqb (byte_at s at) close_brace) (refused No.high_count)
    (cond (is_digit (byte_at s at) && closed) (refused No.high_count) (refused No.bad_braces)))
    (λ x h. rw (lt-ltb count_limit x h)) v

-- What the digits have come to: the rest of their reading is the whole's, with fuel for every byte that is left, and the value
-- so far is held at the cap.
pub record Digits (s : List ℕ) (from value end : ℕ) : Type 0 where
  pub fuel : ℕ
  pub exact : ℕ
  pub same : number_at s from ≡ number_go s fuel exact end
  pub capped : value ≡ min exact no_maximum
  pub enough : length s ≤ fuel + end

pub digits_none : (s : List ℕ) (from : ℕ) → Digits s from 0 from
unfolding number_at
digits_none s from = record { fuel = length s; exact = 0; same = refl; capped = refl; enough = omega arith }

-- A digit more.
pub digits_more : {s : List ℕ} {from value end : ℕ} → Digits s from value end → is_digit (byte_at s end) ≡ true
    → Digits s from (min (10 * value + (byte_at s end - 0x30)) no_maximum) (end + 1)
unfolding number_go
digits_more {s} {from} {value} {end} d e = go d.fuel d.same d.enough
  where
    go : (fuel : ℕ) → number_at s from ≡ number_go s fuel d.exact end → length s ≤ fuel + end
        → Digits s from (min (10 * value + (byte_at s end - 0x30)) no_maximum) (end + 1)
    go zero p h = absurd (omega (arith, byte_passes is_digit s end digit_none e))
    go (suc fuel) p h = record {
      fuel = fuel;
      exact = 10 * d.exact + (byte_at s end - 0x30);
      same = p ∙ rw e;
      capped = omega (arith, d.capped);
      enough = omega arith;
    }

-- Where no digit stands the number ends.
pub digits_end : (s : List ℕ) (fuel value at : ℕ) → is_digit (byte_at s at) ≡ false
    → number_go s fuel value at ≡ record { value = value; end = at }
unfolding number_go
digits_end s zero value at e = refl
digits_end s (suc fuel) value at e = rw e

-- A quantifier by its counts, lazy and not.
module _ (s : List ℕ) (at low high end : ℕ) where
  pub lazily_yes : byte_at s end ≡ question
      → repeated low (cond (eqb high no_maximum) none (some (high - low))) true (end + 1) ≡ lazily s at (counts_of low high end)
  lazily_yes e = go (eqb high no_maximum)
    where
      go : (p : Bool) → repeated low (cond p none (some (high - low))) true (end + 1)
          ≡ lazily s at (counts low (cond p none (some high)) end)
      go true = rw e
      go false = rw e

  pub lazily_no : (byte_at s end ≡ question → ⊥)
      → repeated low (cond (eqb high no_maximum) none (some (high - low))) false end ≡ lazily s at (counts_of low high end)
  lazily_no h = go (eqb high no_maximum)
    where
      go : (p : Bool) → repeated low (cond p none (some (high - low))) false end
          ≡ lazily s at (counts low (cond p none (some high)) end)
      go true = rw (ne_eqb (byte_at s end) question h)
      go false = rw (ne_eqb (byte_at s end) question h)

  -- Counts that were read are in order.
  pub counts_ordered : counts_of low high end ≡ braces_at s at → low ≤ high
  counts_ordered e = go (eqb high no_maximum) refl (rw e (braces_fine s at))
    where
      go : (p : Bool) → eqb high no_maximum ≡ p → BracesFine s at (counts low (cond p none (some high)) end) → low ≤ high
      go true q f = omega (arith, eqb-true high no_maximum q)
      go false q f = omega arith
