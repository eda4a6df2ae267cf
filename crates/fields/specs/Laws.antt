-- What code holds of digits that it read, and how a digit more keeps it.
use Rattle.std.specs.Prelude.{◌≡◌, refl, Bool, true, false, ℕ, zero, suc, ◌+◌, ◌-◌, ◌*◌, ◌^◌, ◌≤◌, ◌<◌, T, eqb, ltb, leb, ℤ, pos, negsuc, length, get_or, take}
use Rattle.std.proofs.Common.{◌∙◌, true≢false, arith, length-drop}
use Rattle.std.proofs.Math.Path.{ap}
use Rattle.std.proofs.Math.Bool.{and-false}
use Rattle.std.proofs.Math.Option.{Option, none, some}
use mathlib.Core.List.{List, [], ◌∷◌}
use Rattle.std.proofs.Math.Nat.{pow-succ', pow-le-pow_right}
use Rattle.std.proofs.Math.Numerals.{add-one}
use borrow.Author.Tests.{ltb-true, leb-true, lt-ltb, le-ltb, le-leb, lt-leb, ne_eqb}
use Rattle.std.proofs.Math.ListN.{drop}
use Rattle.std.proofs.Math.Seq.{drop-cons, drop-length}
use Rattle.std.specs.Int.Signed.{lt_z, non_neg}
use Rattle.sets.specs.Sets.{is_digit}
use Rattle.meaning.specs.Limits.{digit_limit}
use Rattle.meaning.specs.Tests.{and_true, by_test}
use Rattle.fields.specs.Fields.{minus_sign, point, span_of, Numeral, numeral}
use Rattle.fields.specs.Scanning.{Scanned, scanned, digits_from, ended, after_digits, unsigned, numeral_in}
use Rattle.fields.specs.declared.Run.{Run}

-- Digits that were read stand within the bytes, and their number has no more digits than there were.
pub record Fair (s : List ℕ) (r : Run) : Type 0 where
  pub within : r.end ≤ length s
  pub few : r.room ≤ digit_limit
  pub bound : r.number < 10 ^ (digit_limit - r.room)

-- What reading digits came to, as a number, the digits that may follow and the place behind them.
pub record Ran (s : List ℕ) (all : Scanned) (r : Run) : Type 0 where
  pub same : all ≡ scanned r.number r.room (drop r.end s)
  pub fair : Fair s r

-- The same while there may be more of them.
pub record Running (s : List ℕ) (all : Scanned) (r : Run) : Type 0 where
  pub same : all ≡ digits_from r.number r.room (drop r.end s)
  pub fair : Fair s r

-- A digit's bounds.
pub digit_bounds : (b : ℕ) → is_digit b ≡ true → (0x30 ≤ b) × (b ≤ 0x39)
unfolding is_digit
digit_bounds b e = let (low, high) = and_true (leb 0x30 b) (leb b 0x39) e in (leb-true 0x30 b low, leb-true b 0x39 high)

-- A number below a power of ten is small, and with a digit more it is below the next.
pub small : (n k : ℕ) → k ≤ digit_limit → n < 10 ^ k → n < 10 ^ digit_limit
small n k h l = let p : 10 ^ k ≤ 10 ^ digit_limit = pow-le-pow_right (omega arith) h in omega arith

pub next : (n v k : ℕ) → n < 10 ^ k → v ≤ 9 → 10 * n + v < 10 ^ suc k
next n v k l h = rw (pow-succ' 10 k) (omega arith)

-- Reading digits stops where there may be no more of them, or no byte is left, or one that is no digit.
full : (n room : ℕ) (t : List ℕ) → room ≡ 0 → digits_from n room t ≡ scanned n room t
unfolding digits_from
full n zero t e = refl
full n (suc room) t e = absurd (omega arith)

pub over : (n room : ℕ) → digits_from n room [] ≡ scanned n room []
unfolding digits_from
over n zero = refl
over n (suc room) = refl

pub other : (n room b : ℕ) (t : List ℕ) → is_digit b ≡ false → digits_from n room (b ∷ t) ≡ scanned n room (b ∷ t)
unfolding digits_from
other n zero b t e = refl
other n (suc room) b t e = rw e

pub more : (n room b : ℕ) (t : List ℕ) → (room ≡ 0 → ⊥) → is_digit b ≡ true
    → digits_from n room (b ∷ t) ≡ digits_from (10 * n + (b - 0x30)) (room - 1) t
unfolding digits_from
more n zero b t left e = absurd (left refl)
more n (suc room) b t left e =
    rw e (ap (λ k. digits_from (10 * n + (b - 0x30)) k t) {x = room} {y = suc room - 1} (omega arith))

-- So what is read where it stops is all.
module _ {s : List ℕ} {all : Scanned} {r : Run} (h : Running s all r) where
  pub stop_full : r.room ≡ 0 → Ran s all r
  stop_full e = record { same = h.same ∙ full r.number r.room _ e; fair = h.fair }

  pub stop_over : length s ≤ r.end → Ran s all r
  stop_over l =
      let last : r.end ≡ length s = omega (arith, h.fair.within) in
      let none : drop r.end s ≡ [] = ap (λ n. drop n s) last ∙ drop-length s in
      record { same = h.same ∙ rw none (over r.number r.room); fair = h.fair }

  -- The byte at the place behind what was read.
  module _ (l : r.end < length s) where
    split : drop r.end s ≡ get_or s r.end 0 ∷ drop (r.end + 1) s
    split = rw (add-one r.end) (drop-cons s r.end 0 l)

    pub stop_other : is_digit (get_or s r.end 0) ≡ false → Ran s all r
    stop_other e = record { same = h.same ∙ rw split (other r.number r.room _ _ e); fair = h.fair }

    -- A digit is read where there may be more; the number stays small.
    module _ (left : r.room ≡ 0 → ⊥) (e : is_digit (get_or s r.end 0) ≡ true) where
      pub digit_low : 0x30 ≤ get_or s r.end 0
      digit_low = (digit_bounds _ e).0

      bound' : (v : ℕ) → v ≡ get_or s r.end 0 - 0x30 → 10 * r.number + v < 10 ^ (digit_limit - (r.room - 1))
      bound' v is =
          let one : digit_limit - (r.room - 1) ≡ suc (digit_limit - r.room) = omega (arith, h.fair.few, left) in
          rw one (next r.number v (digit_limit - r.room) h.fair.bound (omega (arith, digit_bounds _ e)))

      pub fits : (v : ℕ) → v ≡ get_or s r.end 0 - 0x30 → 10 * r.number + v < 10 ^ digit_limit
      fits v is = small (10 * r.number + v) (digit_limit - (r.room - 1)) (omega arith) (bound' v is)

      pub go_on : (v : ℕ) → v ≡ get_or s r.end 0 - 0x30
          → Running s all (record { number = 10 * r.number + v; room = r.room - 1; end = r.end + 1 })
      go_on v is = record {
        same = h.same ∙ rw (split, is) (more r.number r.room _ _ left e);
        fair = record { within = omega arith; few = omega (arith, h.fair.few); bound = bound' v is };
      }

-- There may be fewer digits behind those that were read, never more.
falls : (n room : ℕ) (t : List ℕ) → (digits_from n room t).room ≤ room
unfolding digits_from
falls n zero t = omega arith
falls n (suc room) [] = omega arith
falls n (suc room) (b ∷ t) =
    by_test (λ (x : Scanned). x.room ≤ suc room) (is_digit b)
    (λ _. let less = falls (10 * n + (b - 0x30)) room t in omega arith) (λ _. omega arith)

-- A number behind its sign, by the digits that were read first.
module _ (s : List ℕ) (minus : Bool) (from : ℕ) {w : Run} (h : Ran s (digits_from 0 digit_limit (drop from s)) w) where
  abbrev is : Option Numeral
  is = unsigned minus (drop from s)

  pub no_digit : w.room ≡ digit_limit → is ≡ none
  unfolding unsigned
  no_digit e = rw (h.same, le-ltb w.room digit_limit (omega arith))

  module _ (some_read : w.room ≡ digit_limit → ⊥) where
    less : ltb w.room digit_limit ≡ true
    less = lt-ltb w.room digit_limit (omega (arith, h.fair.few))

    pub whole_read : w.end ≡ length s → is ≡ some (numeral minus w.number 0)
    unfolding unsigned
    whole_read e = let over : drop w.end s ≡ [] = ap (λ n. drop n s) e ∙ drop-length s in rw (h.same, less, over)

    module _ (not-over : w.end ≡ length s → ⊥) where
      pub there : w.end < length s
      there = omega (arith, h.fair.within)

      next_is : is ≡ after_digits minus w.number w.room (get_or s w.end 0 ∷ drop (w.end + 1) s)
      unfolding unsigned
      next_is = rw (h.same, less, add-one w.end, drop-cons s w.end 0 there)

      pub no_point : (get_or s w.end 0 ≡ point → ⊥) → is ≡ none
      no_point n = next_is ∙ rw (ne_eqb (get_or s w.end 0) point n)

      module _ (e : get_or s w.end 0 ≡ point) {a : Run}
          (g : Ran s (digits_from w.number w.room (drop (w.end + 1) s)) a) where
        abbrev all : Scanned
        all = scanned a.number a.room (drop a.end s)

        behind_is : is ≡ ended minus w.room all
        behind_is = next_is ∙ rw (e, g.same)

        pub fewer : a.room ≤ w.room
        fewer = omega (arith, ap (λ x. x.room) g.same, falls w.number w.room (drop (w.end + 1) s))

        pub more_behind : a.end < length s → is ≡ none
        more_behind l =
            let long : eqb (length (drop a.end s)) 0 ≡ false
            = ne_eqb (length (drop a.end s)) 0 (omega (arith, length-drop a.end s)) in
            behind_is ∙ rw (long, and-false)

        pub none_behind : a.room ≡ w.room → is ≡ none
        none_behind r = behind_is ∙ rw (le-ltb a.room w.room (omega arith))

        pub all_read : length s ≤ a.end → (a.room ≡ w.room → ⊥) → is ≡ some (numeral minus a.number (w.room - a.room))
        all_read l r =
            let over : length (drop a.end s) ≡ 0 = omega (arith, length-drop a.end s) in
            behind_is ∙ rw (over, lt-ltb a.room w.room (omega (arith, fewer)))

-- A number by its first byte, if there is one.
pub no_bytes_lem : (s : List ℕ) → length s ≡ 0 → numeral_in s ≡ unsigned false (drop 0 s)
unfolding numeral_in
no_bytes_lem [] e = refl
no_bytes_lem (b ∷ s) e = absurd (omega arith)

pub after_minus : (s : List ℕ) → (length s ≡ 0 → ⊥) → get_or s 0 0 ≡ minus_sign → numeral_in s ≡ unsigned true (drop 1 s)
unfolding numeral_in
after_minus [] n e = absurd (n refl)
after_minus (b ∷ s) n e = rw e

pub no_minus : (s : List ℕ) → (length s ≡ 0 → ⊥) → (get_or s 0 0 ≡ minus_sign → ⊥) → numeral_in s ≡ unsigned false (drop 0 s)
unfolding numeral_in
no_minus [] n e = absurd (n refl)
no_minus (b ∷ s) n e = rw (ne_eqb b minus_sign e)

-- A register that is not negative.
pub plain : (register : ℤ) → lt_z register (pos 0) ≡ false → T (non_neg register)
plain (pos n) e = tt
plain (negsuc n) e = absurd (true≢false e)

-- A span that has no bytes, and one that has.
module _ (text : List ℕ) where
  pub no_start : (start end : ℤ) → lt_z start (pos 0) ≡ true → span_of text start end ≡ none
  no_start (pos start) end e = absurd (omega (arith, ltb-true start 0 e))
  no_start (negsuc start) end e = refl

  pub no_end : (start end : ℤ) → lt_z end (pos 0) ≡ true → span_of text start end ≡ none
  no_end (negsuc start) end e = refl
  no_end (pos start) (pos end) e = absurd (omega (arith, ltb-true end 0 e))
  no_end (pos start) (negsuc end) e = refl

  module _ {start end : ℤ} {from to : ℕ} (f : start ≡ pos from) (t : end ≡ pos to) where
    pub reversed : to < from → span_of text start end ≡ none
    reversed h = rw (f, t, lt-leb from to h)

    pub beyond : length text < to → span_of text start end ≡ none
    beyond h = rw (f, t, lt-leb to (length text) h, and-false)

    pub spans : from ≤ to → to ≤ length text → span_of text start end ≡ some (take (to - from) (drop from text))
    spans h l = rw (f, t, le-leb from to h, le-leb to (length text) l)
