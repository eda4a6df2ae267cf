-- Checks 1 to 3 come first, in order.
use Rattle.std.specs.Prelude.{◌≡◌, ◌⊎◌, List, [], ◌∷◌, ℕ, zero, suc, ◌+◌, ◌≤◌, ◌<◌, ltb, get_or}
use Rattle.std.proofs.Math.Path.{refl, subst}
use Rattle.std.proofs.Math.Logic.{inl, inr}
use Rattle.std.proofs.Common.{arith}
use Rattle.std.proofs.Math.Decide.{dec_lt}
use Rattle.std.proofs.Math.ListN.{length}
use borrow.Author.Tests.{ltb-true, ltb-false}
use Rattle.meaning.specs.Limits.{pattern_limit, table_words, depth_limit}
use Rattle.meaning.specs.Tests.{by_test}
use Rattle.meaning.specs.Refusals as No
use Rattle.reading_items.specs.Reading.{alternatives_at, Reading, Reading.refused, whole, first_high, high_go, reading}
use Rattle.reading_grammar.specs.ClassesSound.{by_choice}
use Rattle.reading_grammar.specs.Refusals.{Checks, Checks.long, Checks.small, Checks.high}

-- The first byte above 7F: the bytes before it are not, and where there is none no byte is.
record High (s : List ℕ) (at place : ℕ) : Type 0 where
  behind : ℕ
  same : place ≡ at + behind
  within : behind < length s
  high : 0x7F < get_or s behind 0
  before : (i : ℕ) → i < behind → get_or s i 0 ≤ 0x7F

first_high_lem : (s : List ℕ) (at : ℕ) → high_go s at < at + length s → High s at (high_go s at)
first_high_lem [] at h = absurd (omega arith)
first_high_lem (b ∷ s) at k = by_test (λ x. x < at + suc (length s) → High (b ∷ s) at x) (ltb 0x7F b)
    (λ e l. record {
      behind = 0;
      same = omega arith;
      within = omega arith;
      high = ltb-true 0x7F b e;
      before = λ i k. absurd (omega arith);
    })
    (λ e l. further (ltb-false 0x7F b e) (first_high_lem s (at + 1) (omega arith))) k
  where
    lower : (n : ℕ) → b ≤ 0x7F → ((i : ℕ) → i < n → get_or s i 0 ≤ 0x7F) → (i : ℕ) → i < suc n → get_or (b ∷ s) i 0 ≤ 0x7F
    lower n l f zero k = l
    lower n l f (suc i) k = f i (omega arith)

    further : b ≤ 0x7F → High s (at + 1) (high_go s (at + 1)) → High (b ∷ s) at (high_go s (at + 1))
    further l h = record {
      behind = suc h.behind;
      same = omega (arith, h.same);
      within = omega (arith, h.within);
      high = h.high;
      before = lower h.behind l h.before;
    }

pub low_bytes : (s : List ℕ) (at : ℕ) → at + length s ≤ high_go s at → (i : ℕ) → i < length s → get_or s i 0 ≤ 0x7F
low_bytes [] at h i k = absurd (omega arith)
low_bytes (b ∷ s) at h zero k = by_test (λ x. at + suc (length s) ≤ x → b ≤ 0x7F) (ltb 0x7F b) (λ e f. absurd (omega arith))
    (λ e f. ltb-false 0x7F b e) h
low_bytes (b ∷ s) at h (suc i) k =
    low_bytes s (at + 1) (by_test (λ x. at + suc (length s) ≤ x → at + 1 + length s ≤ high_go s (at + 1)) (ltb 0x7F b)
    (λ e f. absurd (omega arith)) (λ e f. omega arith) h) i (omega arith)

module _ (s : List ℕ) (table : ℕ) where
  -- A check that no check with a smaller number comes before; and a pattern that passes all three.
  pub record Stopped (n p : ℕ) : Type 0 where
    pub check : Checks s table n p
    pub least : (m q : ℕ) → Checks s table m q → n ≤ m

  pub record Passed : Type 0 where
    pub short : length s ≤ pattern_limit
    pub room : table_words (length s) ≤ table
    pub low : (i : ℕ) → i < length s → get_or s i 0 ≤ 0x7F

  in_order : (n : ℕ) → (pattern_limit < length s → n ≤ 1) → (table < table_words (length s) → n ≤ 2) → n ≤ 3
      → (m q : ℕ) → Checks s table m q → n ≤ m
  in_order n f g h m q (long l) = f l
  in_order n f g h m q (small l) = g l
  in_order n f g h m q (high l k b) = h

  pub passed_none : Passed → (m q : ℕ) → Checks s table m q → ⊥
  passed_none h m q (long l) = omega (arith, h.short)
  passed_none h m q (small l) = omega (arith, h.room)
  passed_none h m q (high {a = a} l k b) = omega (arith, h.low a l)

  -- A check has a number up to 3, and one place.
  pub check_number : {n p : ℕ} → Checks s table n p → n ≤ 3
  check_number (long l) = omega arith
  check_number (small l) = omega arith
  check_number (high l k b) = omega arith

  pub one_place : (n p q : ℕ) → Checks s table n p → Checks s table n q → p ≡ q
  one_place n p q (long l) (long l') = refl
  one_place n p q (small l) (small l') = refl
  one_place n p q (high l k b) (high l' k' b') = elim (dec_lt p q) [
    | yes h ↦ absurd (omega (arith, b' p h))
    | no h ↦ elim (dec_lt q p) [
      | yes h' ↦ absurd (omega (arith, b q h'))
      | no h' ↦ omega arith
    ]
  ]

  -- Reading stops at a check, or goes on left to right.
  abbrev pub Checking : Reading → Type 0
  Checking x = ((n : ℕ) × (p : ℕ) × Stopped n p × (x ≡ refused n p)) ⊎ (Passed × (x ≡ whole s (alternatives_at depth_limit s 0 0)))

  pub checked : Checking (reading s table)
  unfolding reading
  checked =
      by_choice Checking (ltb pattern_limit (length s)) _ _
      (λ e. inl (
        1,
        0,
        record {
          check = Checks.long (ltb-true pattern_limit (length s) e);
          least = in_order 1 (λ l. omega arith) (λ l. omega arith) (omega arith);
        },
        refl,
      )) (λ e.
      let short : length s ≤ pattern_limit = ltb-false pattern_limit (length s) e in
      by_choice Checking (ltb table (table_words (length s))) _ _
      (λ e. inl (
        2,
        0,
        record {
          check = Checks.small (ltb-true table (table_words (length s)) e);
          least = in_order 2 (λ l. omega arith) (λ l. omega arith) (omega arith);
        },
        refl,
      )) (λ e.
      let room : table_words (length s) ≤ table = ltb-false table (table_words (length s)) e in
      by_choice Checking (ltb (first_high s) (length s)) _ _
      (λ e. let h : High s 0 (first_high s) = first_high_lem s 0 (omega (arith, ltb-true (first_high s) (length s) e)) in
      inl (
        3,
        first_high s,
        record {
          check = subst (Checks s table No.high_byte) (omega (arith, h.same)) (Checks.high h.within h.high h.before);
          least = in_order 3 (λ l. omega arith) (λ l. omega arith) (omega arith);
        },
        refl,
      )) (λ e.
      inr (
        record {
          short = short;
          room = room;
          low = low_bytes s 0 (omega (arith, ltb-false (first_high s) (length s) e));
        },
        refl,
      ))))
