-- Laws of bits, and of tests at each number below a bound. A word is its lowest bit and the rest, so a law goes bit by bit.
use Rattle.std.specs.Prelude.{◌≡◌, refl, Bool, true, false, cond, not, ◌||◌, ℕ, zero, suc, ◌+◌, ◌-◌, ◌*◌, ◌/◌, ◌%◌, ◌^◌, ◌<◌, max, eqb}
use Rattle.std.proofs.Common.{sym, ap, ap₂, ◌∙◌, ⊎_elim, not-suc-le-zero, le_of_suc-le-suc, eq-or-lt_of_le, arith, eq-eqb, ne_eqb, eqb-true}
use Rattle.std.specs.Bool.{beq}
use Rattle.std.proofs.Math.Bool.{and-eq-true_iff}
use Rattle.std.proofs.Math.Nat.{pow-succ', div-div-eq-div-mul}
use Rattle.std.specs.Int.Bits.{bit_or, or_step}
use Rattle.std.proofs.lemmas.Bool.{eqb-false}
use Rattle.sets.specs.Sets.{bit, word_of, below}

-- A test that passes below n passes at each number below n.
pub below_at : (n : ℕ) (test : ℕ → Bool) → below n test ≡ true → (k : ℕ) → k < n → test k ≡ true
below_at zero test all k h = absurd (not-suc-le-zero h)
below_at (suc n) test all k h =
    let both = (and-eq-true_iff (test n) (below n test)).0 all in
    ⊎_elim (λ e. ap test e ∙ both.0) (below_at n test both.1 k) (eq-or-lt_of_le (le_of_suc-le-suc h))

-- A test that passes at each number below n passes below n.
pub below_all : (n : ℕ) (test : ℕ → Bool) → ((k : ℕ) → k < n → test k ≡ true) → below n test ≡ true
below_all zero test h = refl
below_all (suc n) test h = rw (h n (omega arith)) (below_all n test (λ k l. h k (omega arith)))

-- Answers that compare as equal are equal.
pub beq_eq : (a b : Bool) → beq a b ≡ true → a ≡ b
beq_eq true true e = refl
beq_eq true false e = sym e
beq_eq false true e = e
beq_eq false false e = refl

-- An answer compares as equal with itself.
pub beq_refl : (a : Bool) → beq a a ≡ true
beq_refl true = refl
beq_refl false = refl

-- The word of a lowest bit and the rest.
abbrev join : Bool → ℕ → ℕ
join low rest = cond low 1 0 + 2 * rest

-- A bit is below 2.
bit_fits : (low : Bool) → cond low 1 0 < 2
bit_fits true = omega arith
bit_fits false = omega arith

-- A joined word has its lowest bit.
bit_low : (low : Bool) (rest : ℕ) → bit (join low rest) 0 ≡ low
unfolding bit
bit_low true rest = eq-eqb (join true rest / 1 % 2) 1 (omega arith)
bit_low false rest = ne_eqb (join false rest / 1 % 2) 1 (λ e. omega arith)

-- The bits above the lowest are those of half the word.
bit_half : (word k : ℕ) → bit word (suc k) ≡ bit (word / 2) k
unfolding bit
bit_half word k = rw (pow-succ' 2 k, ← div-div-eq-div-mul word 2 (2 ^ k))

-- A joined word has the rest's bits above its lowest.
bit_high : (low : Bool) (rest k : ℕ) → bit (join low rest) (suc k) ≡ bit rest k
bit_high low rest k = bit_half (join low rest) k ∙ ap (λ w. bit w k) (omega (arith, bit_fits low))

-- The lowest bit is the remainder by 2.
bit_odd : (word : ℕ) → word % 2 ≡ cond (bit word 0) 1 0
unfolding bit
bit_odd word = go (bit word 0) refl
  where
    go : (low : Bool) → bit word 0 ≡ low → word % 2 ≡ cond low 1 0
    go true e = omega (arith, eqb-true (word / 1 % 2) 1 e)
    go false e = let odd = eqb-false (word / 1 % 2) 1 e in omega arith

-- A word is its lowest bit joined with its half.
bit_split : (word : ℕ) → word ≡ join (bit word 0) (word / 2)
bit_split word = omega (arith, bit_odd word)

-- Words of n bits that have the same bits are the same.
pub bits_same : (n a b : ℕ) → a < 2 ^ n → b < 2 ^ n → ((k : ℕ) → k < n → bit a k ≡ bit b k) → a ≡ b
bits_same zero a b fa fb same = omega arith
bits_same (suc n) a b fa fb same =
    let more = pow-succ' 2 n in
    let half = bits_same n (a / 2) (b / 2) (omega arith) (omega arith)
    (λ k h. sym (bit_half a k) ∙ same (suc k) (omega arith) ∙ bit_half b k) in
    bit_split a ∙ ap₂ join (same 0 (omega arith)) half ∙ sym (bit_split b)

-- An `|` is the `|` of the lowest bits joined with that of the halves.
or_split : (a b : ℕ) → bit_or a b ≡ join (bit a 0 || bit b 0) (bit_or (a / 2) (b / 2))
or_split a b = omega (arith, or_step a b, ap₂ max (bit_odd a) (bit_odd b), low (bit a 0) (bit b 0))
  where
    low : (p q : Bool) → max (cond p 1 0) (cond q 1 0) ≡ cond (p || q) 1 0
    low true q = omega (arith, bit_fits q)
    low false q = omega arith

-- A bit of an `|` is set if either word's is.
pub bit_or_lem : (a b k : ℕ) → bit (bit_or a b) k ≡ (bit a k || bit b k)
bit_or_lem a b zero = rw (or_split a b) (bit_low (bit a 0 || bit b 0) (bit_or (a / 2) (b / 2)))
bit_or_lem a b (suc k) = rw (or_split a b, bit_high, bit_half a k, bit_half b k) (bit_or_lem (a / 2) (b / 2) k)

-- A `!` of n + 1 bits is the opposite of the lowest bit joined with the `!` of the half.
not_split : (n a : ℕ) → a < 2 ^ suc n → 2 ^ suc n - 1 - a ≡ join (not (bit a 0)) (2 ^ n - 1 - a / 2)
not_split n a h = go (bit a 0) (bit_odd a)
  where
    go : (low : Bool) → a % 2 ≡ cond low 1 0 → 2 ^ suc n - 1 - a ≡ join (not low) (2 ^ n - 1 - a / 2)
    go true e = omega (arith, pow-succ' 2 n)
    go false e = omega (arith, pow-succ' 2 n)

-- A bit of a `!` is set if the word's is not.
pub bit_not : (n a k : ℕ) → a < 2 ^ n → k < n → bit (2 ^ n - 1 - a) k ≡ not (bit a k)
bit_not zero a k fits h = absurd (not-suc-le-zero h)
bit_not (suc n) a zero fits h = rw (not_split n a fits) (bit_low (not (bit a 0)) (2 ^ n - 1 - a / 2))
bit_not (suc n) a (suc k) fits h =
    rw (not_split n a fits, bit_high, bit_half a k) (bit_not n (a / 2) k (omega (arith, pow-succ' 2 n)) (omega arith))

-- Of 1 << j only bit j is set: 1,024 tests, computed.
pub bit_one : (j k : ℕ) → j < 32 → k < 32 → bit ((1 * 2 ^ j) % 2 ^ 32) k ≡ eqb k j
unfolding bit
bit_one j k h l = beq_eq _ _ (below_at 32 (right j) (below_at 32 (λ i. below 32 (right i)) refl j h) k l)
  where
    right : ℕ → ℕ → Bool
    right j k = beq (bit ((1 * 2 ^ j) % 2 ^ 32) k) (eqb k j)

-- The word of n answers has n bits.
pub word_of_fits : (test : ℕ → Bool) (n b : ℕ) → word_of test n b < 2 ^ n
unfolding word_of
word_of_fits test zero b = omega arith
word_of_fits test (suc n) b = omega (arith, bit_fits (test b), word_of_fits test n (suc b), pow-succ' 2 n)

-- Its bits are the answers.
pub word_of_bit : (test : ℕ → Bool) (n b k : ℕ) → k < n → bit (word_of test n b) k ≡ test (b + k)
unfolding word_of
word_of_bit test zero b k h = absurd (not-suc-le-zero h)
word_of_bit test (suc n) b zero h = bit_low (test b) (word_of test n (suc b)) ∙ ap test (omega arith)
word_of_bit test (suc n) b (suc k) h = rw (bit_high, word_of_bit test n (suc b) k (omega arith)) (ap test (omega arith))
