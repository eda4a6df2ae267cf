-- Laws of a set's tests, one byte or one set escape after the other.
use Rattle.std.specs.Prelude.{◌≡◌, refl, Bool, true, false, List, [], ◌∷◌, ℕ, zero, suc, ◌+◌, ◌-◌, ◌/◌, ◌%◌, ◌^◌, ◌<◌, eqb, get_or}
use Rattle.std.proofs.Common.{ap, arith}
use Rattle.std.specs.Bool.{beq}
use Rattle.std.specs.Int.Bits.{bit_and}
use Rattle.std.proofs.lemmas.Nat.{and_mask}
use Rattle.sets.specs.Sets.{bit, has, set_of, same_bytes, below, in_escape}
use Rattle.sets.specs.Bits.{below_at, beq_eq}
use Rattle.reading_grammar.specs.Grammar.{special}
use Rattle.showing_spelling.specs.Spelling.{guarded, escape_of, lowest}

-- The bit that the code tests is the set's.
pub set_bit : (set : List ℕ) (b : ℕ) → eqb (bit_and (get_or set (b / 32) 0 / 2 ^ (b % 32)) 1) 1 ≡ has set b
unfolding has bit
set_bit set b = ap (λ (k : ℕ). eqb k 1) (and_mask (get_or set (b / 32) 0 / 2 ^ (b % 32)) 1)

-- The bytes that stand behind `\` as words, outside a class and in one: 256 tests each, computed.
abbrev pub guarded_words : Bool → List ℕ
guarded_words true = 0 ∷ 0x2000 ∷ 0x70000000 ∷ 0 ∷ 0 ∷ 0 ∷ 0 ∷ 0 ∷ []
guarded_words false = 0 ∷ 0x80004F10 ∷ 0x78000000 ∷ 0x38000000 ∷ 0 ∷ 0 ∷ 0 ∷ 0 ∷ []

right : Bool → ℕ → Bool
right inClass b = beq (has (guarded_words inClass) b) (guarded inClass b)

rights : (inClass : Bool) → below 256 (right inClass) ≡ true
unfolding right has bit guarded special
rights true = refl
rights false = refl

pub guarded_words_lem : (inClass : Bool) (b : ℕ) → b < 256 → has (guarded_words inClass) b ≡ guarded inClass b
unfolding right
guarded_words_lem inClass b h = beq_eq _ _ (below_at 256 (right inClass) (rights inClass) b h)

-- The number of a set escape.
module _ (set : List ℕ) (k : ℕ) where
  turn : k < 6 → 6 - k ≡ suc (6 - (k + 1))
  turn h = omega arith

  pub escape_here : k < 6 → same_bytes set (set_of (in_escape k)) ≡ true → escape_of set (6 - k) k ≡ k
  unfolding escape_of
  escape_here h e = rw (turn h, e)

  pub escape_next : k < 6 → same_bytes set (set_of (in_escape k)) ≡ false
      → escape_of set (6 - k) k ≡ escape_of set (6 - (k + 1)) (k + 1)
  unfolding escape_of
  escape_next h e = rw (turn h, e) (ap (escape_of set (6 - (k + 1))) (omega arith))

  pub escape_end : 6 - k ≡ 0 → escape_of set (6 - k) k ≡ k
  unfolding escape_of
  escape_end h = rw h

-- The lowest byte.
pub lowest_in : (test : ℕ → Bool) (n low : ℕ) → 0 < n → test (n - 1) ≡ true → lowest test n low ≡ lowest test (n - 1) (n - 1)
unfolding lowest
lowest_in test zero low h e = absurd (omega arith)
lowest_in test (suc n) low h e =
    let p : suc n - 1 ≡ n = omega arith in
    let f : test n ≡ true = rw p at e in
    rw (p, f)

pub lowest_out : (test : ℕ → Bool) (n low : ℕ) → 0 < n → test (n - 1) ≡ false → lowest test n low ≡ lowest test (n - 1) low
unfolding lowest
lowest_out test zero low h e = absurd (omega arith)
lowest_out test (suc n) low h e =
    let p : suc n - 1 ≡ n = omega arith in
    let f : test n ≡ false = rw p at e in
    rw (p, f)

pub lowest_end : (test : ℕ → Bool) (n low : ℕ) → n ≡ 0 → lowest test n low ≡ low
unfolding lowest
lowest_end test n low e = rw e
