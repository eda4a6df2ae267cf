-- The bytes that words stand for, and what a row does by its kind.
-- Assumes nothing.
use mathlib.Core.Path.{◌≡◌, sym}
use mathlib.Core.Bool.{false, not, ◌||◌}
use mathlib.Core.Option.{Option, none, some}
use mathlib.Core.List.{[], ◌∷◌}
use Prim.Native.Nat.{ℕ, zero, suc, ◌≤◌, ◌<◌}
use native.Mathlib.Omega.{arith}
use native.Mathlib.Decide.{dec_lt}
use lib.Dec.{leb, eqb}
use lib.ListN.{get_or-eq_default}
use borrow.Author.Tests.{lt-ltb, le-ltb, le-leb, lt-leb, ne_eqb}
use Rattle.sets.specs.Sets.{between, is_word, is_digit}
use Rattle.meaning.specs.Limits.{last_assertion}
use Rattle.meaning.specs.Text.{passes}
use Rattle.meaning.specs.Bytes.{no_byte, at_edge, asserts}
use Rattle.running_moves.specs.Chosen.{byte_limit, byte_of}

-- The byte that a word stands for, if it stands for one.
pub byte_there : {b : ℕ} → b < byte_limit → byte_of b ≡ some b
unfolding byte_of
byte_there h = rw (lt-ltb _ _ h)

pub byte_missing : {b : ℕ} → byte_limit ≤ b → byte_of b ≡ none
unfolding byte_of
byte_missing h = rw (le-ltb _ _ h)

-- No byte, by the word.
pub no_byte_lem : (b : ℕ) → leb byte_limit b ≡ no_byte (byte_of b)
no_byte_lem b = elim (dec_lt b byte_limit) [
  | yes h ↦ rw (byte_there h, lt-leb _ _ h)
  | no h ↦ let l : byte_limit ≤ b = omega arith in rw (byte_missing l, le-leb _ _ l)
]

-- No word that stands for no byte is a word byte's.
pub word_byte : (b : ℕ) → is_word b ≡ passes is_word (byte_of b)
unfolding is_word is_digit
word_byte b = elim (dec_lt b byte_limit) [
  | yes h ↦ rw (byte_there h)
  | no h ↦
      let l : byte_limit ≤ b = omega arith in
      rw (
        byte_missing l,
        le-leb 0x41 b (omega arith),
        lt-leb b 0x5A (omega arith),
        le-leb 0x61 b (omega arith),
        lt-leb b 0x7A (omega arith),
        le-leb 0x30 b (omega arith),
        lt-leb b 0x39 (omega arith),
        ne_eqb b 0x5F (λ e. omega arith),
      )
]

-- The tests that tell it.
pub word_tests : (b : ℕ) → passes is_word (byte_of b)
    ≡ between 0x41 0x5A b || (between 0x61 0x7A b || (between 0x30 0x39 b || eqb b 0x5F))
unfolding is_word is_digit
word_tests b = sym (word_byte b)

-- No assertion has a higher number.
pub no_assertion : (a : ℕ) (before after : Option ℕ) → last_assertion < a → asserts a before after ≡ false
unfolding asserts
no_assertion a before after h =
    get_or-eq_default (no_byte before ∷ no_byte after ∷ at_edge before after ∷ not (at_edge before after) ∷ []) false h

-- A number is none of those from 1 to n, as the last arm of a match knows it.
abbrev pub NoneTo : ℕ → ℕ → Type 0
NoneTo zero k = Unit {0}
NoneTo (suc n) k = NoneTo n k × (k ≡ suc n → ⊥)

pub none_listed : (n k : ℕ) → 1 ≤ k → k ≤ n → NoneTo n k → ⊥
none_listed zero k lo hi other = omega arith
none_listed (suc n) k lo hi other = none_listed n k lo (omega (arith, other.1)) other.0
