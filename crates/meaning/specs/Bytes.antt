-- The meaning of the two tests that the theory is abstract over: what a byte set has, and what `^ $ \b \B` ask.
use Rattle.std.specs.Prelude.{◌≡◌, refl, Bool, true, false, not, List, [], ◌∷◌, ℕ, zero, suc, ◌≤◌, ◌<◌, length, get_or}
use Rattle.std.specs.Bool.{beq}
use Rattle.std.proofs.lemmas.Bool.{false≢true}
use Rattle.std.proofs.Math.Option.{Option, none, some}
use Rattle.std.proofs.Common.{arith}
use Rattle.std.proofs.Math.ListN.{get_elem?}
use Rattle.sets.specs.Sets.{has, is_word}
use Rattle.meaning.specs.Text.{Input, passes, holds_at}

-- Whether there is no byte.
abbrev pub no_byte : Option ℕ → Bool
no_byte none = true
no_byte (some b) = false

-- Whether one of two bytes is a word byte and the other is not; no byte is no word byte.
abbrev pub at_edge : Option ℕ → Option ℕ → Bool
at_edge before after = not (beq (passes is_word before) (passes is_word after))

-- The assertions by their number in a row: 0 `^`, 1 `$`, 2 `\b`, 3 `\B`, between the byte before and the byte after.
unfoldable pub asserts : ℕ → Option ℕ → Option ℕ → Bool
asserts a before after = get_or (no_byte before ∷ no_byte after ∷ at_edge before after ∷ not (at_edge before after) ∷ []) a false

-- A text under these tests.
abbrev pub text_of : List ℕ → Input
text_of text = record { text = text; has = has; holds = asserts }

-- A text's elements are bytes.
pub record Bytes (text : List ℕ) : Type 0 where
  pub byte : (i : ℕ) → get_or text i 0 < 256

-- `^` is position 0 of the text, whatever the start.
pub begin_only : (text : List ℕ) (i : ℕ) → i ≤ length text → holds_at (text_of text) 0 i ≡ true → i ≡ 0
unfolding holds_at asserts
begin_only text zero h e = refl
begin_only [] (suc i) h e = omega arith
begin_only (b ∷ text) (suc i) h e = go text b i (omega arith) e
  where
    go : (text : List ℕ) (b i : ℕ) → i ≤ length text → no_byte (get_elem? (b ∷ text) i) ≡ true → suc i ≡ 0
    go text b zero h e = absurd (false≢true e)
    go [] b (suc i) h e = absurd (omega arith)
    go (b' ∷ text) b (suc i) h e = absurd (let z : suc i ≡ 0 = go text b' i (omega arith) e in omega arith)

pub begin_zero : (text : List ℕ) → holds_at (text_of text) 0 0 ≡ true
unfolding holds_at asserts
begin_zero text = refl

-- `$` is the end of the text.
pub end_only : (text : List ℕ) (i : ℕ) → i ≤ length text → holds_at (text_of text) 1 i ≡ true → i ≡ length text
unfolding holds_at asserts
end_only [] i h e = omega arith
end_only (b ∷ text) zero h e = absurd (false≢true e)
end_only (b ∷ text) (suc i) h e = let z : i ≡ length text = end_only text i (omega arith) e in omega arith

pub end_last : (text : List ℕ) → holds_at (text_of text) 1 (length text) ≡ true
unfolding holds_at asserts
end_last [] = refl
end_last (b ∷ text) = end_last text
