-- The empty set: a byte set with no byte, which no byte of a text fits.
use Rattle.std.specs.Prelude.{◌≡◌, refl, Bool, true, false, not, List, [], ◌∷◌, ℕ, zero, suc, ◌<◌, get_or}
use Rattle.std.proofs.Common.{sym}
use Rattle.std.proofs.Math.Option.{Option}
use Rattle.std.proofs.Math.ListN.{get_elem?}
use Rattle.sets.specs.Sets.{bit, has, Formed, below, word_of, set_of}
use Rattle.sets.specs.Bits.{below_at}
use Rattle.sets.specs.Laws.{set_of_holds}
use Rattle.meaning.specs.Text.{Input, passes, fits}
use Rattle.meaning.specs.Bytes.{Bytes}

-- Whether a set has no byte.
unfoldable pub no_bytes : List ℕ → Bool
no_bytes s = below 256 (λ b. not (has s b))

not_false : (b : Bool) → not b ≡ true → b ≡ false
not_false true e = sym e
not_false false e = refl

-- Then none of the 256 is in it.
pub no_bytes_lem : (s : List ℕ) → no_bytes s ≡ true → (b : ℕ) → b < 256 → has s b ≡ false
unfolding no_bytes
no_bytes_lem s e b h = not_false (has s b) (below_at 256 (λ b. not (has s b)) e b h)

-- Eight words of 0: the one well-formed set with no byte.
abbrev pub void : List ℕ
void = 0 ∷ 0 ∷ 0 ∷ 0 ∷ 0 ∷ 0 ∷ 0 ∷ 0 ∷ []

pub void_no_bytes : no_bytes void ≡ true
unfolding no_bytes has bit
void_no_bytes = refl

pub void_formed : Formed void
unfolding set_of word_of
void_formed = (set_of_holds (λ b. false)).formed

-- An input is fair if a set with no byte fits nowhere. The laws ask no more of the two tests.
pub record Fair (w : Input) : Type 0 where
  pub void_unfit : (s : List ℕ) → no_bytes s ≡ true → (i : ℕ) → fits w s i ≡ false

passes_none : (p : ℕ → Bool) → ((b : ℕ) → b < 256 → p b ≡ false) → (l : List ℕ) → ((i : ℕ) → get_or l i 0 < 256)
    → (i : ℕ) → passes p (get_elem? l i) ≡ false
passes_none p h [] g i = refl
passes_none p h (b ∷ l) g zero = h b (g 0)
passes_none p h (b ∷ l) g (suc i) = passes_none p h l (λ j. g (suc j)) i

-- A text of bytes is fair, whatever an assertion asks.
pub fair : {text : List ℕ} → Bytes text → (holds : ℕ → Option ℕ → Option ℕ → Bool)
    → Fair (record { text = text; has = has; holds = holds })
unfolding fits
fair {text} h holds = record { void_unfit = λ s e i. passes_none (has s) (no_bytes_lem s e) text h.byte i }
