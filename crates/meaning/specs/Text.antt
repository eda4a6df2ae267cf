-- What a pattern is matched against, and what a match has found so far.
use Rattle.std.specs.Prelude.{◌≡◌, refl, Bool, true, false, List, [], ◌∷◌, ℕ, zero, suc, ◌+◌, ◌*◌, ◌-◌, ◌<◌, length, set, replicate}
use Rattle.std.proofs.lemmas.Bool.{false≢true}
use Rattle.std.proofs.Math.Option.{Option, none, some}
use Rattle.std.proofs.Common.{arith}
use Rattle.std.proofs.Math.ListN.{get_elem?}

-- A text of bytes, with the two tests that the theory is abstract over: whether a byte is in a set, and whether an
-- assertion holds between the byte before a position and the byte after it, where there are such. `Bytes` gives their meaning.
pub record Input : Type 0 where
  pub text : List ℕ
  pub has : List ℕ → ℕ → Bool
  pub holds : ℕ → Option ℕ → Option ℕ → Bool

-- The length of the text.
abbrev pub size : Input → ℕ
size w = length w.text

-- The byte after a position, and the byte before it: none at the ends of the text.
abbrev pub byte_after : List ℕ → ℕ → Option ℕ
byte_after text i = get_elem? text i

abbrev pub byte_before : List ℕ → ℕ → Option ℕ
byte_before text zero = none
byte_before text (suc i) = get_elem? text i

-- A test of a byte that may be missing.
abbrev pub passes : (ℕ → Bool) → Option ℕ → Bool
passes test none = false
passes test (some b) = test b

-- Whether there is a byte at a position that is in a set.
unfoldable pub fits : Input → List ℕ → ℕ → Bool
fits w s i = passes (w.has s) (byte_after w.text i)

-- Whether an assertion holds at a position.
unfoldable pub holds_at : Input → ℕ → ℕ → Bool
holds_at w a i = w.holds a (byte_before w.text i) (byte_after w.text i)

-- Registers: group k starts at register 2k and ends at 2k + 1; none is -1, for a group that took no part.
abbrev pub Regs : Type 0
Regs = List (Option ℕ)

-- How many registers g groups and the whole match have.
abbrev pub registers_of : ℕ → ℕ
registers_of g = 2 * (g + 1)

-- All registers -1.
unfoldable pub unset : ℕ → Regs
unset g = replicate (registers_of g) none

-- A position and what the groups hold: the standard's MatchState.
pub record State : Type 0 where
  pub pos : ℕ
  pub regs : Regs

-- Registers after group k was opened, or closed, at position i.
unfoldable pub opened : ℕ → ℕ → Regs → Regs
opened k i ρ = set ρ (k + k) (some i)

unfoldable pub closed : ℕ → ℕ → Regs → Regs
closed k i ρ = set ρ (suc (k + k)) (some i)

-- Registers with n of them, from the k-th, made -1.
unfoldable pub wiped : ℕ → ℕ → Regs → Regs
wiped zero k ρ = ρ
wiped (suc n) k ρ = wiped n (suc k) (set ρ k none)

-- Registers with the groups from the lowest to the highest made -1.
unfoldable pub cleared : ℕ → ℕ → Regs → Regs
cleared lowest highest ρ = let n : ℕ = suc highest - lowest in wiped (n + n) (lowest + lowest) ρ

passes_within : (p : ℕ → Bool) (l : List ℕ) (i : ℕ) → passes p (get_elem? l i) ≡ true → i < length l
passes_within p [] i e = absurd (false≢true e)
passes_within p (b ∷ l) zero e = omega arith
passes_within p (b ∷ l) (suc i) e = let h : i < length l = passes_within p l i e in omega arith

-- A byte that fits lies in the text.
pub fits_within : (w : Input) (s : List ℕ) (i : ℕ) → fits w s i ≡ true → i < size w
unfolding fits
fits_within w s i e = passes_within (w.has s) w.text i e

passes_all : (p : ℕ → Bool) (l : List ℕ) (i : ℕ) → i < length l → ((b : ℕ) → get_elem? l i ≡ some b → p b ≡ true)
    → passes p (get_elem? l i) ≡ true
passes_all p [] i h e = absurd (omega arith)
passes_all p (b ∷ l) zero h e = e b refl
passes_all p (b ∷ l) (suc i) h e = passes_all p l i (omega arith) e

-- Every byte of the text fits a set that has them all.
pub fits_all : (w : Input) (s : List ℕ) (i : ℕ) → i < size w → ((b : ℕ) → byte_after w.text i ≡ some b → w.has s b ≡ true)
    → fits w s i ≡ true
unfolding fits
fits_all w s i h e = passes_all (w.has s) w.text i h e
