-- What is said of the words of a workspace. Definitions only.
use Rattle.std.specs.Prelude.{◌≡◌, ◌⊎◌, Bool, true, false, List, ℕ, zero, suc, ◌+◌, ◌<◌, ◌≤◌, eqb, get_or, take, drop}

-- Some words, from one on.
abbrev pub words_at : List ℕ → ℕ → ℕ → List ℕ
words_at s from count = take count (drop from s)

-- Each of them is below a limit.
pub record Below (s : List ℕ) (from count limit : ℕ) : Type 0 where
  pub each : (k : ℕ) → k < count → get_or s (from + k) 0 < limit

-- t is s outside of them.
pub record Only (from count : ℕ) (s t : List ℕ) : Type 0 where
  pub before : (i : ℕ) → i < from → get_or t i 0 ≡ get_or s i 0
  pub after : (i : ℕ) → from + count ≤ i → get_or t i 0 ≡ get_or s i 0

-- Words from one on lie before others, or behind them.
abbrev pub Clear : ℕ → ℕ → ℕ → ℕ → Type 0
Clear from count other width = (from + count ≤ other) ⊎ (other + width ≤ from)

-- The words at `to` are those that were at `from`, and every other word is as it was.
pub record Pasted (from to count : ℕ) (s t : List ℕ) : Type 0 where
  pub there : (k : ℕ) → k < count → get_or t (to + k) 0 ≡ get_or s (from + k) 0
  pub only : Only to count s t

-- Each of the words is a value, and every other word is as it was.
pub record Spread (from count value : ℕ) (s t : List ℕ) : Type 0 where
  pub each : (k : ℕ) → k < count → get_or t (from + k) 0 ≡ value
  pub only : Only from count s t

-- How many of the first words are no mark of a position.
abbrev pub unless : Bool → ℕ → ℕ
unless true n = n
unless false n = suc n

unfoldable pub fresh : List ℕ → ℕ → ℕ → ℕ
fresh s mark zero = zero
fresh s mark (suc n) = unless (eqb (get_or s n 0) mark) (fresh s mark n)
