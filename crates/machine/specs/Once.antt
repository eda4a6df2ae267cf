-- The standard's matches, each once: group 0 of a match starts behind that of the match before it.
use Rattle.std.specs.Prelude.{◌≡◌, get_or}
use Rattle.std.proofs.Math.Option.{none, some}
use mathlib.Core.List.{List, map}
use Prim.Native.Nat.{ℕ, ◌≤◌}
use Rattle.meaning.specs.All.{All}
use Rattle.meaning.specs.Text.{Regs}
use Rattle.machine.specs.Repeated.{Rising}

-- The starts of matches: numbers that rise strictly, and are what group 0 of each holds.
pub record Once (start : ℕ) (matches : List Regs) : Type 0 where
  pub places : List ℕ
  pub are : map (λ ρ. get_or ρ 0 none) matches ≡ map some places
  pub rise : Rising places
  pub after : All (λ p. start ≤ p) places
