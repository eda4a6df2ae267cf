-- Before byte b the set holds the bytes from `first` to b, b left out; each turn puts b in.
use mathlib.Core.Bool.{Bool, ◌&&◌}
use Prim.Native.Nat.{ℕ, ◌+◌, ◌≤◌, max}
use lib.Dec.{leb, ltb}
use Rattle.sets.specs.Sets.{Holds}
use Rattle.sets.proofs.range.Given as goal

-- The bytes from `first` to b, b left out.
abbrev pub up_to : ℕ → ℕ → ℕ → Bool
up_to first b x = leb first x && ltb x b

abbrev pub invariant-loop-b : goal.invariant-loop-b
invariant-loop-b l = (l.b ≤ max l.first (l.last + 1)) × Holds l.r (up_to l.first l.b)
