-- The climb ends where it ends from the record that is looked at on, with the parts since. Assumes nothing.
use Prim.Native.Nat.{◌+◌, ◌<◌}
use mathlib.Core.Path.{◌≡◌}
use Rattle.tidying_shapes.proofs.Climbing.{ends}
use Rattle.tidying_shapes.proofs.parent.Given as goal

abbrev pub invariant-loop-at : goal.invariant-loop-at
invariant-loop-at l = (l.since < l.at) × (ends l.table l.n (l.part + 1) 0 ≡ ends l.table l.n l.at l.since)
