use Prim.Native.Nat.{ℕ, ◌-◌}
use mathlib.Core.List.{List, [], ◌∷◌, ◌++◌}
use Rattle.std.proofs.Common.{None}
use Rattle.meaning.specs.Node.{Node}
use Rattle.table.specs.Stands.{Series}
use Rattle.tidying_fitting.specs.Places.{Walk}
use Rattle.tidying_fitting.proofs.Walked.{equals}
use Rattle.tidying_fitting.proofs.series.repeats.Given as goal

abbrev pub invariant-loop : goal.invariant-loop
invariant-loop l = (before : List ℕ) (front : List Node) (q : Node) → Series l.table l.top l.items before (front ++ (q ∷ []))
    → Walk (equals q) front l.table l.end (l.items - l.counter) before None
