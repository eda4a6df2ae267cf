-- The walk over the parts goes on as the loop does.
use mathlib.Core.List.{List}
use Prim.Native.Nat.{ℕ}
use Rattle.meaning.specs.Node.{Node}
use Rattle.table.specs.Laws.{inner}
use Rattle.table.specs.Stands.{Ends}
use Rattle.tidying_fitting.specs.Places.{Walk}
use Rattle.tidying_fitting.specs.Wants.{wants}
use Rattle.tidying_fitting.proofs.series.leftmost.Given as goal

abbrev pub invariant-loop-left : goal.invariant-loop-left
invariant-loop-left l =
    (before : List ℕ) (r : Node) → Ends l.table l.top before r
    → Walk (wants l.want) (inner r) l.table l.end l.left before l.found
