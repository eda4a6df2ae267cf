use Prim.Native.Nat.{ℕ, ◌+◌, ◌-◌}
use mathlib.Core.List.{List}
use Rattle.meaning.specs.Node.{Node}
use Rattle.table.specs.Stands.{Ends}
use Rattle.tidying_fitting.proofs.Passed.{Passing}
use Rattle.tidying_fitting.proofs.series.first_item.Given as goal

abbrev pub invariant-loop : goal.invariant-loop
invariant-loop l = (before : List ℕ) (r : Node) → Ends l.table l.top before r
    → Passing l.table l.top l.end-2 (l.end + 1 - l.counter) before r
