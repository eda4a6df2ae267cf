-- `table::along` meets its contract: the walk over the series's parts goes on as the loop does. Assumes nothing.
use Prim.Native.Nat.{ℕ}
use mathlib.Core.List.{List}
use Rattle.meaning.specs.Node.{Node}
use Rattle.table.specs.Stands.{Series}
use Rattle.table.proofs.Walk.{Walk}
use Rattle.table.proofs.along.Given as goal

abbrev pub invariant-loop : goal.invariant-loop
invariant-loop l = (before : List ℕ) (nodes : List Node) → Series l.table l.top l.items before nodes → Walk nodes l.counter l.all
