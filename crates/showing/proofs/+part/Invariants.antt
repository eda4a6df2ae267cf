-- The items are written from the last one back, each before what stands behind it. The record number falls.
use Rattle.std.proofs.Common.{◌≡◌, List, ℕ, ◌-◌}
use Rattle.meaning.specs.Node.{Node}
use Rattle.table.specs.Stands.{Ends}
use Rattle.showing.specs.Writes.{Passing}
use Rattle.showing.proofs.+part.Given as goal

abbrev pub decreases-part : goal.decreases-part
decreases-part l = l.top

abbrev pub invariant-loop-passed : goal.invariant-loop-passed
invariant-loop-passed l =
    (l.room.out.ghost_name ≡ l.initial.room.out.ghost_name)
    × ((before : List ℕ) (q : Node) → Ends l.table l.top before q
    → Passing l.table l.top l.kind l.items q l.initial.room.out.now l.room.out.now l.initial.room.at l.item (l.items - l.passed) l.room.at)
