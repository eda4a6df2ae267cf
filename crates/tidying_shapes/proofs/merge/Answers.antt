-- Nothing changes unless the part is of the kind of its parent, a row; then the row has the items of both. Assumes nothing.
use mathlib.Core.Path.{refl}
use Prim.Native.Nat.{◌*◌, ◌<◌, ◌≤◌}
use native.Mathlib.Omega.{arith}
use lib.ListN.{length}
use Rattle.tidying_shapes.proofs.Joined.{root_low, stays_other, stays_whole, stays_apart, Joins, both_items, joined}
use Rattle.tidying_shapes.proofs.merge.Goals.{Else-table-at, Start}
use Rattle.tidying_shapes.proofs.merge.Goals as goal

-- The part's own record is one of those that are told.
near : (s : Start) → (s.args.root < s.args.n) × (16 * s.args.n ≤ length s.args.table.now)
near s = (root_low s.requires.unmerged, s.requires.unmerged.says.room)

-- The part joins its parent.
joins : (c : Else-table-at) → (Joins c.args.table.now c.args.n c.args.root c.in-Some.at)
joins c =
    record {
      parent = c.in-Some.ensures.parented;
      inside = c.in-Some.ensures.inside;
      same = c.if-table-at.false;
      low = omega (arith, c.else-kind-ne-SEQUENCE.either);
      high = omega (arith, c.else-kind-ne-SEQUENCE.either);
    }

pub overflow_mul-kind : goal.overflow_mul-kind
overflow_mul-kind c = omega (arith, near (goal.at.overflow_mul-kind c).Start)

pub offset_bounds-table-root : goal.offset_bounds-table-root
offset_bounds-table-root c = omega (arith, near (goal.at.offset_bounds-table-root c).Start)

pub bounds-table-root : goal.bounds-table-root
bounds-table-root c = omega (arith, near (goal.at.bounds-table-root c).Start)

pub returns-then-kind-ne-ALTERNATION : goal.returns-then-kind-ne-ALTERNATION
returns-then-kind-ne-ALTERNATION c = stays_other c.if-kind-ne-SEQUENCE.true c.if-kind-ne-ALTERNATION.true

pub parent-requires : goal.parent-requires
parent-requires c = omega (arith, near (goal.at.parent-requires c).Start)

pub returns-in_default : goal.returns-in_default
returns-in_default c = stays_whole c.in_default.ensures.parented refl

pub returns-then-table-at : goal.returns-then-table-at
returns-then-table-at c = stays_apart c.in-Some.ensures.parented c.if-table-at.true

pub bounds-table-root-2 : goal.bounds-table-root-2
bounds-table-root-2 c = omega (arith, near (goal.at.bounds-table-root-2 c).Start)

pub overflow_add-items-3 : goal.overflow_add-items-3
overflow_add-items-3 c =
    omega (arith, both_items (joins (goal.at.overflow_add-items-3 c).Else-table-at) c.requires.unmerged, c.requires.unmerged.few)

pub overflow_sub-items : goal.overflow_sub-items
overflow_sub-items c = omega (arith, both_items (joins (goal.at.overflow_sub-items c).Else-table-at) c.requires.unmerged)

pub remove-requires : goal.remove-requires
remove-requires c = omega (arith, near (goal.at.remove-requires c).Start)

pub returns : goal.returns
returns c =
    joined (joins (goal.at.returns c).Else-table-at)
    (omega (arith, both_items (joins (goal.at.returns c).Else-table-at) c.requires.unmerged)) c.set_items.ensures
    c.remove.ensures
