-- A key that is marked ends the thread; any other is marked and does what its row says.
use Prim.Native.Nat.{◌<◌}
use native.Mathlib.Omega.{arith}
use lib.ListN.{length, length-set}
use Rattle.second.specs.Marked.{mark_low, marks_room}
use Rattle.second.specs.Trying.{its_mark, runs, tried_before, still_runs, room_left, move_ranged}
use Rattle.second.specs.Trying.{move_ahead, tried_now}
use Rattle.second.proofs.attempt.Goals.{Start}
use Rattle.second.proofs.attempt.Goals as goal

-- The mark lies among the marks.
low : (c : Start) → its_mark c.args.layout c.args.trial < length c.args.work.now
low c =
    omega (arith, mark_low c.requires.standing.0.laid c.requires.standing.0.position c.requires.standing.0.key, marks_room c.requires.standing.0.laid)

pub overflow_mul-mark-2 : goal.overflow_mul-mark-2
overflow_mul-mark-2 c = omega (arith, low (goal.at.overflow_mul-mark-2 c).Start)

pub overflow_add-mark : goal.overflow_add-mark
overflow_add-mark c = omega (arith, low (goal.at.overflow_add-mark c).Start)

pub offset_bounds-work-mark : goal.offset_bounds-work-mark
offset_bounds-work-mark c = omega (arith, low (goal.at.offset_bounds-work-mark c).Start)

pub bounds-work-mark : goal.bounds-work-mark
bounds-work-mark c = omega (arith, low (goal.at.bounds-work-mark c).Start)

pub back-requires : goal.back-requires
back-requires c =
    runs c.requires.standing.0 c.requires.standing.1

pub returns-then-work-mark-eq-TRIED : goal.returns-then-work-mark-eq-TRIED
returns-then-work-mark-eq-TRIED c =
    tried_before _ _ c.requires.standing.0 c.requires.standing.1 c.if-work-mark-eq-TRIED.true c.back.ensures

pub offset_bounds-work-mark-2 : goal.offset_bounds-work-mark-2
offset_bounds-work-mark-2 c = omega (arith, low (goal.at.offset_bounds-work-mark-2 c).Start)

pub bounds-work-mark-2 : goal.bounds-work-mark-2
bounds-work-mark-2 c = omega (arith, low (goal.at.bounds-work-mark-2 c).Start)

pub follow-requires : goal.follow-requires
follow-requires c =
    record {
      going = (still_runs c.requires.standing.0 c.requires.standing.1 c.if-work-mark-eq-TRIED.false, room_left c.requires.standing.0 c.requires.standing.1 c.if-work-mark-eq-TRIED.false);
      ranged = (
        move_ranged c.requires.standing.0 c.requires.standing.1 c.if-work-mark-eq-TRIED.false c.requires.ready.0 c.requires.ready.1 _ _ c.byte_before-before.ensures
            c.byte_after-after.ensures c.move_of-mv.ensures,
        move_ahead c.requires.standing.0 c.requires.standing.1 c.if-work-mark-eq-TRIED.false c.requires.ready.0 c.requires.ready.1 _ _ c.byte_before-before.ensures
            c.byte_after-after.ensures c.move_of-mv.ensures,
      );
    }

pub shape_of-work : goal.shape_of-work
shape_of-work c = simp length-set at c.follow.auto.work

pub returns : goal.returns
returns c =
    tried_now c.requires.standing.0 c.requires.standing.1 c.if-work-mark-eq-TRIED.false c.requires.ready.0 c.requires.ready.1 _ _
    c.byte_before-before.ensures c.byte_after-after.ensures c.move_of-mv.ensures c.follow.ensures
