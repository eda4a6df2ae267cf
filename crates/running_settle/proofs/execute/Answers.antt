use native.Mathlib.Omega.{arith}
use lib.ListN.{length-set}
use Rattle.running_settle.specs.Turns.{executed_before, ample, move_ranged, executed_now}
use Rattle.running_settle.proofs.execute.Goals as goal

pub returns-then-work-key : goal.returns-then-work-key
returns-then-work-key c =
    executed_before c.requires.0 c.requires.1 c.requires.2 c.if-work-key.true

pub apply-done-requires : goal.apply-done-requires
apply-done-requires c =
    let moves = move_ranged c.requires.0 c.requires.1 c.requires.2 c.if-work-key.false c.move_of-mv.ensures in
    (ample c.requires.0 c.requires.1 c.requires.2 c.if-work-key.false, moves)

pub overflow_add-done : goal.overflow_add-done
overflow_add-done c =
    omega (arith, c.apply-done.ensures.ran, c.requires.2.ran)

pub shape_of-work : goal.shape_of-work
shape_of-work c = simp length-set at c.apply-done.auto.work

pub returns : goal.returns
returns c =
    executed_now c.requires.0 c.requires.1 c.requires.2 c.if-work-key.false c.move_of-mv.ensures c.apply-done.ensures
