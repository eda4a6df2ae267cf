use mathlib.Core.Path.{◌≡◌}
use Prim.Native.Nat.{◌+◌, ◌-◌}
use native.Mathlib.Omega.{arith}
use Rattle.tidying_fitting.proofs.Passed.{turn_part, pass_first, pass_turn, pass_more, pass_last}
use Rattle.tidying_fitting.proofs.Told.{asked}
use Rattle.tidying_fitting.proofs.series.first_item.Goals as goal

pub overflow_sub-end : goal.overflow_sub-end
overflow_sub-end c = omega (arith, asked c.requires)

pub loop-init : goal.loop-init
loop-init c = λ before r p.
    let all : c.own-whole.result.items + 1 - 1 ≡ c.own-whole.result.items = omega arith in
    rw all (pass_first p c.own-whole.ensures c.if-whole-ne-SEQUENCE.false)

pub start-end-requires : goal.start-end-requires
start-end-requires c =
    let s = c.requires in
    turn_part (pass_turn (c.loop.invariant s.before s.part s.ends) (omega arith))

pub loop-preserved : goal.loop-preserved
loop-preserved c = λ before r p.
    let items = c.own-whole.result.items in
    let left : items + 1 - (c.loop.counter + 1) ≡ items + 1 - c.loop.counter - 1 = omega arith in
    rw left (pass_more (c.loop.invariant before r p) (omega arith) c.start-end.ensures)

pub returns : goal.returns
returns c = record { by = λ before r p. pass_last (c.loop.invariant before r p) (omega arith) }
