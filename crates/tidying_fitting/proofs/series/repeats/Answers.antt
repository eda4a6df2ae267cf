use mathlib.Core.Path.{◌≡◌}
use Prim.Native.Nat.{◌+◌, ◌-◌}
use native.Mathlib.Omega.{arith}
use Rattle.tidying_fitting.proofs.Walked.{last_asked, series_asked}
use Rattle.tidying_fitting.proofs.Walked.{repeat_first, repeat_more, repeat_found, repeat_over}
use Rattle.tidying_fitting.proofs.series.repeats.Goals as goal

pub start-end-requires : goal.start-end-requires
start-end-requires c = last_asked c.requires

pub loop-init : goal.loop-init
loop-init c = λ before front q series. repeat_first front q series c.start-end.ensures

pub same_part-requires : goal.same_part-requires
same_part-requires c =
    let s = c.requires in
    (last_asked s, last_asked (series_asked (c.loop.invariant s.before s.front s.last s.series) (omega arith)))

pub returns-then-same_part : goal.returns-then-same_part
returns-then-same_part c = record {
  by = λ before front q series.
      repeat_found front q series (c.loop.invariant before front q series) (omega arith) c.same_part.ensures
      c.if-same_part.true;
}

pub start-end-requires-in-loop : goal.start-end-requires-in-loop
start-end-requires-in-loop c =
    let s = c.requires in
    last_asked (series_asked (c.loop.invariant s.before s.front s.last s.series) (omega arith))

pub loop-preserved : goal.loop-preserved
loop-preserved c = λ before front q series.
    let left : c.args.items - (c.loop.counter + 1) ≡ c.args.items - c.loop.counter - 1 = omega arith in
    rw left (repeat_more front q series (c.loop.invariant before front q series) (omega arith) c.same_part.ensures
    c.if-same_part.false c.start-end-in-loop.ensures)

pub returns : goal.returns
returns c = record {
  by = λ before front q series. repeat_over front q series (c.loop.invariant before front q series) (omega arith);
}
