use mathlib.Core.Path.{◌≡◌}
use mathlib.Core.Bool.{cond}
use native.Mathlib.Omega.{arith}
use Rattle.std.proofs.Common.{Some}
use Rattle.tidying_fitting.specs.Wants.{wants}
use Rattle.tidying_fitting.proofs.Told.{asked}
use Rattle.tidying_fitting.proofs.Walked.{last_asked, series_asked, walk_first, walk_more, walk_over}
use Rattle.tidying_fitting.proofs.series.leftmost.Goals as goal
use Rattle.tidying_fitting.proofs.series.leftmost.Goals.{then-wanted, else-wanted}

pub overflow_sub-end : goal.overflow_sub-end
overflow_sub-end c = omega (arith, asked c.requires)

pub loop-left-init : goal.loop-left-init
loop-left-init c = λ before r p. walk_first (wants c.args.want) p c.own-left.ensures

pub wanted-requires : goal.wanted-requires
wanted-requires c =
    let s = c.requires in
    series_asked (c.loop-left.invariant s.before s.part s.ends) c.loop-left-test.true

pub start-end-requires : goal.start-end-requires
start-end-requires c =
    let s = c.requires in
    last_asked (series_asked (c.loop-left.invariant s.before s.part s.ends) c.loop-left-test.true)

pub loop-left-preserved : goal.loop-left-preserved
loop-left-preserved c =
    let now : c.if-wanted.found ≡ cond c.wanted.result (Some c.loop-left.end) c.loop-left.found =
    elim c.if-wanted.branch [
      | then-wanted w ↦ rw w.if-wanted.true w.found-is
      | else-wanted w ↦ rw w.if-wanted.false w.found-is
    ] in
    λ before r p. rw now (walk_more (c.loop-left.invariant before r p) c.loop-left-test.true c.wanted.ensures
    c.start-end.ensures)

pub returns : goal.returns
returns c = record { by = λ before r p. walk_over p (c.loop-left.invariant before r p) (omega arith) }
