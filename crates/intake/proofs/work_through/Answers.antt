use Rattle.std.proofs.Common.{rules, arith}
use Rattle.intake.specs.Standing.{onward_none, onward_more, taken_within, taken_some}
use Rattle.intake.proofs.work_through.Goals as goal

pub loop-from-init : goal.loop-from-init
loop-from-init g c = onward_none

pub overflow_add-from : goal.overflow_add-from
overflow_add-from g c =
    omega (arith, taken_within c.loop-from.invariant c.loop-from-test.true (search rules) c.feed-fed.ensures.feeds)

pub loop-from-smaller : goal.loop-from-smaller
loop-from-smaller g c =
    omega (arith, taken_some c.loop-from.invariant c.loop-from-test.true (search rules) c.feed-fed.ensures.feeds)

pub loop-from-preserved : goal.loop-from-preserved
loop-from-preserved g c =
    onward_more c.loop-from.invariant c.loop-from-test.true (search rules) c.feed-fed.ensures.feeds
