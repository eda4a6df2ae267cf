use native.Mathlib.Omega.{arith}
use mathlib.Core.Path.{◌∙◌}
use Rattle.tidying_shapes.proofs.Climbing.{passed, stopped, ended, parented}
use Rattle.tidying_shapes.proofs.parent.Goals as goal

pub returns-then-since-items-clause-parented : goal.returns-then-since-items-clause-parented
returns-then-since-items-clause-parented c =
    parented c.args.table.now c.args.n c.args.part c.loop-at.at
    (c.loop-at.invariant.1 ∙ stopped c.args.table.now c.args.n c.loop-at.at c.loop-at.since (omega arith) c.if-since-items.true)
    (omega arith)

pub loop-at-preserved : goal.loop-at-preserved
loop-at-preserved c = (
  omega arith,
  c.loop-at.invariant.1 ∙ passed c.args.table.now c.args.n c.loop-at.at c.loop-at.since (omega arith) c.if-since-items.false,
)

pub returns-clause-parented : goal.returns-clause-parented
returns-clause-parented c =
    parented c.args.table.now c.args.n c.args.part c.args.n (omega (
      arith,
      c.loop-at.invariant.1,
      ended c.args.table.now c.args.n c.loop-at.at c.loop-at.since (omega arith),
    )) (omega arith)
