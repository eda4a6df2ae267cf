use native.Mathlib.Omega.{arith}
use Rattle.running_threads.specs.Laws.{spread_none, spread_more}
use Rattle.running_threads.proofs.spread.Goals as goal

pub loop-i-init : goal.loop-i-init
loop-i-init c = spread_none

pub loop-i-preserved : goal.loop-i-preserved
loop-i-preserved c = spread_more (omega arith) c.loop-i.invariant
