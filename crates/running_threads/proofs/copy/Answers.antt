use native.Mathlib.Omega.{arith}
use Rattle.running_threads.specs.Laws.{paste_none, paste_more}
use Rattle.running_threads.proofs.copy.Goals as goal

pub loop-i-init : goal.loop-i-init
loop-i-init c = paste_none

pub loop-i-preserved : goal.loop-i-preserved
loop-i-preserved c = paste_more c.loop-i-test.true (omega arith) c.requires.2 c.loop-i.invariant
