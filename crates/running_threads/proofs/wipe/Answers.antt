use native.Mathlib.Omega.{arith}
use Rattle.running_threads.specs.Laws.{stack_on, wiped_none, wiped_more, wiped_all}
use Rattle.running_threads.proofs.wipe.Goals as goal

pub loop-register-init : goal.loop-register-init
loop-register-init c = (omega arith, wiped_all (omega arith) (wiped_none c.requires.0))

pub write-requires : goal.write-requires
write-requires c =
    (stack_on c.loop-register.auto.work c.requires.0 (omega arith) c.loop-register.invariant.1.below, omega arith, omega arith)

pub loop-register-preserved : goal.loop-register-preserved
loop-register-preserved c =
    (omega arith, wiped_all (omega arith) (wiped_more (omega arith) c.loop-register.invariant.1 c.write.ensures))

pub returns : goal.returns
returns c = wiped_all (omega arith) c.loop-register.invariant.1
