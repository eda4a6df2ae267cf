use native.Mathlib.Omega.{arith}
use Rattle.running_settle.specs.Apply.{lane_frame, lane_clear, does_eat}
use Rattle.running_settle.proofs.eat.Goals as goal

pub queue-requires : goal.queue-requires
queue-requires c =
    record { laid = (c.requires.0.laid, lane_frame c.requires.0); clear = (lane_clear c.requires.0, c.requires.0.few, omega arith) }

pub returns : goal.returns
returns c =
    does_eat c.requires.0 c.requires.1 c.queue.ensures
