use Rattle.running_settle.specs.Apply.{does_write}
use Rattle.running_settle.proofs.write_on.Goals as goal

pub returns : goal.returns
returns c =
    does_write c.requires.room.0 c.requires.room.1 c.write.auto.work c.write.ensures c.push.ensures
