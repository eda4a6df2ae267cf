use Rattle.running_settle.specs.Apply.{does_wipe}
use Rattle.running_settle.proofs.wipe_on.Goals as goal

pub returns : goal.returns
returns c =
    does_wipe c.requires.0 c.requires.1 c.wipe-top.auto.work c.wipe-top.ensures c.push.ensures
