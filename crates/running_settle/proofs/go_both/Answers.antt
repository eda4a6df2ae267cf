use Rattle.running_settle.specs.Apply.{does_both}
use Rattle.running_settle.proofs.go_both.Goals as goal

pub returns : goal.returns
returns c =
    does_both c.requires.0 c.requires.1 c.push.ensures c.push-2.ensures
