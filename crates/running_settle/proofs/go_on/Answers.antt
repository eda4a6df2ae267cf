use Rattle.running_settle.specs.Apply.{does_on}
use Rattle.running_settle.proofs.go_on.Goals as goal

pub returns : goal.returns
returns c =
    does_on c.requires.0 c.requires.1 c.push.ensures
