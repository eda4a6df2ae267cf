use Rattle.second.specs.Choices.{wiped, wiped_none}
use Rattle.second.proofs.wipe.Goals as goal

pub returns-then-from-to : goal.returns-then-from-to
returns-then-from-to c =
    wiped c.requires.0 c.if-from-to.true c.requires.1 c.spread.auto.work
    c.spread.ensures

pub returns-else-from-to : goal.returns-else-from-to
returns-else-from-to c = wiped_none c.if-from-to.false
