use Rattle.tidying_fitting.proofs.Walked.{last_asked, before_asked, follows_told}
use Rattle.tidying_fitting.proofs.series.follows.Goals as goal

pub start-requires : goal.start-requires
start-requires c = last_asked c.requires

pub begins_alike-requires : goal.begins_alike-requires
begins_alike-requires c = (before_asked c.if-items-gt1.true c.start.ensures c.requires, last_asked c.requires)

pub returns-then-items-gt1 : goal.returns-then-items-gt1
returns-then-items-gt1 c = follows_told c.if-items-gt1.true c.start.ensures c.begins_alike.ensures
