-- By how many parts are left.
use Rattle.tidying_rewriting.specs.Series.{rejoins_none, rejoins_one, rejoins_more}
use Rattle.tidying_rewriting.proofs.rejoin.Goals as goal

pub returns-then-kept-eq0 : goal.returns-then-kept-eq0
returns-then-kept-eq0 c = rejoins_none c.if-kept-eq0.true c.stamp.ensures

pub returns-then-kept-eq1 : goal.returns-then-kept-eq1
returns-then-kept-eq1 c = rejoins_one c.if-kept-eq1.true c.remove.ensures

pub returns : goal.returns
returns c =
    rejoins_more c.if-kept-eq0.false c.if-kept-eq1.false c.set_items.ensures
