use Rattle.reading_items.proofs.Joining.{join_one, empty_putting, join_none, series_putting, join_series}
use Rattle.reading_items.proofs.series.joined.Goals as goal

pub returns-then-count-eq1 : goal.returns-then-count-eq1
returns-then-count-eq1 c = join_one c.if-count-eq1.true

pub put-requires : goal.put-requires
put-requires c = empty_putting c.if-count-eq0.true c.requires

pub returns-then-count-eq0 : goal.returns-then-count-eq0
returns-then-count-eq0 c = join_none c.if-count-eq0.true c.put.ensures

pub put-requires-2 : goal.put-requires-2
put-requires-2 c = series_putting c.if-count-eq1.false c.if-count-eq0.false
    c.requires

pub returns : goal.returns
returns c = join_series c.if-count-eq1.false
    c.if-count-eq0.false
    c.put-2.ensures
