use Rattle.reading_items.proofs.Putting.{no_group, group_putting, group_groups}
use Rattle.reading_items.proofs.parts.grouped.Goals as goal

pub returns-then-group-eq0 : goal.returns-then-group-eq0
returns-then-group-eq0 c = no_group c.if-group-eq0.true

pub put-requires : goal.put-requires
put-requires c =
    group_putting c.args.group c.if-group-eq0.false c.requires.0 c.requires.1

pub returns : goal.returns
returns c = group_groups c.if-group-eq0.false
    c.requires.0 c.put.ensures
