use Rattle.reading_items.proofs.Putting.{assert_putting, assert_meets}
use Rattle.reading_items.proofs.leaves.assertion.Goals as goal

pub put-requires : goal.put-requires
put-requires c = assert_putting c.args.number c.requires.0 c.requires.1

pub returns : goal.returns
returns c =
    assert_meets c.args.from.at c.args.from.groups c.requires.0 c.requires.1 c.put.ensures
