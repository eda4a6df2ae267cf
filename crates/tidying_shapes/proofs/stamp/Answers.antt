use Rattle.tidying_shapes.proofs.Edited.{stamped}
use Rattle.tidying_shapes.proofs.stamp.Goals as goal

pub returns : goal.returns
returns c =
    stamped c.args.at c.args.kind c.args.operand c.args.items c.requires.0 c.requires.1 c.copy.ensures
