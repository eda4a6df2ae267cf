use mathlib.Core.Path.{refl}
use Rattle.tidying_shapes.proofs.Edited.{counted}
use Rattle.tidying_shapes.proofs.set_items.Goals as goal

pub returns : goal.returns
returns c = counted c.args.at c.args.items c.requires refl
