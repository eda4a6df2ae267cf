-- The table from the records on is lent, so that what is before them stays.
use Rattle.tidying_rewriting.specs.Frames.{removed_cut}
use Rattle.tidying_rewriting.proofs.cut.Goals as goal

pub returns : goal.returns
returns c =
    removed_cut c.requires.0 c.requires.1 c.remove.ensures
