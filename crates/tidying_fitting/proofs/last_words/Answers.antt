use Rattle.tidying_fitting.proofs.Told.{asked, last_told}
use Rattle.tidying_fitting.proofs.last_words.Goals as goal

pub last_words-requires : goal.last_words-requires
last_words-requires c = asked c.requires

pub returns : goal.returns
returns c = last_told c.last_words.ensures
