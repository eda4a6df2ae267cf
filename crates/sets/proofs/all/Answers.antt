-- The eight words are the set of the test that always passes, by computing it.
use mathlib.Core.Bool.{true}
use Rattle.sets.specs.Sets.{word_of, set_of}
use Rattle.sets.specs.Laws.{set_of_holds}
use Rattle.sets.proofs.all.Goals as goal

pub returns : goal.returns
unfolding set_of word_of
returns c = set_of_holds (λ x. true)
