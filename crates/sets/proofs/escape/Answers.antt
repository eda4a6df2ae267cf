-- The table is the list of the sets of the six tests, by computing them.
use mathlib.Core.List.{[]}
use Rattle.sets.specs.Sets.{word_of, set_of, is_digit, is_word, is_space, in_escape}
use Rattle.sets.specs.Laws.{tab_at, of_words}
use Rattle.sets.proofs.escape.Goals as goal

pub returns : goal.returns
unfolding set_of word_of is_digit is_word is_space
returns c = of_words (tab_at (λ k. set_of (in_escape k)) 6 c.args.k [] c.requires)
