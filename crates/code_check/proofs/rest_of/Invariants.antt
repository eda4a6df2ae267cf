-- The words so far, one or another, are zero exactly if each is.
use mathlib.Core.Path.{◌≡◌}
use lib.Dec.{eqb}
use Rattle.sets.specs.Sets.{below}
use Rattle.code_check.specs.Check.{rest_zero}
use Rattle.code_check.proofs.rest_of.Given as goal

abbrev pub invariant-loop-word : goal.invariant-loop-word
invariant-loop-word l = eqb l.rest 0 ≡ below l.word-index (rest_zero l.code l.start)
