-- By the kind of the part: T7 makes a sequence the empty set, and of an alternation the leftmost empty set goes.
use native.Mathlib.Omega.{arith}
use Rattle.tidying_rewriting.specs.Rewriting.{within}
use Rattle.tidying_rewriting.proofs.Dropped.{voids, void_fits, void_drops}
use Rattle.tidying_rewriting.proofs.void.Goals as goal

pub word-requires : goal.word-requires
word-requires c = omega (arith, within c.requires.fitting.placed)

pub returns-then-word-eq-SEQUENCE : goal.returns-then-word-eq-SEQUENCE
returns-then-word-eq-SEQUENCE c =
    voids c.word.ensures c.if-word-eq-SEQUENCE.true c.shrink.ensures

pub drop_alternative-requires : goal.drop_alternative-requires
drop_alternative-requires c =
    void_fits c.word.ensures c.if-word-eq-SEQUENCE.false c.requires

pub returns : goal.returns
returns c =
    void_drops c.word.ensures c.if-word-eq-SEQUENCE.false c.drop_alternative.ensures
