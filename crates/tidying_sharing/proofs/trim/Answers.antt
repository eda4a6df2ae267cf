-- By what the alternative is: the set, a sequence of more than two items, or one of two, by what the second is.
use Rattle.tidying_sharing.specs.Trims.{trims_single, trims_several, trims_choice, trims_other}
use Rattle.tidying_sharing.proofs.trim.Goals as goal

pub returns-then-records-eq1 : goal.returns-then-records-eq1
returns-then-records-eq1 c =
    trims_single c.if-records-eq1.true c.stamp.ensures

pub returns-then-items-gt2 : goal.returns-then-items-gt2
returns-then-items-gt2 c =
    trims_several c.if-records-eq1.false c.word-items.ensures c.if-items-gt2.true c.set_items.ensures
    c.remove.ensures

pub returns-then-word-eq-ALTERNATION : goal.returns-then-word-eq-ALTERNATION
returns-then-word-eq-ALTERNATION c =
    trims_choice c.if-records-eq1.false c.word-items.ensures c.if-items-gt2.false c.word.ensures c.if-word-eq-ALTERNATION.true
    c.word-parts.ensures c.remove-then-word-eq-ALTERNATION.ensures c.remove-then-word-eq-ALTERNATION-2.ensures

pub returns : goal.returns
returns c =
    trims_other c.if-records-eq1.false c.word-items.ensures c.if-items-gt2.false c.word.ensures c.if-word-eq-ALTERNATION.false
    c.remove-2.ensures c.remove-3.ensures
