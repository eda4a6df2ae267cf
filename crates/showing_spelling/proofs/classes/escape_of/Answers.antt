use Rattle.std.proofs.Common.{sym, ap, ◌∙◌, arith}
use borrow.Author.Count.{below_more}
use Rattle.sets.specs.Sets.{same_bytes}
use Rattle.sets.specs.Laws.{words_of}
use Rattle.showing_spelling.specs.Texts.{escape_found, escape_none}
use Rattle.showing_spelling.proofs.classes.escape_of.Goals as goal

pub returns-then-same : goal.returns-then-same
returns-then-same c =
    sym (escape_found c.args.set 6 0 c.loop-number.number (omega arith) (omega arith) (λ i l h. c.loop-number.invariant i h)
    (ap (same_bytes c.args.set) (sym (words_of c.set.ensures)) ∙ sym c.if-same.ensures))

pub loop-number-preserved : goal.loop-number-preserved
loop-number-preserved c =
    below_more _ _ c.loop-number.invariant (ap (same_bytes c.args.set) (sym (words_of c.set.ensures)) ∙ sym c.if-same.ensures)

pub returns : goal.returns
returns c = sym (escape_none c.args.set 6 0 (λ i l h. c.loop-number.invariant i (omega arith)))
