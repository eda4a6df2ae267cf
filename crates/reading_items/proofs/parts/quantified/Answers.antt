-- Where the byte begins no quantifier, or there is none.
use mathlib.Core.Path.{sym, ap, ◌∙◌}
use Rattle.reading_atoms.specs.Chars.{is_quantifier}
use Rattle.reading_atoms.specs.Answers.{byte_of}
use Rattle.reading_items.proofs.Putting.{none_quantifies}
use Rattle.reading_items.proofs.parts.quantified.Goals as goal

pub returns-in_default : goal.returns-in_default
returns-in_default c =
    none_quantifies c.args.s.now c.args.from.at (ap is_quantifier (sym c.byte_at.ensures ∙ ap byte_of c.in_default.is))

pub returns-then-not-is_quantifier : goal.returns-then-not-is_quantifier
returns-then-not-is_quantifier c =
    none_quantifies c.args.s.now c.args.from.at (ap is_quantifier (sym c.byte_at.ensures ∙ ap byte_of c.in-Some.is)
    ∙ sym c.is_quantifier.ensures ∙ c.if-not-is_quantifier.true)
