-- Each return goes by the byte at the place; counts are taken apart, or their refusal is passed on.
use mathlib.Core.Path.{sym, ◌∙◌}
use Rattle.reading_atoms.specs.Braces.{quantifier_at}
use Rattle.reading_atoms.specs.BraceLaws.{counts_ordered}
use Rattle.reading_atoms.proofs.braces.quantifier_at.Goals as goal

pub lazily-requires-in-Some-eq123 : goal.lazily-requires-in-Some-eq123
lazily-requires-in-Some-eq123 c =
    counts_ordered c.args.s.now c.args.at c.in-Counts.min c.in-Counts.max c.in-Counts.end c.in-Counts.ensures

pub returns-in-Some-eq42 : goal.returns-in-Some-eq42
unfolding quantifier_at
returns-in-Some-eq42 c = rw (sym c.in-Some-eq42.ensures ∙ c.in-Some-eq42.field-0-test) (c.lazily.ensures c.args.at)

pub returns-in-Some-eq43 : goal.returns-in-Some-eq43
unfolding quantifier_at
returns-in-Some-eq43 c = rw (sym c.in-Some-eq43.ensures ∙ c.in-Some-eq43.field-0-test) (c.lazily-in-Some-eq43.ensures c.args.at)

pub returns-in-Some-eq63 : goal.returns-in-Some-eq63
unfolding quantifier_at
returns-in-Some-eq63 c = rw (sym c.in-Some-eq63.ensures ∙ c.in-Some-eq63.field-0-test) (c.lazily-in-Some-eq63.ensures c.args.at)

pub returns-in-Counts : goal.returns-in-Counts
unfolding quantifier_at
returns-in-Counts c =
    rw (sym c.in-Some-eq123.ensures ∙ c.in-Some-eq123.field-0-test, ← c.in-Counts.ensures) (c.lazily-in-Some-eq123.ensures c.args.at)
