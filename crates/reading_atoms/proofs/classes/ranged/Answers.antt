-- A range takes the bytes between its ends.
use mathlib.Core.Path.{ap}
use borrow.Author.Tests.{le-leb}
use Rattle.reading_atoms.specs.Classes.{Class.holds}
use Rattle.reading_atoms.specs.ClassLaws.{added_of}
use Rattle.reading_atoms.proofs.classes.ranged.Goals as goal

pub returns-in-One-One : goal.returns-in-One-One
returns-in-One-One c =
    rw (c.in-One-One.is-0, c.in-One-One.is-1, le-leb _ _ c.if-a-b.true)
    (ap (λ w. holds w c.in-One-One.end) (added_of c.args.held c.range.ensures c.union.ensures))
