-- A byte behind those that are kept, or none if the line is too long already.
use native.Mathlib.Omega.{arith}
use Rattle.intake_feeding.specs.Laws.{kept_full, kept_more}
use Rattle.intake_feeding.proofs.keep.Goals as goal

pub returns-then-kept-ge-KEPT_LIMIT : goal.returns-then-kept-ge-KEPT_LIMIT
returns-then-kept-ge-KEPT_LIMIT c =
    kept_full c.args.kept c.args.byte c.requires.0 c.requires.1 c.if-kept-ge-KEPT_LIMIT.true

pub returns : goal.returns
returns c =
    kept_more c.args.kept c.args.byte c.requires.0 (omega (arith, c.if-kept-ge-KEPT_LIMIT.false))
