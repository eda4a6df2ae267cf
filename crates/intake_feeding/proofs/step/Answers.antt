-- LF ends the line, and any other byte is kept.
use native.Mathlib.Omega.{arith}
use Rattle.intake_feeding.specs.Laws.{step_ends, step_keeps}
use Rattle.intake_feeding.proofs.step.Goals as goal

pub returns-then-byte-ne-LF : goal.returns-then-byte-ne-LF
returns-then-byte-ne-LF c =
    step_keeps c.if-byte-ne-LF.true (omega (arith, c.requires.1)) c.keep.ensures

pub returns : goal.returns
returns c =
    step_ends c.if-byte-ne-LF.false c.end_line-ended.ensures
