-- Each phase has its line.
use native.Mathlib.Omega.{arith}
use Rattle.intake_lines.specs.Laws.{at_pattern, at_texts, at_over}
use Rattle.intake_lines.proofs.end_line.Goals as goal

pub returns-in-Pattern : goal.returns-in-Pattern
returns-in-Pattern c =
    at_pattern c.in-Pattern.is c.put_pattern_line.ensures

pub returns-in-Texts : goal.returns-in-Texts
returns-in-Texts c =
    at_texts c.in-Texts.is c.put_text_line.ensures

pub returns-in-Over : goal.returns-in-Over
returns-in-Over c =
    at_over c.in-Over.is (omega (arith, c.requires))
