-- The text with its LF.
use Rattle.intake_report.specs.Texts.{none_line}
use Rattle.intake_report.proofs.put_none.Goals as goal

pub returns : goal.returns
unfolding none_line
returns c = c.put_text.ensures
