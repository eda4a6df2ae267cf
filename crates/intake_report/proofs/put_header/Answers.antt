-- The line of the two numbers.
use Rattle.intake_report.specs.Texts.{header_line}
use Rattle.intake_report.proofs.put_header.Goals as goal

pub returns : goal.returns
unfolding header_line
returns c = c.put_two.ensures
