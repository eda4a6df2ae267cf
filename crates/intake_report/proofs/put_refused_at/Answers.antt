-- The line of the two numbers.
use Rattle.intake_report.specs.Texts.{refused_at}
use Rattle.intake_report.proofs.put_refused_at.Goals as goal

pub returns : goal.returns
unfolding refused_at
returns c = c.put_two.ensures
