-- A number below ten is one byte; of any other the digits of its tenth are written, and one byte more. The number falls.
use Rattle.intake_report.proofs.+put_digits.Given as goal

abbrev pub decreases-put_digits : goal.decreases-put_digits
decreases-put_digits l = l.value
