-- The digits of a word are at most 20.
use native.Mathlib.Omega.{arith}
use Rattle.intake_report.specs.Laws.{decimal_word}
use Rattle.intake_report.proofs.put_decimal.Goals as goal

pub put_digits-requires : goal.put_digits-requires
put_digits-requires c =
    omega (arith, decimal_word c.args.value c.ranges.value.fits)
