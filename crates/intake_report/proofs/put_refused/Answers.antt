-- Three writes, each from where the one before ended.
use native.Mathlib.Omega.{arith}
use Rattle.intake_report.specs.Texts.{refused_run}
use Rattle.intake_report.specs.Wrote.{and_then}
use Rattle.intake_report.specs.Laws.{decimal_word}
use Rattle.intake_report.proofs.put_refused.Goals as goal

pub put_byte-requires : goal.put_byte-requires
put_byte-requires c =
    omega (arith, decimal_word c.args.number c.ranges.number.fits)

pub returns : goal.returns
unfolding refused_run
returns c =
    and_then (and_then c.put_text-a.ensures
    c.put_decimal-b.ensures) c.put_byte.ensures
