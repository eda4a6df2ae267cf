-- Five writes, each from where the one before ended.
use native.Mathlib.Omega.{arith}
use Rattle.intake_report.specs.Wrote.{and_then}
use Rattle.intake_report.specs.Laws.{decimal_word}
use Rattle.intake_report.proofs.put_two.Goals as goal

pub put_text-c-requires : goal.put_text-c-requires
put_text-c-requires c =
    omega (arith, decimal_word c.args.m c.ranges.m.fits)

pub put_decimal-d-requires : goal.put_decimal-d-requires
put_decimal-d-requires c =
    omega (arith, decimal_word c.args.m c.ranges.m.fits)

pub put_byte-requires : goal.put_byte-requires
put_byte-requires c =
    omega (arith, decimal_word c.args.m c.ranges.m.fits, decimal_word c.args.n c.ranges.n.fits)

pub returns : goal.returns
returns c =
    and_then (and_then (and_then (and_then c.put_text-a.ensures c.put_decimal-b.ensures)
    c.put_text-c.ensures) c.put_decimal-d.ensures)
    c.put_byte.ensures
