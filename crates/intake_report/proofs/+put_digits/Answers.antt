use Rattle.std.proofs.Common.{refl, sym, arith}
use Rattle.intake_report.specs.Wrote.{wrote_as, and_then}
use Rattle.intake_report.specs.Laws.{decimal_some, decimal_one, decimal_more, decimal_longer}
use Rattle.intake_report.proofs.+put_digits.Goals as goal

pub put_byte-requires : goal.put_byte-requires
put_byte-requires t c = omega (arith, decimal_some c.args.value)

pub returns-then-value-lt10 : goal.returns-then-value-lt10
returns-then-value-lt10 t c = wrote_as c.put_byte.ensures (sym (decimal_one c.args.value c.if-value-lt10.true)) refl

pub put_digits-last-requires : goal.put_digits-last-requires
put_digits-last-requires t c =
    let longer = decimal_longer c.args.value c.if-value-lt10.false in
    (omega (arith, c.decreases), omega arith)

pub put_byte-requires-2 : goal.put_byte-requires-2
put_byte-requires-2 t c =
    let longer = decimal_longer c.args.value c.if-value-lt10.false in
    omega (arith, c.put_digits-last.ensures.next, c.put_digits-last.auto.out)

pub returns : goal.returns
returns t c =
    let more = decimal_more c.args.value c.if-value-lt10.false in
    wrote_as (and_then c.put_digits-last.ensures c.put_byte-2.ensures) (sym more) refl
