-- A minus sign for a negative number, then the digits of the magnitude.
use Rattle.std.proofs.Common.{◌≡◌, refl, sym, ap, ◌∙◌, [], ◌∷◌, ◌++◌, ◌≤◌, arith, rules, nat_abs, length}
use Rattle.intake_report.specs.Texts.{decimal}
use Rattle.intake_report.specs.Wrote.{Wrote, wrote_as, and_then}
use Rattle.intake_report.specs.Laws.{shown_negative, shown_plain, digits_few}
use Rattle.intake_report.proofs.Sign.{back}
use Rattle.intake_report.proofs.put_number.Goals.{After-from, then-value-lt0, else-value-lt0}
use Rattle.intake_report.proofs.put_number.Goals as goal

magnitude : (c : After-from) → c.from.result ≡ nat_abs c.args.value
magnitude c = c.from.ensures ∙ c.unsigned_abs.ensures.value ∙ ap nat_abs (back c.ranges.value)

pub put_digits-requires : goal.put_digits-requires
put_digits-requires c =
    let few : length (decimal c.from.result) ≤ 10 = rw (magnitude c) (digits_few c.args.value c.ranges.value.sfits) in
    elim c.if-value-lt0.branch [
      | then-value-lt0 w ↦ omega (arith, w.put_byte-digits.ensures.next)
      | else-value-lt0 w ↦ omega arith
    ]

pub returns : goal.returns
returns c =
    let z = c.args.value in
    let e = magnitude (goal.at.returns c).After-from in
    elim c.if-value-lt0.branch [
      | then-value-lt0 w ↦
          let minus = w.put_byte-digits in
          let digits : Wrote minus.new.out c.put_digits.new.out minus.result (decimal c.from.result) c.put_digits.result =
          search rules in
          let below = rw (back c.ranges.value) at w.if-value-lt0.true in
          wrote_as (and_then minus.ensures digits)
          (ap (λ n. (45 ∷ []) ++ decimal n) e ∙ sym (shown_negative z below)) refl
      | else-value-lt0 w ↦
          wrote_as (rw (w.out-is, w.digits-is) at c.put_digits.ensures)
          (ap decimal e ∙ sym (shown_plain z (rw (back c.ranges.value) at w.if-value-lt0.false))) refl
    ]
