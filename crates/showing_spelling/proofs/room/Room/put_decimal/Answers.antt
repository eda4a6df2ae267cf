use mathlib.Core.Path.{sym, ap, ◌∙◌}
use mathlib.Core.List.{List, ◌∷◌, ◌++◌, append_assoc}
use Prim.Native.Nat.{ℕ, ◌+◌, ◌/◌, ◌%◌}
use Rattle.intake_report.specs.Texts.{decimal, digit}
use Rattle.intake_report.specs.Laws.{decimal_one, decimal_more}
use Rattle.showing_spelling.specs.Wrote.{wrote_before, wrote_as}
use Rattle.showing_spelling.proofs.room.Room.put_decimal.Goals as goal

pub loop-left-preserved : goal.loop-left-preserved
loop-left-preserved c =
    let n = c.loop-left.left in
    let (x, put, e) = c.loop-left.invariant in (
      (48 + n % 10) ∷ x,
      wrote_before put c.put.ensures,
      e ∙ ap (λ (t : List ℕ). t ++ x) (decimal_more n c.loop-left-test.true)
          ∙ append_assoc (decimal (n / 10)) (digit (n % 10)) x,
    )

pub returns : goal.returns
returns c =
    let (x, put, e) = c.loop-left.invariant in
    wrote_as (wrote_before put c.put-2.ensures)
    (ap (λ (t : List ℕ). t ++ x) (sym (decimal_one c.loop-left.left c.loop-left-test.false)) ∙ sym e)
