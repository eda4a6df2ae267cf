use mathlib.Core.Path.{sym, ◌∙◌}
use mathlib.Core.Bool.{false≢true}
use native.Mathlib.Omega.{arith}
use Rattle.tidying_fitting.proofs.Told.{asked, quantified_ranged, part_asked, on_quantifier, off_ranged}
use Rattle.tidying_fitting.specs.Words.{nested_in}
use Rattle.tidying_fitting.proofs.quantifiers.nested.Goals as goal
use Rattle.tidying_fitting.proofs.quantifiers.nested.Goals.{then-ranges, else-ranges}

pub overflow_sub-top : goal.overflow_sub-top
overflow_sub-top c = omega (arith, asked c.requires)

pub own-requires : goal.own-requires
own-requires c =
    part_asked (quantified_ranged c.args.least c.args.most c.own-outer.ensures (sym c.if-ranges.ensures)) c.requires

pub returns-then-ranges-2 : goal.returns-then-ranges-2
returns-then-ranges-2 c =
    elim c.if-ranges.branch [
      | then-ranges w ↦
          on_quantifier (nested_in c.args.least c.args.most)
          (quantified_ranged c.args.least c.args.most c.own-outer.ensures (sym w.if-ranges.ensures)) c.own-outer.ensures
          w.own.ensures (rw (sym w.if-ranges.ensures, sym w.ranges-then-ranges.ensures ∙ sym w.value-is ∙ c.if-ranges-2.true))
      | else-ranges w ↦ absurd (false≢true (sym w.if-ranges.false ∙ sym w.value-is ∙ c.if-ranges-2.true))
    ]

pub returns-else-ranges-2 : goal.returns-else-ranges-2
returns-else-ranges-2 c =
    elim c.if-ranges.branch [
      | then-ranges w ↦
          on_quantifier (nested_in c.args.least c.args.most)
          (quantified_ranged c.args.least c.args.most c.own-outer.ensures (sym w.if-ranges.ensures)) c.own-outer.ensures
          w.own.ensures
          (c.if-ranges-2.false ∙ rw (
            sym w.if-ranges.ensures,
            sym w.ranges-then-ranges.ensures ∙ sym w.value-is
                ∙ c.if-ranges-2.false,
          ))
      | else-ranges w ↦
          rw c.if-ranges-2.false (off_ranged c.args.least c.args.most c.own-outer.ensures (sym w.if-ranges.ensures))
    ]
