use mathlib.Core.Path.{refl}
use native.Mathlib.Omega.{arith}
use lib.Dec.{eqb}
use Rattle.tidying_fitting.proofs.Told.{asked, quantified_kind, part_asked, on_quantifier}
use Rattle.tidying_fitting.proofs.quantifiers.over.Goals as goal

pub overflow_sub-top : goal.overflow_sub-top
overflow_sub-top c = omega (arith, asked c.requires)

pub own-requires-then-own-eq-QUANTIFIER : goal.own-requires-then-own-eq-QUANTIFIER
own-requires-then-own-eq-QUANTIFIER c =
    part_asked (quantified_kind c.own.ensures c.if-own-eq-QUANTIFIER.true) c.requires

pub returns-then-own-eq-QUANTIFIER : goal.returns-then-own-eq-QUANTIFIER
returns-then-own-eq-QUANTIFIER c =
    on_quantifier (λ o i. eqb i.kind c.args.kind) (quantified_kind c.own.ensures c.if-own-eq-QUANTIFIER.true)
    c.own.ensures c.own-then-own-eq-QUANTIFIER.ensures refl
