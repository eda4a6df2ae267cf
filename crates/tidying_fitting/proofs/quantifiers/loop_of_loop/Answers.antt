use mathlib.Core.Path.{ap}
use mathlib.Core.Bool.{not}
use native.Mathlib.Omega.{arith}
use Rattle.tidying_laws.specs.Laws.{t5}
use Rattle.tidying_fitting.specs.Fitting.{fits}
use Rattle.tidying_fitting.proofs.Told.{asked, quantified_passed, part_asked, on_quantifier, greedy_outer, first_fails}
use Rattle.tidying_fitting.proofs.Told.{first_passes}
use Rattle.tidying_fitting.specs.Words.{flag_of, is_nested, nested_in, own_of, lazy_flags, absorbs, t5_flags}
use Rattle.meaning.specs.Limits.{no_maximum}
use Rattle.tidying_fitting.proofs.quantifiers.loop_of_loop.Goals as goal

pub returns-then-not-is_lazy : goal.returns-then-not-is_lazy
returns-then-not-is_lazy c =
    first_passes (fits t5) (is_nested 0 no_maximum) (lazy_flags absorbs) t5_flags c.nested.ensures c.if-nested.true
    (greedy_outer (quantified_passed (λ r q. nested_in 0 no_maximum (own_of r) (own_of q)) c.nested.ensures c.if-nested.true)
    c.own.ensures (ap not c.is_lazy.ensures) (ap not c.if-not-is_lazy.true))

pub overflow_sub-top : goal.overflow_sub-top
overflow_sub-top c = omega (arith, asked c.requires)

pub own-requires-else-not-is_lazy : goal.own-requires-else-not-is_lazy
own-requires-else-not-is_lazy c =
    part_asked (quantified_passed (λ r q. nested_in 0 no_maximum (own_of r) (own_of q)) c.nested.ensures c.if-nested.true)
    c.requires

pub returns-else-not-is_lazy : goal.returns-else-not-is_lazy
returns-else-not-is_lazy c =
    first_passes (fits t5) (is_nested 0 no_maximum) (lazy_flags absorbs) t5_flags c.nested.ensures c.if-nested.true
    (on_quantifier (λ o i. absorbs (flag_of o.lazy) (flag_of i.lazy))
    (quantified_passed (λ r q. nested_in 0 no_maximum (own_of r) (own_of q)) c.nested.ensures c.if-nested.true) c.own.ensures
    c.own-else-not-is_lazy.ensures (rw (← c.is_lazy.ensures, c.if-not-is_lazy.false) c.is_lazy-else-not-is_lazy.ensures))

pub returns-else-nested : goal.returns-else-nested
returns-else-nested c =
    rw c.if-nested.false
    (first_fails (fits t5) (is_nested 0 no_maximum) (lazy_flags absorbs) t5_flags c.nested.ensures c.if-nested.false)
