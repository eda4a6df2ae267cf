use mathlib.Core.Path.{sym, ap, ◌∙◌}
use mathlib.Core.Bool.{not, false≢true}
use native.Mathlib.Omega.{arith}
use borrow.Author.Tests.{eq-eqb}
use Rattle.tidying_laws.specs.Laws.{t10}
use Rattle.tidying_fitting.specs.Fitting.{fits}
use Rattle.tidying_fitting.proofs.Told.{asked, quantified_passed, part_asked, on_quantifier, first_fails, first_passes}
use Rattle.tidying_fitting.proofs.Told.{lazy_outer}
use Rattle.tidying_fitting.specs.Words.{flag_of, is_nested, nested_in, own_of, lazy_flags, both_greedy, t10_flags}
use Rattle.meaning.specs.Limits.{no_maximum}
use Rattle.tidying_fitting.proofs.quantifiers.loop_once_of_loop.Goals as goal

pub returns-then-not-nested : goal.returns-then-not-nested
returns-then-not-nested c =
    first_fails (fits t10) (is_nested 1 no_maximum) (lazy_flags both_greedy) t10_flags c.nested.ensures c.if-not-nested.true

pub overflow_sub-top : goal.overflow_sub-top
overflow_sub-top c = omega (arith, asked c.requires)

pub own-inner-requires : goal.own-inner-requires
own-inner-requires c =
    part_asked (quantified_passed (λ r q. nested_in 1 no_maximum (own_of r) (own_of q)) c.nested.ensures c.if-not-nested.false)
    c.requires

pub returns-then-not-is_lazy : goal.returns-then-not-is_lazy
returns-then-not-is_lazy c =
    first_passes (fits t10) (is_nested 1 no_maximum) (lazy_flags both_greedy) t10_flags c.nested.ensures c.if-not-nested.false
    (on_quantifier (λ o i. both_greedy (flag_of o.lazy) (flag_of i.lazy))
    (quantified_passed (λ r q. nested_in 1 no_maximum (own_of r) (own_of q)) c.nested.ensures c.if-not-nested.false)
    c.own-outer.ensures c.own-inner.ensures
    (rw (← c.is_lazy.ensures, c.if-not-is_lazy.true, c.is_lazy-then-not-is_lazy.ensures)))

pub returns-else-not-is_lazy : goal.returns-else-not-is_lazy
returns-else-not-is_lazy c =
    rw c.if-not-is_lazy.false
    (lazy_outer c.nested.ensures c.if-not-nested.false c.own-outer.ensures c.own-inner.ensures
    (λ e. false≢true (ap not (sym (eq-eqb _ 0 e)) ∙ sym c.is_lazy.ensures ∙ c.if-not-is_lazy.false)))
