use native.Mathlib.Omega.{arith}
use mathlib.Core.Bool.{beq}
use Rattle.tidying_laws.specs.Laws.{t9}
use Rattle.tidying_fitting.specs.Fitting.{fits}
use Rattle.tidying_fitting.proofs.Told.{asked, quantified_passed, part_asked, on_quantifier, first_fails, first_passes}
use Rattle.tidying_fitting.specs.Words.{flag_of, is_nested, nested_in, own_of, lazy_flags, t9_flags}
use Rattle.tidying_fitting.proofs.quantifiers.option_of_option.Goals as goal

pub overflow_sub-top : goal.overflow_sub-top
overflow_sub-top c = omega (arith, asked c.requires)

pub own-requires-then-nested : goal.own-requires-then-nested
own-requires-then-nested c =
    part_asked (quantified_passed (λ r q. nested_in 0 1 (own_of r) (own_of q)) c.nested.ensures c.if-nested.true) c.requires

pub returns-then-nested : goal.returns-then-nested
returns-then-nested c =
    first_passes (fits t9) (is_nested 0 1) (lazy_flags beq) t9_flags c.nested.ensures c.if-nested.true
    (on_quantifier (λ o i. beq (flag_of o.lazy) (flag_of i.lazy))
    (quantified_passed (λ r q. nested_in 0 1 (own_of r) (own_of q)) c.nested.ensures c.if-nested.true) c.own.ensures
    c.own-then-nested.ensures (rw (c.is_lazy.ensures, c.is_lazy-then-nested.ensures)))

pub returns-else-nested : goal.returns-else-nested
returns-else-nested c =
    rw c.if-nested.false (first_fails (fits t9) (is_nested 0 1) (lazy_flags beq) t9_flags c.nested.ensures c.if-nested.false)
