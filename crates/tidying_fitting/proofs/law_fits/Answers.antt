-- Each law has its test.
use mathlib.Core.Path.{sym}
use Rattle.table.specs.Table.{empty_kind, assertion_kind, sequence_kind, alternation_kind}
use Rattle.tidying_laws.specs.List.{laws}
use Rattle.tidying_laws.specs.Laws.{t1, t3, t4, t6, t8}
use Rattle.tidying_laws.specs.ByNumber.{law_of}
use Rattle.tidying_fitting.specs.Fitting.{fits}
use Rattle.tidying_fitting.specs.Words.{is_over, t3_over, t4_over}
use Rattle.tidying_fitting.specs.Wants.{has_wanted, t1_wanted, t6_wanted, t8_wanted}
use Rattle.tidying_fitting.specs.declared.Want.TheVariants.{Empty, Equal, Alike}
use Rattle.tidying_fitting.proofs.Told.{by_test}
use Rattle.tidying_fitting.proofs.law_fits.Goals as goal

pub returns-in-T1 : goal.returns-in-T1
unfolding law_of laws
returns-in-T1 c =
    rw c.in-T1.is (by_test (has_wanted sequence_kind Empty) (fits t1) (λ r. sym (t1_wanted r)) c.has_wanted.ensures)

pub returns-in-T2 : goal.returns-in-T2
unfolding law_of laws
returns-in-T2 c = rw c.in-T2.is c.once_or_never.ensures

pub returns-in-T3 : goal.returns-in-T3
unfolding law_of laws
returns-in-T3 c = rw c.in-T3.is (by_test (is_over empty_kind) (fits t3) (λ r. sym (t3_over r)) c.over.ensures)

pub returns-in-T4 : goal.returns-in-T4
unfolding law_of laws
returns-in-T4 c = rw c.in-T4.is (by_test (is_over assertion_kind) (fits t4) (λ r. sym (t4_over r)) c.over-in-T4.ensures)

pub returns-in-T5 : goal.returns-in-T5
unfolding law_of laws
returns-in-T5 c = rw c.in-T5.is c.loop_of_loop.ensures

pub returns-in-T6 : goal.returns-in-T6
unfolding law_of laws
returns-in-T6 c =
    rw c.in-T6.is (by_test (has_wanted alternation_kind Equal) (fits t6) (λ r. sym (t6_wanted r)) c.has_wanted-in-T6.ensures)

pub returns-in-T7 : goal.returns-in-T7
unfolding law_of laws
returns-in-T7 c = rw c.in-T7.is c.void_part.ensures

pub returns-in-T8 : goal.returns-in-T8
unfolding law_of laws
returns-in-T8 c =
    rw c.in-T8.is (by_test (has_wanted alternation_kind Alike) (fits t8) (λ r. sym (t8_wanted r)) c.has_wanted-in-T8.ensures)

pub returns-in-T9 : goal.returns-in-T9
unfolding law_of laws
returns-in-T9 c = rw c.in-T9.is c.option_of_option.ensures

pub returns-in-T10 : goal.returns-in-T10
unfolding law_of laws
returns-in-T10 c = rw c.in-T10.is c.loop_once_of_loop.ensures
