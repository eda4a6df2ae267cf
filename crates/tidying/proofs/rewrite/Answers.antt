-- Each arm carries out its law. Assumes nothing.
use mathlib.Core.Path.{ap}
use mathlib.Core.Logic.{⊎_elim}
use native.Mathlib.Omega.{arith}
use Rattle.tidying_laws.specs.List.{laws}
use Rattle.tidying_laws.specs.ByNumber.{law_count, number_of}
use Rattle.tidying_rewriting.proofs.Carried.{carried, fits_carried, carries}
use Rattle.tidying.proofs.rewrite.Goals as goal

pub drop_empty-requires : goal.drop_empty-requires
unfolding carried law_count laws
drop_empty-requires c = fits_carried 1 (ap number_of c.in-T1.is) (omega arith) c.requires

pub unquantify-requires : goal.unquantify-requires
unfolding carried law_count laws
unquantify-requires c =
    ⊎_elim (λ e. fits_carried 2 (ap number_of e) (omega arith) c.requires)
    (⊎_elim (λ e. fits_carried 3 (ap number_of e) (omega arith) c.requires)
    (⊎_elim (λ e. fits_carried 4 (ap number_of e) (omega arith) c.requires)
    (λ e. fits_carried 10 (ap number_of e) (omega arith) c.requires))) c.in-T2.is

pub unnest-requires : goal.unnest-requires
unfolding carried law_count laws
unnest-requires c =
    ⊎_elim (λ e. fits_carried 5 (ap number_of e) (omega arith) c.requires)
    (λ e. fits_carried 9 (ap number_of e) (omega arith) c.requires) c.in-T5.is

pub drop_alternative-requires : goal.drop_alternative-requires
unfolding carried law_count laws
drop_alternative-requires c = fits_carried 6 (ap number_of c.in-T6.is) (omega arith) c.requires

pub void-requires : goal.void-requires
unfolding carried law_count laws
void-requires c = fits_carried 7 (ap number_of c.in-T7.is) (omega arith) c.requires

pub share-requires : goal.share-requires
unfolding carried law_count laws
share-requires c = fits_carried 8 (ap number_of c.in-T8.is) (omega arith) c.requires

pub returns-in-T1 : goal.returns-in-T1
unfolding carried law_count laws
returns-in-T1 c = carries 1 (ap number_of c.in-T1.is) (omega arith) c.drop_empty.ensures

pub returns-in-T2 : goal.returns-in-T2
unfolding carried law_count laws
returns-in-T2 c =
    ⊎_elim (λ e. carries 2 (ap number_of e) (omega arith) c.unquantify.ensures)
    (⊎_elim (λ e. carries 3 (ap number_of e) (omega arith) c.unquantify.ensures)
    (⊎_elim (λ e. carries 4 (ap number_of e) (omega arith) c.unquantify.ensures)
    (λ e. carries 10 (ap number_of e) (omega arith) c.unquantify.ensures))) c.in-T2.is

pub returns-in-T5 : goal.returns-in-T5
unfolding carried law_count laws
returns-in-T5 c =
    ⊎_elim (λ e. carries 5 (ap number_of e) (omega arith) c.unnest.ensures)
    (λ e. carries 9 (ap number_of e) (omega arith) c.unnest.ensures) c.in-T5.is

pub returns-in-T6 : goal.returns-in-T6
unfolding carried law_count laws
returns-in-T6 c = carries 6 (ap number_of c.in-T6.is) (omega arith) c.drop_alternative.ensures

pub returns-in-T7 : goal.returns-in-T7
unfolding carried law_count laws
returns-in-T7 c = carries 7 (ap number_of c.in-T7.is) (omega arith) c.void.ensures

pub returns-in-T8 : goal.returns-in-T8
unfolding carried law_count laws
returns-in-T8 c = carries 8 (ap number_of c.in-T8.is) (omega arith) c.share.ensures
