-- A key, a position and the registers are written behind the choices that are there.
use mathlib.Core.Logic.{inl}
use native.Mathlib.Omega.{arith}
use lib.ListN.{length-set}
use Rattle.second.specs.Choices.{choice_fits, choice_small, stored}
use Rattle.second.proofs.store.Goals as goal

pub choice_at-at-requires : goal.choice_at-at-requires
choice_at-at-requires c = choice_small c.requires.laid.0 (omega (arith, c.requires.laid.1))

pub offset_bounds-work-at : goal.offset_bounds-work-at
offset_bounds-work-at c = omega (arith, c.choice_at-at.ensures, choice_fits c.requires.laid.0 c.requires.laid.1)

pub bounds-work-at : goal.bounds-work-at
bounds-work-at c = omega (arith, c.choice_at-at.ensures, choice_fits c.requires.laid.0 c.requires.laid.1)

pub overflow_add-work : goal.overflow_add-work
overflow_add-work c =
    omega (arith, c.choice_at-at.ensures, choice_fits c.requires.laid.0 c.requires.laid.1)

pub offset_bounds-work-at-2 : goal.offset_bounds-work-at-2
offset_bounds-work-at-2 c =
    omega (arith, c.choice_at-at.ensures, choice_fits c.requires.laid.0 c.requires.laid.1)

pub bounds-work-at-2 : goal.bounds-work-at-2
bounds-work-at-2 c =
    simp length-set (omega (arith, c.choice_at-at.ensures, choice_fits c.requires.laid.0 c.requires.laid.1))

pub overflow_add-at : goal.overflow_add-at
overflow_add-at c =
    omega (arith, c.choice_at-at.ensures, choice_fits c.requires.laid.0 c.requires.laid.1)

pub copy-requires : goal.copy-requires
copy-requires c =
    let fits = choice_fits c.requires.laid.0 c.requires.laid.1 in
    (simp length-set (omega (arith, c.choice_at-at.ensures)), simp length-set (omega (arith, c.choice_at-at.ensures)), inl (omega (arith, c.choice_at-at.ensures)))

pub shape_of-work : goal.shape_of-work
shape_of-work c = simp length-set at c.copy.auto.work

pub returns : goal.returns
returns c =
    stored _ _ _ _ _ c.requires.laid.0 c.requires.laid.1 (simp length-set at c.copy.auto.work)
    (rw c.choice_at-at.ensures at c.copy.ensures)
