-- The newest choice goes on, or the search has ended.
use mathlib.Core.Path.{refl}
use Prim.Native.Nat.{◌+◌, ◌-◌, ◌<◌, ◌≤◌}
use mathlib.Core.Logic.{inr}
use native.Mathlib.Omega.{arith}
use lib.ListN.{length}
use Rattle.second.specs.Choices.{choice_order, choice_fits, choice_small}
use Rattle.second.specs.Moves.{does_end, does_back}
use Rattle.second.proofs.back.Goals.{After-choice_at-at}
use Rattle.second.proofs.back.Goals as goal

-- Where the newest choice lies.
module _ (c : After-choice_at-at) where
  fits : c.choice_at-at.result + (c.args.layout.width + 2) ≤ length c.args.work.now
  fits =
      let h : c.args.trial.stored - 1 < c.args.layout.marks = omega (arith, c.requires.few, c.if-trial-eq0.false) in
      omega (arith, c.choice_at-at.ensures, choice_fits c.requires.laid h)

pub returns-then-trial-eq0 : goal.returns-then-trial-eq0
returns-then-trial-eq0 c = does_end c.requires c.if-trial-eq0.true

pub choice_at-at-requires : goal.choice_at-at-requires
choice_at-at-requires c = choice_small c.requires.laid (omega (arith, c.requires.few))

pub copy-requires : goal.copy-requires
copy-requires c =
    let order = choice_order c.args.layout 0 (c.args.trial.stored - 1) (omega arith) in (
      omega (arith, fits (goal.at.copy-requires c).After-choice_at-at),
      omega (arith, fits (goal.at.copy-requires c).After-choice_at-at, c.choice_at-at.ensures, order),
      inr (omega (arith, c.choice_at-at.ensures, order)),
    )

pub returns : goal.returns
returns c =
    does_back c.requires (c.args.trial.stored - 1) _ _
    (omega (arith, c.if-trial-eq0.false)) c.copy.auto.work (rw c.choice_at-at.ensures refl)
    (rw c.choice_at-at.ensures refl) (rw c.choice_at-at.ensures at c.copy.ensures)

pub bounds-work-at : goal.bounds-work-at
bounds-work-at c = omega (arith, fits (goal.at.bounds-work-at c).After-choice_at-at)

pub overflow_add-at : goal.overflow_add-at
overflow_add-at c = omega (arith, fits (goal.at.overflow_add-at c).After-choice_at-at)

pub bounds-work-at-2 : goal.bounds-work-at-2
bounds-work-at-2 c = omega (arith, fits (goal.at.bounds-work-at-2 c).After-choice_at-at)

pub offset_bounds-work-at : goal.offset_bounds-work-at
offset_bounds-work-at c = omega (arith, fits (goal.at.offset_bounds-work-at c).After-choice_at-at)

pub offset_bounds-work-at-2 : goal.offset_bounds-work-at-2
offset_bounds-work-at-2 c = omega (arith, fits (goal.at.offset_bounds-work-at-2 c).After-choice_at-at)
