-- Each move does what its arm says.
use mathlib.Core.Path.{◌≡◌, subst}
use native.Mathlib.Omega.{arith}
use Rattle.running_moves.specs.Chosen.{Ranged}
use Rattle.running_moves.specs.declared.Move.{Move}
use Rattle.second.specs.Held.{Ahead}
use Rattle.second.specs.Choices.{keys_small}
use Rattle.second.specs.Moves.{as_move, own_fits, does_win, does_eat, does_on, does_write, does_wipe, does_both}
use Rattle.second.proofs.follow.Goals.{Start}
use Rattle.second.proofs.follow.Goals as goal

-- What is known of the move that is told.
module _ (start : Start) {mv : Move} (e : start.args.mv ≡ mv) where
  ranged : Ranged start.args.layout.rows start.args.layout.width mv
  ranged = subst (Ranged start.args.layout.rows start.args.layout.width) e start.requires.ranged.0

  ahead : Ahead start.args.trial.position start.args.layout.length mv
  ahead = subst (Ahead start.args.trial.position start.args.layout.length) e start.requires.ranged.1

pub store-requires : goal.store-requires
store-requires c =
    let low = ranged (goal.at.store-requires c).Start c.in-Both.is in
    record { laid = (c.requires.going.0.laid, c.requires.going.1); key_lt_word_limit = (omega (arith, low.1, keys_small c.requires.going.0.laid), omega (arith, c.requires.going.0.position, c.requires.going.0.laid.short)) }

pub overflow_add-work : goal.overflow_add-work
overflow_add-work c =
    omega (arith, own_fits c.requires.going.0, (ranged (goal.at.overflow_add-work c).Start c.in-Write.is).0)

pub offset_bounds-work-layout : goal.offset_bounds-work-layout
offset_bounds-work-layout c =
    omega (arith, own_fits c.requires.going.0, (ranged (goal.at.offset_bounds-work-layout c).Start c.in-Write.is).0)

pub bounds-work-layout : goal.bounds-work-layout
bounds-work-layout c =
    omega (arith, own_fits c.requires.going.0, (ranged (goal.at.bounds-work-layout c).Start c.in-Write.is).0)

pub wipe-requires : goal.wipe-requires
wipe-requires c =
    (own_fits c.requires.going.0, (ranged (goal.at.wipe-requires c).Start c.in-Wipe.is).1)

pub returns-in-Win : goal.returns-in-Win
returns-in-Win c = as_move c.in-Win.is (does_win c.requires.going.0)

pub returns-in-Lose : goal.returns-in-Lose
returns-in-Lose c =
    as_move c.in-Lose.is c.back.ensures

pub returns-in-Eat : goal.returns-in-Eat
returns-in-Eat c =
    as_move c.in-Eat.is (does_eat c.requires.going.0 (ranged (goal.at.returns-in-Eat c).Start c.in-Eat.is) (ahead (goal.at.returns-in-Eat c).Start c.in-Eat.is))

pub returns-in-On : goal.returns-in-On
returns-in-On c =
    as_move c.in-On.is (does_on c.requires.going.0 (ranged (goal.at.returns-in-On c).Start c.in-On.is))

pub returns-in-Both : goal.returns-in-Both
returns-in-Both c =
    let low = ranged (goal.at.returns-in-Both c).Start c.in-Both.is in
    as_move c.in-Both.is (does_both c.requires.going.0 c.requires.going.1 c.store.auto.work low.0 low.1 c.store.ensures)

pub returns-in-Write : goal.returns-in-Write
returns-in-Write c =
    let low = ranged (goal.at.returns-in-Write c).Start c.in-Write.is in
    as_move c.in-Write.is (does_write c.requires.going.0 low.0 low.1)

pub returns-in-Wipe : goal.returns-in-Wipe
returns-in-Wipe c =
    as_move c.in-Wipe.is (does_wipe c.requires.going.0 c.wipe.auto.work (ranged (goal.at.returns-in-Wipe c).Start c.in-Wipe.is).2 c.wipe.ensures)
