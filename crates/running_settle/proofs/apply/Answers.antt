-- Each move does what its function says.
use mathlib.Core.Path.{◌≡◌, refl, subst}
use native.Mathlib.Omega.{arith}
use Rattle.running_moves.specs.Chosen.{Ranged}
use Rattle.running_moves.specs.declared.Move.{Move}
use Rattle.running_moves.specs.declared.Move.TheVariants.{On, Both, Write, Wipe}
use Rattle.running_settle.specs.Apply.{does_win, does_lose, goes, as_move}
use Rattle.running_settle.proofs.apply.Goals.{Start}
use Rattle.running_settle.proofs.apply.Goals as goal

ranged : (start : Start) {mv : Move} → start.args.mv ≡ mv
    → Ranged start.args.plan.rows start.args.plan.width mv
ranged start e = subst (Ranged start.args.plan.rows start.args.plan.width) e start.requires.1

-- What each function requires.
pub eat-requires : goal.eat-requires
eat-requires c =
    (c.requires.0, ranged (goal.at.eat-requires c).Start c.in-Eat.is)

pub go_on-requires : goal.go_on-requires
go_on-requires c =
    (c.requires.0.room, ranged (goal.at.go_on-requires c).Start c.in-On.is)

pub go_both-requires : goal.go_both-requires
go_both-requires c =
    (c.requires.0.room, ranged (goal.at.go_both-requires c).Start c.in-Both.is)

pub write_on-requires : goal.write_on-requires
write_on-requires c =
    record { room = (c.requires.0.room, ranged (goal.at.write_on-requires c).Start c.in-Write.is); position_lt_position_limit = omega (arith, c.requires.0.laid.place) }

pub wipe_on-requires : goal.wipe_on-requires
wipe_on-requires c =
    (c.requires.0.room, ranged (goal.at.wipe_on-requires c).Start c.in-Wipe.is)

-- What it leaves.
pub returns-in-Win : goal.returns-in-Win
returns-in-Win c = as_move c.in-Win.is (does_win c.requires.0)

pub returns-in-Lose : goal.returns-in-Lose
returns-in-Lose c = as_move c.in-Lose.is (does_lose c.requires.0)

pub returns-in-Eat : goal.returns-in-Eat
returns-in-Eat c =
    as_move c.in-Eat.is c.eat.ensures

pub returns-in-On : goal.returns-in-On
returns-in-On c =
    as_move c.in-On.is (goes c.requires.0 (On _) refl refl c.go_on.auto.work c.go_on.ensures)

pub returns-in-Both : goal.returns-in-Both
returns-in-Both c =
    as_move c.in-Both.is (goes c.requires.0 (Both _ _) refl refl c.go_both.auto.work c.go_both.ensures)

pub returns-in-Write : goal.returns-in-Write
returns-in-Write c =
    as_move c.in-Write.is (goes c.requires.0 (Write _ _) refl refl c.write_on.auto.work c.write_on.ensures)

pub returns-in-Wipe : goal.returns-in-Wipe
returns-in-Wipe c =
    as_move c.in-Wipe.is (goes c.requires.0 (Wipe _ _ _) refl refl c.wipe_on.auto.work c.wipe_on.ensures)
