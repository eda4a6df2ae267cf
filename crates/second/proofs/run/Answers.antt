use Prim.Native.Nat.{ℕ, ◌+◌, ◌*◌, ◌<◌, ◌≤◌}
use mathlib.Core.Path.{◌≡◌, ◌∙◌, ap}
use native.Mathlib.Omega.{arith}
use lib.ListN.{length, get_or}
use Rattle.meaning.specs.Limits.{word_limit}
use Rattle.second.specs.Held.{going_of, found_of, choice_at, Laid}
use Rattle.second.specs.Choices.{choice_order, keys_small}
use Rattle.second.specs.Laws.{only_won}
use Rattle.second.specs.Course.{Begins, course_first, first_tail, course_next, last_found, last_none}
use Rattle.second.proofs.run.Goals.{After-slice_known-3-1, Start}
use Rattle.second.proofs.run.Goals as goal

-- What is known at the start.
module _ (c : Start) where
  begins : Begins c.args.code.now c.args.text.now c.args.layout c.args.start c.args.row
  begins = record { ready = c.requires.ready.0; serves = c.requires.ready.1; within = c.requires.start_in_bounds.0; low = c.requires.start_in_bounds.1 }

  laid : Laid c.args.layout (length c.args.work.now)
  laid = c.requires.ready.2

  fits : c.args.layout.marks + c.args.layout.width ≤ length c.args.work.now
  fits = omega (arith, choice_order c.args.layout 0 c.args.layout.marks (omega arith), laid.room)

-- Where the loop begins.
module _ (c : After-slice_known-3-1) where
  same : length c.spread-2.new.work ≡ length c.args.work.now
  same = c.spread-2.auto.work ∙ c.spread.auto.work

  low : c.args.row * 2 + 2 < word_limit + 2
  low = let b = begins (goal.at.After-slice_known-3-1 c).Start in omega (arith, b.low, b.serves.rows, keys_small (laid (goal.at.After-slice_known-3-1 c).Start))

  tail : (i : ℕ) → choice_at c.args.layout c.args.layout.marks ≤ i
      → get_or c.spread-2.new.work i 0 ≡ get_or c.args.work.now i 0
  tail = first_tail c.args.layout c.spread.ensures c.spread-2.ensures

pub spread-requires : goal.spread-requires
spread-requires c = omega (arith, fits (goal.at.spread-requires c).Start)

pub spread-requires-2 : goal.spread-requires-2
spread-requires-2 c =
    omega (arith, fits (goal.at.spread-requires-2 c).Start, c.spread.auto.work)

pub overflow_mul-trial : goal.overflow_mul-trial
overflow_mul-trial c = omega (arith, low c)

pub overflow_add-trial : goal.overflow_add-trial
overflow_add-trial c = omega (arith, low c)

pub loop-trial-init : goal.loop-trial-init
loop-trial-init c =
    course_first (begins (goal.at.loop-trial-init c).Start) (laid (goal.at.loop-trial-init c).Start) c.spread.auto.work c.spread.ensures
    c.spread-2.auto.work c.spread-2.ensures

pub attempt-next-requires : goal.attempt-next-requires
attempt-next-requires c =
    let b = begins (goal.at.attempt-next-requires c).Start in
    record { ready = (b.ready, b.serves); standing = (c.loop-trial.invariant.stands, ap going_of c.in-Runs.is) }

pub loop-trial-smaller : goal.loop-trial-smaller
loop-trial-smaller c = c.attempt-next.ensures.less

pub loop-trial-preserved : goal.loop-trial-preserved
loop-trial-preserved c =
    course_next c.loop-trial.invariant c.attempt-next.auto.work c.attempt-next.ensures

pub spread-requires-in-Ended : goal.spread-requires-in-Ended
spread-requires-in-Ended c =
    omega (arith, fits (goal.at.spread-requires-in-Ended c).Start, c.loop-trial.invariant.long, same (goal.at.spread-requires-in-Ended c).After-slice_known-3-1)

pub returns-in-Ended : goal.returns-in-Ended
returns-in-Ended c =
    last_none (begins (goal.at.returns-in-Ended c).Start) c.loop-trial.invariant (ap going_of c.in-Ended.is) (tail (goal.at.returns-in-Ended c).After-slice_known-3-1)
    (ap found_of c.in-Ended.is) c.spread-in-Ended.auto.work c.spread-in-Ended.ensures

pub returns-in_default-state : goal.returns-in_default-state
returns-in_default-state c =
    let won = only_won _ c.in_default.not-Runs c.in_default-state.not-Ended in
    last_found (begins (goal.at.returns-in_default-state c).Start) c.loop-trial.invariant (ap going_of won) (tail (goal.at.returns-in_default-state c).After-slice_known-3-1)
    (ap found_of won)
