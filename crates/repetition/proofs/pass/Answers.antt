use mathlib.Core.Path.{◌≡◌, ◌∙◌}
use mathlib.Core.Bool.{true}
use mathlib.Core.List.{[], ◌∷◌}
use Prim.Native.Nat.{◌+◌, ◌≤◌, ◌<◌}
use native.Mathlib.Omega.{arith}
use borrow.Author.Tests.{not-false, not-true}
use lib.ListN.{length, get_or}
use Rattle.meaning.specs.Text.{Regs}
use Rattle.meaning.specs.Limits.{workspace_words, position_limit, row_limit, group_limit}
use Rattle.machine.specs.Words.{rows_said, groups_said}
use Rattle.machine.proofs.Repeated.{next_beyond}
use Rattle.running_threads.specs.Threads.{reg_of}
use Rattle.engine.specs.Laws.{words_few as few_words}
use Rattle.repetition.specs.Laws.{course_first, course_next, course_past, course_missed, Hit, hit_found}
use Rattle.repetition.specs.Laws.{words_inside, words_fit, count_fits}
use Rattle.repetition.proofs.pass.Goals.{After-run-ran, At-loop-at, Else-not-ran}
use Rattle.repetition.proofs.pass.Goals as goal

-- The workspace has room at each turn.
room : (c : At-loop-at) → workspace_words (rows_said c.args.code.now) (groups_said c.args.code.now) ≤ length c.loop-at.work
room c = omega (arith, c.requires.code_in_bounds, c.loop-at.invariant.work_long)

-- A run that found a match.
hit : (c : After-run-ran) → c.run-ran.result.found ≡ true
    → Hit c.args.code.now c.args.text.now c.loop-at.at c.loop-at.work
    c.run-ran.new.work c.run-ran.result
hit c e = record {
  ran_as = c.run-ran.ensures;
  hit = e;
  inside = c.loop-at-test.true;
  long = c.run-ran.auto.work;
  room = room (goal.at.After-run-ran c).At-loop-at;
}

module _ (c : Else-not-ran) where
  goes : Hit c.args.code.now c.args.text.now c.loop-at.at c.loop-at.work
      c.run-ran.new.work c.run-ran.result
  goes = hit (goal.at.Else-not-ran c).After-run-ran (not-false _ c.if-not-ran.false)

  fits : (c.loop-at.filled + c.run-ran.result.width < position_limit) × (c.loop-at.matches < position_limit)
  fits =
      let f = words_fit c.loop-at.invariant c.requires.ready.0 c.requires.ready.1 goes.inside _ (hit_found goes) in
      (omega (arith, f.0, c.run-ran.ensures.width), f.1)

  -- The registers by which the next start goes.
  abbrev pair : Regs
  pair =
      reg_of (get_or c.run-ran.new.work c.run-ran.result.best 0) ∷ reg_of (get_or c.run-ran.new.work (c.run-ran.result.best + 1) 0) ∷ []

  two : 2 ≤ c.run-ran.result.width
  two = omega (arith, c.run-ran.ensures.width)

  words_few : c.run-ran.result.best + c.run-ran.result.width ≤ workspace_words row_limit group_limit
  words_few =
      omega (arith, c.run-ran.ensures.within, few_words _ _ c.requires.ready.0.most c.requires.ready.0.groups)

pub loop-at-init : goal.loop-at-init
loop-at-init c = course_first _ _ _ _ _

pub run-ran-requires : goal.run-ran-requires
run-ran-requires c =
    record { ready = (c.requires.ready.0, omega (arith, c.requires.ready.0.least)); start_in_bounds = (c.loop-at-test.true, omega (arith, c.requires.ready.1)); code_in_bounds = room (goal.at.run-ran-requires c).At-loop-at }

pub overflow_add-count : goal.overflow_add-count
overflow_add-count c =
    omega (
      arith,
      c.run-ran.ensures.count,
      count_fits c.loop-at.invariant c.requires.ready.0 c.requires.ready.1 c.loop-at-test.true,
    )

pub shape_of-work-then-not-ran : goal.shape_of-work-then-not-ran
shape_of-work-then-not-ran c =
    c.run-ran.auto.work ∙ c.loop-at.invariant.work_long

pub returns-then-not-ran : goal.returns-then-not-ran
returns-then-not-ran c =
    course_missed c.loop-at.invariant c.loop-at-test.true c.run-ran.ensures (not-true _ c.if-not-ran.true)

pub put-requires : goal.put-requires
put-requires c = (words_inside (goes (goal.at.put-requires c).Else-not-ran), (fits (goal.at.put-requires c).Else-not-ran).0)

pub overflow_add-filled : goal.overflow_add-filled
overflow_add-filled c = omega (arith, (fits (goal.at.overflow_add-filled c).Else-not-ran).0)

pub overflow_add-matches : goal.overflow_add-matches
overflow_add-matches c = omega (arith, (fits (goal.at.overflow_add-matches c).Else-not-ran).1)

pub offset_bounds-work-ran : goal.offset_bounds-work-ran
offset_bounds-work-ran c = omega (arith, words_few (goal.at.offset_bounds-work-ran c).Else-not-ran)

pub bounds-work-ran : goal.bounds-work-ran
bounds-work-ran c = omega (arith, words_inside (goes (goal.at.bounds-work-ran c).Else-not-ran), two (goal.at.bounds-work-ran c).Else-not-ran)

pub overflow_add-ran : goal.overflow_add-ran
overflow_add-ran c = omega (arith, words_few (goal.at.overflow_add-ran c).Else-not-ran)

pub offset_bounds-work-ran-in-loop-at : goal.offset_bounds-work-ran-in-loop-at
offset_bounds-work-ran-in-loop-at c = omega (arith, words_few (goal.at.offset_bounds-work-ran-in-loop-at c).Else-not-ran)

pub bounds-work-ran-in-loop-at : goal.bounds-work-ran-in-loop-at
bounds-work-ran-in-loop-at c = omega (arith, words_inside (goes (goal.at.bounds-work-ran-in-loop-at c).Else-not-ran), two (goal.at.bounds-work-ran-in-loop-at c).Else-not-ran)

pub next_start-at-requires : goal.next_start-at-requires
next_start-at-requires c =
    omega (arith, (goes (goal.at.next_start-at-requires c).Else-not-ran).inside, c.requires.ready.1)

pub loop-at-smaller : goal.loop-at-smaller
loop-at-smaller c =
    omega (arith, (goes (goal.at.loop-at-smaller c).Else-not-ran).inside, c.next_start-at.ensures, next_beyond c.loop-at.at (pair (goal.at.loop-at-smaller c).Else-not-ran))

pub loop-at-preserved : goal.loop-at-preserved
loop-at-preserved c =
    course_next (goes (goal.at.loop-at-preserved c).Else-not-ran) c.loop-at.invariant c.put.auto.list c.put.ensures
    c.next_start-at.ensures

pub shape_of-list-then-not-ran : goal.shape_of-list-then-not-ran
shape_of-list-then-not-ran c = c.loop-at.invariant.list_long

pub shape_of-list : goal.shape_of-list
shape_of-list c = c.loop-at.invariant.list_long

pub shape_of-work : goal.shape_of-work
shape_of-work c = c.loop-at.invariant.work_long

pub returns : goal.returns
returns c = course_past c.loop-at.invariant c.loop-at-test.false
