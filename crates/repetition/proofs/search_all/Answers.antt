-- Turned away; listed in one pass; too short; and listed after the matches were counted.
use mathlib.Core.Path.{◌≡◌, refl, sym, ap, ap₂, ◌∙◌}
use mathlib.Core.List.{◌++◌}
use Prim.Native.Nat.{◌≤◌, ◌+◌, ◌*◌, ◌-◌}
use native.Mathlib.Omega.{arith}
use Rattle.std.proofs.lemmas.Result.{err_from_is_err_and}
use Rattle.engine.specs.Turned.{some_number}
use lib.ListN.{length}
use Rattle.meaning.specs.Limits.{text_limit, group_limit}
use Rattle.meaning.specs.Text.{registers_of}
use Rattle.machine.specs.Words.{groups_said}
use Rattle.machine.specs.Allowed.{Allowed, allowed}
use Rattle.machine.specs.Replies.{lend}
use Rattle.machine.specs.Repetition.{repetition}
use Rattle.running_moves.specs.Ready.{Ready, ready}
use Rattle.repetition.specs.Listings.{words_of, repetition_refusal}
use Rattle.repetition.specs.Listed.{same_refusal, words_most, most_fits, refused_lists, listed_lists, short_lists}
use Rattle.repetition.specs.Listed.{nothing_before}
use Rattle.repetition.proofs.search_all.Goals.{After-pass-counted, In_ok-turned_away}
use Rattle.repetition.proofs.search_all.Goals as goal

-- What is known of a call that is not turned away.
module _ (c : In_ok-turned_away) where
  why : repetition_refusal c.args.code.now c.args.text.now c.args.start
      (length c.args.workspace.now) ≡ 0
  why = sym (same_refusal _ _ _ _) ∙ sym c.in_ok-turned_away.ensures

  allows : Allowed c.args.code.now (lend c.args.text.now c.args.start (registers_of group_limit)
      (length c.args.workspace.now))
  allows = allowed _ _ (sym c.in_ok-turned_away.ensures)

  able : Ready c.args.code.now
  able = ready _ allows.passes

-- The words of a match, once they are known.
module _ (c : In_ok-turned_away) where
  width : 2 * (groups_said c.args.code.now + 1) ≡ registers_of (groups_said c.args.code.now)
  width = refl

  most : (length c.args.text.now - c.args.start + 1)
      * registers_of (groups_said c.args.code.now) ≤ (text_limit + 1) * registers_of group_limit
  most = most_fits c.args.text.now c.args.start (able c) (allows c).short

-- What is known once the matches are counted.
module _ (c : After-pass-counted) where
  -- The list stays, as the pass had no part of it; and what is needed is what the matches fill.
  same-list : c.pass-counted.new.list ++ c.args.list.now ≡ c.args.list.now
  same-list = nothing_before c.pass-counted.new.list c.args.list.now c.pass-counted.auto.list

  needed-is : c.pass-counted.result.matches * (2 * (groups_said c.args.code.now + 1)) ≡ words_of c.args.code.now
      (repetition c.args.code.now c.args.text.now c.args.start)
  needed-is = ap₂ ◌*◌ c.pass-counted.ensures.matches (width (goal.at.After-pass-counted c).In_ok-turned_away)

pub returns-in_err-turned_away : goal.returns-in_err-turned_away
returns-in_err-turned_away c =
    let p = err_from_is_err_and c.from_residual.result c.from_residual.ensures.1 in
    rw (p.1, p.2) (refused_lists _ _ _ _ _ _ c.in_err-turned_away.ensures (some_number _))

pub bounds-code-1 : goal.bounds-code-1
bounds-code-1 c = omega (arith, (able (goal.at.bounds-code-1 c).In_ok-turned_away).size)

pub overflow_sub-text : goal.overflow_sub-text
overflow_sub-text c = (allows (goal.at.overflow_sub-text c).In_ok-turned_away).inside

pub overflow_mul-text : goal.overflow_mul-text
overflow_mul-text c =
    let at = (goal.at.overflow_mul-text c).In_ok-turned_away in rw (width at) (omega (arith, most at))

pub pass-requires : goal.pass-requires
pass-requires c = record { ready = (able (goal.at.pass-requires c).In_ok-turned_away, (allows (goal.at.pass-requires c).In_ok-turned_away).short); code_in_bounds = (allows (goal.at.pass-requires c).In_ok-turned_away).room }

pub returns-then-text-start : goal.returns-then-text-start
returns-then-text-start c =
    let enough = rw (width (goal.at.returns-then-text-start c).In_ok-turned_away) at c.if-text-start.true in
    (listed_lists _ _ _ _ _ (why (goal.at.returns-then-text-start c).In_ok-turned_away) c.pass.auto.work (λ j h. refl) c.pass.ensures refl
    (omega (arith, words_most c.args.code.now c.args.text.now c.args.start, enough)))

pub pass-counted-requires : goal.pass-counted-requires
pass-counted-requires c = record { ready = (able (goal.at.pass-counted-requires c).In_ok-turned_away, (allows (goal.at.pass-counted-requires c).In_ok-turned_away).short); code_in_bounds = (allows (goal.at.pass-counted-requires c).In_ok-turned_away).room }

pub overflow_mul-needed : goal.overflow_mul-needed
overflow_mul-needed c =
    omega (
      arith,
      needed-is (goal.at.overflow_mul-needed c).After-pass-counted,
      most (goal.at.overflow_mul-needed c).In_ok-turned_away,
      words_most c.args.code.now c.args.text.now c.args.start,
    )

pub returns-then-list-needed : goal.returns-then-list-needed
returns-then-list-needed c =
    short_lists _ _ _ _ _ (why (goal.at.returns-then-list-needed c).In_ok-turned_away) c.pass-counted.auto.work (λ j h. refl) c.pass-counted.ensures
    (ap (λ n. c.pass-counted.result.matches * n) (width (goal.at.returns-then-list-needed c).In_ok-turned_away))
    (omega (arith, c.if-list-needed.true, ap length (same-list (goal.at.returns-then-list-needed c).After-pass-counted))) (same-list (goal.at.returns-then-list-needed c).After-pass-counted)

pub pass-requires-2 : goal.pass-requires-2
pass-requires-2 c =
    record { ready = (able (goal.at.pass-requires-2 c).In_ok-turned_away, (allows (goal.at.pass-requires-2 c).In_ok-turned_away).short); code_in_bounds = omega (arith, (allows (goal.at.pass-requires-2 c).In_ok-turned_away).room, c.pass-counted.auto.work) }

pub returns : goal.returns
returns c =
    (listed_lists _ _ _ _ _ (why (goal.at.returns c).In_ok-turned_away) (c.pass-2.auto.work ∙ c.pass-counted.auto.work)
    c.pass-counted.ensures.tail c.pass-2.ensures (same-list (goal.at.returns c).After-pass-counted)
    (omega (arith, c.if-list-needed.false, needed-is (goal.at.returns c).After-pass-counted, ap length (same-list (goal.at.returns c).After-pass-counted))))
