use Rattle.std.proofs.Common.{◌≡◌, Bool, true, false, not, ◌&&◌, sym, ap, ap₂, ◌∙◌, ℕ, ◌+◌, ◌-◌, eqb, eq-eqb, ne_eqb, arith}
use mathlib.Core.Bool.{and-false}
use Rattle.table.specs.Table.{word_of, kind_word, highest_word}
use Rattle.showing_form.specs.Order.{follows, next_of}
use Rattle.showing_form.specs.Shapes.{opens}
use Rattle.showing_form.specs.Stack.{walk_ok}
use Rattle.showing_form.specs.Walked.{walked_none, walked_turn, walked_all, walked_fails}
use Rattle.showing_form.proofs.ordered.Goals.{then-word-not-via-then-word-not, then-word-not-via-else-word-not+then-not-follows}
use Rattle.showing_form.proofs.ordered.Goals as goal

pub loop-init : goal.loop-init
loop-init c = λ before m s.
    let all : c.args.items - 0 ≡ c.args.items = omega arith in
    rw all (walked_none c.barred-not.result s)

pub word-high-requires : goal.word-high-requires
word-high-requires c =
    let t = walked_turn (c.loop.invariant c.requires.before c.requires.list c.requires.series) (omega arith) in
    (t.some, omega arith, t.room)

pub word-requires : goal.word-requires
word-requires c =
    let t = walked_turn (c.loop.invariant c.requires.before c.requires.list c.requires.series) (omega arith) in
    (t.some, omega arith, t.room)

pub word-requires-in-loop : goal.word-requires-in-loop
word-requires-in-loop c =
    let t = walked_turn (c.loop.invariant c.requires.before c.requires.list c.requires.series) (omega arith) in
    (t.some, omega arith, t.room)

pub previous-at-requires : goal.previous-at-requires
previous-at-requires c =
    let t = walked_turn (c.loop.invariant c.requires.before c.requires.list c.requires.series) (omega arith) in
    (t.some, t.room, t.within)

pub returns-then-word-not : goal.returns-then-word-not
returns-then-word-not c =
    let kind = word_of c.args.table.now c.loop.at kind_word in
    let high = word_of c.args.table.now c.loop.at highest_word in
    let may : Bool = not (eqb kind c.barred-not.result) in
    let fails : (may && follows high c.loop.next) ≡ false =
    elim c.then-word-not.branch [
      | then-word-not-via-then-word-not w ↦
          let same : eqb kind c.barred-not.result ≡ true = eq-eqb _ _ (sym c.word.ensures ∙ w.if-word-not.true) in
          rw same
      | then-word-not-via-else-word-not+then-not-follows w ↦
          let apart = ap (λ (n : ℕ). follows n c.loop.next) (sym c.word-high.ensures) ∙ sym w.if-not-follows.ensures in
          ap (λ (t : Bool). may && t) apart ∙ and-false may
    ] in
    record {
      by = λ before m s.
          let t = walked_turn (c.loop.invariant before m s) (omega arith) in
          sym (ap (λ (t : Bool). t && opens c.args.kind c.args.operand (next_of m))
          (ap (λ (b : ℕ). walk_ok b m) (sym c.barred-not.ensures) ∙ walked_fails (rw fails at t.on)));
    }

pub loop-preserved : goal.loop-preserved
loop-preserved c =
    let kind = word_of c.args.table.now c.loop.at kind_word in
    let high = word_of c.args.table.now c.loop.at highest_word in
    let other : eqb kind c.barred-not.result ≡ false = ne_eqb _ _ (λ e. c.if-word-not.false (c.word.ensures ∙ e)) in
    let on : follows high c.loop.next ≡ true =
    ap (λ (n : ℕ). follows n c.loop.next) (sym c.word-high.ensures) ∙ sym c.if-not-follows.ensures in
    let passes : (not (eqb kind c.barred-not.result) && follows high c.loop.next) ≡ true = rw other on in
    let left : c.args.items - (c.loop.counter + 1) ≡ (c.args.items - c.loop.counter) - 1 = omega arith in
    λ before m s.
    let t = walked_turn (c.loop.invariant before m s) (omega arith) in
    rw (left, c.previous-at.ensures, c.lowest_of-next.ensures, c.word-in-loop.ensures, c.word-high.ensures) (rw passes at t.on)

pub returns : goal.returns
returns c = record {
  by = λ before m s.
      let (ok, next) = walked_all (c.loop.invariant before m s) (omega arith) in
      ap₂ ◌&&◌ (ok ∙ ap (λ (b : ℕ). walk_ok b m) c.barred-not.ensures)
      (c.opens.ensures ∙ ap (opens c.args.kind c.args.operand) next);
}
