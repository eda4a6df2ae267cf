-- Each test, both ways.
use Rattle.std.proofs.Common.{sym, arith, rules}
use Rattle.sets.specs.Laws.{formed_of}
use Rattle.showing_form.specs.Stack.{stack_few}
use Rattle.showing_form.specs.Blank.{blank}
use Rattle.showing_form.specs.Closing.{fails_shape, fails_few, fails_order, fails_told, items_there, some_made, closes_one}
use Rattle.showing_form.proofs.closes.Goals as goal

pub returns-then-not-shaped-clause-exact : goal.returns-then-not-shaped-clause-exact
returns-then-not-shaped-clause-exact c =
    let k = c.word-kind in
    let o = c.word-operand in
    let n = c.word-items in
    let l = c.last_words-last in
    record {
      passed = λ h. absurd (omega arith);
      failed = λ z list s on.
          fails_shape c.requires.1 k.result o.result n.result l.result k.ensures o.ensures n.ensures l.ensures s on
          (sym c.if-not-shaped.ensures);
    }

pub returns-then-count-items-clause-exact : goal.returns-then-count-items-clause-exact
returns-then-count-items-clause-exact c =
    let k = c.word-kind in
    let o = c.word-operand in
    let n = c.word-items in
    let l = c.last_words-last in
    record {
      passed = λ h. absurd (omega arith);
      failed = λ z list s on.
          fails_few c.requires.1 k.result o.result n.result l.result k.ensures o.ensures n.ensures l.ensures s on
          c.if-count-items.true;
    }

pub ordered-requires : goal.ordered-requires
ordered-requires c =
    let k = c.word-kind in
    let o = c.word-operand in
    let n = c.word-items in
    let l = c.last_words-last in
    items_there c.requires.1 k.result o.result n.result l.result k.ensures o.ensures n.ensures l.ensures c.requires.0.is
    c.if-count-items.false

pub returns-then-not-ordered-clause-exact : goal.returns-then-not-ordered-clause-exact
returns-then-not-ordered-clause-exact c =
    let k = c.word-kind in
    let o = c.word-operand in
    let n = c.word-items in
    let l = c.last_words-last in
    record {
      passed = λ h. absurd (omega arith);
      failed = λ z list s on.
          fails_order c.requires.1 k.result o.result n.result l.result k.ensures o.ensures n.ensures l.ensures s on
          c.if-not-ordered.ensures;
    }

pub derive-d-requires : goal.derive-d-requires
derive-d-requires c =
    let k = c.word-kind in
    let o = c.word-operand in
    let n = c.word-items in
    let l = c.last_words-last in
    some_made c.requires.1 k.result o.result n.result l.result k.ensures o.ensures n.ensures l.ensures c.requires.0.is
    c.if-count-items.false (search (rules, formed_of)) blank (sym c.if-not-shaped.ensures) c.if-not-ordered.ensures c.requires.2

pub returns-then-not-derived_told-clause-exact : goal.returns-then-not-derived_told-clause-exact
returns-then-not-derived_told-clause-exact c =
    let k = c.word-kind in
    let o = c.word-operand in
    let n = c.word-items in
    let l = c.last_words-last in
    record {
      passed = λ h. absurd (omega arith);
      failed = λ z list s on.
          fails_told c.requires.1 k.result o.result n.result l.result k.ensures o.ensures n.ensures l.ensures s on
          c.derive-d.result c.derive-d.ensures (sym c.if-not-derived_told.ensures);
    }

pub overflow_add-result : goal.overflow_add-result
overflow_add-result c = omega (arith, stack_few c.requires.0)

pub returns-clause-exact : goal.returns-clause-exact
returns-clause-exact c =
    let k = c.word-kind in
    let o = c.word-operand in
    let n = c.word-items in
    let l = c.last_words-last in
    record {
      passed = λ h.
          closes_one c.requires.1 k.result o.result n.result l.result k.ensures o.ensures n.ensures l.ensures c.requires.0.is
          c.if-count-items.false (search (rules, formed_of)) blank (sym c.if-not-shaped.ensures) c.if-not-ordered.ensures
          c.derive-d.result c.derive-d.ensures (sym c.if-not-derived_told.ensures);
      failed = λ z. absurd (omega arith);
    }
