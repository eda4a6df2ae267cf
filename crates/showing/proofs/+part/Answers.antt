use Rattle.std.proofs.Common.{◌≡◌, refl, List, ap, ◌∙◌, true, false, not, ◌&&◌, ℕ, ◌+◌, ◌-◌, ◌<◌, eqb, ltb, eq-eqb, ne_eqb, arith}
use Rattle.std.proofs.lemmas.Bool.Decides.{nat_tests}
use Rattle.table.specs.Table.{alternation_kind}
use Rattle.table.specs.Stands.{SomePart}
use Rattle.table.specs.Roots.{some_records, few_records_lem}
use Rattle.showing.specs.Rows as spec
use Rattle.showing.specs.Writes.{passing_none, passing_turn, passing_done, leaf_done, operand_low}
use Rattle.showing.proofs.+part.Goals.{then-kind-eq-ALTERNATION, else-kind-eq-ALTERNATION}
use Rattle.showing.proofs.+part.Goals as goal

-- A part has a record.
held : {table : List ℕ} {top : ℕ} → SomePart table top → 0 < top
held s = omega (arith, some_records s.ends, few_records_lem s.ends)

-- Some are passed when fewer are left.
some_passed : (items passed : ℕ) → passed < items → ltb 0 passed ≡ not (eqb (items - passed) items)
some_passed items passed h = grind (arith, nat_tests)

pub word-kind-requires : goal.word-kind-requires
word-kind-requires t c =
    (held c.requires, omega arith, c.requires.ends.stands.room)

pub put_leaf-requires : goal.put_leaf-requires
put_leaf-requires t c =
    (held c.requires, c.requires.ends.stands.room, operand_low c.requires c.word-kind.ensures)

pub returns-then-kind-le-ASSERTION-clause-writes : goal.returns-then-kind-le-ASSERTION-clause-writes
returns-then-kind-le-ASSERTION-clause-writes t c =
    record { by = λ before q e. leaf_done e c.word-kind.ensures c.if-kind-le-ASSERTION.true c.put_leaf.ensures.put }

pub word-items-requires : goal.word-items-requires
word-items-requires t c =
    (held c.requires, omega arith, c.requires.ends.stands.room)

pub put_close-requires : goal.put_close-requires
put_close-requires t c =
    (held c.requires, c.requires.ends.stands.room)

pub overflow_sub-item : goal.overflow_sub-item
overflow_sub-item t c =
    omega (arith, held c.requires)

pub loop-passed-init : goal.loop-passed-init
loop-passed-init t c = (
  refl,
  λ before q e.
      let all : c.word-items.result - 0 ≡ c.word-items.result = omega arith in
      rw all (passing_none c.word-kind.result _ _ e c.word-items.ensures),
)

pub word-requires : goal.word-requires
word-requires t c =
    let u = passing_turn (c.loop-passed.invariant.1 c.requires.before c.requires.part c.requires.ends) (omega arith) in
    (u.some, omega arith, u.room)

pub part-requires : goal.part-requires
part-requires t c =
    let u = passing_turn (c.loop-passed.invariant.1 c.requires.before c.requires.part c.requires.ends) (omega arith) in
    (omega (arith, c.decreases, u.below), u.there)

pub previous-item-requires : goal.previous-item-requires
previous-item-requires t c =
    let u = passing_turn (c.loop-passed.invariant.1 c.requires.before c.requires.part c.requires.ends) (omega arith) in
    (u.some, u.room, u.within)

pub loop-passed-preserved : goal.loop-passed-preserved
loop-passed-preserved t c =
    let kind = c.word-kind.result in
    let items = c.word-items.result in
    let passed = c.loop-passed.passed in
    let bar : c.if-kind-eq-ALTERNATION.behind ≡ (eqb kind alternation_kind && not (eqb (items - passed) items)) =
    elim c.if-kind-eq-ALTERNATION.branch [
      | then-kind-eq-ALTERNATION w ↦
          let is : eqb kind alternation_kind ≡ true = eq-eqb _ _ w.if-kind-eq-ALTERNATION.true in
          w.behind-is ∙ rw is (some_passed items passed (omega arith))
      | else-kind-eq-ALTERNATION w ↦
          let other : eqb kind alternation_kind ≡ false = ne_eqb _ _ w.if-kind-eq-ALTERNATION.false in
          w.behind-is ∙ rw other
    ] in
    let left : items - (passed + 1) ≡ (items - passed) - 1 = omega arith in
    let same = c.put_opening.ensures.same ∙ c.part.ensures.same ∙ c.put_if-in-loop-passed.ensures.same ∙ c.put_if.ensures.same in (
      same ∙ c.loop-passed.invariant.0,
      λ before q e.
          let u = passing_turn (c.loop-passed.invariant.1 before q e) (omega arith) in
          let wrap = c.wraps-wrap.ensures ∙ ap (λ (k : ℕ). spec.wraps kind k) c.word.ensures in
          rw (left, c.previous-item.ensures)
          (u.on (rw bar at c.put_if.ensures.put) (rw wrap at c.put_if-in-loop-passed.ensures.put) c.part.ensures.writes
          (rw wrap at c.put_opening.ensures.put)),
    )

pub returns-clause-writes : goal.returns-clause-writes
returns-clause-writes t c =
    record {
      by = λ before q e.
          passing_done e c.word-kind.ensures c.if-kind-le-ASSERTION.false (c.loop-passed.invariant.1 before q e) (omega arith)
          c.put_close.ensures.put c.put_if-2.ensures.put;
    }
