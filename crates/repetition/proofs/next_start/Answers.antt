-- The next start is beyond the run's own, and beyond an empty match.
use mathlib.Core.Path.{◌≡◌, sym, ap, ◌∙◌}
use mathlib.Core.Bool.{cond}
use Prim.Native.Nat.{ℕ, ◌+◌, max}
use native.Mathlib.Omega.{arith}
use native.Mathlib.Decide.{dec_lt}
use lib.Dec.{eqb}
use borrow.Author.Tests.{lt-ltb, le-ltb, eq-eqb, ne_eqb}
use Rattle.machine.specs.Repetition.{beyond}
use Rattle.repetition.specs.Laws.{next_nowhere, next_somewhere}
use Rattle.repetition.proofs.next_start.Goals.{then-from-to, else-from-to}
use Rattle.repetition.proofs.next_start.Goals as goal

beyond_max : (start next : ℕ) → max next (start + 1) ≡ beyond start next
beyond_max start next = elim (dec_lt start next) [
  | yes h ↦ rw (lt-ltb start next h) (omega arith)
  | no h ↦ rw (le-ltb start next (omega arith)) (omega arith)
]

pub returns-then-to-ge-POSITION_LIMIT : goal.returns-then-to-ge-POSITION_LIMIT
returns-then-to-ge-POSITION_LIMIT c = sym (next_nowhere c.args.start c.args.from c.args.to c.if-to-ge-POSITION_LIMIT.true)

pub returns : goal.returns
returns c =
    let next : c.if-from-to.next ≡ cond (eqb c.args.from c.args.to) (c.args.to + 1) c.args.to =
    elim c.if-from-to.branch [
      | then-from-to w ↦ w.next-is ∙ rw (eq-eqb c.args.from c.args.to w.if-from-to.true)
      | else-from-to w ↦ w.next-is ∙ rw (ne_eqb c.args.from c.args.to w.if-from-to.false)
    ] in
    c.max.ensures ∙ beyond_max c.args.start c.if-from-to.next ∙ ap (beyond c.args.start) next
    ∙ sym (next_somewhere c.args.start c.args.from c.args.to c.if-to-ge-POSITION_LIMIT.false)
