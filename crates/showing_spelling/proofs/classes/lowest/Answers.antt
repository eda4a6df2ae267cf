use Rattle.std.proofs.Common.{◌≡◌, ◌+◌, false, sym, ap, ◌∙◌, arith}
use Rattle.sets.specs.Sets.{has}
use borrow.Author.Count.{below_more}
use Rattle.showing_spelling.specs.Texts.{lowest_found, lowest_none}
use Rattle.showing_spelling.proofs.classes.lowest.Goals as goal

pub returns-then-has : goal.returns-then-has
returns-then-has c =
    sym (lowest_found (has c.args.set) 256 c.loop-b.b 256 (omega arith) c.loop-b.invariant
    (ap (has c.args.set) (sym c.from.ensures) ∙ sym c.if-has.ensures))

pub returns-else-has : goal.returns-else-has
returns-else-has c =
    let last : c.loop-b.b + 1 ≡ 256 = omega arith in
    sym (lowest_none (has c.args.set) 256 256
    (rw last at (below_more (λ k. has c.args.set k ≡ false) c.loop-b.b c.loop-b.invariant
    (ap (has c.args.set) (sym c.from.ensures) ∙ sym c.if-has.ensures))))
