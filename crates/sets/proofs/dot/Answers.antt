-- The complement of one byte more than one.
use mathlib.Core.Path.{ap}
use mathlib.Core.Bool.{not}
use Rattle.sets.specs.Sets.{is_dot}
use Rattle.sets.specs.Laws.{holds_to, holds_more}
use Rattle.sets.proofs.dot.Goals as goal

pub returns : goal.returns
unfolding is_dot
returns c =
    let ends = holds_more 0x0D c.one.ensures c.with.ensures in
    holds_to c.complement.ensures (λ x h. ap not (ends.bytes x h))
