-- Where the alternative stands is what `leftmost` and `start` tell: it is cut out, and the others are joined again.
use native.Mathlib.Omega.{arith}
use Rattle.std.proofs.Common.{Some}
use Rattle.tidying_fitting.specs.Parts.{Tells}
use Rattle.tidying_fitting.specs.Wants.{wanted_end}
use Rattle.tidying_rewriting.specs.Rewriting.{within}
use Rattle.tidying_rewriting.proofs.Dropped.{DropAt, drop_some, drop_there, drop_at, drops}
use Rattle.tidying_rewriting.proofs.drop_alternative.Goals.{After-unwrap-end, After-start-from}
use Rattle.tidying_rewriting.proofs.drop_alternative.Goals as goal

-- Where it ends.
end : (c : After-unwrap-end) → Tells (Some c.unwrap-end.result) c.args.table.now c.args.top (wanted_end c.args.sought c.args.top)
end c = rw c.unwrap-end.ensures at c.leftmost.ensures

-- Where it stands.
at : (c : After-start-from) → DropAt c.args.sought c.args.n c.args.top c.requires.node c.requires.result c.requires.left
    c.unwrap-end.result c.start-from.result c.word-items.result
at c =
    drop_at c.args.sought c.requires.fitting (rw c.unwrap-end.ensures at c.leftmost.ensures) c.start-from.ensures
    c.word-items.ensures

pub word-items-requires : goal.word-items-requires
word-items-requires c = omega (arith, within c.requires.fitting.placed)

pub unwrap-end-requires : goal.unwrap-end-requires
unwrap-end-requires c = drop_some c.args.sought c.requires.fitting c.leftmost.ensures

pub start-from-requires : goal.start-from-requires
start-from-requires c = drop_there c.args.sought c.requires.fitting (end (goal.at.start-from-requires c).After-unwrap-end)

pub overflow_sub-end : goal.overflow_sub-end
overflow_sub-end c = (at (goal.at.overflow_sub-end c).After-start-from).order

pub cut-count-requires : goal.cut-count-requires
cut-count-requires c =
    let d = at (goal.at.cut-count-requires c).After-start-from in
    omega (arith, within c.requires.fitting.placed)

pub overflow_sub-top : goal.overflow_sub-top
overflow_sub-top c =
    let d = at (goal.at.overflow_sub-top c).After-start-from in
    omega (arith, c.cut-count.ensures.left)

pub overflow_sub-items : goal.overflow_sub-items
overflow_sub-items c = (at (goal.at.overflow_sub-items c).After-start-from).some

pub rejoin-requires : goal.rejoin-requires
rejoin-requires c =
    let d = at (goal.at.rejoin-requires c).After-start-from in
    omega (arith, c.cut-count.ensures.left, within c.requires.fitting.placed)

pub returns : goal.returns
returns c =
    drops c.args.sought (end (goal.at.returns c).After-unwrap-end) c.start-from.ensures c.word-items.ensures c.cut-count.ensures
    c.rejoin.ensures
