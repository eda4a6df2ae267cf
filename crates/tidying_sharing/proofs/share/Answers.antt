-- The run is found and its alternatives are trimmed; the alternation's own record is set; the shared set is put before.
use native.Mathlib.Omega.{arith}
use borrow.Author.Rules.{rules}
use Rattle.tidying_rewriting.specs.Rewriting.{within}
use Rattle.tidying_sharing.specs.Sharing.{Room, some_sharing, set_there, running_there, rejoin_room, wrap_room, shares}
use Rattle.tidying_sharing.proofs.share.Goals.{After-shorten-left}
use Rattle.tidying_sharing.proofs.share.Goals as goal

-- What is there once the alternatives are trimmed.
room : (c : After-shorten-left) → Room c.args.table.now c.shorten-left.new.table c.args.n c.args.top
    c.leftmost_run-from.result.stop c.shorten-left.result.n c.shorten-left.result.trimmed c.word-items.result
room c =
    rejoin_room c.requires.fitting c.leftmost_run-from.ensures c.shorten-left.ensures
    c.word-items.ensures

pub word-items-requires : goal.word-items-requires
word-items-requires c = omega (arith, within c.requires.fitting.placed)

pub leftmost_run-from-requires : goal.leftmost_run-from-requires
leftmost_run-from-requires c = some_sharing c.requires

pub overflow_add-from : goal.overflow_add-from
overflow_add-from c =
    let room = (set_there c.requires.fitting c.leftmost_run-from.ensures).0 in
    omega arith

pub last_words-set-requires : goal.last_words-set-requires
last_words-set-requires c =
    (omega arith, (set_there c.requires.fitting c.leftmost_run-from.ensures).0)

pub shorten-left-requires : goal.shorten-left-requires
shorten-left-requires c =
    running_there c.requires.fitting c.leftmost_run-from.ensures (search rules)

pub overflow_add-top : goal.overflow_add-top
overflow_add-top c = omega (arith, room (goal.at.overflow_add-top c).After-shorten-left)

pub overflow_sub-top : goal.overflow_sub-top
overflow_sub-top c = omega (arith, room (goal.at.overflow_sub-top c).After-shorten-left)

pub overflow_sub-items : goal.overflow_sub-items
overflow_sub-items c = omega (arith, room (goal.at.overflow_sub-items c).After-shorten-left)

pub overflow_add-items : goal.overflow_add-items
overflow_add-items c = omega (arith, room (goal.at.overflow_add-items c).After-shorten-left)

pub rejoin-count-requires : goal.rejoin-count-requires
rejoin-count-requires c = omega (arith, room (goal.at.rejoin-count-requires c).After-shorten-left)

pub overflow_add-stop : goal.overflow_add-stop
overflow_add-stop c = omega (arith, room (goal.at.overflow_add-stop c).After-shorten-left)

pub overflow_sub-stop : goal.overflow_sub-stop
overflow_sub-stop c = omega (arith, room (goal.at.overflow_sub-stop c).After-shorten-left)

pub wrap-requires : goal.wrap-requires
wrap-requires c =
    let room = wrap_room c.requires.fitting c.leftmost_run-from.ensures c.shorten-left.ensures
    c.word-items.ensures c.rejoin-count.ensures in
    omega (arith, c.last_words-set.type_inv)

pub returns : goal.returns
returns c =
    shares c.leftmost_run-from.ensures c.last_words-set.ensures c.shorten-left.ensures c.word-items.ensures
    c.rejoin-count.ensures c.wrap.ensures
