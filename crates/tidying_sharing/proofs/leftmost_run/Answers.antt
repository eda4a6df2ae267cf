-- The second alternative of the run starts where the first ends, and that one starts where the run does.
use native.Mathlib.Omega.{arith}
use Rattle.std.proofs.Common.{Some}
use Rattle.tidying_fitting.specs.Parts.{Tells, room}
use Rattle.tidying_fitting.specs.Wants.{wanted_end}
use Rattle.tidying_fitting.specs.declared.Want.TheVariants.{Alike}
use Rattle.tidying_sharing.specs.Located.{some_second, second_there, first_there, behind_there, located}
use Rattle.tidying_sharing.proofs.leftmost_run.Goals.{After-unwrap-second}
use Rattle.tidying_sharing.proofs.leftmost_run.Goals as goal

-- Where the second alternative ends.
second : (c : After-unwrap-second) → Tells (Some c.unwrap-second.result) c.args.table.now c.args.top
    (wanted_end Alike c.args.top)
second c = rw c.unwrap-second.ensures at c.leftmost.ensures

pub unwrap-second-requires : goal.unwrap-second-requires
unwrap-second-requires c = some_second c.requires.sharing c.leftmost.ensures

pub start-first-requires : goal.start-first-requires
start-first-requires c = second_there c.requires.sharing (second (goal.at.start-first-requires c).After-unwrap-second)

pub start-from-requires : goal.start-from-requires
start-from-requires c =
    first_there c.requires.sharing (second (goal.at.start-from-requires c).After-unwrap-second) c.start-first.ensures

pub overflow_sub-top : goal.overflow_sub-top
overflow_sub-top c =
    let there = room c.requires.sharing.ends in
    omega (arith, there.some, there.few)

pub run_end-requires : goal.run_end-requires
run_end-requires c =
    behind_there c.requires.sharing (second (goal.at.run_end-requires c).After-unwrap-second) c.start-first.ensures

pub returns : goal.returns
returns c =
    located (second (goal.at.returns c).After-unwrap-second) c.start-first.ensures c.start-from.ensures c.run_end.ensures
