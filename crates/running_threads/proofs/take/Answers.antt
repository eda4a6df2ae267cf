use mathlib.Core.Path.{refl}
use native.Mathlib.Omega.{arith}
use Rattle.std.specs.Prelude.{Option}
use Rattle.running_threads.specs.Held.{Popped}
use Rattle.running_threads.specs.Active.{Came, took_top, took_next, took_none}
use Rattle.running_threads.specs.declared.Off.{Off}
use Rattle.running_threads.proofs.take.Goals.{After-pop}
use Rattle.running_threads.proofs.take.Goals as goal

-- What came off the stack.
module _ (c : After-pop) {x : Option Off}
    (popped : Popped c.args.plan c.args.at c.args.frames c.args.work.now c.pop.new.work x) where
  came : Came c.args.plan c.args.spot c.args.at c.args.index c.args.frames c.args.work.now c.pop.new.work x
  came = record {
    laid = c.requires.laid.0;
    runs = c.requires.laid.1;
    keys = c.requires.tags.1;
    long = c.pop.auto.work;
    popped = popped;
  }

pub returns-in-Some : goal.returns-in-Some
returns-in-Some c = took_top (came (goal.at.returns-in-Some c).After-pop c.in-Some.ensures)

pub returns-then-index-spot : goal.returns-then-index-spot
returns-then-index-spot c =
    took_none (came (goal.at.returns-then-index-spot c).After-pop c.in_default.ensures) (omega arith)

pub returns : goal.returns
returns c = took_next (came (goal.at.returns c).After-pop c.in_default.ensures) (omega arith) refl
