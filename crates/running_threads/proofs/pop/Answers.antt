use mathlib.Core.Path.{refl}
use Prim.Native.Nat.{◌+◌, ◌-◌}
use native.Mathlib.Omega.{arith}
use lib.ListN.{get_or}
use Rattle.running_threads.specs.Active.{Tagged, undone_none, tag_low, popped_key, undone_more, popped_none}
use Rattle.running_threads.proofs.pop.Goals.{In-loop-top}
use Rattle.running_threads.proofs.pop.Goals as goal

-- What is known of a tag.
module _ (c : In-loop-top) where
  tagged : Tagged c.args.plan c.args.at c.args.frames c.args.work.now c.loop-top.top c.loop-top.work
      (get_or c.loop-top.work (c.args.plan.tags + (c.loop-top.top - 1)) 0)
  tagged = record { stack = c.requires; undone = c.loop-top.invariant; some = c.loop-top-test.true; there = refl }

pub returns-then-tag-plan : goal.returns-then-tag-plan
returns-then-tag-plan c = popped_key (tagged (goal.at.returns-then-tag-plan c).In-loop-top) c.if-tag-plan.true

pub put_back-requires : goal.put_back-requires
put_back-requires c = let low = tag_low (tagged (goal.at.put_back-requires c).In-loop-top) in (omega arith, omega arith)

pub loop-top-preserved : goal.loop-top-preserved
loop-top-preserved c =
    undone_more (tagged (goal.at.loop-top-preserved c).In-loop-top) c.if-tag-plan.false c.put_back.ensures

pub returns : goal.returns
returns c = popped_none c.loop-top.invariant (omega arith)

pub loop-top-init : goal.loop-top-init
loop-top-init c = undone_none
