use Rattle.tidying_sharing.specs.Runs.{backs_start, one_back, first_there, last_there, back_less, back_alike}
use Rattle.tidying_sharing.specs.Runs.{back_other}
use Rattle.tidying_sharing.specs.Runs.{backs_end}
use Rattle.tidying_sharing.proofs.run_end.Goals as goal

pub loop-end-init : goal.loop-end-init
loop-end-init c = backs_start

pub begins_alike-alike-requires : goal.begins_alike-alike-requires
begins_alike-alike-requires c =
    let b = one_back c.requires c.loop-end.invariant in
    (first_there b, last_there b c.loop-end-test.true)

pub start-end-requires : goal.start-end-requires
start-end-requires c = last_there (one_back c.requires c.loop-end.invariant) c.loop-end-test.true

pub loop-end-smaller-then-not-alike : goal.loop-end-smaller-then-not-alike
loop-end-smaller-then-not-alike c =
    back_less (one_back c.requires c.loop-end.invariant) c.loop-end-test.true c.start-end.ensures

pub loop-end-preserved-then-not-alike : goal.loop-end-preserved-then-not-alike
loop-end-preserved-then-not-alike c = record {
  by = λ before front q more k.
      back_other (c.loop-end.invariant.by before front q more k) c.loop-end-test.true c.begins_alike-alike.ensures
      c.start-end.ensures c.if-not-alike.true;
}

pub loop-end-smaller : goal.loop-end-smaller
loop-end-smaller c = back_less (one_back c.requires c.loop-end.invariant) c.loop-end-test.true c.start-end.ensures

pub loop-end-preserved : goal.loop-end-preserved
loop-end-preserved c = record {
  by = λ before front q more k.
      back_alike (c.loop-end.invariant.by before front q more k) c.loop-end-test.true c.begins_alike-alike.ensures
      c.start-end.ensures c.if-not-alike.false;
}

pub returns : goal.returns
returns c = backs_end c.loop-end-test.false c.loop-end.invariant
