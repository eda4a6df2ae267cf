-- Room is made and filled three times: behind the records twice, and in front of them.
use Rattle.tidying_sharing.specs.Wraps.{wraps}
use Rattle.tidying_sharing.proofs.wrap.Goals as goal

pub returns : goal.returns
returns c =
    wraps c.insert.ensures c.stamp.ensures c.insert-2.ensures
    c.stamp-2.ensures c.insert-3.ensures c.stamp-3.ensures
