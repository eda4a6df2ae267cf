use Rattle.table.proofs.Made.{put_on}
use Rattle.table.proofs.put.Goals as goal

pub returns : goal.returns
returns c =
    put_on c.requires.room c.requires.eight c.derive-d.ensures c.copy.ensures
