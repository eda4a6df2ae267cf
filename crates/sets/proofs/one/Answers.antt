-- One byte more than none.
use Rattle.sets.specs.Laws.{holds_more}
use Rattle.sets.proofs.one.Goals as goal

pub returns : goal.returns
returns c = holds_more c.args.b c.none.ensures c.with.ensures
