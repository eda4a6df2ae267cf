-- Below the record that the pass has come to the parts stand whole; from there on the tokens are as they were. Assumes nothing.
use Rattle.tidying_shapes.proofs.Refreshing.{Passing}
use Rattle.tidying_shapes.proofs.refresh.Given as goal

abbrev pub invariant-loop-at : goal.invariant-loop-at
invariant-loop-at l = Passing l.initial.table l.n l.table l.at
