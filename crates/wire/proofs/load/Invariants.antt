-- The loop's invariant: the words so far are those of bytes.
use Rattle.wire.specs.Wire.{loaded}
use Rattle.wire.specs.Front.{Front}
use Rattle.wire.proofs.load.Given as goal

abbrev pub invariant-loop-i : goal.invariant-loop-i
invariant-loop-i g l = Front l.initial.words l.words (loaded g.T.Word.of_bits l.bytes l.i) l.i
