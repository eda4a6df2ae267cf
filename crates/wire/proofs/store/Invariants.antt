-- The loop's invariant: the bytes so far are those of the words so far.
use Rattle.std.proofs.Common.{◌*◌, take}
use Rattle.wire.specs.Wire.{stored}
use Rattle.wire.specs.Front.{Front}
use Rattle.wire.proofs.store.Given as goal

abbrev pub invariant-loop-k : goal.invariant-loop-k
invariant-loop-k g l = Front l.initial.bytes l.bytes (stored g.T.Word.bits (take l.k l.words)) (4 * l.k)
