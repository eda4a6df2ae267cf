use Rattle.running_moves.proofs.Laws.{byte_there, byte_missing}
use Rattle.running_moves.proofs.consumed.Goals.{else-after-lt-NO_BYTE-via-then-after-lt-NO_BYTE+else-row_has, else-after-lt-NO_BYTE-via-else-after-lt-NO_BYTE}
use Rattle.running_moves.proofs.consumed.Goals as goal

pub returns-then-row_has : goal.returns-then-row_has
returns-then-row_has c = rw (byte_there c.if-after-lt-NO_BYTE.true, ← c.row_has.ensures, c.if-row_has.true)

pub returns-else-after-lt-NO_BYTE : goal.returns-else-after-lt-NO_BYTE
returns-else-after-lt-NO_BYTE c =
    elim c.else-after-lt-NO_BYTE.branch [
      | else-after-lt-NO_BYTE-via-then-after-lt-NO_BYTE+else-row_has w ↦
          rw (byte_there w.if-after-lt-NO_BYTE.true, ← w.row_has.ensures, w.if-row_has.false)
      | else-after-lt-NO_BYTE-via-else-after-lt-NO_BYTE w ↦ rw (byte_missing w.if-after-lt-NO_BYTE.false)
    ]
