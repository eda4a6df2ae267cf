-- The checks come first, in order. Assumes nothing.
use Rattle.reading.proofs.Readings.{too_long, too_small, too_high, checked}
use Rattle.reading.proofs.read.Goals as goal

pub returns-then-length-gt-PATTERN_LIMIT : goal.returns-then-length-gt-PATTERN_LIMIT
returns-then-length-gt-PATTERN_LIMIT c = rw c.into.ensures (too_long c.if-length-gt-PATTERN_LIMIT.true)

pub returns-then-table-length : goal.returns-then-table-length
returns-then-table-length c =
    rw c.into-then-table-length.ensures (too_small c.if-length-gt-PATTERN_LIMIT.false c.if-table-length.true)

pub returns-in-Some : goal.returns-in-Some
returns-in-Some c =
    rw c.at.ensures
    (too_high c.if-length-gt-PATTERN_LIMIT.false c.if-table-length.false c.in-Some.ensures)

pub whole-requires : goal.whole-requires
whole-requires c = checked c.if-length-gt-PATTERN_LIMIT.false c.if-table-length.false c.in_default.ensures
