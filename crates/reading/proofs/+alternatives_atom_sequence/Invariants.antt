use Prim.Native.Nat.{◌+◌, ◌-◌, ◌*◌}
use lib.ListN.{length}
use Rattle.meaning.specs.Limits.{depth_limit}
use Rattle.meaning.specs.Flat.{Kind.sequence, Kind.alternation}
use Rattle.reading_items.specs.Reading.{sequence_go, alternatives_go, item_at, sequence_at}
use Rattle.reading.proofs.Turns.{Inv}
use Rattle.reading.proofs.+alternatives_atom_sequence.Given as goal

abbrev pub decreases-alternatives : goal.decreases-alternatives
decreases-alternatives l = 3 * (depth_limit - l.depth) + 2

abbrev pub decreases-atom : goal.decreases-atom
decreases-atom l = 3 * (depth_limit - l.depth)

abbrev pub decreases-sequence : goal.decreases-sequence
decreases-sequence l = 3 * (depth_limit - l.depth) + 1

abbrev pub invariant-alternatives-loop-read : goal.invariant-alternatives-loop-read
invariant-alternatives-loop-read l = Inv (alternatives_go l.s (sequence_at (depth_limit - l.depth) l.s)) alternation l.s l.initial.table l.table l.fn.from.at l.fn.from.groups l.fn.from.top l.read.at l.read.groups l.read.top l.count

abbrev pub decreases-alternatives-loop-read : goal.decreases-alternatives-loop-read
decreases-alternatives-loop-read l = length l.s - l.read.at

abbrev pub invariant-sequence-loop-table : goal.invariant-sequence-loop-table
invariant-sequence-loop-table l = Inv (sequence_go l.s (item_at (depth_limit - l.depth) l.s)) sequence l.s l.initial.table l.table l.fn.from.at l.fn.from.groups l.fn.from.top l.read.at l.read.groups l.read.top l.count

abbrev pub decreases-sequence-loop-table : goal.decreases-sequence-loop-table
decreases-sequence-loop-table l = length l.s - l.read.at
