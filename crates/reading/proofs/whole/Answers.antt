-- What the reader of alternatives answers is the whole reading. Assumes nothing.
use mathlib.Core.Path.{refl}
use native.Mathlib.Omega.{arith}
use Rattle.meaning.specs.Limits.{depth_limit}
use Rattle.reading.proofs.Turns.{alternatives_read, met_part, met_no}
use Rattle.reading.proofs.Readings.{fine_start, refuses, unmatched, reads_pattern}
use Rattle.reading.proofs.whole.Goals as goal

pub alternatives-requires : goal.alternatives-requires
alternatives-requires c = (fine_start c.requires c.type_inv.pattern, omega arith)

pub returns-then-reached-pattern : goal.returns-then-reached-pattern
returns-then-reached-pattern c =
    rw c.at.ensures
    (unmatched c.requires (fine_start c.requires c.type_inv.pattern) (met_part c.in-Ok.ensures refl) c.if-reached-pattern.true
    c.alternatives.auto.table c.clear-then-reached-pattern.ensures)

pub overflow_mul-reached : goal.overflow_mul-reached
overflow_mul-reached c = omega (arith, (met_part c.in-Ok.ensures refl).stands.room)

pub clear-requires-in-Ok : goal.clear-requires-in-Ok
clear-requires-in-Ok c = (met_part c.in-Ok.ensures refl).stands.room

pub overflow_cast-result : goal.overflow_cast-result
overflow_cast-result c =
    let met = met_part c.in-Ok.ensures refl in
    let stretch = alternatives_read (fine_start c.requires c.type_inv.pattern) depth_limit met.read in
    omega (arith, stretch.kept.few_groups)

pub returns-in-Err : goal.returns-in-Err
returns-in-Err c =
    refuses c.requires c.alternatives.new.table (met_no c.in-Err.ensures refl) c.alternatives.auto.table c.clear.ensures

pub returns-else-reached-pattern : goal.returns-else-reached-pattern
returns-else-reached-pattern c =
    reads_pattern c.requires (fine_start c.requires c.type_inv.pattern) (met_part c.in-Ok.ensures refl) c.if-reached-pattern.false
    c.alternatives.auto.table c.clear-in-Ok.ensures
