-- By the tests in their order.
use Rattle.std.proofs.Common.{arith}
use Rattle.std.proofs.lemmas.Bool.Decides.{nat_tests}
use Rattle.showing_spelling.specs.Wrote.{wrote_as}
use Rattle.showing_spelling.specs.Spelling.{counts_text}
use Rattle.showing_spelling.proofs.room.Room.put_counts.Goals as goal

pub returns-in-0-eq1001 : goal.returns-in-0-eq1001
unfolding counts_text
returns-in-0-eq1001 c = wrote_as c.put.ensures (rw (c.in-0-eq1001.is-0, c.in-0-eq1001.is-1))

pub returns-in-0-eq1 : goal.returns-in-0-eq1
unfolding counts_text
returns-in-0-eq1 c = wrote_as c.put-in-0-eq1.ensures (rw (c.in-0-eq1.is-0, c.in-0-eq1.is-1))

pub returns-in-1-eq1001 : goal.returns-in-1-eq1001
unfolding counts_text
returns-in-1-eq1001 c = wrote_as c.put-in-1-eq1001.ensures (rw (c.in-1-eq1001.is-0, c.in-1-eq1001.is-1))

pub returns-in_default : goal.returns-in_default
unfolding counts_text
returns-in_default c = wrote_as c.put_braces.ensures (grind (arith, nat_tests))
