-- By the tests in their order.
use Rattle.std.proofs.Common.{arith}
use Rattle.std.proofs.lemmas.Bool.Decides.{nat_tests}
use Rattle.showing_spelling.specs.Wrote.{wrote_before, wrote_as, wrote_none}
use Rattle.showing_spelling.proofs.room.Room.put_most.Goals.{then-most-ne-NO_MAXIMUM, else-most-ne-NO_MAXIMUM}
use Rattle.showing_spelling.proofs.room.Room.put_most.Goals as goal

pub returns-then-most-least : goal.returns-then-most-least
returns-then-most-least c = wrote_as (wrote_none _) (grind (arith, nat_tests))

pub returns : goal.returns
returns c =
    elim c.if-most-ne-NO_MAXIMUM.branch [
      | then-most-ne-NO_MAXIMUM w ↦
          wrote_as (wrote_before w.put_decimal.ensures (rw w.self-is at c.put.ensures)) (grind (arith, nat_tests))
      | else-most-ne-NO_MAXIMUM w ↦ wrote_as (rw w.self-is at c.put.ensures) (grind (arith, nat_tests))
    ]
