use native.Mathlib.Omega.{arith}
use Rattle.running.specs.Positions.{some_byte, no_more}
use Rattle.running.proofs.byte_after.Goals as goal

pub returns-in-Some : goal.returns-in-Some
returns-in-Some c =
    let found = c.in-Some.ensures.lookup.3 in
    some_byte c.args.text.now c.args.position _ found.0 (found.1 0)
    (omega (arith, found.1 0, c.type_inv.text c.args.position))

pub returns-in-None : goal.returns-in-None
returns-in-None c = no_more c.args.text.now c.args.position c.in-None.ensures.lookup.3
