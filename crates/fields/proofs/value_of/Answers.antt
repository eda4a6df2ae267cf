-- Both numbers are whole and small enough for a float to hold them exactly.
use native.Mathlib.Omega.{arith}
use Rattle.fields.specs.Values.{held, power_small}
use Rattle.fields.proofs.value_of.Goals as goal

pub pow-requires : goal.pow-requires
pow-requires c = omega (arith, power_small c.args.decimals c.requires.1)

pub int_to_float-value : goal.int_to_float-value
int_to_float-value c = held c.args.number (omega (arith, c.requires.0))

pub int_to_float-value-2 : goal.int_to_float-value-2
int_to_float-value-2 c = rw c.pow.ensures (held _ (power_small _ c.requires.1))

pub returns-then-minus : goal.returns-then-minus
returns-then-minus c = rw (c.pow.ensures, c.if-minus.true)

pub returns-else-minus : goal.returns-else-minus
returns-else-minus c = rw (c.pow.ensures, c.if-minus.false)
