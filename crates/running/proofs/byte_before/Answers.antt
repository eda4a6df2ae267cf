use native.Mathlib.Omega.{arith}
use Rattle.running.specs.Positions.{none_behind}
use Rattle.running.proofs.byte_before.Goals as goal

pub returns-then-position-eq0 : goal.returns-then-position-eq0
returns-then-position-eq0 c = none_behind c.args.text.now c.args.position (omega arith)
