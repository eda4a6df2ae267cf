use mir.Syntax.{w32}
use mir.Val.{to_z, of_z}
use mathlib.Core.Path.{◌∙◌}
use native.Mathlib.Omega.{arith}
use Rattle.engine.specs.Laws.{shown_more, read_back}
use Rattle.engine.proofs.copy_out.Goals as goal

pub loop-i-preserved : goal.loop-i-preserved
loop-i-preserved c =
    shown_more c.args.work.now c.args.from c.loop-i.i c.args.registers.now c.loop-i.registers (to_z w32 (of_z w32 c.show.result))
    (omega arith) (omega arith) c.loop-i.invariant (read_back c.show.result c.show.type_inv ∙ c.show.ensures)
