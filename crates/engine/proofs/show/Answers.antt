-- A position is shown as it is, and any other word as -1.
use mathlib.Core.Path.{◌∙◌}
use mir.Syntax.{w32}
use mir.ValLaws.{to_z_pos}
use Rattle.engine.specs.Laws.{shows_position, shows_none}
use Rattle.engine.proofs.show.Goals as goal

pub returns-then-v-lt-POSITION_LIMIT : goal.returns-then-v-lt-POSITION_LIMIT
returns-then-v-lt-POSITION_LIMIT c =
    to_z_pos w32 c.args.v c.if-v-lt-POSITION_LIMIT.true ∙ shows_position c.args.v c.if-v-lt-POSITION_LIMIT.true

pub returns-else-v-lt-POSITION_LIMIT : goal.returns-else-v-lt-POSITION_LIMIT
returns-else-v-lt-POSITION_LIMIT c = shows_none c.args.v c.if-v-lt-POSITION_LIMIT.false
