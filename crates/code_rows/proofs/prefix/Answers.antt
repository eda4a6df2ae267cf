-- The five rows are written one before the other.
use mathlib.Core.Path.{refl}
use Rattle.code_words.specs.Wrote.{wrote_as}
use Rattle.code_rows.specs.Program.{wrote_prefix}
use Rattle.code_rows.proofs.prefix.Goals as goal

pub returns : goal.returns
returns c =
    let w = wrote_as c.put_before-any.ensures refl c.consuming.ensures in
    wrote_prefix c.requires c.all.ensures c.row_before-end.ensures w c.row_before-clear.ensures c.row_before-begin.ensures
    c.row_before.ensures
