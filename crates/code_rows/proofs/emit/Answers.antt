-- The size in the table says how many rows there are; too many, or too few words for them, are refused.
use native.Mathlib.Omega.{arith}
use Rattle.table.specs.Roots.{root_size}
use Rattle.code_rows.specs.Asking.{word_there}
use Rattle.code_rows.specs.Program.{tabled_part}
use Rattle.code_rows.specs.Emission.{too_many, too_short, compiling, emitted}
use Rattle.code_rows.proofs.emit.Goals as goal

pub word-n-requires : goal.word-n-requires
word-n-requires c =
    word_there _ (omega arith) (tabled_part c.requires.tabled)

pub overflow_add-n : goal.overflow_add-n
overflow_add-n c =
    omega (arith, c.word-n.ensures, root_size c.requires.tabled)

pub returns-then-n-gt-ROW_LIMIT-clause-emits : goal.returns-then-n-gt-ROW_LIMIT-clause-emits
returns-then-n-gt-ROW_LIMIT-clause-emits c =
    too_many c.word-n.ensures c.args.groups c.args.code.now c.if-n-gt-ROW_LIMIT.true

pub returns-then-code-n-clause-emits : goal.returns-then-code-n-clause-emits
returns-then-code-n-clause-emits c =
    too_short c.word-n.ensures c.if-n-gt-ROW_LIMIT.false c.args.groups c.args.code.now c.if-code-n.true

pub write_program-requires : goal.write_program-requires
write_program-requires c =
    compiling c.word-n.ensures c.if-n-gt-ROW_LIMIT.false c.args.code.now c.if-code-n.false c.requires

pub returns-clause-emits : goal.returns-clause-emits
returns-clause-emits c =
    emitted c.word-n.ensures c.if-n-gt-ROW_LIMIT.false c.args.groups c.if-code-n.false c.write_program.ensures
