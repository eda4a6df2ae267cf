-- Nothing is kept of the table, and the refusal has its number.
use Rattle.compiler.proofs.Laws.{made_zero}
use Rattle.compiler.proofs.without_program.Goals as goal

pub returns : goal.returns
returns c =
    record { refuses = rw c.into.ensures; zero = made_zero c.args.table.now c.clear.ensures }
