-- What was read is stored in its table, or is refused as the reading says. Assumes nothing.
use mathlib.Core.Path.{ap}
use Rattle.std.proofs.Common.{rules}
use Rattle.reading.specs.Answers.{reading_of}
use Rattle.reading_atoms.specs.Places.{bytes_of}
use Rattle.compiler.specs.Given.{given, given_some}
use Rattle.compiler.proofs.Laws.{turned_away_lem, too_many, programmed}
use Rattle.compiler.proofs.read_small.Goals as goal

pub many_rows-requires : goal.many_rows-requires
many_rows-requires c =
    given_some (given (bytes_of _ c.type_inv.pattern) (search rules) c.read.ensures (ap reading_of c.in-Ok.is))

pub returns-in-Err : goal.returns-in-Err
returns-in-Err c = record { by = λ tidying code. turned_away_lem c.read.ensures (ap reading_of c.in-Err.is) }

pub returns-then-many_rows : goal.returns-then-many_rows
returns-then-many_rows c = record {
  by = λ tidying code.
      programmed (search rules)
      (given (bytes_of _ c.type_inv.pattern) (search rules) c.read.ensures (ap reading_of c.in-Ok.is))
      (too_many c.many_rows.ensures c.if-many_rows.true c.without_program.ensures);
}

pub returns-else-many_rows : goal.returns-else-many_rows
returns-else-many_rows c = record {
  by = record {
    given = given (bytes_of _ c.type_inv.pattern) (search rules) c.read.ensures (ap reading_of c.in-Ok.is);
    few = rw c.if-many_rows.false at c.many_rows.ensures;
    same = search rules;
  };
}
