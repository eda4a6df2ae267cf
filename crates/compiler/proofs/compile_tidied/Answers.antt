-- What the pattern that was read is tidied to becomes rows. Assumes nothing.
use mathlib.Core.Path.{refl}
use Rattle.std.proofs.Common.{rules}
use Rattle.std.proofs.lemmas.Result.{err_from_is_err_and}
use Rattle.compiler.specs.Given.{given_some}
use Rattle.compiler.specs.Compiling.{tidied}
use Rattle.compiler.proofs.Laws.{held_some, shaped_tabled, shapes_tidied, compiled}
use Rattle.compiler.proofs.compile_tidied.Goals as goal

pub tidy-records-requires : goal.tidy-records-requires
tidy-records-requires c = held_some (given_some c.in_ok-read.ensures.by.given)

pub write_program-requires : goal.write_program-requires
write_program-requires c =
    let f = c.in_ok-read.ensures.by in
    shaped_tabled {tidying = tidied} f.few refl (search rules) (shapes_tidied refl c.tidy-records.ensures) (given_some f.given)

pub returns-in_err-read : goal.returns-in_err-read
returns-in_err-read c =
    let p = err_from_is_err_and c.from_residual.result c.from_residual.ensures.1 in
    rw (p.1, p.2) (c.in_err-read.ensures.by tidied c.args.code.now)

pub returns : goal.returns
returns c = compiled c.in_ok-read.ensures.by (search rules) (shapes_tidied refl c.tidy-records.ensures) c.write_program.ensures
