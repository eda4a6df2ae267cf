-- The pattern that was read becomes rows. Assumes nothing.
use mathlib.Core.Path.{refl}
use Rattle.std.proofs.lemmas.Result.{err_from_is_err_and}
use Rattle.compiler.specs.Given.{given_some}
use Rattle.compiler.specs.Compiling.{plain}
use Rattle.compiler.proofs.Laws.{shaped_tabled, shapes_plain, compiled}
use Rattle.compiler.proofs.compile.Goals as goal

pub write_program-requires : goal.write_program-requires
write_program-requires c =
    let f = c.in_ok-read.ensures.by in
    shaped_tabled {tidying = plain} f.few refl refl (shapes_plain refl) (given_some f.given)

pub returns-in_err-read : goal.returns-in_err-read
returns-in_err-read c =
    let p = err_from_is_err_and c.from_residual.result c.from_residual.ensures.1 in
    rw (p.1, p.2) (c.in_err-read.ensures.by plain c.args.code.now)

pub returns : goal.returns
returns c = compiled c.in_ok-read.ensures.by refl (shapes_plain refl) c.write_program.ensures
