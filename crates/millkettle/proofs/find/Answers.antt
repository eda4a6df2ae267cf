-- A pattern whose code runs, and one whose run is turned away.
use Rattle.std.proofs.Common.{refl}
use Rattle.std.proofs.lemmas.Result.{err_from_is_err_and}
use Rattle.reading_atoms.specs.Places.{bytes_of}
use Rattle.millkettle.specs.Found.{run_finds, found_view}
use Rattle.millkettle.proofs.find.Goals as goal

pub returns-in_err-answer : goal.returns-in_err-answer
returns-in_err-answer c =
    let p = err_from_is_err_and c.from_residual-in_err-answer.result c.from_residual-in_err-answer.ensures.1 in
    rw (p.1, p.2)
    (run_finds (bytes_of _ c.type_inv.pattern) (bytes_of _ c.type_inv.text) c.in_ok-compile.ensures refl c.in_err-answer.ensures refl)

pub returns : goal.returns
returns c =
    run_finds (bytes_of _ c.type_inv.pattern) (bytes_of _ c.type_inv.text) c.in_ok-compile.ensures refl c.in_ok-answer.ensures
    (found_view c.in_ok-answer.answer)
