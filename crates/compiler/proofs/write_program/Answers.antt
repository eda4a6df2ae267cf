-- What is answered by what was emitted. Assumes nothing.
use mathlib.Core.Path.{refl}
use Rattle.compiler.proofs.Laws.{written_refused}
use Rattle.compiler.proofs.write_program.Goals as goal

pub returns-in-Ok : goal.returns-in-Ok
returns-in-Ok c = record { emitted = _; emits = c.in-Ok.ensures.emits; by = (refl, refl) }

pub returns-in-Err : goal.returns-in-Err
returns-in-Err c =
    record {
      emitted = _;
      emits = c.in-Err.ensures.emits;
      by = written_refused c.args.groups c.in-Err.ensures.refusals c.without_program.ensures;
    }
