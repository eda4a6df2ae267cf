use Rattle.std.proofs.Common.{refl}
use Rattle.millkettle.specs.Calls.Compiling.{tidied}
use Rattle.host.specs.Laws.{compiles_bytes}
use Rattle.host.proofs.millkettle_compile_tidied.Goals as goal

pub returns : goal.returns
returns c =
    let e = c.compile_lent.ensures in
    compiles_bytes tidied c.args.pattern.now c.args.code.now e.room e.loads refl e.called e.stores e.numbers
