-- What `compile` answers is the program's compilation: its table and code have the program's sizes.
use mathlib.Core.Path.{refl, ap}
use borrow.Author.Rules.{rules}
use Rattle.millkettle.specs.Calls.Compiling.{compilation_of}
use Rattle.intake_report.specs.Texts.{refused_at}
use Rattle.intake_report.specs.Wrote.{wrote_as}
use Rattle.intake_lines.specs.Laws.{pattern_ends}
use Rattle.intake_lines.proofs.put_pattern_line.Goals as goal

pub returns-in-Ok : goal.returns-in-Ok
returns-in-Ok c =
    pattern_ends (search rules) (search rules) c.compile.ensures (ap compilation_of c.in-Ok.is) refl
    c.put_header.ensures

pub returns-in-Err : goal.returns-in-Err
returns-in-Err c =
    pattern_ends (search rules) (search rules) c.compile.ensures (ap compilation_of c.in-Err.is) refl
    (wrote_as c.put_refused_at.ensures (ap (λ n. refused_at n c.in-Err.refused.place) (cc)) refl)
