-- The input's end is finished.
use Rattle.std.proofs.Common.{rules, refl, arith}
use Rattle.intake_feeding.specs.Laws.{last_text_lem}
use Rattle.intake.proofs.turn.Goals as goal

pub returns : goal.returns
returns g c =
    let a = c.args in
    let text = last_text_lem a.standing.phase a.standing.kept a.space.now.line a.space.now.buffers.code (search rules) c.finish-fed.ensures.feeds in
    record {
      read = λ h. absurd (omega arith);
      ended = λ _. record { end = c.finish-fed.result.end; text_is = text; over = refl };
    }
