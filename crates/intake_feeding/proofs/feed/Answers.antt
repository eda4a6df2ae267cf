use Rattle.std.specs.Prelude.{◌≡◌, ℕ, min, length, get_or}
use Rattle.std.proofs.Common.{refl, sym, ap, ◌∙◌, inl, inr, subst, arith, rules}
use Rattle.intake_report.specs.Wrote.{wrote_length}
use Rattle.intake_feeding.specs.Work.{kept_limit}
use Rattle.intake_feeding.specs.Fed.{Steps}
use Rattle.intake_feeding.specs.Laws.{feeding_none, feeding_more, feeding_ends}
use Rattle.intake_feeding.proofs.feed.Goals.{else-loop-byte-test, then-loop-byte-test+then-out-fed-lt-LINE_ROOM}
use Rattle.intake_feeding.proofs.feed.Goals as goal

pub loop-byte-init : goal.loop-byte-init
loop-byte-init c =
    let long : length c.args.line.now ≡ kept_limit = search rules in
    record {
      feeding = feeding_none c.args.kept long (c.min.ensures ∙ ap (λ n. min c.args.kept n) (sym long));
      at = refl;
      untouched = λ _. (refl, refl, refl);
    }

pub loop-byte-preserved : goal.loop-byte-preserved
loop-byte-preserved c =
    let i = c.loop-byte.invariant in
    let step = subst (λ (n : ℕ). Steps c.loop-byte.fed (get_or c.args.piece.now n 0) c.loop-byte.line c.step.new.line
    c.loop-byte.code c.step.new.code c.loop-byte.out c.step.new.out c.step.result) (sym i.at) c.step.ensures in
    record {
      feeding = feeding_more i.feeding (omega arith) (omega (arith, wrote_length i.feeding.text_is)) step;
      at = omega arith;
      untouched = λ none. absurd (omega arith);
    }

pub returns-clause-feeds : goal.returns-clause-feeds
returns-clause-feeds c =
    let i = c.loop-byte.invariant in
    feeding_ends i.feeding (elim c.loop-byte-test.branch [
      | else-loop-byte-test w ↦ inl (omega arith)
      | then-loop-byte-test+then-out-fed-lt-LINE_ROOM w ↦ inr (omega (arith, wrote_length i.feeding.text_is))
    ])
