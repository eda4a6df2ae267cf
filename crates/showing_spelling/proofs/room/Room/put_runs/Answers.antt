use Rattle.std.proofs.Common.{arith, sym, ap, ◌∙◌, List, ◌++◌, append_assoc, ℕ, ◌+◌, ◌-◌}
use Rattle.sets.specs.Sets.{has}
use Rattle.showing_spelling.specs.Spelling.{runs_text, run_text}
use Rattle.showing_spelling.specs.Wrote.{wrote_before, wrote_as}
use Rattle.showing_spelling.specs.Texts.{runs_in, runs_out, runs_end}
use Rattle.showing_spelling.proofs.room.Room.put_runs.Goals as goal

pub loop-n-preserved-then-not-has : goal.loop-n-preserved-then-not-has
loop-n-preserved-then-not-has c =
    let n = c.loop-n.n in
    let (x, put, e) = c.loop-n.invariant.2 in (
      omega arith,
      omega arith,
      (
        run_text (n - 1 + 1) c.loop-n.last ++ x,
        wrote_before put c.put_run.ensures,
        e ∙ ap (λ (t : List ℕ). t ++ x) (runs_out (has c.args.set) n c.loop-n.last (omega arith) (sym c.if-not-has.ensures))
            ∙ append_assoc (runs_text (has c.args.set) (n - 1) (n - 1)) (run_text (n - 1 + 1) c.loop-n.last) x,
      ),
    )

pub loop-n-preserved : goal.loop-n-preserved
loop-n-preserved c =
    let (x, put, e) = c.loop-n.invariant.2 in
    let goes_on = runs_in (has c.args.set) c.loop-n.n c.loop-n.last (omega arith) (sym c.if-not-has.ensures) in
    (omega arith, omega arith, (x, put, e ∙ ap (λ (t : List ℕ). t ++ x) goes_on))

pub returns : goal.returns
returns c =
    let (x, put, e) = c.loop-n.invariant.2 in
    wrote_as (wrote_before put c.put_run-2.ensures)
    (ap (λ (t : List ℕ). t ++ x) (sym (runs_end (has c.args.set) c.loop-n.n c.loop-n.last (omega arith))) ∙ sym e)
