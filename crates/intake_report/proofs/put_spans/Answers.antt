use Rattle.std.proofs.Common.{◌≡◌, [], ◌∷◌, ◌+◌, ◌<◌, ◌≤◌, ℕ, suc, List, ◌++◌, refl, sym, ap, ◌∙◌, add-one, arith, rules}
use Rattle.std.proofs.Common.{length, get_or, take, ℤ, pos, w32, to_z, of_z}
use Rattle.std.proofs.lemmas.List.{take_all}
use mir.Val.{SFits}
use Rattle.meaning.specs.Quoted.{bytes}
use Rattle.intake_report.specs.Texts.{further, shown_number, spans_line, spaced, lf}
use Rattle.intake_report.specs.Wrote.{Wrote, wrote_none, wrote_as, wrote_within, and_then}
use Rattle.intake_report.specs.Laws.{shown_short, further_more}
use Rattle.intake_report.proofs.Sign.{back}
use Rattle.intake_report.proofs.put_spans.Goals.{in-Some+else-loop-register-test, in_default}
use Rattle.intake_report.proofs.put_spans.Goals as goal

-- A register is written as it is, though the machine reads it back from its bits.
as_read : {a b : List ℕ} {at m : ℕ} {z : ℤ} → SFits w32 z → Wrote a b at (shown_number (to_z w32 (of_z w32 z))) m
    → Wrote a b at (shown_number z) m
as_read s w = wrote_as w (ap shown_number (back s)) refl

-- It takes at most 11 bytes.
few : {a b : List ℕ} {at m : ℕ} {z : ℤ} → SFits w32 z → Wrote a b at (shown_number z) m → m ≤ at + 11
few {z} s w = omega (arith, shown_short z s.sfits, w.next)

-- One number more behind the first.
one_more : (z : ℤ) (l : List ℤ) (i : ℕ) → i < length l
    → further (take i l) ++ bytes " " ++ shown_number (get_or l i (pos 0)) ≡ further (take (i + 1) l)
one_more z l i h = rw add-one (sym (rw add-one at (further_more (z ∷ l) (suc i) (omega arith) (omega arith))))

pub loop-register-init : goal.loop-register-init
unfolding further
loop-register-init c =
    let s : SFits w32 c.in-Some.first.now = search rules in
    let short = few s (as_read s c.put_number-end.ensures) in
    record {
      short = omega arith;
      written = wrote_none _ _ (wrote_within c.put_number-end.ensures);
    }

pub loop-register-preserved : goal.loop-register-preserved
loop-register-preserved c =
    let rest = c.in-Some.rest.now in
    let i = c.loop-register.register-index in
    let s : SFits w32 (get_or rest i (pos 0)) = search rules in
    let number = as_read s c.put_number-end-in-loop-register.ensures in
    let short = few s number in
    record {
      short = omega (arith, c.put_byte-gap.ensures.next);
      written = wrote_as (and_then (and_then c.loop-register.invariant.written c.put_byte-gap.ensures) number)
          (one_more c.in-Some.first.now rest i c.loop-register-test.true) refl;
    }

-- The line of a first number and the rest.
line : (l rest : List ℤ) (z : ℤ) → l ≡ z ∷ rest → (shown_number z ++ further rest) ++ lf ≡ spans_line l
unfolding spans_line spaced
line l rest z e = rw e

no_line : (l : List ℤ) → length l ≡ 0 → lf ≡ spans_line l
unfolding spans_line spaced
no_line [] e = refl
no_line (z ∷ l) e = absurd (omega arith)

pub returns : goal.returns
returns c =
    let l = take c.args.count c.args.registers.now in
    elim c.match-split_first.branch [
      | in-Some+else-loop-register-test w ↦
          let z = w.in-Some.first.now in
          let s : SFits w32 z = search rules in
          let all = ap further (take_all w.loop-register.register-index w.in-Some.rest.now w.loop-register-test.false) in
          wrote_as
          (and_then (and_then (as_read s w.put_number-end.ensures) w.loop-register.invariant.written)
          (rw (w.out-is, w.end-is) at c.put_byte.ensures))
          (ap (λ t. shown_number z ++ t ++ lf) all ∙ line l w.in-Some.rest.now z w.in-Some.ensures.cases.0) refl
      | in_default w ↦
          wrote_as (rw (w.out-is, w.end-is) at c.put_byte.ensures) (no_line l w.in_default.ensures.cases) refl
    ]
