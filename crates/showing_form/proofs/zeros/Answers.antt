-- What holds of all elements behind a place holds of all places from there on, where 0 stands past the end.
use Rattle.std.proofs.Common.{◌≡◌, sym, ◌∙◌, true, false, true≢false, Bool, MatchBool, List, ℕ, ◌+◌, ◌-◌, ◌<◌, length, drop}
use Rattle.std.proofs.Common.{get_or-drop, length-drop, arith, rules, tests}
use Rattle.std.proofs.Math.Decide.{dec_lt}
use Rattle.std.proofs.Math.ListN.{get_or-eq_default}
use Rattle.std.specs.List.{AllWithin, HoldsAt}
use Rattle.std.proofs.lemmas.Iterator.{cases_from_all, YieldsList-from_slice}
use Rattle.std.proofs.lemmas.Iterator.Adapters.{YieldsList-from_skip}
use Rattle.showing_form.specs.Checked.{Zeros}
use Rattle.showing_form.proofs.zeros.Goals as goal

zeros_from : (r : Bool) (l : List ℕ) (from : ℕ)
    → MatchBool r (AllWithin (λ w. w ≡ 0) (drop from l) 0 (length (drop from l)))
    ((k : ℕ) × (k < length (drop from l)) × HoldsAt (λ w. w ≡ 0 → ⊥) (drop from l) k)
    → Zeros r l from
zeros_from true l from h = record {
  all = λ e i b. elim (dec_lt i (length l)) [
    | yes m ↦
        let j : from + (i - from) ≡ i = omega arith in
        (rw (get_or-drop, j) at (h (i - from) 0 (omega arith) (omega (arith, length-drop from l))))
    | no m ↦ get_or-eq_default l 0 {n = i} (omega arith)
  ];
  some = λ e. absurd (true≢false e);
}
zeros_from false l from w = record {
  all = λ e. absurd (true≢false (sym e));
  some = λ e h. w.2 0 (get_or-drop from l w.0 0 ∙ h (from + w.0) (omega arith));
}

pub returns : goal.returns
returns c =
    zeros_from _ c.args.table.now c.args.from
    (cases_from_all _ _ _ (λ w. w ≡ 0) (λ w. w ≡ 0 → ⊥) c.all.ensures.ran
    (YieldsList-from_skip c.args.from (YieldsList-from_slice c.args.table.now (cc)) c.skip.ensures.count)
    (λ x q k. search (rules, tests)) (λ x q k. search (rules, tests)))
