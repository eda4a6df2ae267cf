-- The first place in the part where an LF stands, or none.
use Rattle.std.proofs.Common.{◌≡◌, ℕ, ◌+◌, ◌-◌, ◌≤◌, ◌<◌, List, length, get_or, take, drop, ap, ◌∙◌, sym, arith, get_or-drop}
use Rattle.std.proofs.Common.{get_or-take, length-take-le, length-drop, rules, tests}
use Rattle.std.specs.Prelude.{Option, Some, None, MatchOption}
use Rattle.std.specs.List.{AllWithin, HoldsAt}
use Rattle.std.proofs.lemmas.Iterator.{IsFirst-from_position, YieldsList-from_slice}
use Rattle.intake_report.specs.Lines.{FoundLf}
use Rattle.intake_report.proofs.find_lf.Goals as goal

module _ (bytes : List ℕ) (from to : ℕ) (ordered : from ≤ to) (inside : to ≤ length bytes) where
  abbrev part : List ℕ
  part = take (to - from) (drop from bytes)

  part_length : length part ≡ to - from
  part_length =
      let behind = length-drop from bytes in
      omega (arith, length-take-le (to - from) (drop from bytes) (omega (arith, behind)))

  part_at : (k : ℕ) → from ≤ k → k < to → get_or part (k - from) 0 ≡ get_or bytes k 0
  part_at k l h =
      let e : from + (k - from) ≡ k = omega arith in
      let i : k - from < to - from = omega arith in
      rw (get_or-take, get_or-drop, e)

  -- The first LF of a part is, behind its start, the first of the whole.
  found_lf : (r : Option ℕ) (m : ℕ)
      → MatchOption r (AllWithin (λ x. x ≡ 10 → ⊥) part 0 (length part))
      (λ i. (i < length part) × HoldsAt (λ x. x ≡ 10) part i × AllWithin (λ x. x ≡ 10 → ⊥) part 0 i)
      → MatchOption r (m ≡ to) (λ i. m ≡ from + i) → FoundLf bytes from to m
  found_lf None m none e = record {
    behind = omega arith;
    within = omega arith;
    none = λ k l h f. none (k - from) 0 (omega arith) (omega (arith, part_length)) (part_at k l (omega arith) ∙ f);
    found = λ l. absurd (omega arith);
  }
  found_lf (Some i) m first e = record {
    behind = omega arith;
    within = omega (arith, part_length);
    none = λ k l h f. first.2 (k - from) 0 (omega arith) (omega arith) (part_at k l (omega (arith, part_length)) ∙ f);
    found = λ l.
        let j : i ≡ m - from = omega arith in
        sym (part_at m (omega arith) l) ∙ ap (λ n. get_or part n 0) (sym j) ∙ first.1 0;
  }

pub returns : goal.returns
returns c =
    let first = IsFirst-from_position _ _ _ (λ x. x ≡ 10) (λ x. x ≡ 10 → ⊥) c.position.ensures.ran
    (YieldsList-from_slice _ c.iter.ensures.rest) (λ x q k. search (rules, tests)) (λ x q k. search (rules, tests)) in
    found_lf c.args.bytes.now c.args.from c.args.to c.requires.0 c.requires.1 c.position.result _ first (search rules)
