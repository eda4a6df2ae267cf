-- The climb from a part to its parent, record by record. Assumes nothing.
use mathlib.Core.Path.{◌≡◌, sym, ap, subst, ◌∙◌}
use mathlib.Core.List.{List}
use Prim.Native.Nat.{ℕ, suc, ◌+◌, ◌-◌, ◌*◌, ◌≤◌, ◌<◌}
use native.Mathlib.Omega.{arith}
use native.Mathlib.Numerals.{add-one}
use lib.ListN.{get_or}
use Rattle.table.specs.Table.{record_words}
use Rattle.tidying_shapes.specs.Skeleton.{Token}
use Rattle.tidying_shapes.specs.Tokens.{token_at, tokens_from}
use Rattle.tidying_shapes.specs.Laws.{tokens_more, says_from}
use Rattle.tidying_shapes.specs.Climb.{climb, climb_past, climb_here}
use Rattle.tidying_shapes.specs.Merging.{Parented}

module _ (table : List ℕ) (n : ℕ) where
  -- Where the climb from a record on ends, with so many parts since.
  abbrev pub ends : ℕ → ℕ → ℕ
  ends at since = at + climb since (tokens_from table at (n - at))

  pub passed : (at since : ℕ) → at < n → get_or table (record_words * at + 3) 0 ≤ since
      → ends at since ≡ ends (at + 1) (since + 1 - get_or table (record_words * at + 3) 0)
  passed at since h few =
      let rest : List Token = tokens_from table (at + 1) (n - (at + 1)) in
      let step : climb since (tokens_from table at (n - at)) ≡ suc (climb (suc since - get_or table (record_words * at + 3) 0) rest)
      = ap (climb since) (tokens_more table n at h) ∙ climb_past since (token_at table at) rest few in
      omega (arith, step, ap (λ x. climb (x - get_or table (record_words * at + 3) 0) rest) (add-one since))

  pub stopped : (at since : ℕ) → at < n → since < get_or table (record_words * at + 3) 0 → ends at since ≡ at
  stopped at since h many =
      omega (
        arith,
        ap (climb since) (tokens_more table n at h),
        climb_here since (token_at table at) (tokens_from table (at + 1) (n - (at + 1))) many,
      )

  pub ended : (at since : ℕ) → n ≤ at → ends at since ≡ at
  unfolding climb
  ended at since h = let none_left : n - at ≡ 0 = omega arith in
      omega (arith, ap (λ x. climb since (tokens_from table at x)) none_left)

  -- So the parent is where it ends.
  pub parented : (part at : ℕ) → ends (part + 1) 0 ≡ at → at ≤ n → Parented table n part at
  parented part at e h = record {
    by = λ l m f s.
        let behind : tokens_from table (part + 1) (n - (part + 1)) ≡ m
        = subst (λ (x : ℕ). tokens_from table x (n - x) ≡ m) (f ∙ sym (add-one part)) (says_from l m s) in
        omega (arith, e, ap (climb 0) behind);
    within = h;
  }
