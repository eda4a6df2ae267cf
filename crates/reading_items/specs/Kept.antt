-- The proof of the facts about reading, by the readers' own recursion.
use Rattle.std.proofs.Math.Path.{◌≡◌, refl}
use Rattle.std.proofs.Common.{sym, ap, subst, subst₂, ◌∙◌, inl, inr}
use Rattle.std.specs.Prelude.{◌⊎◌, ◌||◌, leb}
use Rattle.std.proofs.Math.Bool.{Bool, true, false, cond, false≢true}
use Rattle.std.proofs.Math.Option.{Option}
use mathlib.Core.List.{List, [], ◌++◌}
use Prim.Native.Nat.{ℕ, zero, suc, ◌+◌, ◌*◌, ◌≤◌, ◌<◌}
use native.Mathlib.Omega.{arith}
use Rattle.std.proofs.Math.Dec.{eqb, ltb}
use Rattle.std.proofs.Math.ListN.{length}
use borrow.Author.Tests.{eqb-true, leb-false}
use Rattle.sets.specs.Sets.{Formed, set_of, is_dot, in_escape}
use Rattle.sets.specs.Laws.{set_of_holds}
use Rattle.meaning.specs.Limits.{depth_limit, group_limit, pattern_limit, table_words}
use Rattle.meaning.specs.Node.{Node, Node.bset, Node.assert, Node.group}
use Rattle.meaning.specs.Node.{Within}
use Rattle.meaning.specs.Flat.{Kind, Kind.sequence, Kind.alternation, Flat, parts, join, join_parts}
use Rattle.meaning.specs.Numbering.{Numbers}
use Rattle.table.specs.Table.{records_in, record_count}
use Rattle.meaning.specs.All.{All, all_append}
use Rattle.meaning.specs.Refusals as No
use Rattle.table.specs.Laws.{count_all, count_append}
use Rattle.reading_atoms.specs.Chars.{byte_at, choose, caret, dollar, dot, backslash, open_paren, close_paren, open_bracket}
use Rattle.reading_atoms.specs.Chars.{close_bracket, close_brace}
use Rattle.reading_atoms.specs.Chars.{bar, question, colon, is_quantifier, ends_sequence}
use Rattle.reading_atoms.specs.Escapes.{Escape, Escape.byte, Escape.named, Escape.assertion, Escape.wrong, escape_at}
use Rattle.reading_atoms.specs.Classes.{Class, Class.holds, Class.broken, takes, class_at}
use Rattle.reading_atoms.specs.Braces.{Quantifier, Quantifier.once, Quantifier.repeated, Quantifier.miscounted, quantifier_at}
use Rattle.reading_items.specs.Parts.{NumbersIn, numbers_append, numbers_join, numbers_parts, shared_join, shared_parts}
use Rattle.reading_items.specs.Parts.{Fits, flat_join, flat_parts, count_join, count_parts}
use Rattle.reading_items.specs.Reading.{Part, Part.part, Part.turned, quantified, set_item, escape_item, class_part}
use Rattle.reading_items.specs.Reading.{literal_set, dot_set}
use Rattle.reading_items.specs.Reading.{Opening, Opening.capturing, Opening.plain, Opening.neither, is_look, opening_at}
use Rattle.reading_items.specs.Reading.{too_deep}
use Rattle.reading_items.specs.Reading.{closed, opened}
use Rattle.reading_items.specs.Reading.{item_by, sequence_go, alternatives_go, alternatives_by, item_at, sequence_at}
use Rattle.reading_items.specs.Reading.{alternatives_at}
use Rattle.reading_items.specs.Reading.{Reading, Reading.pattern, Reading.refused, whole, first_high, reading}
use Rattle.reading_items.specs.Facts.{Fair, fair_more, fair_shared, Kept, Item, Stretch, Ok, ok_then, ok_choose}
use Rattle.reading_items.specs.Facts.{byte_within}

-- What the readers of atoms keep.
pub record AtomLaws (s : List ℕ) : Type 0 where
  pub escape_byte : (at b e : ℕ) → at < length s → escape_at false s at ≡ byte b e → (at + 2 ≤ e) × (e ≤ length s)
  pub escape_named : (at k : ℕ) → at < length s → escape_at false s at ≡ named k → at + 2 ≤ length s
  pub escape_assertion : (at a : ℕ) → at < length s → escape_at false s at ≡ assertion a → (a ≤ 3) × (at + 2 ≤ length s)
  pub class_set_lem : (at : ℕ) (set : List ℕ) (e : ℕ) → at < length s → class_at s at ≡ holds set e
      → Formed set × (at + 2 ≤ e) × (e ≤ length s)
  pub quantifier : (at min : ℕ) (extra : Option ℕ) (lazy : Bool) (e : ℕ) → at ≤ length s
      → quantifier_at s at ≡ repeated min extra lazy e → (at < e) × (e ≤ length s) × Within min extra

module _ (s : List ℕ) (laws : AtomLaws s) where
  -- A part with its quantifier is an item as the part is.
  quantified_item : (d at0 at g0 g : ℕ) (r : Node) → Item s d at0 g0 r at g
      → Ok (Item s d at0 g0) (quantified (quantifier_at s at) r at g)
  quantified_item d at0 at g0 g r h = go (quantifier_at s at) refl
    where
      go : (q : Quantifier) → quantifier_at s at ≡ q → Ok (Item s d at0 g0) (quantified q r at g)
      go once e = h
      go (repeated min extra lazy end) e =
          let (u, v, c) = laws.quantifier at min extra lazy end h.kept.within e in
          let k : Kept s d g0 r at g = h.kept in
          record {
            kept = record { within = v; flat = k.flat; numbers = k.numbers; fair = (c, k.fair); few_groups = k.few_groups };
            on = omega (arith, h.on);
            few = unfold records_in in omega (arith, h.few);
          }
      go (miscounted number place) e = tt

  -- A leaf: a byte set, or an assertion.
  leaf : (d at at' g : ℕ) (r : Node) → g ≤ group_limit → at < at' → at' ≤ length s → Flat r → Numbers (suc g) r (suc g) → Fair r d
      → record_count r ≡ 1 → Item s d at g r at' g
  leaf d at at' g r few on within flat numbers fair one =
      record {
        kept = record { within = within; flat = flat; numbers = numbers; fair = fair; few_groups = few };
        on = on;
        few =
            omega arith;
      }

  set_item_lem : (d at0 at g : ℕ) (set : List ℕ) → g ≤ group_limit → at0 < at → at ≤ length s → Formed set
      → Ok (Item s d at0 g) (set_item s set at g)
  unfolding records_in
  set_item_lem d at0 at g set few on within formed =
      quantified_item d at0 at g g (bset set) (leaf d at0 at g (bset set) few on within tt refl formed refl)

  assert_item : (d at at' g a : ℕ) → g ≤ group_limit → at < at' → at' ≤ length s → a ≤ 3 → Item s d at g (assert a) at' g
  unfolding records_in
  assert_item d at at' g a few on within small = leaf d at at' g (assert a) few on within tt refl small refl

  escape_item_lem : (d at g : ℕ) → g ≤ group_limit → at < length s → Ok (Item s d at g) (escape_item s at g (escape_at false s at))
  escape_item_lem d at g few h = go (escape_at false s at) refl
    where
      go : (x : Escape) → escape_at false s at ≡ x → Ok (Item s d at g) (escape_item s at g x)
      go (byte b end) e =
          let (u, v) = laws.escape_byte at b end h e in
          set_item_lem d at end g (literal_set b) few (omega arith) v (set_of_holds (takes b)).formed
      go (named k) e =
          let v = laws.escape_named at k h e in
          set_item_lem d at (at + 2) g (set_of (in_escape k)) few (omega arith) v (set_of_holds (in_escape k)).formed
      go (assertion a) e = let (u, v) = laws.escape_assertion at a h e in assert_item d at (at + 2) g a few (omega arith) v u
      go (wrong number) e = tt

  class_item_lem : (d at g : ℕ) → g ≤ group_limit → at < length s → Ok (Item s d at g) (class_part s g (class_at s at))
  class_item_lem d at g few h = go (class_at s at) refl
    where
      go : (x : Class) → class_at s at ≡ x → Ok (Item s d at g) (class_part s g x)
      go (holds set end) e = let (f, u, v) = laws.class_set_lem at set end h e in set_item_lem d at end g set few (omega arith) v f
      go (broken number place) e = tt

  -- An item, from what a `(` gives.
  item_by_lem : (d at g : ℕ) (paren : Opening → Part) → g ≤ group_limit → ends_sequence (byte_at s at) ≡ false
      → (at < length s → Ok (Item s d at g) (paren (opening_at s at))) → Ok (Item s d at g) (item_by paren s at g)
  unfolding item_by
  item_by_lem d at g paren few more inside =
      let b : ℕ = byte_at s at in
      let h : at < length s = here (byte_at s at) refl more in
      ok_choose (Item s d at g) (eqb b open_paren) _ _ (λ e. inside h) (λ e.
      ok_choose (Item s d at g) (eqb b open_bracket) _ _ (λ e. class_item_lem d at g few h) (λ e.
      ok_choose (Item s d at g) (eqb b backslash) _ _ (λ e. escape_item_lem d at g few h) (λ e.
      ok_choose (Item s d at g) (eqb b dot) _ _
      (λ e. set_item_lem d at (at + 1) g dot_set few (omega arith) (omega arith) (set_of_holds is_dot).formed) (λ e.
      ok_choose (Item s d at g) (eqb b caret) _ _
      (λ e. assert_item d at (at + 1) g 0 few (omega arith) (omega arith) (omega arith)) (λ e.
      ok_choose (Item s d at g) (eqb b dollar) _ _
      (λ e. assert_item d at (at + 1) g 1 few (omega arith) (omega arith) (omega arith)) (λ e.
      ok_choose (Item s d at g) (is_quantifier b) _ _ (λ e. tt) (λ e.
      ok_choose (Item s d at g) (eqb b close_bracket || eqb b close_brace) _ _ (λ e. tt) (λ e.
      set_item_lem d at (at + 1) g (literal_set b) few (omega arith) (omega arith) (set_of_holds (takes b)).formed))))))))
    where
      here : (b : ℕ) → byte_at s at ≡ b → ends_sequence b ≡ false → at < length s
      here b e f = byte_within s at b e (λ n. false≢true (sym (subst (λ (x : ℕ). ends_sequence x ≡ false) n f)))

  -- The parts of a row so far: they may stand in a row of its kind, and their groups are numbered from its beginning on.
  record Gathered (k : Kind) (d g0 : ℕ) (l : List Node) (at g : ℕ) : Type 0 where
    within : at ≤ length s
    fit : All (Fits k) l
    fair : All (λ r. Fair r d) l
    numbers : NumbersIn (suc g0) l (suc g)
    few_groups : g ≤ group_limit

  gathered_none : (k : Kind) (d at g : ℕ) → at ≤ length s → g ≤ group_limit → Gathered k d g [] at g
  gathered_none k d at g within few = record { within = within; fit = tt; fair = tt; numbers = refl; few_groups = few }

  gathered_more : (k : Kind) (d g0 : ℕ) (l : List Node) (at g : ℕ) (r : Node) (at' g' : ℕ) → Gathered k d g0 l at g
      → Kept s d g r at' g'
      → Gathered k d g0 (l ++ parts k r) at' g'
  gathered_more k d g0 l at g r at' g' h i = record {
    within = i.within;
    fit = all_append (Fits k) l (parts k r) h.fit (flat_parts k r i.flat);
    fair = all_append (λ q. Fair q d) l (parts k r) h.fair (shared_parts (λ q. Fair q d) (fair_shared d) k r i.fair);
    numbers = numbers_append l (parts k r) (suc g0) (suc g) (suc g') h.numbers
        (numbers_parts k r (suc g) (suc g') i.numbers);
    few_groups = i.few_groups;
  }

  gathered_join : (k : Kind) (d g0 : ℕ) (l : List Node) (at g : ℕ) → Gathered k d g0 l at g → Kept s d g0 (join k l) at g
  gathered_join k d g0 l at g h = record {
    within = h.within;
    flat = flat_join k l h.fit;
    numbers = numbers_join k l (suc g0) (suc g) h.numbers;
    fair = shared_join (λ q. Fair q d) (fair_shared d) k l h.fair;
    few_groups = h.few_groups;
  }

  -- Alternatives so far: none, or with the bars behind them at most two records for each byte, less one.
  abbrev Barred : List Node → ℕ → ℕ → Type 0
  Barred l at0 at = ((l ≡ []) × (at ≡ at0)) ⊎ (count_all l + 1 + 2 * at0 ≤ 2 * at)

  barred_more : (l : List Node) (r : Node) (at0 at at' : ℕ) → Barred l at0 at → record_count r + 2 * at ≤ 2 * at' + 1
      → Barred (l ++ parts alternation r) at0 (at' + 1)
  barred_more l r at0 at at' (inl h) few =
      let z : count_all l ≡ 0 = ap count_all h.0 in
      inr (omega (arith, count_append l (parts alternation r), count_parts alternation r))
  barred_more l r at0 at at' (inr h) few = inr (omega (arith, count_append l (parts alternation r), count_parts alternation r))

  barred_last : (l : List Node) (r : Node) (at0 at at' : ℕ) → Barred l at0 at → record_count r + 2 * at ≤ 2 * at' + 1
      → record_count (join alternation (l ++ parts alternation r)) + 2 * at0 ≤ 2 * at' + 1
  barred_last l r at0 at at' (inl h) few =
      let same : join alternation (l ++ parts alternation r) ≡ r
      = ap (λ x. join alternation (x ++ parts alternation r)) h.0 ∙ join_parts alternation r in
      omega (arith, ap record_count same)
  barred_last l r at0 at at' (inr h) few =
      omega (
        arith,
        count_append l (parts alternation r),
        count_parts alternation r,
        count_join alternation
            (l ++ parts alternation r),
      )

  module _ (d : ℕ) (item : ℕ → ℕ → Part)
      (Item-ok : (at g : ℕ) → g ≤ group_limit → ends_sequence (byte_at s at) ≡ false → Ok (Item s d at g) (item at g)) where
    -- A sequence: its items have at most two records for each byte.
    sequence_stretch : (fuel : ℕ) (l : List Node) (at0 at g0 g : ℕ) → Gathered sequence d g0 l at g → at0 ≤ at
        → count_all l + 2 * at0 ≤ 2 * at
        → Ok (Stretch s d at0 g0) (sequence_go s item fuel l at g)
    unfolding sequence_go
    sequence_stretch zero l at0 at g0 g h on few = tt
    sequence_stretch (suc fuel) l at0 at g0 g h on few =
        ok_choose (Stretch s d at0 g0) (ends_sequence (byte_at s at)) _ _
        (λ e. record { kept = gathered_join sequence d g0 l at g h; on = on; few = omega (arith, count_join sequence l) })
        (λ e. ok_then (Item s d at g) (Stretch s d at0 g0) (item at g) _ (Item-ok at g h.few_groups e) (λ r at' g' i.
        sequence_stretch fuel (l ++ parts sequence r) at0 at' g0 g' (gathered_more sequence d g0 l at g r at' g' h i.kept)
        (omega (arith, i.on)) (omega (arith, i.few, count_append l (parts sequence r), count_parts sequence r))))

    one_sequence : (at g : ℕ) → at ≤ length s → g ≤ group_limit
        → Ok (Stretch s d at g) (sequence_go s item (suc (length s)) [] at g)
    one_sequence at g within few =
        sequence_stretch (suc (length s)) [] at at g g (gathered_none sequence d at g within few) (omega arith) (omega arith)

    alternatives_stretch : (fuel : ℕ) (l : List Node) (at0 at g0 g : ℕ) → Gathered alternation d g0 l at g → at0 ≤ at
        → Barred l at0 at
        → Ok (Stretch s d at0 g0) (alternatives_go s (λ at' g'. sequence_go s item (suc (length s)) [] at' g') fuel l at g)
    unfolding alternatives_go
    alternatives_stretch zero l at0 at g0 g h on few = tt
    alternatives_stretch (suc fuel) l at0 at g0 g h on few =
        ok_then (Stretch s d at g) (Stretch s d at0 g0) (sequence_go s item (suc (length s)) [] at g) _
        (one_sequence at g h.within h.few_groups)
        (λ r at' g' i.
        let more : Gathered alternation d g0 (l ++ parts alternation r) at' g'
        = gathered_more alternation d g0 l at g r at' g' h i.kept in
        ok_choose (Stretch s d at0 g0) (eqb (byte_at s at') bar) _ _
        (λ e. alternatives_stretch fuel (l ++ parts alternation r) at0 (at' + 1) g0 g'
        (past_bar at' g' (l ++ parts alternation r) e more)
        (omega (arith, i.on)) (barred_more l r at0 at at' few i.few))
        (λ e. record {
          kept = gathered_join alternation d g0 (l ++ parts alternation r) at' g' more;
          on = omega (arith, i.on);
          few = barred_last l r at0 at at' few i.few;
        }))
      where
        past_bar : (at' g' : ℕ) (l' : List Node) → eqb (byte_at s at') bar ≡ true → Gathered alternation d g0 l' at' g'
            → Gathered alternation d g0 l' (at' + 1) g'
        past_bar at' g' l' e more =
            let b : byte_at s at' ≡ bar = eqb-true (byte_at s at') bar e in
            let lt : at' < length s = byte_within s at' bar b (λ x. omega arith) in
            record {
              within = omega arith;
              fit = more.fit;
              fair = more.fair;
              numbers = more.numbers;
              few_groups = more.few_groups;
            }

    pub alternatives_by_lem : (at g : ℕ) → at ≤ length s → g ≤ group_limit → Ok (Stretch s d at g) (alternatives_by item s at g)
    alternatives_by_lem at g within few =
        alternatives_stretch (suc (length s)) [] at at g g (gathered_none alternation d at g within few) (omega arith)
        (inl (refl, refl))

  -- Behind what a `(` opened.
  closed_item : (d at0 at g0 g : ℕ) (r : Node) → Flat r → Numbers (suc g0) r (suc g) → Fair r d → g ≤ group_limit
      → record_count r + 2 * at0 ≤ 2 * at + 1 → at0 < at → Ok (Item s d at0 g0) (closed s r at g)
  closed_item d at0 at g0 g r flat numbers fair few_groups few on = go (eqb (byte_at s at) close_paren) refl
    where
      go : (t : Bool) → eqb (byte_at s at) close_paren ≡ t
          → Ok (Item s d at0 g0) (cond t (quantified (quantifier_at s (at + 1)) r (at + 1) g) (turned 11 at))
      go true e =
          let lt : at < length s = byte_within s at close_paren (eqb-true (byte_at s at) close_paren e) (λ x. omega arith) in
          quantified_item d at0 (at + 1) g0 g r (record {
            kept = record { within = omega arith; flat = flat; numbers = numbers; fair = fair; few_groups = few_groups };
            on = omega arith;
            few = omega arith;
          })
      go false e = tt

  group_few : (r : Node) (at end g : ℕ) → record_count r + 2 * (at + 1) ≤ 2 * end + 1
      → record_count (group (g + 1) r) + 2 * at ≤ 2 * end + 1
  unfolding records_in
  group_few r at end g h = omega arith

  plain_within : (at : ℕ) → opening_at s at ≡ plain → at + 3 ≤ length s
  unfolding opening_at
  plain_within at = go (eqb (byte_at s (at + 1)) question) (eqb (byte_at s (at + 2)) colon) (is_look (byte_at s (at + 2))) refl
    where
      go : (x y z : Bool) → eqb (byte_at s (at + 2)) colon ≡ y
          → cond x (cond y plain (cond z (neither 5 at) (neither 6 (at + 1)))) capturing ≡ plain → at + 3 ≤ length s
      go true true z e f =
          let lt : at + 2 < length s = byte_within s (at + 2) colon (eqb-true (byte_at s (at + 2)) colon e) (λ x. omega arith) in
          omega arith
      go true false true e f = absurd (let z : ◌≡◌ {A = ℕ} 0 1 = cc in omega arith)
      go true false false e f = absurd (let z : ◌≡◌ {A = ℕ} 0 1 = cc in omega arith)
      go false y z e f = absurd (let z : ◌≡◌ {A = ℕ} 0 1 = cc in omega arith)

  -- What a `(` opens, with alternatives inside that nest one level less.
  opened_item : (d : ℕ) (inside : ℕ → ℕ → Part)
      → ((at g : ℕ) → at ≤ length s → g ≤ group_limit → Ok (Stretch s d at g) (inside at g))
      → (at g : ℕ) → g ≤ group_limit → at < length s → (o : Opening) → opening_at s at ≡ o
      → Ok (Item s (suc d) at g) (opened s inside at g o)
  opened_item d inside ok at g few h capturing e =
      ok_choose (Item s (suc d) at g) (leb group_limit g) _ _ (λ t. tt) (λ t.
      ok_then (Stretch s d (at + 1) (g + 1)) (Item s (suc d) at g) (inside (at + 1) (g + 1)) _
      (ok (at + 1) (g + 1) (omega arith) (omega (arith, leb-false group_limit g t)))
      (λ r end g' i.
      let next : g + 1 ≡ suc g = omega arith in
      closed_item (suc d) at end g g' (group (g + 1) r) i.kept.flat (next, rw next at i.kept.numbers)
      (omega arith, i.kept.fair)
      i.kept.few_groups (group_few r at end g i.few) (omega (arith, i.on))))
  opened_item d inside ok at g few h plain e =
      ok_then (Stretch s d (at + 3) g) (Item s (suc d) at g) (inside (at + 3) g) _ (ok (at + 3) g (plain_within at e) few)
      (λ r end g' i. closed_item (suc d) at end g g' r i.kept.flat i.kept.numbers (fair_more r d i.kept.fair)
      i.kept.few_groups (omega (arith, i.few)) (omega (arith, i.on)))
  opened_item d inside ok at g few h (neither number place) e = tt

  deep_item : (at g : ℕ) (o : Opening) → Ok (Item s zero at g) (too_deep at o)
  deep_item at g capturing = tt
  deep_item at g plain = tt
  deep_item at g (neither number place) = go (eqb place at)
    where
      go : (t : Bool) → Ok (Item s zero at g) (cond t (turned number at) (turned 13 at))
      go true = tt
      go false = tt

  -- Items, and alternatives, with d parentheses still allowed.
  pub item_at_lem : (d at g : ℕ) → g ≤ group_limit → ends_sequence (byte_at s at) ≡ false → Ok (Item s d at g) (item_at d s at g)
  unfolding item_at
  item_at_lem zero at g few more = item_by_lem zero at g (too_deep at) few more (λ h. deep_item at g (opening_at s at))
  item_at_lem (suc d) at g few more =
      item_by_lem (suc d) at g (opened s (alternatives_by (item_at d s) s) at g) few more
      (λ h. opened_item d (alternatives_by (item_at d s) s) (alternatives_by_lem d (item_at d s) (item_at_lem d)) at g few h
      (opening_at s at) refl)

  pub sequence_at_lem : (d at g : ℕ) → at ≤ length s → g ≤ group_limit → Ok (Stretch s d at g) (sequence_at d s at g)
  sequence_at_lem d at g within few = one_sequence d (item_at d s) (item_at_lem d) at g within few

  pub alternatives_at_lem : (d at g : ℕ) → at ≤ length s → g ≤ group_limit → Ok (Stretch s d at g) (alternatives_at d s at g)
  alternatives_at_lem d = alternatives_by_lem d (item_at d s) (item_at_lem d)

  -- What is read of a whole pattern.
  pub record Read (r : Node) (g : ℕ) : Type 0 where
    pub flat : Flat r
    pub numbers : Numbers 1 r (suc g)
    pub fair : Fair r depth_limit
    pub few_groups : g ≤ group_limit
    pub few_records : record_count r ≤ 2 * length s + 1

  whole_read : (p : Part) → Ok (Stretch s depth_limit 0 0) p → (r : Node) (g : ℕ) → whole s p ≡ pattern r g → Read r g
  whole_read (part q at h) ok r g = go (ltb at (length s)) refl
    where
      row : Stretch s depth_limit 0 0 q at h
      row = ok

      read : Read q h
      read = record {
        flat = row.kept.flat;
        numbers = row.kept.numbers;
        fair = row.kept.fair;
        few_groups = row.kept.few_groups;
        few_records = omega (arith, row.few, row.kept.within);
      }

      go : (t : Bool) → ltb at (length s) ≡ t → cond t (refused No.unmatched at) (pattern q h) ≡ pattern r g → Read r g
      go true e f = absurd (let z : ◌≡◌ {A = ℕ} 0 1 = cc in omega arith)
      go false e f = let u : q ≡ r = cc in let v : h ≡ g = cc in subst₂ Read u v read
  whole_read (turned number place) ok r g = λ e. absurd (let z : ◌≡◌ {A = ℕ} 0 1 = cc in omega arith)

  chosen : (t : Bool) (n place : ℕ) (x : Reading) (r : Node) (g : ℕ) → choose t (λ _. refused n place) (λ _. x) ≡ pattern r g
      → x ≡ pattern r g
  chosen true n place x r g e = absurd (let z : ◌≡◌ {A = ℕ} 0 1 = cc in omega arith)
  chosen false n place x r g e = e

  -- Whatever is read is so.
  pub reading_keeps : (table : ℕ) (r : Node) (g : ℕ) → reading s table ≡ pattern r g → Read r g
  unfolding reading
  reading_keeps table r g e =
      let all : Reading = whole s (alternatives_at depth_limit s 0 0) in
      let high : Bool = ltb (first_high s) (length s) in
      let short : Bool = ltb table (table_words (length s)) in
      let third : Reading = choose high (λ _. refused No.high_byte (first_high s)) (λ _. all) in
      let second : Reading = choose short (λ _. refused No.small_table 0) (λ _. third) in
      whole_read (alternatives_at depth_limit s 0 0) (alternatives_at_lem depth_limit 0 0 (omega arith) (omega arith)) r g
      (chosen high 3 (first_high s) all r g (chosen short 2 0 third r g (chosen (ltb pattern_limit (length s)) 1 0 second r g e)))
