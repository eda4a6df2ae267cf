-- A record whose words pass closes parts, and one that closes parts passes: each test of the check in one pass, both ways.
use Rattle.std.specs.Prelude.{◌≡◌, refl, true, false, not, ◌&&◌, ◌⊎◌, List, [], ◌∷◌, ◌++◌, ℕ, suc, ◌+◌, ◌-◌, ◌*◌, ◌≤◌, ◌<◌, min, eqb, length, get_or, take, drop}
use Rattle.std.proofs.Common.{sym, ap, ap₂, subst, ◌∙◌, true≢false, inl, inr, append_assoc, append-nil, arith, length-append, length-drop, length-take, take-append-drop, drop-drop, take-add, get_or-take, get_or-drop, length-take-le, eqb-true, eq-eqb, ne_eqb}
use Rattle.std.proofs.Math.Bool.{or-true}
use Rattle.sets.specs.Sets.{Formed}
use Rattle.sets.specs.Laws.{one_by_one}
use Rattle.meaning.specs.Node.{Node, Node.empty, Node.bset, Node.assert, Node.group, Node.seq, Node.alt, Node.many, lo, hi}
use Rattle.meaning.specs.Flat.{Kind.sequence, Kind.alternation, Not, parts}
use Rattle.meaning.specs.Tests.{and_true}
use Rattle.meaning.specs.All.{All, all_imp, all_append, all_left, all_right}
use Rattle.meaning.specs.Results.{concat_map}
use Rattle.machine.specs.Layout.{size_of}
use Rattle.table.specs.Table.{record_words, kind_word, operand_word, records_word, items_word, size_word, lowest_word, highest_word, set_word}
use Rattle.table.specs.Table.{word_of, size_cap, record_count, own_record, records, no_set, group_kind, sequence_kind, alternation_kind}
use Rattle.table.specs.Laws.{inner, kind_of, operand_of, last_of, own, inner_words, records_append, parts_flat}
use Rattle.table.specs.Derived.{record_limit, derived_of}
use Rattle.table.specs.Stands.{Stands, Ends, Series, Made, SomeMade, Derives}
use Rattle.table.specs.Roots.{root_word, root_derived, root_kind, root_operand, root_items, root_set, inside}
use Rattle.table.specs.declared.Derived.{Derived}
use Rattle.reading_items.specs.Parts.{numbers_parts}
use Rattle.showing_form.specs.Exact.{some_kind}
use Rattle.showing_form.specs.Parts.{Good}
use Rattle.showing_form.specs.Order.{next_of, follows, in_order, order_complete}
use Rattle.showing_form.specs.Shapes.{shaped, shape_of, barred, unlike, opens}
use Rattle.showing_form.specs.Builds.{Built, builds}
use Rattle.showing_form.specs.Stack.{StackIs, SomeStack, On, walk_ok, SomeItems, orderly, Walks, derived_told, all_proper}

-- The walk over items, taken apart and put together.
walk_split : (b : ℕ) (m : List Node) → walk_ok b m ≡ true → (unlike b m ≡ true) × (in_order m ≡ true)
walk_split b [] e = (refl, refl)
walk_split b (r ∷ l) e =
    let (x, f) = and_true (walk_ok b l && not (eqb (kind_of r) b)) (follows (hi r) (next_of l)) e in
    let (w, n) = and_true (walk_ok b l) (not (eqb (kind_of r) b)) x in
    let (u, o) = walk_split b l w in
    (rw (n, u), rw (f, o))

walk_of : (b : ℕ) (m : List Node) → All (λ r. kind_of r ≡ b → ⊥) m → in_order m ≡ true → walk_ok b m ≡ true
walk_of b [] h o = refl
walk_of b (r ∷ l) h o =
    let (f, rest) = and_true (follows (hi r) (next_of l)) (in_order l) o in
    rw (walk_of b l h.1 rest, ne_eqb (kind_of r) b h.0, f)

-- Items that are not of a kind.
not_sequence : (r : Node) → Not sequence r → kind_of r ≡ sequence_kind → ⊥
not_sequence empty n e = omega arith
not_sequence (bset s) n e = omega arith
not_sequence (assert a) n e = omega arith
not_sequence (group k r) n e = omega arith
not_sequence (seq r q) n e = n
not_sequence (alt r q) n e = omega arith
not_sequence (many i x lazy r) n e = omega arith

not_alternation : (r : Node) → Not alternation r → kind_of r ≡ alternation_kind → ⊥
not_alternation empty n e = omega arith
not_alternation (bset s) n e = omega arith
not_alternation (assert a) n e = omega arith
not_alternation (group k r) n e = omega arith
not_alternation (seq r q) n e = omega arith
not_alternation (alt r q) n e = n
not_alternation (many i x lazy r) n e = omega arith

-- A good part's items pass.
one_walk : (r : Node) → walk_ok 0 (r ∷ []) ≡ true
one_walk r = rw (ne_eqb (kind_of r) 0 (λ e. omega (arith, some_kind r)), or-true (eqb (hi r) 0))

orderly_of : (q : Node) → Good q → orderly (kind_of q) (operand_of q) (inner q) ≡ true
unfolding inner parts
orderly_of empty g = refl
orderly_of (bset s) g = refl
orderly_of (assert a) g = refl
orderly_of (group k r) g =
    let (o, n) = order_complete (r ∷ []) (suc g.from) g.to (omega arith) (g.to, g.numbers.1, refl) in
    rw (one_walk r) (go n)
  where
    go : (next_of (r ∷ []) ≡ 0) ⊎ (next_of (r ∷ []) ≡ suc g.from) → opens group_kind k (next_of (r ∷ [])) ≡ true
    go (inl z) = rw (eq-eqb (next_of (r ∷ [])) 0 z)
    go (inr z) = rw (eq-eqb (next_of (r ∷ []) - 1) k (omega (arith, g.numbers.0)), or-true (eqb (next_of (r ∷ [])) 0))
orderly_of (seq r q) g =
    let l : List Node = r ∷ parts sequence q in
    let o = (order_complete l g.from g.to g.some (numbers_parts sequence (seq r q) g.from g.to g.numbers)).0 in
    rw (walk_of sequence_kind l (all_imp (Not sequence) (λ r. kind_of r ≡ sequence_kind → ⊥) not_sequence l (parts_flat sequence (seq r q) g.flat)) o)
orderly_of (alt r q) g =
    let l : List Node = r ∷ parts alternation q in
    let o = (order_complete l g.from g.to g.some (numbers_parts alternation (alt r q) g.from g.to g.numbers)).0 in
    rw (walk_of alternation_kind l (all_imp (Not alternation) (λ r. kind_of r ≡ alternation_kind → ⊥) not_alternation l (parts_flat alternation (alt r q) g.flat)) o)
orderly_of (many n e lazy r) g = rw (one_walk r)

-- The part that a record closes ends with it.
on_ends : {table : List ℕ} {top : ℕ} {l : List Node} (o : On table top l)
    → Ends table (top + 1) (concat_map records o.under) o.part
on_ends {table} {top} {l} o =
    let q : Node = o.part in
    let words : concat_map records l ++ own_record q ≡ concat_map records o.under ++ records q
    = ap (λ (m : List Node). concat_map records m ++ own_record q) o.split
    ∙ ap (λ (w : List ℕ). w ++ own_record q) (records_append o.under (inner q))
    ∙ append_assoc (concat_map records o.under) (concat_map records (inner q)) (own_record q)
    ∙ ap (λ (w : List ℕ). concat_map records o.under ++ w) (sym (inner_words q)) in
    record { stands = subst (Stands table (top + 1)) words o.stands; proper = o.good.proper }

-- The words of the record at `top`, as they were read.
module _ {table : List ℕ} {top count : ℕ} (room : record_words * (top + 1) ≤ length table) (kind operand items : ℕ) (last : List ℕ)
    (kind_is : kind ≡ word_of table (top + 1) kind_word) (operand_is : operand ≡ word_of table (top + 1) operand_word)
    (items-is : items ≡ word_of table (top + 1) items_word)
    (last_is : last ≡ take 8 (drop (record_words * (top + 1 - 1) + set_word) table)) where
  -- Where it closes a part they are that part's.
  module _ {l : List Node} (s : StackIs table top count l) (o : On table top l) where
    k_is : kind ≡ kind_of o.part
    k_is = kind_is ∙ root_kind (on_ends o)

    o_is : operand ≡ operand_of o.part
    o_is = operand_is ∙ root_operand (on_ends o)

    i_is : items ≡ length (inner o.part)
    i_is = items-is ∙ root_items (on_ends o)

    l_is : last ≡ last_of o.part
    l_is = last_is ∙ root_set (on_ends o)

    pub fails_shape : shaped kind operand items last ≡ false → ⊥
    fails_shape e =
        let same : shaped kind operand items last ≡ shaped (kind_of o.part) (operand_of o.part) (length (inner o.part)) (last_of o.part)
        = ap₂ (λ (k x : ℕ). shaped k x items last) k_is o_is
        ∙ ap₂ (shaped (kind_of o.part) (operand_of o.part)) i_is l_is in
        true≢false (sym (shape_of o.part o.good.proper) ∙ sym same ∙ e)

    pub fails_few : count < items → ⊥
    fails_few h = omega (arith, i_is, s.counted, ap length o.split, length-append o.under (inner o.part))

    series : Series table top items (concat_map records o.under) (inner o.part)
    series =
        let e : top + 1 - 1 ≡ top = omega arith in
        subst (λ (i : ℕ). Series table top i (concat_map records o.under) (inner o.part)) (sym i_is)
        (subst (λ (t : ℕ). Series table t (length (inner o.part)) (concat_map records o.under) (inner o.part)) e (inside (on_ends o)))

    pub fails_order : Walks false table top kind operand items → ⊥
    fails_order w =
        true≢false (sym (orderly_of o.part o.good) ∙ ap₂ (λ (k x : ℕ). orderly k x (inner o.part)) (sym k_is) (sym o_is)
        ∙ sym (w.by (concat_map records o.under) (inner o.part) series))

    pub fails_told : (d : Derived) → Derives d table top kind operand items (get_or last 0 0) (get_or last 1 0)
        → derived_told table (top + 1) d ≡ false → ⊥
    fails_told d w e =
        let q : Node = o.part in
        let same : d ≡ derived_of q = w.by (concat_map records o.under) q (record {
          series = series;
          same_kind = k_is;
          same_operand = o_is;
          same_least = ap (λ (x : List ℕ). get_or x 0 0) l_is;
          same_most = ap (λ (x : List ℕ). get_or x 1 0) l_is;
          proper = o.good.proper;
        }) in
        let r = root_derived (on_ends o) ∙ sym same in
        let a : word_of table (top + 1) records_word ≡ d.records = ap (λ x. x.records) r in
        let b : word_of table (top + 1) size_word ≡ d.size = ap (λ x. x.size) r in
        let c : word_of table (top + 1) lowest_word ≡ d.lowest = ap (λ x. x.lowest) r in
        let h : word_of table (top + 1) highest_word ≡ d.highest = ap (λ x. x.highest) r in
        let z : word_of table (top + 1) 7 ≡ 0 = root_word (on_ends o) 7 (omega arith) in
        true≢false (sym (rw (eq-eqb _ _ a, eq-eqb _ _ b, eq-eqb _ _ c, eq-eqb _ _ h, eq-eqb _ _ z)) ∙ e)

  -- Of the parts complete the last ones are the items.
  module _ {l : List Node} (s : StackIs table top count l) (few : items ≤ count) where
    abbrev under : List Node
    under = take (count - items) l

    abbrev those : List Node
    those = drop (count - items) l

    split : l ≡ under ++ those
    split = sym (take-append-drop (count - items) l)

    those_long : length those ≡ items
    those_long = omega (arith, length-drop (count - items) l, s.counted)

    good_all : All Good (under ++ those)
    good_all = subst (All Good) split s.good

    good_those : All Good those
    good_those = all_right Good under those good_all

    pub items_series : Series table top items (concat_map records under) those
    items_series = record {
      stands = subst (Stands table top) (ap (concat_map records) split ∙ records_append under those) s.stands;
      counted = sym those_long;
      proper = all_proper those good_those;
    }

    pub items_there : SomeItems table top items
    items_there = record { before = concat_map records under; list = those; series = items_series }

    -- Where they pass there is a part.
    module _ (formed : Formed last) (blank : Formed no_set) (shape : shaped kind operand items last ≡ true)
        (order : Walks true table top kind operand items) where
      pub built : Built kind operand last those
      built =
          let (w, p) = and_true (walk_ok (barred kind) those) (opens kind operand (next_of those))
          (sym (order.by (concat_map records under) those items_series)) in
          let (u, i) = walk_split (barred kind) those w in
          builds kind operand last those formed blank good_those
          (subst (λ (n : ℕ). shaped kind operand n last ≡ true) (sym those_long) shape) u i p

      made : Made table top kind operand items (get_or last 0 0) (get_or last 1 0) (concat_map records under) built.part
      made = record {
        series = subst (Series table top items (concat_map records under)) (sym built.inner_is) items_series;
        same_kind = built.kind_is;
        same_operand = built.operand_is;
        same_least = ap (λ (x : List ℕ). get_or x 0 0) built.last_is;
        same_most = ap (λ (x : List ℕ). get_or x 1 0) built.last_is;
        proper = built.good.proper;
      }

      pub some_made : top < record_limit → SomeMade table top kind operand items (get_or last 0 0) (get_or last 1 0)
      some_made h = record { before = concat_map records under; node = built.part; made = made; low = h }

      -- Its own record stands there.
      module _ (d : Derived) (derives : Derives d table top kind operand items (get_or last 0 0) (get_or last 1 0))
          (told : derived_told table (top + 1) d ≡ true) where
        abbrev w : ℕ → ℕ
        w i = word_of table (top + 1) i

        first_words : w 0 ∷ w 1 ∷ w 2 ∷ w 3 ∷ w 4 ∷ w 5 ∷ w 6 ∷ w 7 ∷ [] ≡ take 8 (drop (record_words * top) table)
        first_words =
            let x : List ℕ = take 8 (drop (record_words * top) table) in
            let n : length x ≡ 8 = length-take-le 8 (drop (record_words * top) table) (simp length-drop (omega arith)) in
            let word : (i : ℕ) → i < 8 → w i ≡ get_or x i 0
            = λ i h. ap (λ (k : ℕ). get_or table k 0) (omega arith) ∙ sym (get_or-take 8 (drop (record_words * top) table) i 0 h ∙ get_or-drop (record_words * top) table i 0) in
            let a = word 0 (omega arith) in
            let b = word 1 (omega arith) in
            let c = word 2 (omega arith) in
            let e = word 3 (omega arith) in
            let f = word 4 (omega arith) in
            let g = word 5 (omega arith) in
            let h = word 6 (omega arith) in
            let i = word 7 (omega arith) in
            rw (a, b, c, e, f, g, h, i) (one_by_one x n)

        own_stands : take record_words (drop (record_words * top) table) ≡ own_record built.part
        own_stands =
            let q : Node = built.part in
            let same : d ≡ derived_of q = derives.by (concat_map records under) q made in
            let (t4, z) = and_true (eqb (w 2) d.records && eqb (w 4) d.size && eqb (w 5) d.lowest && eqb (w 6) d.highest) (eqb (w 7) 0) told in
            let (t3, hh) = and_true (eqb (w 2) d.records && eqb (w 4) d.size && eqb (w 5) d.lowest) (eqb (w 6) d.highest) t4 in
            let (t2, ll) = and_true (eqb (w 2) d.records && eqb (w 4) d.size) (eqb (w 5) d.lowest) t3 in
            let (rr, ss) = and_true (eqb (w 2) d.records) (eqb (w 4) d.size) t2 in
            let e0 : w 0 ≡ kind_of q = sym kind_is ∙ built.kind_is in
            let e1 : w 1 ≡ operand_of q = sym operand_is ∙ built.operand_is in
            let e2 : w 2 ≡ record_count q = eqb-true (w 2) d.records rr ∙ ap (λ x. x.records) same in
            let e3 : w 3 ≡ length (inner q) = sym items-is ∙ sym those_long ∙ ap length (sym built.inner_is) in
            let e4 : w 4 ≡ min (size_of q) size_cap = eqb-true (w 4) d.size ss ∙ ap (λ x. x.size) same in
            let e5 : w 5 ≡ lo q = eqb-true (w 5) d.lowest ll ∙ ap (λ x. x.lowest) same in
            let e6 : w 6 ≡ hi q = eqb-true (w 6) d.highest hh ∙ ap (λ x. x.highest) same in
            let e7 : w 7 ≡ 0 = eqb-true (w 7) 0 z in
            let at : record_words * (top + 1 - 1) + set_word ≡ record_words * top + 8 = omega arith in
            let tail : take 8 (drop (record_words * top + 8) table) ≡ last_of q
            = ap (λ (k : ℕ). take 8 (drop k table)) (sym at) ∙ sym last_is ∙ built.last_is in
            let front : take 8 (drop (record_words * top) table)
            ≡ kind_of q ∷ operand_of q ∷ record_count q ∷ length (inner q) ∷ min (size_of q) size_cap ∷ lo q ∷ hi q ∷ 0 ∷ []
            = sym first_words ∙ rw (e0, e1, e2, e3, e4, e5, e6, e7) in
            take-add 8 8 (drop (record_words * top) table)
            ∙ ap₂ ◌++◌ front (ap (take 8) (drop-drop 8 (record_words * top) table) ∙ tail) ∙ sym (own q)

        pub closes_one : SomeStack table (top + 1) (count - items + 1)
        closes_one =
            let q : Node = built.part in
            let e : record_words * top + record_words ≡ record_words * (top + 1) = omega arith in
            let words : take (record_words * (top + 1)) table ≡ concat_map records l ++ own_record q
            = ap (λ (k : ℕ). take k table) (sym e) ∙ take-add (record_words * top) record_words table
            ∙ ap₂ ◌++◌ s.stands.below own_stands in
            let o : On table top l = record {
              under = under;
              part = q;
              split = split ∙ ap (λ (m : List Node). under ++ m) (sym built.inner_is);
              good = built.good;
              stands = record { below = words; room = room };
            } in
            record {
              list = under ++ (q ∷ []);
              is = record {
                stands = subst (Stands table (top + 1)) (ap (λ (x : List ℕ). concat_map records under ++ x) (sym (append-nil (records q))) ∙ sym (records_append under (q ∷ []))) (on_ends o).stands;
                counted = omega (arith, length-append under (q ∷ []), length-take (count - items) l, s.counted);
                good = all_append Good under (q ∷ []) (all_left Good under those good_all) (built.good, tt);
              };
            }
