-- The walk over the items that end at a record number, from the last one back.
use Rattle.std.specs.Prelude.{◌≡◌, refl, Bool, true, false, cond, not, ◌&&◌, List, [], ◌∷◌, ◌++◌, ℕ, ◌-◌, ◌*◌, ◌≤◌, ◌<◌, eqb}
use Rattle.std.specs.Prelude.{length}
use Rattle.std.proofs.Common.{sym, ap, subst, ◌∙◌, append_assoc, append-nil, arith}
use Rattle.meaning.specs.Node.{Node, hi}
use Rattle.meaning.specs.Results.{concat_map}
use Rattle.table.specs.Table.{record_words, kind_word, records_word, lowest_word, highest_word, word_of, records}
use Rattle.table.specs.Laws.{kind_of}
use Rattle.table.specs.Stands.{Ends, Series}
use Rattle.table.specs.Roots.{some_records, few_records_lem, root_kind, root_records, root_groups, some_last, last_ends, shorter}
use Rattle.showing_form.specs.Order.{next_of, follows}
use Rattle.showing_form.specs.Stack.{walk_ok}

-- The items passed, and those that are left.
pub record Walked (b : ℕ) (table before : List ℕ) (m : List Node) (ok : Bool) (next at left : ℕ) : Type 0 where
  pub front : List Node
  pub passed : List Node
  pub split : m ≡ front ++ passed
  pub series : Series table at left before front
  pub ok_is : ok ≡ walk_ok b passed
  pub next_is : next ≡ next_of passed

pub walked_none : {table before : List ℕ} {m : List Node} {top items : ℕ} (b : ℕ) → Series table top items before m
    → Walked b table before m true 0 top items
walked_none {m = m} b s = record { front = m; passed = []; split = sym (append-nil m); series = s; ok_is = refl; next_is = refl }

-- What is read of the last item that is left, and one item more passed.
pub record Turn (b : ℕ) (table before : List ℕ) (m : List Node) (ok : Bool) (next at left : ℕ) : Type 0 where
  pub some : 0 < at
  pub room : record_words * at ≤ length table
  pub within : word_of table at records_word ≤ at
  pub on : Walked b table before m (ok && (not (eqb (word_of table at kind_word) b) && follows (word_of table at highest_word) next))
      (cond (eqb (word_of table at highest_word) 0) next (word_of table at lowest_word)) (at - word_of table at records_word) (left - 1)

and_assoc : (p q r : Bool) → (p && (q && r)) ≡ (p && q && r)
and_assoc true q r = refl
and_assoc false q r = refl

pub walked_turn : {b : ℕ} {table before : List ℕ} {m : List Node} {ok : Bool} {next at left : ℕ}
    → Walked b table before m ok next at left → 0 < left → Turn b table before m ok next at left
walked_turn {b} {table} {before} {m} {ok} {next} {at} {left} w h =
    let l = some_last w.front (omega (arith, w.series.counted)) in
    let s : Series table at left before (l.front ++ (l.last ∷ [])) = subst (Series table at left before) l.split w.series in
    let q = l.last in
    let e : Ends table at (before ++ concat_map records l.front) q = last_ends l.front q s in
    let count = root_records e in
    let (low, high) = root_groups e in
    record {
      some = omega (arith, some_records e, few_records_lem e);
      room = e.stands.room;
      within = omega (arith, few_records_lem e);
      on = record {
        front = l.front;
        passed = q ∷ w.passed;
        split = w.split ∙ ap (λ (x : List Node). x ++ w.passed) l.split ∙ append_assoc l.front (q ∷ []) w.passed;
        series = subst (λ (k : ℕ). Series table (at - k) (left - 1) before l.front) (sym count) (shorter l.front q s);
        ok_is = rw (w.ok_is, w.next_is, root_kind e, high)
            (and_assoc (walk_ok b w.passed) (not (eqb (kind_of q) b)) (follows (hi q) (next_of w.passed)));
        next_is = rw (high, low, w.next_is);
      };
    }

-- Where none is left all are passed.
pub walked_all : {b : ℕ} {table before : List ℕ} {m : List Node} {ok : Bool} {next at left : ℕ}
    → Walked b table before m ok next at left → left ≡ 0 → (ok ≡ walk_ok b m) × (next ≡ next_of m)
walked_all {b} {m = m} {ok = ok} {next = next} w e = go w.front w.split (sym w.series.counted ∙ e)
  where
    go : (f : List Node) → m ≡ f ++ w.passed → length f ≡ 0 → (ok ≡ walk_ok b m) × (next ≡ next_of m)
    go [] s z = (w.ok_is ∙ ap (walk_ok b) (sym s), w.next_is ∙ ap next_of (sym s))
    go (r ∷ f) s z = absurd (omega arith)

-- An item that fails is one of all.
pub walked_fails : {b : ℕ} {table before : List ℕ} {m : List Node} {next at left : ℕ}
    → Walked b table before m false next at left → walk_ok b m ≡ false
walked_fails {b} w = ap (walk_ok b) w.split ∙ go w.front
  where
    go : (f : List Node) → walk_ok b (f ++ w.passed) ≡ false
    go [] = sym w.ok_is
    go (r ∷ f) = rw (go f)
