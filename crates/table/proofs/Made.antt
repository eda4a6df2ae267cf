-- A pattern whose parts stand in a table: what `derive` and `put` make of it. Assumes nothing.
use mathlib.Core.Path.{◌≡◌, refl, sym, ap, ap₂, ◌∙◌}
use mathlib.Core.List.{List, [], ◌∷◌, ◌++◌, append_assoc}
use Prim.Native.Nat.{ℕ, ◌+◌, ◌*◌, ◌≤◌, ◌<◌, max}
use native.Mathlib.Omega.{arith}
use mathlib.Core.Option.{none, some}
use lib.ListN.{length, take, get_or}
use lib.Seq.{paste, take-paste, drop-paste, length-paste, take_all}
use borrow.Author.Tests.{eq-eqb, ne_eqb}
use Rattle.sets.specs.Laws.{one_by_one}
use Rattle.meaning.specs.Node.{Node, Node.empty, Node.bset, Node.assert, Node.group, Node.seq, Node.alt, Node.many, Proper, lo}
use Rattle.meaning.specs.Node.{hi}
use Rattle.meaning.specs.Results.{concat_map}
use Rattle.machine.specs.Layout.{size_of}
use Rattle.meaning.specs.Limits.{no_maximum}
use Rattle.table.specs.Table.{record_words, size_cap, quantifier_kind, records_in, own_record, records}
use Rattle.table.specs.Laws.{inner, kind_of, last_of, own, count_all, inner_words}
use Rattle.table.specs.Derived.{derived_of, leaf_of, along_of, closed_size, closed_of, closed, make}
use Rattle.table.specs.Derived.{make_same, along_count}
use Rattle.table.specs.Stands.{Made, Along, Derives, SomeMade, SomeSeries, Closing, Puts}
use Rattle.table.specs.Roots.{fewer, series_few}
use Rattle.table.specs.declared.Derived.{Derived}

-- A pattern of one of the first three kinds has no parts inside it, and any other has one or more.
leaf_derived : (r : Node) → kind_of r ≤ 3 → leaf_of (kind_of r) ≡ derived_of r
unfolding records_in size_of lo hi
leaf_derived empty h = refl
leaf_derived (bset s) h = refl
leaf_derived (assert a) h = refl
leaf_derived (group k r) h = absurd (omega arith)
leaf_derived (seq r q) h = absurd (omega arith)
leaf_derived (alt r q) h = absurd (omega arith)
leaf_derived (many n e lazy r) h = absurd (omega arith)

some_inner : (r : Node) → 3 < kind_of r → 0 < length (inner r)
unfolding inner
some_inner empty h = absurd (omega arith)
some_inner (bset s) h = absurd (omega arith)
some_inner (assert a) h = absurd (omega arith)
some_inner (group k r) h = omega arith
some_inner (seq r q) h = omega arith
some_inner (alt r q) h = omega arith
some_inner (many n e lazy r) h = omega arith

-- A quantifier's counts are words within the limit.
counts_fit_lem : (r : Node) → Proper r → kind_of r ≡ quantifier_kind
    → (get_or (last_of r) 0 0 ≤ get_or (last_of r) 1 0) × (get_or (last_of r) 1 0 ≤ no_maximum)
counts_fit_lem empty p e = absurd (omega arith)
counts_fit_lem (bset s) p e = absurd (omega arith)
counts_fit_lem (assert a) p e = absurd (omega arith)
counts_fit_lem (group k r) p e = absurd (omega arith)
counts_fit_lem (seq r q) p e = absurd (omega arith)
counts_fit_lem (alt r q) p e = absurd (omega arith)
counts_fit_lem (many n none lazy r) p e = omega (arith, p.0)
counts_fit_lem (many n (some x) lazy r) p e = omega (arith, p.0)

module _ {table : List ℕ} {top kind operand items least most : ℕ} where
  pub leaf_derives : kind ≤ 3 → Derives (leaf_of kind) table top kind operand items least most
  leaf_derives h = record {
    by = λ before r m. ap leaf_of m.same_kind ∙ leaf_derived r (omega (arith, m.same_kind));
  }

  pub some_series : SomeMade table top kind operand items least most → 3 < kind → SomeSeries table top items
  some_series s h = record {
    before = s.before;
    parts = inner s.node;
    series = s.made.series;
    some = omega (arith, some_inner s.node (omega (arith, s.made.same_kind)), s.made.series.counted);
    low = s.low;
  }

  -- The derived words of the parts together, with which the record is closed.
  module _ {d : Derived} (s : SomeMade table top kind operand items least most) (deep : 3 < kind)
      (along : Along d table top items) where
    its : d ≡ along_of (inner s.node)
    its = along.by s.before (inner s.node) s.made.series

    along_of_lem : (l : List Node) → ((along_of l).records ≤ count_all l + 1) × ((along_of l).size ≤ size_cap)
    unfolding records_in size_of
    along_of_lem [] = omega arith
    along_of_lem (r ∷ []) = omega arith
    along_of_lem (r ∷ q ∷ l) = omega (arith, along_count r (q ∷ l))

    pub records_fit : d.records ≤ top + 1
    records_fit = rw its (omega (arith, along_of_lem (inner s.node), series_few s.made.series))

    pub closing : Closing kind items least most d.size
    closing = record {
      some = (some_series s deep).some;
      few = omega (arith, s.made.series.counted, fewer (inner s.node), series_few s.made.series, s.low);
      small = rw its (along_of_lem (inner s.node)).1;
      counts = λ e. rw (s.made.same_least, s.made.same_most)
          (counts_fit_lem s.node s.made.proper (sym s.made.same_kind ∙ e));
    }

  closed_made : {before : List ℕ} {r : Node} → 3 < kind → Made table top kind operand items least most before r
      → closed_of kind operand items least most (along_of (inner r)) ≡ derived_of r
  closed_made {before} {r} h m =
      rw (m.same_kind, m.same_operand, m.series.counted, m.same_least, m.same_most)
      (sym (closed r (some_inner r (omega (arith, m.same_kind))) m.proper))

  pub group_derives : {d : Derived} {size high : ℕ} → 3 < kind → Along d table top items → kind ≡ 4
      → size ≡ closed_size kind items least most d.size → high ≡ max operand d.highest
      → Derives (make (d.records + 1) size operand high) table top kind operand items least most
  group_derives {d} h along e f g = record {
    by = λ before r m.
        make_same refl f (rw (eq-eqb kind 4 e)) (rw (eq-eqb kind 4 e) g)
        ∙ ap (closed_of kind operand items least most) (along.by before (inner r) m.series) ∙ closed_made h m;
  }

  pub other_derives : {d : Derived} {size : ℕ} → 3 < kind → Along d table top items → (kind ≡ 4 → ⊥)
      → size ≡ closed_size kind items least most d.size
      → Derives (make (d.records + 1) size d.lowest d.highest) table top kind operand items least most
  other_derives {d} h along e f = record {
    by = λ before r m.
        make_same refl f (rw (ne_eqb kind 4 e)) (rw (ne_eqb kind 4 e))
        ∙ ap (closed_of kind operand items least most) (along.by before (inner r) m.series) ∙ closed_made h m;
  }

words_same : {k k' o o' n n' i i' s s' l l' h h' : ℕ} {x x' : List ℕ} → k ≡ k' → o ≡ o' → n ≡ n' → i ≡ i' → s ≡ s' → l ≡ l'
    → h ≡ h' → x ≡ x'
    → k ∷ o ∷ n ∷ i ∷ s ∷ l ∷ h ∷ 0 ∷ x ≡ k' ∷ o' ∷ n' ∷ i' ∷ s' ∷ l' ∷ h' ∷ 0 ∷ x'
words_same a b c d e f g h = cc

-- The record that is put: sixteen words on the records of the parts.
pub put_on : {table table' last : List ℕ} {top kind operand items : ℕ} {d : Derived} → record_words * (top + 1) ≤ length table
    → length last ≡ 8
    → Derives d table top kind operand items (get_or last 0 0) (get_or last 1 0)
    → table' ≡ paste table (record_words * top) (
    kind ∷ operand ∷ d.records ∷ items ∷ d.size ∷ d.lowest ∷ d.highest ∷ 0
    ∷ get_or last 0 0 ∷ get_or last 1 0 ∷ get_or last 2 0 ∷ get_or last 3 0 ∷ get_or last 4 0 ∷ get_or last 5 0 ∷ get_or last 6 0
    ∷ get_or last 7 0 ∷ []
    ) record_words
    → Puts table table' top kind operand items last
put_on {table} {table'} {last} {top} {kind} {operand} {items} {d} room eight derives e =
    let next : record_words * (top + 1) ≡ record_words * top + record_words = omega arith in
    let low : record_words * top ≤ length table = omega arith in
    let words : List ℕ = kind ∷ operand ∷ d.records ∷ items ∷ d.size ∷ d.lowest ∷ d.highest ∷ 0 ∷ last in
    let whole : table' ≡ paste table (record_words * top) words record_words =
    e ∙ ap (λ l. paste table (record_words * top)
    (kind ∷ operand ∷ d.records ∷ items ∷ d.size ∷ d.lowest ∷ d.highest ∷ 0 ∷ l) record_words)
    (one_by_one last eight) in
    let long : record_words ≤ length words = omega arith in
    let kept : length table' ≡ length table = ap length whole
    ∙ length-paste table (record_words * top) words record_words (omega arith) long in
    record {
      by = λ before r m same.
          let d≡ : d ≡ derived_of r = derives.by before r m in
          let record≡ : kind ∷ operand ∷ d.records ∷ items ∷ d.size ∷ d.lowest ∷ d.highest ∷ 0 ∷ take 8 last ≡ own_record r =
          words_same m.same_kind m.same_operand (ap (λ x. x.records) d≡) m.series.counted (ap (λ x. x.size) d≡)
          (ap (λ x. x.lowest) d≡) (ap (λ x. x.highest) d≡) (take_all 8 last (omega arith) ∙ same) ∙ sym (own r) in
          record {
            below = rw (next, whole) (take-paste table (record_words * top) words record_words low long
                ∙ ap₂ ◌++◌ m.series.stands.below record≡ ∙ append_assoc before (concat_map records (inner r)) (own_record r)
                ∙ ap (λ x. before ++ x) (sym (inner_words r)));
            room = rw kept room;
          };
      above = rw (next, whole) (drop-paste table (record_words * top) words record_words low long);
    }
