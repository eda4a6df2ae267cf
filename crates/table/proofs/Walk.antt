-- The walk of `along` over a series of parts, from the last one back. Assumes nothing.
use mathlib.Core.Path.{◌≡◌, refl, sym, ap, ◌∙◌}
use mathlib.Core.List.{List, [], ◌∷◌, ◌++◌, append_assoc}
use Prim.Native.Nat.{ℕ, ◌+◌, ◌-◌, ◌*◌, ◌≤◌, ◌<◌}
use native.Mathlib.Nat.{not-suc-le-zero}
use native.Mathlib.Omega.{arith}
use lib.ListN.{length, length-append}
use Rattle.meaning.specs.Node.{Node}
use Rattle.meaning.specs.Results.{concat_map}
use Rattle.table.specs.Table.{record_words, size_cap, record_count, records}
use Rattle.table.specs.Laws.{count_all}
use Rattle.table.specs.Derived.{derived_of, beside_of, along_from, along_of, root_of, along_count}
use Rattle.table.specs.Stands.{Series, Ends}
use Rattle.table.specs.Roots.{some_records, few_records_lem, root_derived, some_last, among_ends}
use Rattle.table.specs.declared.Derived.{Derived}

-- The parts that are still to be passed, and those that were, `done` in number: their derived words are known.
pub record Walk (l : List Node) (done : ℕ) (all : Derived) : Type 0 where
  pub rest : List Node
  pub next : Node
  pub more : List Node
  pub split : l ≡ rest ++ (next ∷ more)
  pub counted : done ≡ length more + 1
  pub value : all ≡ along_from next more

-- The derived words of a series are held at the cap.
along_small : (r : Node) (l : List Node) → (along_from r l).size ≤ size_cap
along_small r [] = omega arith
along_small r (q ∷ l) = omega arith

-- A part of a series, where the parts before it and it end.
pub record Here (table : List ℕ) (end : ℕ) (q : Node) : Type 0 where
  pub root : root_of table end ≡ derived_of q
  pub some : 0 < record_count q
  pub few : record_count q ≤ end
  pub room : record_words * end ≤ length table

-- A turn of the walk: the part that it comes to, and the walk with that part passed.
pub record Turn (table : List ℕ) (top done : ℕ) (l : List Node) (all : Derived) : Type 0 where
  pub part : Node
  pub here : Here table (top - all.records) part
  pub small : all.size ≤ size_cap
  pub walk : Walk l (done + 1) (beside_of (derived_of part) all)

module _ {table : List ℕ} {top items : ℕ} {before : List ℕ} {l : List Node} (series : Series table top items before l) where
  here : (front : List Node) (q : Node) (more : List Node) (end : ℕ) → l ≡ front ++ (q ∷ more) → end ≡ top - count_all more
      → Here table end q
  here front q more end e f =
      let part : Ends table end (before ++ concat_map records front) q = rw f (among_ends front q more (rw e at series)) in
      record { root = root_derived part; some = some_records part; few = few_records_lem part; room = part.stands.room }

  -- At first the last part is passed.
  pub first : 0 < items → (q : Node) × Here table top q × Walk l 1 (derived_of q)
  first h =
      let k = some_last l (omega (arith, series.counted)) in (
        k.last,
        here k.front k.last [] top k.split (omega arith),
        record {
          rest = k.front;
          next = k.last;
          more = [];
          split = k.split;
          counted = refl;
          value = refl;
        },
      )

  pub turn : {done : ℕ} {all : Derived} → Walk l done all → done < items → Turn table top done l all
  turn {done} {all} w h =
      let passed : List Node = w.next ∷ w.more in
      let k = some_last w.rest (omega (arith, series.counted, w.counted, ap length w.split, length-append w.rest passed)) in
      let e : l ≡ k.front ++ (k.last ∷ passed)
      = w.split ∙ ap (λ x. x ++ passed) k.split ∙ append_assoc k.front (k.last ∷ []) passed in
      let records : all.records ≡ count_all passed = ap (λ d. d.records) w.value ∙ along_count w.next w.more in
      record {
        part = k.last;
        here = here k.front k.last passed (top - all.records) e (ap (λ n. top - n) records);
        small = rw w.value (along_small w.next w.more);
        walk = record {
          rest = k.front;
          next = k.last;
          more = passed;
          split = e;
          counted = omega (arith, w.counted);
          value = ap (λ d. beside_of (derived_of k.last) d) w.value;
        };
      }

  -- Where no part is left, the derived words are the series's.
  pub over : {done : ℕ} {all : Derived} → Walk l done all → items ≤ done → all ≡ along_of l
  over {done} {all} w h =
      go w.rest (omega (arith, series.counted, w.counted, ap length w.split, length-append w.rest (w.next ∷ w.more))) w.split
    where
      go : (rest : List Node) → length rest ≤ 0 → l ≡ rest ++ (w.next ∷ w.more) → all ≡ along_of l
      go [] h e = w.value ∙ ap along_of (sym e)
      go (r ∷ rest) h e = absurd (not-suc-le-zero h)
