-- A part that ends at a record number: its own record stands right below, so that what the part is can be read there, on the
-- series of the parts inside it. And a series: its last part ends where it does, and the series goes on below that.
use Rattle.std.specs.Prelude.{◌≡◌, refl, List, [], ◌∷◌, ◌++◌, ℕ, ◌+◌, ◌-◌, ◌*◌, ◌≤◌, ◌<◌, min, length, take, drop, get_or}
use Rattle.std.proofs.Common.{sym, ap, ◌∙◌, append_assoc, append-nil, not-suc-le-zero, arith, length-append, length-take, get_or-take, get_or-append-add, take-take, take_at}
use Rattle.sets.specs.Laws.{eight_words}
use Rattle.meaning.specs.Limits.{set_words}
use Rattle.meaning.specs.Node.{Node, Proper, lo, hi}
use Rattle.meaning.specs.All.{all_left, all_right}
use Rattle.meaning.specs.Results.{concat_map}
use Rattle.machine.specs.Layout.{size_of}
use Rattle.table.specs.Table.{kind_word, operand_word, records_word, items_word, size_word, lowest_word, highest_word, set_word}
use Rattle.table.specs.Table.{record_words, word_of, size_cap, record_count, record_of, own_record, records}
use Rattle.table.specs.Laws.{inner, kind_of, operand_of, last_of, own, own_long, long, inner_words, inner_count, count_all}
use Rattle.table.specs.Laws.{long_all, records_append, inner_proper, last_eight}
use Rattle.table.specs.Derived.{derived_of, root_of, make_same}
use Rattle.table.specs.Stands.{Stands, Ends, Series}

-- What stands below `top` has the words of so many records.
pub stands_long : {table : List ℕ} {top : ℕ} {words : List ℕ} → Stands table top words → length words ≡ record_words * top
stands_long {table} {top} {words} h = omega (arith, length-take (record_words * top) table, ap length h.below, h.room)

-- Words that stand last are left out.
pub stands_under : {table : List ℕ} {top : ℕ} (a b : List ℕ) (k : ℕ) → Stands table top (a ++ b) → length b ≡ record_words * k
    → Stands table (top - k) a
stands_under {table} {top} a b k h l =
    let e : length a ≡ record_words * (top - k) = omega (arith, stands_long h, length-append a b) in
    record {
      below = sym (take-take (record_words * (top - k)) (record_words * top) table (omega arith))
          ∙ ap (take (record_words * (top - k))) h.below
          ∙ take_at a b (record_words * (top - k)) e;
      room = omega (arith, h.room);
    }

-- Each part has a record, so there are no more parts than records below the top.
pub fewer : (l : List Node) → length l ≤ count_all l
fewer [] = omega arith
fewer (r ∷ l) = omega (arith, fewer l, inner_count r)

pub series_few : {table : List ℕ} {top items : ℕ} {before : List ℕ} {l : List Node} → Series table top items before l
    → count_all l ≤ top
series_few {before = before} {l} s =
    omega (arith, stands_long s.stands, length-append before (concat_map records l), long_all l s.proper)

-- A word of the last record.
last_word : (table a b : List ℕ) (top j : ℕ) → Stands table top (a ++ b) → length b ≡ record_words → j < record_words
    → word_of table top j ≡ get_or b j 0
last_word table a b top j h l k =
    let e : length a + j ≡ record_words * (top - 1) + j = omega (arith, stands_long h, length-append a b) in
    let i : record_words * (top - 1) + j < record_words * top = omega (arith, stands_long h, length-append a b) in
    sym (get_or-take (record_words * top) table (record_words * (top - 1) + j) 0 i)
    ∙ ap (λ l. get_or l (record_words * (top - 1) + j) 0) h.below
    ∙ ap (λ n. get_or (a ++ b) n 0) (sym e) ∙ get_or-append-add a b j 0

-- A part that ends at `top`.
module _ {table : List ℕ} {top : ℕ} {before : List ℕ} {r : Node} (part : Ends table top before r) where
  -- It has a record, and no more than stand there.
  pub some_records : 0 < record_count r
  some_records = omega (arith, inner_count r)

  pub few_records_lem : record_count r ≤ top
  few_records_lem = omega (arith, stands_long part.stands, length-append before (records r), long r part.proper)

  -- Its own record stands last, on the series of its parts.
  own_last : Stands table top (before ++ concat_map records (inner r) ++ own_record r)
  own_last = rw append_assoc (rw (inner_words r) at part.stands)

  pub inside : Series table (top - 1) (length (inner r)) before (inner r)
  inside = record {
    stands = stands_under (before ++ concat_map records (inner r)) (own_record r) 1 own_last (own_long r part.proper);
    counted = refl;
    proper = inner_proper r part.proper;
  }

  -- So the words of its own record are read there.
  pub root_word : (j : ℕ) → j < record_words
      → word_of table top j ≡ get_or (record_of (kind_of r) (operand_of r) (length (inner r)) r (last_of r)) j 0
  root_word j k =
      last_word table (before ++ concat_map records (inner r)) (own_record r) top j own_last (own_long r part.proper) k
      ∙ ap (λ l. get_or l j 0) (own r)

  pub root_kind : word_of table top kind_word ≡ kind_of r
  root_kind = root_word kind_word (omega arith)

  pub root_operand : word_of table top operand_word ≡ operand_of r
  root_operand = root_word operand_word (omega arith)

  pub root_records : word_of table top records_word ≡ record_count r
  root_records = root_word records_word (omega arith)

  pub root_items : word_of table top items_word ≡ length (inner r)
  root_items = root_word items_word (omega arith)

  pub root_size : word_of table top size_word ≡ min (size_of r) size_cap
  root_size = root_word size_word (omega arith)

  pub root_groups : (word_of table top lowest_word ≡ lo r) × (word_of table top highest_word ≡ hi r)
  root_groups = (root_word lowest_word (omega arith), root_word highest_word (omega arith))

  pub root_derived : root_of table top ≡ derived_of r
  root_derived = make_same root_records root_size root_groups.0 root_groups.1

  -- Its last words: a byte set, or a quantifier's counts and laziness.
  pub root_last : (i : ℕ) → i < set_words → word_of table top (set_word + i) ≡ get_or (last_of r) i 0
  root_last i h =
      let first : List ℕ
      = kind_of r ∷ operand_of r ∷ record_count r ∷ length (inner r) ∷ min (size_of r) size_cap ∷ lo r ∷ hi r ∷ 0 ∷ [] in
      root_word (set_word + i) (omega arith) ∙ get_or-append-add first (last_of r) i 0

  pub root_set : take set_words (drop (record_words * (top - 1) + set_word) table) ≡ last_of r
  root_set = sym (eight_words table (record_words * (top - 1) + set_word)
      (record { eight = last_eight r part.proper; at = λ i h. sym (root_last i h) ∙ ap (λ n. get_or table n 0) (omega arith) })
      (omega arith) (omega (arith, some_records, few_records_lem, part.stands.room)))

-- The last part of a list.
pub record Last (l : List Node) : Type 0 where
  pub front : List Node
  pub last : Node
  pub split : l ≡ front ++ (last ∷ [])

last_of_lem : (r : Node) (l : List Node) → Last (r ∷ l)
last_of_lem r [] = record { front = []; last = r; split = refl }
last_of_lem r (q ∷ l) = let k = last_of_lem q l in record { front = r ∷ k.front; last = k.last; split = ap (λ x. r ∷ x) k.split }

pub some_last : (l : List Node) → 0 < length l → Last l
some_last [] h = absurd (not-suc-le-zero h)
some_last (r ∷ l) h = last_of_lem r l

-- The first parts of a series are one, which ends where the others begin.
pub front_series : {table : List ℕ} {top items : ℕ} {before : List ℕ} (a b : List Node) → Series table top items before (a ++ b)
    → Series table (top - count_all b) (length a) before a
front_series {before = before} a b s = record {
  stands = stands_under (before ++ concat_map records a) (concat_map records b) (count_all b) (rw words at s.stands)
      (long_all b (all_right Proper a b s.proper));
  counted = refl;
  proper = all_left Proper a b s.proper;
}
  where
    words : before ++ concat_map records (a ++ b) ≡ before ++ concat_map records a ++ concat_map records b
    words = ap (λ x. before ++ x) (records_append a b) ∙ sym (append_assoc before (concat_map records a) (concat_map records b))

-- The last part of a series ends where the series does, and the series goes on below it.
module _ {table : List ℕ} {top items : ℕ} {before : List ℕ} (front : List Node) (q : Node)
    (series : Series table top items before (front ++ (q ∷ []))) where
  pub last_ends : Ends table top (before ++ concat_map records front) q
  last_ends = record {
    stands = rw words at series.stands;
    proper = (all_right Proper front (q ∷ []) series.proper).0;
  }
    where
      words : before ++ concat_map records (front ++ (q ∷ [])) ≡ before ++ concat_map records front ++ records q
      words =
          ap (λ x. before ++ x) (records_append front (q ∷ []) ∙ ap (λ x. concat_map records front ++ x) (append-nil (records q)))
          ∙ sym (append_assoc before (concat_map records front) (records q))

  pub shorter : Series table (top - record_count q) (items - 1) before front
  shorter = record {
    stands = stands_under (before ++ concat_map records front) (records q) (record_count q) last_ends.stands
        (long q last_ends.proper);
    counted = omega (arith, series.counted, length-append front (q ∷ []));
    proper = all_left Proper front (q ∷ []) series.proper;
  }

-- Any part of a series ends where those behind it begin.
pub among_ends : {table : List ℕ} {top items : ℕ} {before : List ℕ} (a : List Node) (q : Node) (b : List Node)
    → Series table top items before (a ++ (q ∷ b)) → Ends table (top - count_all b) (before ++ concat_map records a) q
among_ends {table} {top} {items} {before} a q b s =
    let whole : Series table top items before ((a ++ (q ∷ [])) ++ b) = rw append_assoc s in
    last_ends a q (front_series (a ++ (q ∷ [])) b whole)
