-- Parts in a series, and what stands behind a part. Assumes nothing.
use mathlib.Core.Path.{◌≡◌, refl, sym, ap, ◌∙◌}
use mathlib.Core.List.{List, [], ◌∷◌, ◌++◌, append-nil}
use Prim.Native.Nat.{ℕ, zero, suc, ◌+◌, ◌-◌, ◌*◌, ◌≤◌, ◌<◌}
use native.Mathlib.Omega.{arith}
use lib.ListN.{length}
use borrow.Author.Tests.{eq-eqb, ne_eqb}
use Rattle.meaning.specs.Node.{Node, Node.empty, Node.bset, Node.assert, Node.group, Node.seq, Node.alt, Node.many, Proper}
use Rattle.meaning.specs.Refusals as No
use Rattle.meaning.specs.Flat.{Kind, Kind.sequence, Kind.alternation, Not, parts, link, join, parts_alone}
use Rattle.meaning.specs.Results.{concat_map}
use Rattle.table.specs.Table.{kind_word, items_word, empty_kind, sequence_kind, alternation_kind, no_set, record_words, word_of}
use Rattle.table.specs.Table.{records}
use Rattle.table.specs.Laws.{inner, inner_link, proper_link, kind_of, of_kind, Kinded, Kinded.items, Kinded.choices}
use Rattle.table.specs.Stands.{Stands, SomePart, Series, Made, Putting, Puts}
use Rattle.table.specs.Roots.{some_records, few_records_lem, root_kind, root_items, inside}
use Rattle.reading_atoms.specs.Chars.{byte_at, close_paren}
use Rattle.reading_atoms.specs.Places.{byte_within}
use Rattle.reading_items.specs.Meets.{Behind, Quantifies, grouped, Groups, Closes, series_kind}
use Rattle.reading_items.specs.Meets.{Gathered}
use Rattle.reading_items.specs.Meets.{SomeGathered, Joins, Splices}
use Rattle.reading_items.specs.Answers.{Got, Got.GotRefused}
use Rattle.reading_items.proofs.Putting.{made, putting}

-- A pattern of the kind of a series holds the series's parts, and any other is not of that kind.
kind_parts : (k : Kind) (r : Node) → kind_of r ≡ series_kind k → inner r ≡ parts k r
unfolding inner parts
kind_parts sequence r e = go (of_kind r e)
  where
    go : Kinded r sequence_kind → inner r ≡ parts sequence r
    go (items p q f) = rw f
kind_parts alternation r e = go (of_kind r e)
  where
    go : Kinded r alternation_kind → inner r ≡ parts alternation r
    go (choices p q f) = rw f

kind_not : (k : Kind) (r : Node) → (kind_of r ≡ series_kind k → ⊥) → Not k r
kind_not k empty f = tt
kind_not k (bset s) f = tt
kind_not k (assert a) f = tt
kind_not k (group n r) f = tt
kind_not sequence (seq r q) f = f refl
kind_not alternation (seq r q) f = tt
kind_not sequence (alt r q) f = tt
kind_not alternation (alt r q) f = f refl
kind_not k (many n e lazy r) f = tt

-- A part has a record, within the table.
pub part_within : {table : List ℕ} {top : ℕ} → SomePart table top
    → (0 < top) × (0 < record_words) × (record_words * top ≤ length table)
part_within p = (
  omega (arith, some_records p.ends, few_records_lem p.ends),
  omega arith,
  p.ends.stands.room,
)

pub part_within_items : {table : List ℕ} {top : ℕ} → SomePart table top
    → (0 < top) × (items_word < record_words) × (record_words * top ≤ length table)
part_within_items p = ((part_within p).0, omega arith, p.ends.stands.room)

pub splice_open : {table : List ℕ} {top kind items : ℕ} → word_of table top kind_word ≡ kind
    → items ≡ word_of table top items_word → Splices table top kind (record { top = top - 1; items = items })
splice_open {table} {top} {kind} {items} e f = record {
  by = λ k is before r ends.
      let same : inner r ≡ parts k r = kind_parts k r (sym (root_kind ends) ∙ e ∙ is) in
      (rw same at (inside ends).stands, f ∙ root_items ends ∙ ap length same);
}

pub splice_whole : {table : List ℕ} {top kind : ℕ} → (word_of table top kind_word ≡ kind → ⊥)
    → Splices table top kind (record { top = top; items = 1 })
splice_whole {table} {top} {kind} f = record {
  by = λ k is before r ends.
      let alone : parts k r ≡ r ∷ [] = parts_alone k r (kind_not k r (λ e. f (root_kind ends ∙ e ∙ sym is))) in
      rw alone (rw (append-nil (records r)) ends.stands, refl);
}

-- One part is what it is.
pub join_one : {table : List ℕ} {top kind count : ℕ} → count ≡ 1 → Joins table table top kind count top
join_one {table} {top} {kind} {count} e = record {
  by = λ k is before l g. go k before l (sym g.series.counted ∙ e)
      g.series.stands;
}
  where
    go : (k : Kind) (before : List ℕ) (l : List Node) → length l ≡ 1 → Stands table top (before ++ concat_map records l)
        → Stands table top (before ++ records (join k l))
    go k before [] e h = absurd (omega arith)
    go k before (r ∷ []) e h = rw (append-nil (records r)) at h
    go k before (r ∷ q ∷ l) e h = absurd (omega arith)

-- None are an empty part.
pub empty_putting : {table : List ℕ} {top kind count : ℕ} → count ≡ 0 → SomeGathered table top kind count
    → Putting table top empty_kind 0 0 no_set
unfolding inner
empty_putting {table} {top} {kind} {count} e s = go s.parts s.gathered.series
  where
    go : (l : List Node) → Series table top count s.before l → Putting table top empty_kind 0 0 no_set
    go [] series = putting {before = s.before} empty (rw e at series) tt refl s.room
    go (r ∷ l) series = absurd (omega (arith, series.counted))

pub join_none : {table table' : List ℕ} {top kind count : ℕ} → count ≡ 0 → Puts table table' top empty_kind 0 0 no_set
    → Joins table table' top kind count (top + 1)
unfolding inner
join_none {table} {table'} {top} {kind} {count} e p = record { by = λ k is before l g. go k before l g.series }
  where
    go : (k : Kind) (before : List ℕ) (l : List Node) → Series table top count before l
        → Stands table' (top + 1) (before ++ records (join k l))
    go k before [] series = p.by before empty (made empty (rw e at series) tt) refl
    go k before (r ∷ l) series = absurd (omega (arith, series.counted))

-- Two or more are closed by a record of their kind.
series_made : {table : List ℕ} {top kind count : ℕ} (k : Kind) → kind ≡ series_kind k
    → (before : List ℕ) (r q : Node) (l : List Node)
    → Gathered k table top count before (r ∷ q ∷ l) → Made table top kind 0 count 0 0 before (link k r (q ∷ l))
series_made sequence e before r q l g = rw e
    (made (link sequence r (q ∷ l)) (rw (inner_link sequence r q l g.apart) g.series)
    (proper_link sequence r (q ∷ l) g.series.proper))
series_made alternation e before r q l g = rw e
    (made (link alternation r (q ∷ l)) (rw (inner_link alternation r q l g.apart) g.series)
    (proper_link alternation r (q ∷ l) g.series.proper))

last_zero : (k : Kind) (r q : Node) (l : List Node) → no_set ≡ Rattle.table.specs.Laws.last_of (link k r (q ∷ l))
last_zero sequence r q l = refl
last_zero alternation r q l = refl

pub series_putting : {table : List ℕ} {top kind count : ℕ} → (count ≡ 1 → ⊥) → (count ≡ 0 → ⊥) → SomeGathered table top kind count
    → Putting table top kind 0 count no_set
series_putting {table} {top} {kind} {count} one none s = go s.parts s.gathered
  where
    go : (l : List Node) → Gathered s.k table top count s.before l → Putting table top kind 0 count no_set
    go [] g = absurd (none g.series.counted)
    go (r ∷ []) g = absurd (one g.series.counted)
    go (r ∷ q ∷ l) g = record {
      some = record {
        before = s.before;
        node = link s.k r (q ∷ l);
        made = series_made s.k s.is_kind s.before r q l g;
        low = s.room.low;
      };
      eight = refl;
      room = s.room.words;
    }

pub join_series : {table table' : List ℕ} {top kind count : ℕ} → (count ≡ 1 → ⊥) → (count ≡ 0 → ⊥)
    → Puts table table' top kind 0 count no_set
    → Joins table table' top kind count (top + 1)
join_series {table} {table'} {top} {kind} {count} one none p = record { by = λ k is before l g. go k is before l g }
  where
    go : (k : Kind) → kind ≡ series_kind k → (before : List ℕ) (l : List Node) → Gathered k table top count before l
        → Stands table' (top + 1) (before ++ records (join k l))
    go k is before [] g = absurd (none g.series.counted)
    go k is before (r ∷ []) g = absurd (one g.series.counted)
    go k is before (r ∷ q ∷ l) g = p.by before (link k r (q ∷ l)) (series_made k is before r q l g) (last_zero k r q l)

-- ---- behind what a `(` opened
proper_grouped : (k : ℕ) (r : Node) → Proper r → Proper (grouped k r)
proper_grouped zero r p = p
proper_grouped (suc k) r p = (omega arith, p)

pub some_group : {k top next : ℕ} {table table' : List ℕ} → SomePart table top → Groups k top next table table'
    → SomePart table' next
some_group {k} p q = record {
  before = p.before;
  part = grouped k p.part;
  ends = record { stands = q.by p.before p.part p.ends; proper = proper_grouped k p.part p.ends.proper };
}

module _ {s : List ℕ} {at k g top : ℕ} {table : List ℕ} where
  pub unclosed : (byte_at s at ≡ close_paren → ⊥) → Closes s at k g top table table (GotRefused No.unmatched at)
  unclosed f = record {
    by = λ before r ends. rw (ne_eqb (byte_at s at) close_paren f) (record { by = (refl, omega arith) });
  }

  pub closes : {next : ℕ} {table' table'' : List ℕ} {answer : Got} → byte_at s at ≡ close_paren → Groups k top next table table'
      → Quantifies s (at + 1) g next table' table'' answer → Closes s at k g top table table'' answer
  closes e p q = record {
    by = λ before r ends.
        rw (eq-eqb (byte_at s at) close_paren e) (q.by before (grouped k r)
        (record { stands = p.by before r ends; proper = proper_grouped k r ends.proper }));
  }

-- Behind the `)` there is room for a quantifier's record, if there was room for two records for each byte before it.
pub behind_group : {s table table' : List ℕ} {at top next : ℕ} → Behind s table at top → byte_at s at ≡ close_paren → top ≤ 2 * at
    → next ≤ top + 1
    → length table' ≡ length table → Behind s table' (at + 1) next
behind_group {s} {at = at} b e h k l =
    let here : at < length s = byte_within s at (λ f. omega (arith, e, f)) in
    record { within = omega arith; short = b.short; room = omega arith; words = omega (arith, b.words); bytes = b.bytes }
