-- What a call's answer says of the reading, and the invariant of both loops with what a turn and the way out show of it.
-- Assumes nothing.
use mathlib.Core.Path.{◌≡◌, refl, sym, ap, subst, ◌∙◌}
use mathlib.Core.Bool.{true, false, true≢false}
use mathlib.Core.List.{List, [], ◌++◌, append_assoc, append-nil}
use Prim.Native.Nat.{ℕ, zero, suc, ◌+◌, ◌*◌, ◌≤◌, ◌<◌}
use native.Mathlib.Nat.{not-suc-le-zero}
use native.Mathlib.Omega.{arith}
use lib.ListN.{length, take, length-append, length-take}
use borrow.Author.Tests.{eq-eqb, ne_eqb}
use Rattle.meaning.specs.Limits.{pattern_limit, table_words, group_limit}
use Rattle.meaning.specs.Node.{Node, Proper}
use Rattle.meaning.specs.Flat.{Kind, Kind.sequence, Kind.alternation, Not, Flat, parts, join}
use Rattle.meaning.specs.Results.{concat_map}
use Rattle.table.specs.Table.{record_words, record_count, records}
use Rattle.meaning.specs.All.{All, all_append}
use Rattle.table.specs.Laws.{count_all, records_append, long, long_all, parts_proper, parts_flat}
use Rattle.table.specs.Derived.{record_limit}
use Rattle.table.specs.Stands.{Stands, SomePart, Series}
use Rattle.table.specs.Roots.{stands_long, fewer, series_few}
use Rattle.reading_atoms.specs.Chars.{byte_at, bar, ends_sequence}
use Rattle.reading_atoms.specs.Places.{byte_within}
use Rattle.reading_items.specs.Parts.{count_parts}
use Rattle.reading_items.specs.Facts.{Kept, Item, Stretch, fair_proper}
use Rattle.reading_items.specs.Kept.{item_at_lem, sequence_at_lem, alternatives_at_lem}
use Rattle.reading_items.specs.Read.{atom_laws}
use Rattle.reading_items.specs.Reading.{Part, Part.part, Part.turned, sequence_go, alternatives_go, item_at}
use Rattle.reading_items.specs.Reading.{sequence_at}
use Rattle.reading_items.specs.Reading.{alternatives_at}
use Rattle.reading_items.specs.Meets.{Fine, Meets, MeetsBy}
use Rattle.reading_items.specs.Meets.{series_kind}
use Rattle.reading_items.specs.Meets.{Gathered, SomeGathered, Joins, Splices}
use Rattle.reading_items.specs.Answers.{Got, Got.GotPart, Got.GotRefused}
use Rattle.reading_items.specs.declared.series.Spliced.{Spliced}

-- ---- a call's answer: a part, or a refusal
pub record Got-part (x : Part) (a t g : ℕ) (before table' : List ℕ) : Type 0 where
  pub node : Node
  pub read : x ≡ part node a g
  pub stands : Stands table' t (before ++ records node)

part_by : (x : Part) (answer : Got) (before table' : List ℕ) (a t g : ℕ) → MeetsBy x answer before table'
    → answer ≡ GotPart a t g
    → Got-part x a t g before table'
part_by (part r a' g') answer before table' a t g h e =
    let ea : a' ≡ a = cc h.1 in
    let et : h.0 ≡ t = cc h.1 in
    let eg : g' ≡ g = cc h.1 in
    record { node = r; read = cc (ea, eg); stands = subst (λ (n : ℕ). Stands table' n (before ++ records r)) et h.2 }
part_by (turned n p) answer before table' a t g h e = absurd (let z : ◌≡◌ {A = ℕ} 0 1 = cc h.0 in omega arith)

no_by : (x : Part) (answer : Got) (before table' : List ℕ) (n p : ℕ) → MeetsBy x answer before table' → answer ≡ GotRefused n p
    → (x ≡ turned n p) × (3 < n)
no_by (part r a g) answer before table' n p h e = absurd (let z : ◌≡◌ {A = ℕ} 0 1 = cc h.1 in omega arith)
no_by (turned n' p') answer before table' n p h e = let en : n' ≡ n = cc h.0 in (cc h.0, omega (arith, h.1))

module _ {x : Part} {answer : Got} {before table' : List ℕ} where
  pub met_part : {a t g : ℕ} → Meets x answer before table' → answer ≡ GotPart a t g → Got-part x a t g before table'
  met_part {a} {t} {g} h e = part_by x answer before table' a t g h.by e

  pub met_no : {n p : ℕ} → Meets x answer before table' → answer ≡ GotRefused n p → (x ≡ turned n p) × (3 < n)
  met_no {n} {p} h e = no_by x answer before table' n p h.by e

-- ---- what the facts about reading say of a part that was read
module _ {s table : List ℕ} {at g top : ℕ} (f : Fine s table at g top) (d : ℕ) where
  pub item_read : {r : Node} {a g' : ℕ} → ends_sequence (byte_at s at) ≡ false → item_at d s at g ≡ part r a g'
      → Item s d at g r a g'
  item_read e q = rw q at (item_at_lem s (atom_laws f.bytes) d at g f.few e)

  pub sequence_read : {r : Node} {a g' : ℕ} → sequence_at d s at g ≡ part r a g' → Stretch s d at g r a g'
  sequence_read q = rw q at (sequence_at_lem s (atom_laws f.bytes) d at g f.within f.few)

  pub alternatives_read : {r : Node} {a g' : ℕ} → alternatives_at d s at g ≡ part r a g' → Stretch s d at g r a g'
  alternatives_read q = rw q at (alternatives_at_lem s (atom_laws f.bytes) d at g f.within f.few)

pub kept_proper : {s : List ℕ} {d g a g' : ℕ} {r : Node} → Kept s d g r a g' → Proper r
kept_proper {d = d} {r = r} k = fair_proper r d k.fair

-- The top above a part that was read.
pub part_top : (table : List ℕ) (top : ℕ) (r : Node) {table' : List ℕ} {t : ℕ} → record_words * top ≤ length table → Proper r
    → Stands table' t (take (record_words * top) table ++ records r) → t ≡ top + record_count r
part_top table top r {table'} {t} room proper h =
    omega (
      arith,
      stands_long h,
      length-append (take (record_words * top) table) (records r),
      length-take
          (record_words * top) table,
      long r proper,
    )

pub some_part : {x : Part} {a t g : ℕ} {before table' : List ℕ} (p : Got-part x a t g before table') → Proper p.node
    → SomePart table' t
some_part {before = before} p h =
    record { before = before; part = p.node; ends = record { stands = p.stands; proper = h } }

-- ---- the loops: the reading from here on is the reading of the whole; `items` are the parts that were gathered, and fuel what
-- is left
pub record Inv (go : ℕ → List Node → ℕ → ℕ → Part) (k : Kind) (s table₀ table : List ℕ)
    (at groups top here seen next count : ℕ) : Type 0 where
  pub fuel : ℕ
  pub items : List Node
  pub same : go (suc (length s)) [] at groups ≡ go (suc fuel) items here seen
  pub enough : length s ≤ fuel + here
  pub within : here ≤ length s
  pub few : seen ≤ group_limit
  pub room : next ≤ 2 * here
  pub gathered : Gathered k table next count (take (record_words * top) table₀) items
  pub kept : length table ≡ length table₀

pub start : {s table : List ℕ} {at g top : ℕ} (go : ℕ → List Node → ℕ → ℕ → Part) (k : Kind) → Fine s table at g top
    → Inv go k s table table at g top at g top 0
start {s} {table} {at} {g} {top} go k f = record {
  fuel = length s;
  items = [];
  same = refl;
  enough = omega arith;
  within = f.within;
  few = f.few;
  room = f.room;
  gathered = record {
    series = record {
      stands = record {
        below = sym (append-nil (take (record_words * top) table));
        room = omega (arith, f.room, f.within, f.words);
      };
      counted = refl;
      proper = tt;
    };
    apart = tt;
  };
  kept = refl;
}

module _ {go : ℕ → List Node → ℕ → ℕ → Part} {k : Kind} {s table₀ table : List ℕ} {at groups top here seen next count : ℕ}
    (f : Fine s table₀ at groups top) (i : Inv go k s table₀ table at groups top here seen next count) where
  pub fine_here : Fine s table here seen next
  fine_here = record {
    within = i.within;
    short = f.short;
    few = i.few;
    room = i.room;
    words = omega (arith, f.words, i.kept);
    bytes = f.bytes;
  }

  -- One part more, whose own parts are spliced in.
  pub record More (table' : List ℕ) (r : Node) (spliced : Spliced) : Type 0 where
    pub gathered :
        Gathered k table' spliced.top (count + spliced.items) (take (record_words * top) table₀) (i.items ++ parts k r)
    pub grown : spliced.top ≤ next + record_count r
    pub small : count + spliced.items < record_limit

  pub more : {table' : List ℕ} {t : ℕ} {r : Node} {part : Spliced} → Proper r → Flat r → next + record_count r ≤ 2 * length s + 1
      → Stands table' t (take (record_words * next) table ++ records r) → Splices table' t (series_kind k) part
      → More table' r part
  more {table'} {t} {r} {part} proper flat bound stands splices =
      let before : List ℕ = take (record_words * top) table₀ in
      let here : List ℕ = take (record_words * next) table in
      let spliced = splices.by k refl here r (record { stands = stands; proper = proper }) in
      let all : All Proper (parts k r) = parts_proper k r proper in
      let grown : part.top ≡ next + count_all (parts k r) = omega (
        arith,
        stands_long spliced.0,
        length-append here (concat_map records (parts k r)),
        length-take (record_words * next) table,
        i.gathered.series.stands.room,
        long_all (parts k r) all,
      ) in
      let words : here ++ concat_map records (parts k r) ≡ before ++ concat_map records (i.items ++ parts k r) =
      ap (λ l. l ++ concat_map records (parts k r)) i.gathered.series.stands.below
      ∙ append_assoc before (concat_map records i.items) (concat_map records (parts k r))
      ∙ ap (λ l. before ++ l) (sym (records_append i.items (parts k r))) in
      let series : Series table' part.top (count + part.items) before (i.items ++ parts k r) = record {
        stands = rw words at spliced.0;
        counted = omega (arith, i.gathered.series.counted, spliced.1, length-append i.items (parts k r));
        proper = all_append Proper i.items (parts k r) i.gathered.series.proper all;
      } in
      record {
        gathered = record {
          series = series;
          apart = all_append (Not k) i.items (parts k r) i.gathered.apart (parts_flat k r flat);
        };
        grown = omega (arith, grown, count_parts k r);
        small = omega (
          arith,
          series.counted,
          fewer
              (i.items ++ parts k r),
          series_few series,
          grown,
          count_parts k r,
          f.short,
        );
      }

  less : (n : ℕ) → 0 < n → (m : ℕ) × (n ≡ suc m)
  less zero p = absurd (not-suc-le-zero p)
  less (suc m) p = (m, refl)

  -- The loop goes on at b with one turn less.
  pub turn : {table' : List ℕ} {r : Node} {spliced : Spliced} (b g' : ℕ) → More table' r spliced → length table' ≡ length table
      → here < b → b ≤ length s → g' ≤ group_limit → next + record_count r ≤ 2 * b
      → ((n : ℕ) → go (suc n) i.items here seen ≡ go n (i.items ++ parts k r) b g')
      → Inv go k s table₀ table' at groups top b g' spliced.top (count + spliced.items)
  turn {table'} {r} {spliced} b g' m e past inside few bound step =
      let l = less i.fuel (omega (arith, i.enough)) in
      record {
        fuel = l.0;
        items = i.items ++ parts k r;
        same = i.same ∙ step i.fuel ∙ ap (λ n. go n (i.items ++ parts k r) b g') l.1;
        enough = omega (arith, l.1, i.enough);
        within = inside;
        few = few;
        room = omega (arith, m.grown);
        gathered = m.gathered;
        kept = e ∙ i.kept;
      }

-- Parts that were gathered are closed where there is room for a record.
pub closable : (s : List ℕ) {table : List ℕ} {top count : ℕ} {before : List ℕ} {l : List Node} (k : Kind)
    → Gathered k table top count before l
    → length s ≤ pattern_limit → top ≤ 2 * length s + 1 → table_words (length s) ≤ length table
    → SomeGathered table top (series_kind k) count
closable s {before = before} {l = l} k g short room words = record {
  k = k;
  is_kind = refl;
  before = before;
  parts = l;
  gathered = g;
  room = record { low = omega arith; words = omega arith };
}

pub joined_meets : {x : Part} {table table' : List ℕ} {top count end : ℕ} {before : List ℕ} {l : List Node} (k : Kind) (at g : ℕ)
    → x ≡ part (join k l) at g → Gathered k table top count before l → Joins table table' top (series_kind k) count end
    → Meets x (GotPart at end g) before table'
joined_meets {end = end} {before = before} {l = l} k at g e h j = rw e (record { by = (end, refl, j.by k refl before l h) })

-- ---- a sequence's loop
module _ (s : List ℕ) (item : ℕ → ℕ → Part) (l : List Node) (here g n : ℕ) where
  pub seq_end : ends_sequence (byte_at s here) ≡ true → sequence_go s item (suc n) l here g ≡ part (join sequence l) here g
  unfolding sequence_go
  seq_end e = rw e

  pub seq_no : {k p : ℕ} → ends_sequence (byte_at s here) ≡ false → item here g ≡ turned k p
      → sequence_go s item (suc n) l here g ≡ turned k p
  unfolding sequence_go
  seq_no e x = rw (e, x)

  pub seq_more : {r : Node} {a g' : ℕ} → ends_sequence (byte_at s here) ≡ false → item here g ≡ part r a g'
      → sequence_go s item (suc n) l here g ≡ sequence_go s item n (l ++ parts sequence r) a g'
  unfolding sequence_go
  seq_more e x = rw (e, x)

-- ---- a loop of alternatives
module _ (s : List ℕ) (one : ℕ → ℕ → Part) (l : List Node) (here g n : ℕ) where
  pub alt_no : {k p : ℕ} → one here g ≡ turned k p → alternatives_go s one (suc n) l here g ≡ turned k p
  unfolding alternatives_go
  alt_no x = rw x

  pub alt_end : {r : Node} {a g' : ℕ} → (byte_at s a ≡ bar → ⊥) → one here g ≡ part r a g'
      → alternatives_go s one (suc n) l here g ≡ part (join alternation (l ++ parts alternation r)) a g'
  unfolding alternatives_go
  alt_end {r} {a} e x = rw (x, ne_eqb (byte_at s a) bar e)

  pub alt_more : {r : Node} {a g' : ℕ} → byte_at s a ≡ bar → one here g ≡ part r a g'
      → alternatives_go s one (suc n) l here g ≡ alternatives_go s one n (l ++ parts alternation r) (a + 1) g'
  unfolding alternatives_go
  alt_more {r} {a} e x = rw (x, eq-eqb (byte_at s a) bar e)

-- Where a sequence does not end, there is a byte; and so at a `|`.
pub not_ended : (s : List ℕ) (at : ℕ) → ends_sequence (byte_at s at) ≡ false → at < length s
not_ended s at e = byte_within s at (λ n. true≢false (ap ends_sequence (sym n) ∙ e))

pub at_bar : (s : List ℕ) (at : ℕ) → byte_at s at ≡ bar → at < length s
at_bar s at e = byte_within s at (λ n. omega (arith, e, n))
