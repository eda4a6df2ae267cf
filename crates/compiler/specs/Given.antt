-- A pattern that was read is stored in its table.
use Rattle.std.specs.Prelude.{◌≡◌, refl, Bool, true, false, List, ℕ, suc, ◌-◌, ◌*◌, ◌≤◌, ltb, length, replicate}
use Rattle.std.proofs.Common.{sym, ap, subst₂, ◌∙◌, arith, length-append, take_at, ltb-false}
use Rattle.meaning.specs.Bytes.{Bytes}
use Rattle.meaning.specs.Limits.{pattern_limit, table_words, depth_limit}
use Rattle.meaning.specs.Refusals as No
use Rattle.meaning.specs.Node.{Node, Proper}
use Rattle.table.specs.Table.{record_words, record_count, records}
use Rattle.table.specs.Laws.{long}
use Rattle.table.specs.Stands.{Stands}
use Rattle.reading_atoms.specs.Chars.{choose}
use Rattle.reading_items.specs.Facts.{fair_proper}
use Rattle.reading_items.specs.Kept.{Read}
use Rattle.reading_items.specs.Read.{atom_laws, what_is_read}
use Rattle.reading_items.specs.Reading.{Reading, Reading.pattern, Reading.refused, alternatives_at, whole, first_high, reading}
use Rattle.reading_items.specs.Reading.{table_by, table_after}
use Rattle.reading.specs.Answers.{Reads, answer_of, Reading as Answer, Reading.Pattern, Reading.Turned}
use Rattle.reading_grammar.specs.Grammar.{Derives}
use Rattle.reading_grammar.proofs.Sound.{sound}
use Rattle.tidying.specs.Held.{table_of}
use Rattle.compiler.specs.Charged.{derived_charge}
use Rattle.compiler.specs.Programs.{Stored, SomeStored}

-- What is read has passed check 2.
passed : (t : Bool) (n p : ℕ) (x : Reading) (r : Node) (g : ℕ) → choose t (λ _. refused n p) (λ _. x) ≡ pattern r g
    → (t ≡ false) × (x ≡ pattern r g)
passed true n p x r g e = absurd (let z : ◌≡◌ {A = ℕ} 0 1 = cc in omega arith)
passed false n p x r g e = (refl, e)

words_enough : (s : List ℕ) (table : ℕ) (r : Node) (g : ℕ) → reading s table ≡ pattern r g → table_words (length s) ≤ table
unfolding reading
words_enough s table r g e =
    let short : Bool = ltb table (table_words (length s)) in
    let third : Reading = choose (ltb (first_high s) (length s)) (λ _. refused No.high_byte (first_high s))
    (λ _. whole s (alternatives_at depth_limit s 0 0)) in
    let second : Reading = choose short (λ _. refused No.small_table 0) (λ _. third) in
    let first = passed (ltb pattern_limit (length s)) No.long_pattern 0 second r g e in
    ltb-false table (table_words (length s)) (passed short No.small_table 0 third r g first.1).0

-- The records of a pattern stand first in its table.
stands : (r : Node) (words : ℕ) → Proper r → Stands (table_of r words) (record_count r) (records r)
stands r words proper =
    let zeros : List ℕ = replicate (words - record_words * record_count r) 0 in
    record {
      below = take_at (records r) zeros (record_words * record_count r) (long r proper);
      room = omega (arith, length-append (records r) zeros, long r proper);
    }

-- What was read is in the table that the reading leaves.
read_stored : {s table' : List ℕ} (table : List ℕ) (r : Node) (g : ℕ) → Bytes s → reading s (length table) ≡ pattern r g
    → length table' ≡ length table → table' ≡ table_by (pattern r g) table → Stored table' (record_count r) r (suc g) (length s)
read_stored {s} table r g bytes e same left =
    let known : Read s (atom_laws bytes) r g = what_is_read bytes (length table) r g e in
    let derives : Derives s r g = rw e at (sound s (length table)) in
    let proper : Proper r = fair_proper r depth_limit known.fair in
    record {
      held = record {
        stands = rw left (stands r (length table) proper);
        flat = known.flat;
        proper = proper;
        numbers = known.numbers;
        light = derived_charge s derives;
        short = derives.short;
        room = omega (arith, words_enough s (length table) r g e);
      };
      whole = left ∙ ap (table_of r) (sym same);
    }

-- A pattern that was read, and the table that it is stored in.
pub record Given (s table table' : List ℕ) (top g : ℕ) : Type 0 where
  pub node : Node
  pub is_read : reading s (length table) ≡ pattern node g
  pub stored : Stored table' top node (suc g) (length s)

pub given : {s table table' : List ℕ} {answer : Answer} {top g : ℕ} → Bytes s → length table' ≡ length table
    → Reads s table table' answer → answer ≡ Pattern top g → Given s table table' top g
unfolding table_after
given {s} {table} {table'} {answer} {top} {g} bytes same r f = go (reading s (length table)) refl
  where
    go : (x : Reading) → reading s (length table) ≡ x → Given s table table' top g
    go (pattern q h) e =
        let is : Pattern top g ≡ Pattern (record_count q) h = sym f ∙ r.answer_is ∙ ap answer_of e in
        let u : record_count q ≡ top = cc in
        let v : h ≡ g = cc in
        subst₂ (Given s table table') u v (record {
          node = q;
          is_read = e;
          stored = read_stored table q h bytes e same (r.table_is ∙ ap (λ x. table_by x table) e);
        })
    go (refused n p) e =
        let no : Pattern top g ≡ Turned n p = sym f ∙ r.answer_is ∙ ap answer_of e in
        absurd (let z : ◌≡◌ {A = ℕ} 0 1 = cc in omega arith)

pub given_some : {s table table' : List ℕ} {top g : ℕ} → Given s table table' top g → SomeStored table' top
given_some {s} {g = g} k = record { node = k.node; groups = suc g; bytes = length s; stored = k.stored }
