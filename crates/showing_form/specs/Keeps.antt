-- Every reading that has rows, and every tidying of one, is of the form.
use Rattle.std.specs.Prelude.{◌≡◌, refl, List, ℕ, zero, suc, ◌+◌, ◌-◌, ◌*◌, ◌≤◌, length, replicate, Bool, true, false}
use Rattle.std.proofs.Common.{sym, ap, subst, ◌∙◌, inl, inr, arith, length-append, take_all, ltb-false}
use Rattle.std.proofs.lemmas.List.{length-replicate}
use Rattle.meaning.specs.Bytes.{Bytes}
use Rattle.meaning.specs.Grounds.{none_holds}
use Rattle.meaning.specs.Refusals as No
use Rattle.meaning.specs.Limits.{table_words, depth_limit, row_limit, least_rows}
use Rattle.meaning.specs.Node.{Node, lo, hi, Proper}
use Rattle.meaning.specs.Flat.{Flat}
use Rattle.meaning.specs.Numbering.{Numbers, Range, range}
use Rattle.machine.specs.Layout.{size_of}
use Rattle.table.specs.Table.{record_words, record_count, records}
use Rattle.table.specs.Laws.{long}
use Rattle.table.specs.Stands.{Stands}
use Rattle.reading_items.specs.Facts.{fair_proper}
use Rattle.reading_items.specs.Kept.{Read}
use Rattle.reading_items.specs.Read.{atom_laws, what_is_read}
use Rattle.reading_items.specs.Reading.{Reading, Reading.pattern, Reading.refused, reading, table_by}
use Rattle.reading_grammar.specs.Grammar.{Derives}
use Rattle.reading_grammar.specs.Checked.{Checking, checked}
use Rattle.reading_grammar.proofs.Sound.{sound}
use Rattle.tidying_laws.specs.Charge as charged
use Rattle.tidying_laws.specs.Tidier.{tidy}
use Rattle.tidying_laws.proofs.Tidy.{tidy_numbers, tidy_flat, tidy_proper, tidy_rows, tidy_records}
use Rattle.tidying_laws.proofs.Found.{places_records}
use Rattle.tidying.specs.Held.{table_of}
use Rattle.tidying.specs.Standing.{place_count}
use Rattle.code_rows.specs.Emission.{rows_needed}
use Rattle.compiler.specs.Charged.{derived_charge}
use Rattle.compiler.specs.Compiling.{shaped, program_grounds, unwritten, answer_for, table_for, answer_by, table_left, compilation, table_at}
use Rattle.compiler.specs.Compiling.{Compilation.Rows}
use Rattle.showing_form.specs.Form.{OfForm}

-- The highest group is the number before the one that is free.
highest : (r : Node) (g : ℕ) → Numbers 1 r (suc g) → hi r ≡ g
highest r g h = go (range r 1 (suc g) (omega arith) h)
  where
    go : Range 1 (lo r) (hi r) (suc g) → hi r ≡ g
    go (inl f) = omega arith
    go (inr f) = omega arith

-- A tree with its records in a table that has room for them.
table_form : (r : Node) (g words : ℕ) → Proper r → record_words * record_count r ≤ words → length (table_of r words) ≡ words
table_form r g words p h = omega (
  arith,
  length-append (records r) (replicate (words - record_words * record_count r) 0),
  long r p,
  length-replicate {A = ℕ} (words - record_words * record_count r) 0,
)

-- A tree has as many records by either count.
count_is : (q : Node) → Proper q → Flat q → record_count q ≡ charged.records q
count_is q p f =
    let stands : Stands (records q) (record_count q) (records q)
    = record { below = take_all (record_words * record_count q) (records q) (omega (arith, long q p)); room = omega (arith, long q p) } in
    sym (place_count q (record { proper = p; flat = f }) stands) ∙ places_records q

module _ {s : List ℕ} (table : List ℕ) (r : Node) (g : ℕ) (bytes : Bytes s) (e : reading s (length table) ≡ pattern r g)
    (rows : least_rows + size_of r ≤ row_limit) where
  known : Read s (atom_laws bytes) r g
  known = what_is_read bytes (length table) r g e

  derives : Derives s r g
  derives = rw e at (sound s (length table))

  room : table_words (length s) ≤ length table
  room = go (checked s (length table))
    where
      go : Checking s (length table) (reading s (length table)) → table_words (length s) ≤ length table
      go (inl (n, p, h, q)) =
          let z : pattern r g ≡ refused n p = sym e ∙ q in absurd (let y : ◌≡◌ {A = ℕ} 0 1 = cc in omega arith)
      go (inr (h, q)) = h.room

  pub read_form : OfForm (table_by (pattern r g) table) r
  read_form =
      let proper : Proper r = fair_proper r depth_limit known.fair in
      let long : length (table_of r (length table)) ≡ length table
      = table_form r g (length table) proper (omega (arith, known.few_records, room)) in
      record {
        flat = known.flat;
        proper = proper;
        numbers = rw (highest r g known.numbers) known.numbers;
        groups = omega (arith, highest r g known.numbers, known.few_groups);
        few = omega (arith, known.few_records, derives.short);
        rows = rows;
        words = ap (table_of r) (sym long);
      }

  pub tidied_form : OfForm (table_by (pattern (tidy r) g) table) (tidy r)
  tidied_form =
      let proper : Proper (tidy r) = tidy_proper r (suc g) known.numbers read_form.proper in
      let numbers : Numbers 1 (tidy r) (suc g) = tidy_numbers r (suc g) known.numbers in
      let flat : Flat (tidy r) = tidy_flat r (suc g) known.numbers known.flat in
      let few : record_count (tidy r) ≤ 2 * length s + 1
      = omega (
        arith,
        count_is (tidy r) proper flat,
        tidy_records r (suc g) known.numbers known.flat (length s) (derived_charge s derives),
      ) in
      let long : length (table_of (tidy r) (length table)) ≡ length table
      = table_form (tidy r) g (length table) proper (omega (arith, room)) in
      record {
        flat = flat;
        proper = proper;
        numbers = rw (highest (tidy r) g numbers) numbers;
        groups = omega (arith, highest (tidy r) g numbers, known.few_groups);
        few = omega (arith, derives.short);
        rows = omega (arith, tidy_rows r (suc g) known.numbers);
        words = ap (table_of (tidy r)) (sym long);
      }

-- So the table that the compilers leave where they answer rows is of the form, with the tree that became rows.
pub record Compiled (tidying : Bool) (s table code : List ℕ) : Type 0 where
  pub tree : Node
  pub form : OfForm (table_at tidying s table code) tree

pub compiled_form : {s : List ℕ} → Bytes s → (tidying : Bool) (table code : List ℕ) (n g : ℕ)
    → compilation tidying s table code ≡ Rows n g → Compiled tidying s table code
compiled_form {s} bytes tidying table code n g e = by_reading (reading s (length table)) refl e
  where
    by_number : (r : Node) (h : ℕ) → reading s (length table) ≡ pattern r h → (k : ℕ) → unwritten tidying r (length code) ≡ k
        → answer_for k (shaped tidying r) h ≡ Rows n g → Compiled tidying s table code
    by_number r h q zero z a =
        let few : least_rows + size_of r ≤ row_limit
        = ltb-false row_limit (rows_needed r) (none_holds No.many_rows (program_grounds tidying r (length code)) refl z) in
        let left : table_at tidying s table code ≡ table_by (pattern (shaped tidying r) h) table
        = ap (λ x. table_left tidying x (length code) table) q ∙ ap (λ (k : ℕ). table_for k (shaped tidying r) h table) z in
        record { tree = shaped tidying r; form = subst (λ (t : List ℕ). OfForm t (shaped tidying r)) (sym left) (both tidying few) }
      where
        both : (t : Bool) → least_rows + size_of r ≤ row_limit → OfForm (table_by (pattern (shaped t r) h) table) (shaped t r)
        both true few = tidied_form table r h bytes q few
        both false few = read_form table r h bytes q few
    by_number r h q (suc k) z a = absurd (let y : ◌≡◌ {A = ℕ} 0 1 = cc in omega arith)

    by_reading : (x : Reading) → reading s (length table) ≡ x → answer_by tidying x (length code) ≡ Rows n g
        → Compiled tidying s table code
    by_reading (pattern r h) q a = by_number r h q (unwritten tidying r (length code)) refl a
    by_reading (refused k p) q a = absurd (let y : ◌≡◌ {A = ℕ} 0 1 = cc in omega arith)
