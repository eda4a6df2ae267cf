-- Two parts are equal exactly if their records are, word for word. Assumes nothing.
use mathlib.Core.Path.{◌≡◌, sym, ap, ◌∙◌}
use mathlib.Core.Bool.{Bool}
use mathlib.Core.List.{List}
use Prim.Native.Nat.{ℕ, ◌+◌, ◌-◌, ◌*◌, ◌≤◌}
use native.Mathlib.Omega.{arith}
use lib.Dec.{eqb}
use lib.ListN.{length, take, drop, length-append}
use Rattle.std.proofs.lemmas.List.{drop-take, drop_at}
use Rattle.std.proofs.lemmas.Bool.Decides.{Decides-eqb}
use Rattle.std.proofs.lemmas.Slice.Eq.{slice_eq-Decides}
use Rattle.std.specs.Cmp.Lexicographic.{pointwise}
use Rattle.std.specs.List.{slice_range}
use Rattle.meaning.specs.Node.{Node}
use Rattle.table.specs.Table.{record_words, record_count, records}
use Rattle.table.specs.Laws.{long}
use Rattle.table.specs.Roots.{stands_long}
use Rattle.tidying_shapes.proofs.Told.{records_injective}
use Rattle.tidying_laws.specs.Equal.{same, same_eq, same_refl}
use Rattle.table.specs.Stands.{Ends, SomePart}
use Rattle.tidying_fitting.specs.Parts.{Tells, TellsBoth, room}
use Rattle.tidying_fitting.specs.Words.{start_of, same_test}

-- The words of the records from `from` to `top`.
abbrev pub words_from : List ℕ → ℕ → ℕ → List ℕ
words_from table from top = slice_range table (record_words * from) (record_words * top)

-- Those of a part are its records.
block : {table : List ℕ} {top from : ℕ} {before : List ℕ} (r : Node) → Ends table top before r → from ≡ top - record_count r
    → words_from table from top ≡ records r
block {table} {top} {from} {before} r p e =
    let at : length before ≡ record_words * from
    = omega (arith, stands_long p.stands, length-append before (records r), long r p.proper, (room p).few) in
    let all : record_words * from + (record_words * top - record_words * from) ≡ record_words * top = omega arith in
    sym (drop-take (record_words * from) (record_words * top - record_words * from) table)
    ∙ ap (λ k. drop (record_words * from) (take k table)) all ∙ ap (drop (record_words * from)) p.stands.below
    ∙ drop_at before (records r) (record_words * from) at

-- So equal words are equal parts.
pub blocks_told : {table : List ℕ} {one other from back : ℕ} → Tells from table one (start_of one)
    → Tells back table other (start_of other) → {b : Bool}
    → b ≡ pointwise eqb (words_from table from one) (words_from table back other) → TellsBoth b table one other same
blocks_told {table} {one} {other} {from} {back} s t {b} e = record {
  by = λ before before' p q hp hq.
      let d = slice_eq-Decides Decides-eqb (words_from table from one) (words_from table back other) b e in
      let u : words_from table from one ≡ records p = block p hp (s.by before p hp) in
      let v : words_from table back other ≡ records q = block q hq (t.by before' q hq) in
      same_test b (same p q) (λ h. rw (records_injective p q hp.proper hq.proper (sym u ∙ d.0 h ∙ v)) (same_refl q))
      (λ h. d.1 (u ∙ ap records (same_eq p q h) ∙ sym v));
}

-- Where a part starts.
pub record Starts (table : List ℕ) (top n : ℕ) : Type 0 where
  pub few : n ≤ top
  pub room : record_words * top ≤ length table

pub starts : {table : List ℕ} {top n : ℕ} → SomePart table top → Tells n table top (start_of top) → Starts table top n
starts {table} {top} {n} s t =
    let e : n ≡ top - record_count s.part = t.by s.before s.part s.ends in
    record { few = omega arith; room = s.ends.stands.room }
