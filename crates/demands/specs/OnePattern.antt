-- A table holds one pattern: each record says how many records its part has, behind all of them stand zeros, and equal records
-- are those of one pattern.
use Rattle.std.specs.Prelude.{◌≡◌, List, [], ◌++◌, ℕ, ◌+◌, ◌-◌, ◌*◌, ◌≤◌, length, get_or, take, replicate}
use Rattle.std.proofs.Common.{sym, ap, ap₂, ◌∙◌, arith, length-append, take_at, get_or-append-add}
use Rattle.std.proofs.Math.Decide.{dec_lt}
use Rattle.std.proofs.lemmas.List.{length-replicate, get_or-replicate}
use Rattle.std.proofs.Math.ListN.{get_or-eq_default}
use Rattle.meaning.specs.Node.{Node, Proper}
use Rattle.table.specs.Table.{record_words, records_word, word_of, record_count, records}
use Rattle.table.specs.Laws.{long}
use Rattle.table.specs.Stands.{Ends}
use Rattle.table.specs.Roots.{root_records, some_records}
use Rattle.tidying_shapes.proofs.Told.{records_injective}
use Rattle.reading_items.specs.Reading.{Reading.pattern, table_by}

-- A word of zeros is zero, behind them too.
zero_word : (n i : ℕ) → ◌≡◌ {A = ℕ} (get_or (replicate n 0) i 0) 0
zero_word n i = elim (dec_lt i n) [
  | yes l ↦ get_or-replicate n i 0 0 l
  | no l ↦ get_or-eq_default (replicate n 0) 0 (omega (arith, length-replicate {A = ℕ} n 0))
]

-- The records of a pattern, and so many zeros.
abbrev filled : Node → ℕ → List ℕ
filled r zeros = records r ++ replicate zeros 0

-- The pattern ends where its records do,
ends : (r : Node) (zeros : ℕ) → Proper r → Ends (filled r zeros) (record_count r) [] r
ends r zeros p = record {
  stands = record {
    below = take_at (records r) (replicate zeros 0) (record_words * record_count r) (long r p);
    room = omega (arith, long r p, length-append (records r) (replicate zeros 0));
  };
  proper = p;
}

-- and every word behind them is zero.
behind : (r : Node) (zeros i : ℕ) → Proper r → record_words * record_count r ≤ i → get_or (filled r zeros) i 0 ≡ 0
behind r zeros i p h =
    let at : i ≡ length (records r) + (i - length (records r)) = omega (arith, long r p) in
    ap (λ n. get_or (filled r zeros) n 0) at ∙ get_or-append-add (records r) (replicate zeros 0) (i - length (records r)) 0
    ∙ zero_word zeros (i - length (records r))

-- So a pattern in the same table has no more records,
no_more : (r q : Node) (m n : ℕ) → Proper r → Proper q → filled r m ≡ filled q n → record_count q ≤ record_count r
no_more r q m n p p' e = elim (dec_lt (record_count r) (record_count q)) [
  | yes l ↦
      let zero : word_of (filled q n) (record_count q) records_word ≡ 0
      = ap (λ t. word_of t (record_count q) records_word) (sym e)
      ∙ behind r m (record_words * (record_count q - 1) + records_word) p (omega arith) in
      absurd (omega (arith, some_records (ends q n p'), sym (root_records (ends q n p')) ∙ zero))
  | no l ↦ omega arith
]

-- and is that pattern.
pub one_pattern : (r q : Node) (g h : ℕ) (table : List ℕ) → Proper r → Proper q
    → table_by (pattern r g) table ≡ table_by (pattern q h) table → r ≡ q
one_pattern r q g h table p p' e =
    let m : ℕ = length table - record_words * record_count r in
    let n : ℕ = length table - record_words * record_count q in
    let same : record_count r ≡ record_count q = omega (arith, no_more r q m n p p' e, no_more q r n m p' p (sym e)) in
    records_injective r q p p' (sym (ends r m p).stands.below ∙ ap₂ (λ k t. take (record_words * k) t) same e
    ∙ (ends q n p').stands.below)
