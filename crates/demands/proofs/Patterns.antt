-- What a pattern is answered with by `compile` and `compile_tidied`, by the grammar's own words and no parser's, and what they
-- leave behind.
use Rattle.std.specs.Prelude.{◌≡◌, refl, ◌↔◌, Bool, List, ℕ, zero, suc, ◌≤◌, ◌<◌, ltb, length, get_or}
use Rattle.std.proofs.Common.{sym, ap, subst, ◌∙◌, arith, lt-ltb, le-ltb, ltb-true, ltb-false, le-leb}
use Rattle.std.proofs.Math.Decide.{dec_lt}
use Rattle.std.proofs.lemmas.Bool.{lt-leb}
use Rattle.std.proofs.Math.ListN.{get_or-eq_default}
use Rattle.meaning.specs.Limits.{table_words, row_limit, code_words}
use Rattle.meaning.specs.Refusals as No
use Rattle.meaning.specs.Tests.{by_test}
use Rattle.meaning.specs.Node.{Node}
use Rattle.meaning.specs.Bytes.{Bytes}
use Rattle.reading_items.specs.Reading.{Reading, Reading.pattern, Reading.refused, reading}
use Rattle.reading_grammar.specs.Grammar.{Derives}
use Rattle.reading_grammar.specs.Refusals.{Checks.small}
use Rattle.reading_grammar.proofs.Sound.{Sound, sound}
use Rattle.reading_grammar.proofs.Complete.{complete}
use Rattle.reading_grammar.proofs.First.{refused_first, first_refused, read_none}
use Rattle.code_rows.specs.Emission.{rows_needed}
use Rattle.compiler.specs.Compiling.{shaped, unwritten, answer_for, table_for, code_for, answer_by, table_left, code_left}
use Rattle.compiler.specs.Compiling.{Compiles}
use Rattle.compiler.specs.Compiling.{Compilation}
use Rattle.compiler.specs.Compiling.{Compilation.Rows, Compilation.Refused}
use Rattle.demands.specs.Patterns.{Left, Replies, many, rows, short, turned}

module _ (tidying : Bool) (s : List ℕ) (table code : ℕ) where
  -- The answer is so,
  replies : Replies tidying s table code (answer_by tidying (reading s table) code)
  replies = go (reading s table) refl
    where
      room : (r : Node) (g : ℕ) → reading s table ≡ pattern r g → table_words (length s) ≤ table
      room r g e = elim (dec_lt table (table_words (length s))) [
        | yes l ↦ absurd ((read_none s table r g e No.small_table 0).0 (small l))
        | no l ↦ omega arith
      ]

      go : (x : Reading) → reading s table ≡ x → Replies tidying s table code (answer_by tidying x code)
      go (refused k p) e = turned (refused_first s table k p e)
      go (pattern r g) e =
          let d : Derives s r g = subst (Sound s table) e (sound s table) in
          by_test (λ k. Replies tidying s table code (answer_for k (shaped tidying r) g)) (ltb row_limit (rows_needed r))
          (λ t. many d (room r g e) (ltb-true _ _ t)) (λ f.
          by_test (λ k. Replies tidying s table code (answer_for k (shaped tidying r) g))
          (ltb code (code_words (rows_needed (shaped tidying r))))
          (λ t. short d (room r g e) (ltb-false _ _ f) (ltb-true _ _ t))
          (λ h. rows d (room r g e) (ltb-false _ _ f) (ltb-false _ _ h)))

  -- and what is so is the answer.
  only : {x : Compilation} → Replies tidying s table code x → answer_by tidying (reading s table) code ≡ x
  only (turned {k} {p} t) = ap (λ y. answer_by tidying y code) (first_refused s table k p t)
  only (many {r} {g} d room m) =
      ap (λ y. answer_by tidying y code) (complete s r g table d room) ∙ rw (lt-ltb row_limit (rows_needed r) m)
  only (short {r} {g} d room m h) =
      ap (λ y. answer_by tidying y code) (complete s r g table d room)
      ∙ rw (le-ltb row_limit (rows_needed r) m, lt-ltb code (code_words (rows_needed (shaped tidying r))) h)
  only (rows {r} {g} d room m h) =
      ap (λ y. answer_by tidying y code) (complete s r g table d room)
      ∙ rw (le-ltb row_limit (rows_needed r) m, le-ltb code (code_words (rows_needed (shaped tidying r))) h)

module _ {tidying : Bool} {s table table' code code' : List ℕ} {answer : Compilation}
    (c : Compiles tidying s table table' code code' answer) where
  pub answered_exactly : (x : Compilation) → (answer ≡ x) ↔ Replies tidying s (length table) (length code) x
  answered_exactly x = (
    λ e. subst (Replies tidying s (length table) (length code)) (sym c.answers ∙ e)
        (replies tidying s (length table) (length code)),
    λ h. c.answers ∙ only tidying s (length table) (length code) h,
  )

  -- A ground of 15 or 16 is no check.
  late : (r : Node) (k : ℕ) → unwritten tidying r (length code) ≡ suc k → No.high_byte < suc k
  late r k e = by_test (λ n. n ≡ suc k → No.high_byte < suc k) (ltb row_limit (rows_needed r)) (λ _ f. omega arith) (λ _ f.
      by_test (λ n. n ≡ suc k → No.high_byte < suc k) (ltb (length code) (code_words (rows_needed (shaped tidying r))))
      (λ _ h. omega arith) (λ _ h. absurd (omega arith)) f) e

  pub left_behind : (k p : ℕ) → answer ≡ Refused k p → Left table table' code code' k
  left_behind k p a = go (reading s (length table)) refl
    where
      says : (x : Reading) → reading s (length table) ≡ x → Refused k p ≡ answer_by tidying x (length code)
      says x e = sym a ∙ c.answers ∙ ap (λ y. answer_by tidying y (length code)) e

      by_number : (r : Node) (g n : ℕ) → reading s (length table) ≡ pattern r g → unwritten tidying r (length code) ≡ n
          → Refused k p ≡ answer_for n (shaped tidying r) g → Left table table' code code' k
      by_number r g zero e u f = absurd (let z : ◌≡◌ {A = ℕ} 0 1 = cc in omega arith)
      by_number r g (suc n) e u f =
          let same : k ≡ suc n = cc in
          let high = late r n u in
          record {
            code_stays = c.code_is ∙ ap (λ y. code_left tidying y code) e
                ∙ ap (λ m. code_for m (shaped tidying r) g code) u;
            table_stays = λ h. absurd (omega (arith, same, high));
            table_zero = λ h. c.table_is ∙ ap (λ y. table_left tidying y (length code) table) e
                ∙ ap (λ m. table_for m (shaped tidying r) g table) u;
          }

      go : (x : Reading) → reading s (length table) ≡ x → Left table table' code code' k
      go (refused n q) e =
          let f : Refused k p ≡ Refused n q = says (refused n q) e in
          let same : n ≡ k = cc in
          record {
            code_stays = c.code_is ∙ ap (λ y. code_left tidying y code) e;
            table_stays = λ h. c.table_is ∙ ap (λ y. table_left tidying y (length code) table) e
                ∙ rw (same, le-leb k No.high_byte h);
            table_zero = λ h. c.table_is ∙ ap (λ y. table_left tidying y (length code) table) e
                ∙ rw (same, lt-leb k No.high_byte h);
          }
      go (pattern r g) e = by_number r g (unwritten tidying r (length code)) e refl (says (pattern r g) e)

-- What is answered with rows derives, and so it is bytes.
pub derives : {tidying : Bool} {s : List ℕ} {table code n g : ℕ} → Replies tidying s table code (Rows n g)
    → (r : Node) × Derives s r g
derives (rows {r} d room m h) = (r, d)

pub derived_bytes : {s : List ℕ} {r : Node} {g : ℕ} → Derives s r g → Bytes s
derived_bytes {s} d = record { byte = λ i. go i (dec_lt i (length s)) }
  where
    absent : (i : ℕ) → length s ≤ i → get_or s i 0 ≡ 0
    absent i l = get_or-eq_default s 0 l

    go : (i : ℕ) → Dec (i < length s) → get_or s i 0 < 256
    go i (yes l) = omega (arith, d.low i l)
    go i (no l) = omega (arith, absent i (omega arith))
