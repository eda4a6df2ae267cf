-- Runs that the promise of `match_at` and `search` rules out, whatever answers them: one that never finds, one whose span is the
-- same wherever it finds, and one with another count than the steps'. What is asked of it can be had: the definitions answer so.
use Rattle.std.specs.Prelude.{◌≡◌, refl, List, [], ◌∷◌, ◌++◌, ℕ, zero, suc, ◌+◌, ◌*◌, ◌-◌, ◌≤◌, ℤ, pos, length, drop}
use Rattle.std.proofs.Common.{sym, ap, ◌∙◌, arith}
use Rattle.std.proofs.Math.Option.{Option, none, some}
use Rattle.meaning.specs.Quoted.{bytes}
use Rattle.meaning.specs.Flat.{parts}
use Rattle.meaning.specs.Text.{Regs, registers_of, unset, fits, opened, closed, cleared, wiped}
use Rattle.meaning.specs.Bytes.{Bytes}
use Rattle.meaning.specs.Node.{Node.empty}
use Rattle.meaning.specs.Standard.{matcher, match_at, search_from}
use Rattle.machine.specs.Layout.{size_of}
use Rattle.machine.specs.Steps.{count, best}
use Rattle.machine.specs.Words.{rows_said}
use Rattle.machine.specs.Replies.{Reply, Reply.found, Reply.missing, Reply.refused, lent_by, turned_away, refusal, run_of}
use Rattle.machine.specs.Replies.{answer_of, reply_to, reply, spans, registers_after}
use Rattle.reading_items.specs.Reading.{Reading.pattern, sequence_go, alternatives_go, reading}
use Rattle.compiler.specs.Compiling.{plain, table_at, code_at, Compiles}
use Rattle.compiler.specs.Compiling.{Compilation.Rows}
use Rattle.engine.specs.Answers.{reply_of, executed, Answered}
use Rattle.engine.specs.Answers.{Answer}
use Rattle.engine.specs.Answers.{Answer.Found, Answer.Missing, Answer.Refused}
use Rattle.millkettle.specs.Laws.{Way, Way.matching, Way.searching, row_of, standard_by}
use Rattle.demands.specs.Impossible.{table, code, registers, workspace, no_bytes_lem, one_byte}
use Rattle.demands.specs.Runs.{answer_as, SomeStandard}
use Rattle.demands.proofs.Runs.{few_rows, compiled_standard, counted_rows}

-- The code of the empty pattern.
abbrev empty_code : List ℕ
empty_code = code_at plain [] table code

empty_compiles : Compiles plain [] table (table_at plain [] table code) code empty_code (Rows 8 0)
unfolding reading alternatives_go sequence_go parts size_of
empty_compiles = record { answers = refl; table_is = refl; code_is = refl }

empty_read : reading [] (length table) ≡ pattern empty 0
unfolding reading alternatives_go sequence_go parts
empty_read = refl

-- What answers every run by its promise, with these registers and this workspace.
pub record Running (way : Way) : Type 0 where
  pub answer : List ℕ → List ℕ → ℕ → Answer
  pub spans_left_lem : List ℕ → List ℕ → ℕ → List ℤ
  pub words_left : List ℕ → List ℕ → ℕ → List ℕ
  pub answered : (c text : List ℕ) (start : ℕ) → Bytes text
      → Answered c text start (row_of way) registers workspace (answer c text start) (spans_left_lem c text start)
      (words_left c text start)

-- Of the empty pattern it says what the standard's algorithm does.
module _ (way : Way) (a : Running way) (text : List ℕ) (start : ℕ) (bt : Bytes text) where
  abbrev said : Answer
  said = a.answer empty_code text start

  standard : SomeStandard plain way [] table text start 8 0 registers (a.spans_left_lem empty_code text start) workspace said
  standard = compiled_standard plain way bt empty_compiles (a.answered empty_code text start bt)

  is_empty : standard.node ≡ empty
  is_empty = let e : pattern standard.node 0 ≡ pattern empty 0 = sym standard.is_read ∙ empty_read in cc

  module _ (ρ : Regs) (room : turned_away 8 0 (lent_by text start registers workspace) ≡ 0)
      (e : standard_by way text 0 empty start ≡ some ρ) where
    there : standard_by way text 0 standard.node start ≡ some ρ
    there = ap (λ r. standard_by way text 0 r start) is_empty ∙ e

    finds_it : said ≡ Found (executed said)
    finds_it = go said (standard.standard.answers room ∙ ap (λ o. answer_of o (executed said)) there)
      where
        go : (r : Answer) {n : ℕ} → reply_of r ≡ found n → r ≡ Found (executed r)
        go (Found n) f = refl
        go (Missing n) f = absurd (let z : ◌≡◌ {A = ℕ} 0 1 = cc in omega arith)
        go (Refused n) f = absurd (let z : ◌≡◌ {A = ℕ} 0 1 = cc in omega arith)

    spans_it : a.spans_left_lem empty_code text start ≡ spans 0 (some ρ) ++ drop (registers_of 0) registers
    spans_it = standard.standard.spans_are room
        ∙ ap (λ o. spans 0 o ++ drop (registers_of 0) registers) there

-- Nothing from position 0 on, and nothing behind one byte.
empty_at : (way : Way) → standard_by way [] 0 empty 0 ≡ some (some 0 ∷ some 0 ∷ [])
unfolding search_from match_at matcher unset fits opened closed cleared wiped
empty_at matching = refl
empty_at searching = refl

empty_behind : (way : Way) → standard_by way (bytes "a") 0 empty 1 ≡ some (some 1 ∷ some 1 ∷ [])
unfolding search_from match_at matcher unset fits opened closed cleared wiped
empty_behind matching = refl
empty_behind searching = refl

module _ (way : Way) (a : Running way) where
  -- Never found: refusing everything, always none, and any mixture of the two.
  pub never_found : ((c text : List ℕ) (start n : ℕ) → a.answer c text start ≡ Found n → ⊥) → ⊥
  never_found f = f empty_code [] 0 (executed (a.answer empty_code [] 0))
      (finds_it way a [] 0 no_bytes_lem (some 0 ∷ some 0 ∷ []) refl (empty_at way))

  -- One span wherever it finds.
  pub fixed_span : (l : List ℤ)
      → ((c text : List ℕ) (start n : ℕ) → a.answer c text start ≡ Found n → a.spans_left_lem c text start ≡ l) → ⊥
  fixed_span l f =
      let one : pos 0 ∷ pos 0 ∷ [] ≡ l
      = sym (spans_it way a [] 0 no_bytes_lem (some 0 ∷ some 0 ∷ []) refl (empty_at way))
      ∙ f empty_code [] 0 _ (finds_it way a [] 0 no_bytes_lem (some 0 ∷ some 0 ∷ []) refl (empty_at way)) in
      let other : pos 1 ∷ pos 1 ∷ [] ≡ l
      = sym (spans_it way a (bytes "a") 1 one_byte (some 1 ∷ some 1 ∷ []) refl (empty_behind way))
      ∙ f empty_code (bytes "a") 1 _ (finds_it way a (bytes "a") 1 one_byte (some 1 ∷ some 1 ∷ []) refl (empty_behind way)) in
      let z : ◌≡◌ {A = ℕ} 0 1 = cc in
      omega arith

  -- A count other than the steps', of any run that is not turned away.
  pub other_count : (c text : List ℕ) (start : ℕ) → Bytes text → refusal c (lent_by text start registers workspace) ≡ 0
      → (executed (a.answer c text start) ≡ count (run_of c text start (row_of way)) → ⊥) → ⊥
  other_count c text start bt e f = f (counted_rows (a.answered c text start bt) e)

-- What is asked can be had: the definitions answer so, and leave the workspace alone.
told_again : (x : Reply) → reply_of (answer_as x) ≡ x
unfolding answer_as
told_again (found n) = refl
told_again (missing n) = refl
told_again (refused n) = refl

counted_again : (o : Option Regs) (n : ℕ) → executed (answer_as (answer_of o n)) ≡ n
unfolding answer_as
counted_again none n = refl
counted_again (some ρ) n = refl

few_told : (way : Way) (c text : List ℕ) (start : ℕ)
    → executed (answer_as (reply c (lent_by text start registers workspace) (row_of way)))
    ≤ 2 * rows_said c * (length text - start + 1)
unfolding answer_as reply
few_told way c text start = go (refusal c (lent_by text start registers workspace)) refl
  where
    go : (k : ℕ) → refusal c (lent_by text start registers workspace) ≡ k
        → executed (answer_as (reply_to k (best (run_of c text start (row_of way))) (count (run_of c text start (row_of way)))))
        ≤ 2 * rows_said c * (length text - start + 1)
    go (suc k) e = omega arith
    go zero e =
        rw (counted_again (best (run_of c text start (row_of way))) (count (run_of c text start (row_of way))))
        (few_rows way c text start registers workspace e)

pub answering : (way : Way) → Running way
answering way = record {
  answer = λ c text start. answer_as (reply c (lent_by text start registers workspace) (row_of way));
  spans_left_lem = λ c text start. registers_after c (lent_by text start registers workspace) (row_of way) registers;
  words_left = λ c text start. workspace;
  answered = λ c text start bt. record {
    replies = told_again (reply c (lent_by text start registers workspace) (row_of way));
    spans = refl;
    long = refl;
    later = λ i h. refl;
    untouched = λ n e. refl;
    bounded = few_told way c text start;
  };
}
