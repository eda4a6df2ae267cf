-- Replies that the promises of `find` and `compile` rule out: never found, a fixed span wherever it finds, another count than the
-- steps', never rows, and code left as it was. Each is refuted by lines whose answers the outline says. Only patterns and texts
-- that are bytes are asked of what answers, so that `find` itself is such (Cheats: the same of runs).
use Rattle.std.specs.Prelude.{◌≡◌, refl, Bool, true, false, List, [], ◌∷◌, ℕ, zero, suc, ◌<◌, ℤ, pos, get_or, replicate}
use Rattle.std.proofs.Common.{sym, ap, ◌∙◌, arith}
use Rattle.std.proofs.Math.Option.{Option, none, some}
use Rattle.sets.specs.Sets.{bit, has, word_of, set_of}
use Rattle.meaning.specs.Quoted.{bytes}
use Rattle.meaning.specs.Flat.{parts}
use Rattle.meaning.specs.Grounds.{first_of}
use Rattle.meaning.specs.Bytes.{Bytes}
use Rattle.meaning.specs.Node.{Node}
use Rattle.meaning.specs.Text.{Regs, unset, fits, opened, closed, cleared, wiped}
use Rattle.meaning.specs.Standard.{matcher, match_at, search_from}
use Rattle.machine.specs.Steps.{steps, run}
use Rattle.machine.specs.Layout.{size_of, rows_of, any_byte}
use Rattle.machine.specs.Words.{code_of}
use Rattle.reading_atoms.specs.Braces.{quantifier_at}
use Rattle.reading_items.specs.Reading.{Reading.pattern, opening_at, item_by, item_at, sequence_go, alternatives_go, reading}
use Rattle.compiler.specs.Compiling.{compilation, code_at, Compiles}
use Rattle.compiler.specs.Compiling.{Compilation}
use Rattle.compiler.specs.Compiling.{Compilation.Rows}
use Rattle.tidying_laws.specs.Vectors.{computed}
use Rattle.machine.specs.Replies.{Lent, lent_by, answer_of, reply_to}
use Rattle.millkettle.specs.Finding.{finding_from, finding_by, find_grounds, sought, steps_taken, finding, spans_left, counted, Finds}
use Rattle.millkettle.specs.Finding.{Finding}
use Rattle.millkettle.specs.Finding.{Finding.Found}

-- Buffers of zeros that are enough for a pattern of one byte: 64 table words, 120 code words, 2 registers and 288
-- workspace words.
abbrev pub table : List ℕ
table = replicate 64 0

abbrev pub code : List ℕ
code = replicate 120 0

abbrev pub registers : List ℤ
registers = replicate 2 (pos 0)

abbrev pub workspace : List ℕ
workspace = replicate 288 0

-- A reply to a search for a pattern in a text with these buffers: its answer and its registers.
pub record Replies (s text : List ℕ) (answer : Finding) (registers' : List ℤ) : Type 0 where
  pub table' : List ℕ
  pub code' : List ℕ
  pub workspace' : List ℕ
  pub finds : Finds s text 0 table table' code code' registers registers' workspace workspace' answer

-- What answers every search by its promise.
pub record Answering : Type 0 where
  pub answer : List ℕ → List ℕ → Finding
  pub spans : List ℕ → List ℕ → List ℤ
  pub replies : (s text : List ℕ) → Bytes s → Bytes text → Replies s text (answer s text) (spans s text)

-- Empty pattern and text: found, 0,0. `a` in "a": found, 0,1.
empty_found : finding [] 64 120 (lent_by [] 0 registers workspace) ≡ Found 4
unfolding reading alternatives_go sequence_go parts size_of search_from match_at matcher
    run steps rows_of unset fits opened closed cleared wiped
empty_found = refl

abbrev a_count : ℕ
a_count = counted (finding (bytes "a") 64 120 (lent_by (bytes "a") 0 registers workspace))

a_found : finding (bytes "a") 64 120 (lent_by (bytes "a") 0 registers workspace) ≡ Found a_count
unfolding reading alternatives_go sequence_go item_at item_by opening_at quantifier_at parts size_of search_from match_at matcher
    run steps rows_of unset fits opened closed cleared wiped any_byte set_of word_of has bit
a_found = refl

empty_spans : spans_left [] 64 120 (lent_by [] 0 registers workspace) registers ≡ pos 0 ∷ pos 0 ∷ []
unfolding reading alternatives_go sequence_go parts size_of search_from match_at matcher unset fits opened closed cleared wiped
empty_spans = refl

a_spans : spans_left (bytes "a") 64 120 (lent_by (bytes "a") 0 registers workspace) registers ≡ pos 0 ∷ pos 1 ∷ []
unfolding reading alternatives_go sequence_go item_at item_by opening_at quantifier_at parts size_of search_from match_at matcher
    unset fits opened closed cleared wiped any_byte set_of word_of has bit
a_spans = refl

-- No byte, and one.
pub no_bytes_lem : Bytes []
no_bytes_lem = record { byte = λ i. omega arith }

pub one_byte : Bytes (bytes "a")
one_byte = record { byte = λ i. go i }
  where
    go : (i : ℕ) → get_or (bytes "a") i 0 < 256
    go zero = omega arith
    go (suc i) = omega arith

module _ (a : Answering) where
  found_empty : a.answer [] [] ≡ Found 4
  found_empty = (a.replies [] [] no_bytes_lem no_bytes_lem).finds.answers ∙ empty_found

  found_a : a.answer (bytes "a") (bytes "a") ≡ Found a_count
  found_a = (a.replies (bytes "a") (bytes "a") one_byte one_byte).finds.answers ∙ a_found

  -- Never found: refusing everything, always none, and any mixture of the two.
  pub never_found : ((s text : List ℕ) (n : ℕ) → a.answer s text ≡ Found n → ⊥) → ⊥
  never_found f = f [] [] 4 found_empty

  -- One span wherever it finds.
  pub fixed_span : (l : List ℤ) → ((s text : List ℕ) (n : ℕ) → a.answer s text ≡ Found n → a.spans s text ≡ l) → ⊥
  fixed_span l f =
      let one : pos 0 ∷ pos 0 ∷ [] ≡ l
      = sym empty_spans ∙ sym (a.replies [] [] no_bytes_lem no_bytes_lem).finds.spans_are ∙ f [] [] 4 found_empty in
      let other : pos 0 ∷ pos 1 ∷ [] ≡ l
      = sym a_spans ∙ sym (a.replies (bytes "a") (bytes "a") one_byte one_byte).finds.spans_are
      ∙ f (bytes "a") (bytes "a") a_count found_a in
      let z : ◌≡◌ {A = ℕ} 0 1 = cc in
      omega arith

  -- A count other than the steps', of any pattern that is read and run.
  pub other_count : (s text : List ℕ) → Bytes s → Bytes text → (r : Node) (g : ℕ) → reading s 64 ≡ pattern r g
      → first_of (find_grounds r g 120 (lent_by text 0 registers workspace)) ≡ 0
      → (counted (a.answer s text) ≡ steps_taken r g (lent_by text 0 registers workspace) → ⊥) → ⊥
  other_count s text bs bt r g e z f =
      f (ap counted ((a.replies s text bs bt).finds.answers ∙ ap (λ x. finding_by x 120 lent) e
      ∙ ap (λ k. finding_from (reply_to k (sought r g lent) (steps_taken r g lent))) z) ∙ told (sought r g lent))
    where
      lent : Lent
      lent = lent_by text 0 registers workspace

      told : (o : Option Regs) → counted (finding_from (answer_of o (steps_taken r g lent))) ≡ steps_taken r g lent
      told none = refl
      told (some ρ) = refl

-- A compiler, plain or tidying, that never answers rows: the empty pattern has 8.
empty_rows : (tidying : Bool) → compilation tidying [] table code ≡ Rows 8 0
unfolding reading alternatives_go sequence_go parts size_of computed
empty_rows true = refl
empty_rows false = refl

pub never_rows : (tidying : Bool) {table' code' : List ℕ} {answer : Compilation}
    → Compiles tidying [] table table' code code' answer → ((n g : ℕ) → answer ≡ Rows n g → ⊥) → ⊥
never_rows tidying h f = f 8 0 (h.answers ∙ empty_rows tidying)

-- A compiler that leaves the code as it was: the first word of the empty pattern's code is its number of rows, 8.
first_word : (tidying : Bool) → get_or (code_at tidying [] table code) 0 0 ≡ 8
unfolding reading alternatives_go sequence_go parts size_of code_of rows_of computed
first_word true = refl
first_word false = refl

pub leaves_code : (tidying : Bool) {table' code' : List ℕ} {answer : Compilation}
    → Compiles tidying [] table table' code code' answer → code' ≡ code → ⊥
leaves_code tidying h e =
    let no : ◌≡◌ {A = ℕ} 8 0 = sym (first_word tidying) ∙ ap (λ c. get_or c 0 0) (sym h.code_is ∙ e) in
    omega arith
