-- What `emit` answers and leaves in the code: refusals 15 and 16, or the program. Every case is by the number of rows alone.
use Rattle.std.specs.Prelude.{◌≡◌, refl, ◌⊎◌, cond, List, ◌++◌, ℕ, ◌+◌, ◌≤◌, ◌<◌, eqb, ltb, length, drop, Result, Ok, Err}
use Rattle.std.proofs.Common.{sym, ap, ◌∙◌, inl, inr, arith, lt-ltb, le-ltb}
use Rattle.meaning.specs.Limits.{row_limit, least_rows, code_words}
use Rattle.meaning.specs.Node.{Node}
use Rattle.meaning.specs.Refusals as No
use Rattle.meaning.specs.Refusing.{number_of}
use Rattle.meaning.specs.declared.refusals.Refusal.{Refusal}
use Rattle.meaning.specs.declared.refusals.Refusal.TheVariants as Why
use Rattle.machine.specs.Layout.{size_of, program_of}
use Rattle.machine.specs.Words.{code_of}
use Rattle.table.specs.Table.{word_of, size_word}
use Rattle.table.specs.Roots.{root_size}
use Rattle.code_rows.specs.Program.{Tabled, Compiling, Compiles}

-- What becomes of a pattern's table: a program of so many rows; too many of them; or code too short for them.
pub data Emission : Type 0 where
  Rows : ℕ → Emission
  TooMany : Emission
  TooShort : Emission

-- How it is answered, and what an answer says: no other refusal is one.
abbrev pub answer_of : Emission → Result ℕ Refusal
answer_of (Rows n) = Ok n
answer_of TooMany = Err Why.ManyRows
answer_of TooShort = Err Why.ShortCode

abbrev pub emission_of : Result ℕ Refusal → Emission
emission_of (Ok n) = Rows n
emission_of (Err why) = cond (eqb (number_of why) No.many_rows) TooMany TooShort

-- A refusal is one of the two, and says which.
pub refused_as : {answer : Result ℕ Refusal} {why : Refusal} → answer ≡ answer_of (emission_of answer) → answer ≡ Err why
    → ((emission_of answer ≡ TooMany) × (why ≡ Why.ManyRows)) ⊎ ((emission_of answer ≡ TooShort) × (why ≡ Why.ShortCode))
refused_as {answer} {why} e is = go (emission_of answer) refl
  where
    go : (x : Emission) → emission_of answer ≡ x
        → ((emission_of answer ≡ TooMany) × (why ≡ Why.ManyRows)) ⊎ ((emission_of answer ≡ TooShort) × (why ≡ Why.ShortCode))
    go (Rows n) p = absurd (let no = sym is ∙ e ∙ ap answer_of p in cc)
    go TooMany p = inl (p, let so = sym is ∙ e ∙ ap answer_of p in cc)
    go TooShort p = inr (p, let so = sym is ∙ e ∙ ap answer_of p in cc)

-- The number of rows of a pattern's program.
abbrev pub rows_needed : Node → ℕ
rows_needed r = least_rows + size_of r

-- More than 1,024 rows are refused as 15, and then code under 12(n+1) words as 16; otherwise the program has n rows.
abbrev pub emission : Node → ℕ → Emission
emission r words =
    cond (ltb row_limit (rows_needed r)) TooMany
    (cond (ltb words (code_words (rows_needed r))) TooShort (Rows (rows_needed r)))

-- A refusal leaves the code alone; the program's code stands before the words that stood behind it.
abbrev pub code_emitted : ℕ → Node → List ℕ → List ℕ
code_emitted g r code =
    cond (ltb row_limit (rows_needed r)) code
    (cond (ltb (length code) (code_words (rows_needed r))) code (code_of (program_of g r) ++ drop (code_words (rows_needed r)) code))

-- What is asked: the table's first records are a pattern's.
pub record SomeTabled (table : List ℕ) (top : ℕ) : Type 0 where
  pub node : Node
  pub tabled : Tabled table top node

-- What is answered, whatever the pattern is.
pub record Emits (table : List ℕ) (top groups : ℕ) (code code' : List ℕ) (answer : Emission) : Type 0 where
  pub answers : (r : Node) → Tabled table top r → answer ≡ emission r (length code)
  pub leaves : (r : Node) → Tabled table top r → code' ≡ code_emitted groups r code

module _ {table : List ℕ} {top w : ℕ} (e : w ≡ word_of table top size_word) where
  -- The size's word says whether there are too many rows, and if not how many.
  many_rows_lem : {r : Node} → Tabled table top r → row_limit < least_rows + w → row_limit < rows_needed r
  many_rows_lem t h = omega (arith, root_size t)

  pub few_rows : {r : Node} → Tabled table top r → least_rows + w ≤ row_limit → least_rows + w ≡ rows_needed r
  few_rows t h = omega (arith, root_size t)

  pub too_many : (g : ℕ) (code : List ℕ) → row_limit < least_rows + w → Emits table top g code code TooMany
  too_many g code h = record {
    answers = λ r t. rw (lt-ltb row_limit (rows_needed r) (many_rows_lem t h));
    leaves = λ r t. rw (lt-ltb row_limit (rows_needed r) (many_rows_lem t h));
  }

  module _ (few : least_rows + w ≤ row_limit) where
    pub too_short : (g : ℕ) (code : List ℕ) → length code < code_words (least_rows + w) → Emits table top g code code TooShort
    too_short g code h = record {
      answers = λ r t. let n = few_rows t few in
          rw (le-ltb row_limit (rows_needed r) (omega arith), lt-ltb (length code) (code_words (rows_needed r)) (omega arith));
      leaves = λ r t. let n = few_rows t few in
          rw (le-ltb row_limit (rows_needed r) (omega arith), lt-ltb (length code) (code_words (rows_needed r)) (omega arith));
    }

    pub compiling : (code : List ℕ) → code_words (least_rows + w) ≤ length code → SomeTabled table top → Compiling table top code
    compiling code h s = let n = few_rows s.tabled few in
        record { node = s.node; tabled = s.tabled; roomy = record { short = omega arith; long = omega arith } }

    pub emitted : (g : ℕ) {code code' : List ℕ} → code_words (least_rows + w) ≤ length code → Compiles table top g code code'
        → Emits table top g code code' (Rows (least_rows + w))
    emitted g {code} {code'} h c = record {
      answers = λ r t. let n = few_rows t few in
          rw (le-ltb row_limit (rows_needed r) (omega arith), le-ltb (length code) (code_words (rows_needed r)) (omega arith))
          (ap Rows n);
      leaves = λ r t. let n = few_rows t few in
          rw (le-ltb row_limit (rows_needed r) (omega arith), le-ltb (length code) (code_words (rows_needed r)) (omega arith))
          (c.by r t (record { short = omega arith; long = omega arith }));
    }
