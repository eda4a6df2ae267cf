-- Demand 3, over the promises of the public calls: the tidied pattern answers as the plain one, has no more rows, and no law
-- still applies to it.
use Rattle.std.specs.Prelude.{◌≡◌, refl, Bool, List, [], ◌∷◌, ◌++◌, ℕ, suc, ◌+◌, ◌≤◌, ℤ, length, drop}
use Rattle.std.proofs.Common.{sym, ap, ap₂, subst, ◌∙◌, mul-le-mul_right, arith, le-ltb, ltb-false}
use Rattle.std.proofs.Math.Option.{Option, none, some}
use Rattle.meaning.specs.Limits.{code_words, workspace_words}
use Rattle.meaning.specs.Refusals as No
use Rattle.meaning.specs.Grounds.{none_holds}
use Rattle.meaning.specs.Text.{Regs, registers_of}
use Rattle.meaning.specs.Bytes.{Bytes, asserts, text_of}
use Rattle.meaning.specs.Node.{Node}
use Rattle.meaning.specs.Numbering.{Numbers}
use Rattle.machine.specs.Allowed.{within}
use Rattle.machine.specs.Replies.{Lent, lent_by, lent_grounds, turned_away}
use Rattle.machine.specs.Replies.{lend, answer_of, spans}
use Rattle.meaning.specs.All.{All}
use Rattle.tidying_laws.specs.Void.{fair}
use Rattle.tidying_laws.specs.List.{becomes}
use Rattle.tidying_laws.specs.Anywhere.{SameAnywhere}
use Rattle.tidying_laws.proofs.Anywhere.{laws_anywhere}
use Rattle.tidying_laws.specs.Tidier.{tidy}
use Rattle.tidying_laws.proofs.Tidy.{tidy_alike, tidy_rows, tidy_clean, tidy_match, tidy_search}
use Rattle.reading_items.specs.Read.{what_is_read}
use Rattle.reading_items.specs.Reading.{Reading.pattern, reading}
use Rattle.code_rows.specs.Emission.{rows_needed}
use Rattle.compiler.specs.Compiling.{plain, tidied, program_grounds, unwritten, answer_for, table_for, answer_by, table_left}
use Rattle.compiler.specs.Compiling.{compilation, Compiles}
use Rattle.millkettle.specs.Compiled.{Coded, Compiled, compiled}
use Rattle.compiler.specs.Compiling.{Compilation}
use Rattle.compiler.specs.Compiling.{Compilation.Rows}
use Rattle.engine.specs.Answers.{reply_of, executed, Answered}
use Rattle.engine.specs.Answers.{Answer}
use Rattle.millkettle.specs.Laws.{Way, Way.matching, Way.searching, row_of, standard_by}
use Rattle.demands.proofs.Runs.{answers_standard, coded_as, rows_bytes}
use Rattle.demands.specs.Tidied.{Neat, SameSpans, SameStandard, Twins, outcome}

-- Whatever `compile_tidied` answers with rows is so: demand 3.
pub neat : (s table code : List ℕ) (n g : ℕ) → Bytes s → compilation tidied s table code ≡ Rows n g → Neat s table code n g
neat s table code n g bytes e =
    let m : Compiled tidied s table code n g = compiled tidied s table code n g bytes e in
    let r : Node = m.node in
    let numbers : Numbers 1 r (suc g) = (what_is_read bytes (length table) r g m.is_read).numbers in
    record {
      node = r;
      is_read = m.is_read;
      is_coded = m.is_coded;
      table_holds = ap (λ x. table_left tidied x (length code) table) m.is_read
          ∙ ap (λ k. table_for k (tidy r) g table) m.is_written;
      alike = tidy_alike r (suc g) numbers;
      fewer = omega (arith, m.is_coded.rows_are, tidy_rows r (suc g) numbers);
      clean = tidy_clean r (suc g) numbers;
    }

-- A pattern that has a plain program has a tidied one, with no more rows.
pub also_tidied : (s table code : List ℕ) (n g : ℕ) → Bytes s → Compiled plain s table code n g
    → (m : ℕ) × (compilation tidied s table code ≡ Rows m g) × (m ≤ n)
also_tidied s table code n g bytes m =
    let r : Node = m.node in
    let numbers : Numbers 1 r (suc g) = (what_is_read bytes (length table) r g m.is_read).numbers in
    let fewer : rows_needed (tidy r) ≤ rows_needed r = omega (arith, tidy_rows r (suc g) numbers) in
    let was = none_holds No.short_code (program_grounds plain r (length code)) refl m.is_written in
    let room : code_words (rows_needed r) ≤ length code = ltb-false _ _ was in
    let written : unwritten tidied r (length code) ≡ 0
    = rw (le-ltb (length code) (code_words (rows_needed (tidy r))) (omega arith)) (rw was at m.is_written) in (
      rows_needed (tidy r),
      ap (λ x. answer_by tidied x (length code)) m.is_read ∙ ap (λ k. answer_for k (tidy r) g) written,
      omega (arith, m.is_coded.rows_are),
    )

-- What is lent to a run is enough for one of fewer rows.
enough : (n m g : ℕ) (lent : Lent) → m ≤ n → turned_away n g lent ≡ 0 → turned_away m g lent ≡ 0
enough n m g lent h z =
    let few : workspace_words m g ≤ workspace_words n g = mul-le-mul_right (g + 2) (omega arith) in
    let was = none_holds No.small_workspace (lent_grounds n g lent) refl z in
    let room : workspace_words n g ≤ lent.workspace = ltb-false _ _ was in
    rw (le-ltb lent.workspace (workspace_words m g) (omega arith)) (rw was at z)

-- The standard's algorithm finds the same on the tidied pattern.
pub same_standard : (way : Way) (text : List ℕ) → Bytes text → (r : Node) (n g start : ℕ) → Numbers 1 r n → start ≤ length text
    → standard_by way text g r start ≡ standard_by way text g (tidy r) start
same_standard matching text bytes r n g start h l = tidy_match r n h (text_of text) (fair bytes asserts) g start l
same_standard searching text bytes r n g start h l = tidy_search r n h (text_of text) (fair bytes asserts) g start l

pub outcome_of : (o : Option Regs) (n m : ℕ) → outcome (answer_of o n) ≡ outcome (answer_of o m)
outcome_of none n m = refl
outcome_of (some ρ) n m = refl

-- The compilation of a pattern goes by the lengths of the buffers, and not by what they hold.
same_lengths : (tidying : Bool) (s table table₂ code code₂ : List ℕ) → length table ≡ length table₂
    → length code ≡ length code₂ → compilation tidying s table code ≡ compilation tidying s table₂ code₂
same_lengths tidying s table table₂ code code₂ e f = ap₂ (λ m n. answer_by tidying (reading s m) n) e f

-- What both compilers leave for one pattern, each with buffers of its own, of equal lengths, whatever they hold.
pub twins : {s table table₂ table' table'' code code₂ code' code'' : List ℕ} {n g : ℕ} {compiled : Compilation}
    → Compiles plain s table table' code code' (Rows n g) → length table ≡ length table₂ → length code ≡ length code₂
    → Compiles tidied s table₂ table'' code₂ code'' compiled
    → (m : ℕ) × (r : Node) × (compiled ≡ Rows m g) × Twins code' code'' n m g r
twins {s} {table} {table₂} {code = code} {code₂ = code₂} {code'' = code''} {n = n} {g = g} h et ec k =
    let bs : Bytes s = rows_bytes h in
    let here : compilation plain s table₂ code₂ ≡ Rows n g
    = sym (same_lengths plain s table table₂ code code₂ et ec) ∙ sym h.answers in
    let o : Compiled plain s table code n g = compiled plain s table code n g bs (sym h.answers) in
    let p : Compiled plain s table₂ code₂ n g = compiled plain s table₂ code₂ n g bs here in
    let (m, e, fewer) = also_tidied s table₂ code₂ n g bs p in
    let t : Neat s table₂ code₂ m g = neat s table₂ code₂ m g bs e in
    let one : o.node ≡ t.node = same_node (sym o.is_read ∙ ap (reading s) et ∙ t.is_read) in (
      m,
      o.node,
      k.answers ∙ e,
      record {
        as_read = coded_as h.code_is o.is_coded;
        as_tidied = subst (λ (r : Node). Coded code'' m g (tidy r)) (sym one) (coded_as k.code_is t.is_coded);
        fewer = fewer;
      },
    )
  where
    same_node : {x y : Node} {i j : ℕ} → pattern x i ≡ pattern y j → x ≡ y
    same_node e = cc

-- Demand 3 of `compile`, `compile_tidied`, `match_at` and `search` together, each with buffers of its own, of equal lengths,
-- whatever they hold: where the plain pattern has room to run, the tidied one has a program of no more rows, which finds the
-- same, with every group the same, or nothing as well.
pub same_answers : (way : Way) {s text : List ℕ} {start : ℕ} {table table₂ table' table'' code code₂ code' code'' : List ℕ}
    {registers registers₂ registers' registers'' : List ℤ} {workspace workspace₂ workspace' workspace'' : List ℕ} {n g : ℕ}
    {compiled : Compilation} {r q : Answer} → Bytes text → Compiles plain s table table' code code' (Rows n g)
    → length table ≡ length table₂ → length code ≡ length code₂ → Compiles tidied s table₂ table'' code₂ code'' compiled
    → turned_away n g (lent_by text start registers workspace) ≡ 0
    → Answered code' text start (row_of way) registers workspace r registers' workspace'
    → length registers ≡ length registers₂ → length workspace ≡ length workspace₂
    → Answered code'' text start (row_of way) registers₂ workspace₂ q registers'' workspace''
    → ((m : ℕ) × (compiled ≡ Rows m g) × (m ≤ n)) × (outcome (reply_of r) ≡ outcome (reply_of q))
    × SameSpans g registers registers' registers₂ registers''
same_answers way {text = text} {start = start} {registers = registers} {registers₂ = registers₂} {workspace = workspace}
    {workspace₂ = workspace₂} {n = n} {g = g} {r = r} {q = q} bt h et ec k room a er ew b =
    let lent : Lent = lent_by text start registers₂ workspace₂ in
    let again : turned_away n g lent ≡ 0 = sym (ap₂ (λ x y. turned_away n g (lend text start x y)) er ew) ∙ room in
    let (m, o, e, t) = twins h et ec k in
    let u = answers_standard way {n = n} {g = g} {r = o} bt t.as_read a in
    let v = answers_standard way {n = m} {g = g} {r = tidy o} bt t.as_tidied b in
    let small : turned_away m g lent ≡ 0 = enough n m g lent t.fewer again in
    let std : standard_by way text g o start ≡ standard_by way text g (tidy o) start
    = same_standard way text bt o (suc g) g start t.as_read.numbers (within n g lent again) in (
      (m, e, t.fewer),
      ap outcome (u.answers room) ∙ outcome_of (standard_by way text g o start) (executed r) (executed q)
          ∙ ap (λ o. outcome (answer_of o (executed q))) std ∙ sym (ap outcome (v.answers small)),
      record {
        result = standard_by way text g (tidy o) start;
        first = u.spans_are room ∙ ap (λ o. spans g o ++ drop (registers_of g) registers) std;
        second = v.spans_are small;
      },
    )

standard_there : (r q : Node) → SameAnywhere r q → SameStandard r q
standard_there r q h a n k matching text bytes g start l = (h a n k (text_of text) (fair bytes asserts) g start l).0
standard_there r q h a n k searching text bytes g start l = (h a n k (text_of text) (fair bytes asserts) g start l).1

pub laws_standard : All (λ W. (r q : Node) → W r q → SameStandard r q) becomes
laws_standard = go becomes laws_anywhere
  where
    go : (l : List (Node → Node → Type 0)) → All (λ W. (r q : Node) → W r q → SameAnywhere r q) l
        → All (λ W. (r q : Node) → W r q → SameStandard r q) l
    go [] h = tt
    go (W ∷ l) h = (λ r q w. standard_there r q (h.0 r q w), go l h.1)
