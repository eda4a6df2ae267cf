-- The promises leave one reply for every input: what is said to be a definition of the inputs is the same for any two replies.
use Rattle.std.specs.Prelude.{◌≡◌, Bool, List, ℕ, ℤ, length}
use Rattle.std.proofs.Common.{sym, ap, ◌∙◌}
use Rattle.machine.specs.Replies.{lend, reply, registers_after}
use Rattle.compiler.specs.Compiling.{Compiles}
use Rattle.compiler.specs.Compiling.{Compilation}
use Rattle.engine.specs.Answers.{Answered}
use Rattle.engine.specs.Answers.{Answer}
use Rattle.repetition.specs.Listings.{listing, list_after, Lists}
use Rattle.repetition.specs.Listings.{Listing}
use Rattle.millkettle.specs.Finding.{finding, spans_left, Finds}
use Rattle.millkettle.specs.Finding.{Finding}
use Rattle.host.specs.Surface.{CompilesBytes, RunsBytes}
use Rattle.host.specs.declared.Compiled.{Compiled}
use Rattle.host.specs.declared.Ran.{Ran}
use Rattle.demands.proofs.Runs.{one_answer}

-- Two replies that are one definition's agree.
pub agree : {A : Type 0} {a b definition : A} → a ≡ definition → b ≡ definition → a ≡ b
agree e f = e ∙ sym f

-- So do two of `compile`, or of `compile_tidied`: answer, table and code.
pub one_compilation : {tidying : Bool} {s table t₁ t₂ code c₁ c₂ : List ℕ} {a₁ a₂ : Compilation}
    → Compiles tidying s table t₁ code c₁ a₁ → Compiles tidying s table t₂ code c₂ a₂ → (a₁ ≡ a₂) × (t₁ ≡ t₂) × (c₁ ≡ c₂)
one_compilation f g = (agree f.answers g.answers, agree f.table_is g.table_is, agree f.code_is g.code_is)

-- Two of `match_at`, or of `search`: answer and registers, whatever their workspaces of one length held.
pub one_run : {code text : List ℕ} {start row : ℕ} {before after after' : List ℤ}
    {work work' left left' : List ℕ} {r q : Answer}
    → length work ≡ length work' → Answered code text start row before work r after left
    → Answered code text start row before work' q after' left' → (r ≡ q) × (after ≡ after')
one_run {code} {text} {start} {row} {before} {r = r} {q = q} e a b = (
  one_answer r q (a.replies ∙ ap (λ n. reply code (lend text start (length before) n) row) e ∙ sym b.replies),
  a.spans ∙ ap (λ n. registers_after code (lend text start (length before) n) row before) e ∙ sym b.spans,
)

-- Two of `search_all`: answer and list, whatever their workspaces of one length held.
pub one_listing : {code text : List ℕ} {start : ℕ} {before after after' : List ℤ} {work work' left left' : List ℕ}
    {r q : Listing} → length work ≡ length work' → Lists code text start before after work left r
    → Lists code text start before after' work' left' q → (r ≡ q) × (after ≡ after')
one_listing {code} {text} {start} {before} e a b = (
  a.answers ∙ ap (listing code text start (length before)) e ∙ sym b.answers,
  a.list_is ∙ ap (list_after code text start before) e ∙ sym b.list_is,
)

-- Two of `find`: answer, table, code and registers, whatever their workspaces of one length held.
pub one_finding : {s text : List ℕ} {start : ℕ} {table t₁ t₂ code c₁ c₂ : List ℕ} {before r₁ r₂ : List ℤ}
    {work work' left left' : List ℕ} {a₁ a₂ : Finding}
    → length work ≡ length work' → Finds s text start table t₁ code c₁ before r₁ work left a₁
    → Finds s text start table t₂ code c₂ before r₂ work' left' a₂ → (a₁ ≡ a₂) × (t₁ ≡ t₂) × (c₁ ≡ c₂) × (r₁ ≡ r₂)
one_finding {s} {text} {start} {table} {code = code} {before = before} e f g = (
  f.answers ∙ ap (λ n. finding s (length table) (length code) (lend text start (length before) n)) e ∙ sym g.answers,
  agree f.table_is g.table_is,
  agree f.code_is g.code_is,
  f.spans_are ∙ ap (λ n. spans_left s (length table) (length code) (lend text start (length before) n) before) e
      ∙ sym g.spans_are,
)

-- Two of a call on bytes: the numbers passed and the lent bytes.
pub one_compiled : {tidying : Bool} {s code c d : List ℕ} {r q : Compiled}
    → CompilesBytes tidying s code r c → CompilesBytes tidying s code q d → (r ≡ q) × (c ≡ d)
one_compiled f g = (agree f.answers g.answers, agree f.code_is g.code_is)

pub one_ran : {row start : ℕ} {code text registers c d : List ℕ} {r q : Ran}
    → RunsBytes row code text start registers r c → RunsBytes row code text start registers q d → (r ≡ q) × (c ≡ d)
one_ran f g = (agree f.replies g.replies, agree f.spans g.spans)
