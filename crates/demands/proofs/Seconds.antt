-- The second engine, over the promises of the public calls: `Answered` of `match_at` and `search`, `Seconded` of `second_match` and
-- `second_search`.
use Rattle.std.specs.Prelude.{◌≡◌, Bool, List, ◌++◌, ℕ, suc, ◌+◌, ◌*◌, ◌-◌, ◌≤◌, ◌<◌, ℤ, length, drop}
use Rattle.std.proofs.Common.{sym, ap₂, ◌∙◌, arith}
use Rattle.std.proofs.Math.Path.{ap}
use Rattle.meaning.specs.Text.{registers_of}
use Rattle.meaning.specs.Bytes.{Bytes, text_of}
use Rattle.machine.specs.Steps.{best, count}
use Rattle.machine.proofs.Coded.{rows_in_length}
use Rattle.machine.specs.Words.{rows_said, groups_said, rows_in, decode}
use Rattle.machine.specs.Replies.{values_of, Lent, lend, lent_by, refusal, run_of, answer_of, reply_to, spans, registers_from}
use Rattle.machine.specs.Replies.{registers_after}
use Rattle.running_moves.specs.Ready.{Ready, ready}
use Rattle.compiler.specs.Compiling.{shaped, Compiles}
use Rattle.compiler.specs.Compiling.{Compilation.Rows}
use Rattle.engine.specs.Answers.{reply_of, executed, Answered}
use Rattle.engine.specs.Answers.{Answer}
use Rattle.engine.specs.Answers.{Answer.Refused}
use Rattle.second.specs.Plain.{Search, Ended, result_of, count_of}
use Rattle.second.specs.Agrees.{second_done, second_agrees}
use Rattle.second.specs.Held.{second_of}
use Rattle.second.specs.Replies.{second_refusal, second_reply, second_registers, Seconded}
use Rattle.second.specs.Laws.{Allowed, allowed}
use Rattle.millkettle.specs.Compiled.{Compiled, compiled}
use Rattle.millkettle.specs.Laws.{Way, row_of, standard_by, finds}
use Rattle.demands.proofs.Runs.{one_answer, row_few, count_of_lem, replied, coded_as, rows_bytes}
use Rattle.demands.specs.Tidied.{outcome, SameSpans}
use Rattle.demands.proofs.Tidied.{outcome_of}
use Rattle.demands.specs.Seconds.{SecondStandard}

-- ---- any call

module _ {code text : List ℕ} {start row : ℕ} {registers registers' : List ℤ} {workspace workspace' : List ℕ} {r : Answer}
    (a : Seconded code text start row registers workspace r registers' workspace') where
  abbrev lent : Lent
  lent = lent_by text start registers workspace

  abbrev S : Search
  S = second_of code text start row

  second_replied : (k : ℕ) → second_refusal code lent ≡ k → reply_of r ≡ reply_to k (result_of S) (count_of S)
  unfolding second_reply
  second_replied k e = a.replies ∙ ap (λ n. reply_to n (result_of S) (count_of S)) e

  -- A refusal is the first in order whose condition holds, and changes nothing.
  pub second_refuses : (k : ℕ) → second_refusal code lent ≡ suc k
      → (r ≡ Refused (suc k)) × (registers' ≡ registers) × (workspace' ≡ workspace)
  unfolding second_registers
  second_refuses k e =
      let is : r ≡ Refused (suc k) = one_answer r (Refused (suc k)) (second_replied (suc k) e) in
      (is, a.spans ∙ ap (λ k. registers_from k (groups_said code) (result_of S) registers) e, a.untouched (suc k) is)

  -- Its registers hold the result of its search.
  second_spans : second_refusal code lent ≡ 0
      → registers' ≡ spans (groups_said code) (result_of S) ++ drop (registers_of (groups_said code)) registers
  unfolding second_registers
  second_spans e = a.spans ∙ ap (λ k. registers_from k (groups_said code) (result_of S) registers) e

-- Two replies agree: answer and registers, whatever workspaces of one length held.
pub one_second : {code text : List ℕ} {start row : ℕ} {before after after' : List ℤ} {work work' left left' : List ℕ}
    {r q : Answer} → length work ≡ length work' → Seconded code text start row before work r after left
    → Seconded code text start row before work' q after' left' → (r ≡ q) × (after ≡ after')
one_second {code} {text} {start} {row} {before} {r = r} {q = q} e a b = (
  one_answer r q (a.replies ∙ ap (λ n. second_reply code (lend text start (length before) n) row) e ∙ sym b.replies),
  a.spans ∙ ap (λ n. second_registers code (lend text start (length before) n) row before) e ∙ sym b.spans,
)

-- ---- calls that are not turned away

module _ (way : Way) (code text : List ℕ) (start : ℕ) (registers : List ℤ) (workspace : List ℕ)
    (e : second_refusal code (lent_by text start registers workspace) ≡ 0) where
  allows : Allowed code (lent_by text start registers workspace)
  allows = allowed code (lent_by text start registers workspace) e

  ready_code : Ready code
  ready_code = ready code allows.passes

  row_low : row_of way < length (rows_in code (rows_said code) 0)
  row_low = omega (arith, rows_in_length code (rows_said code) 0, ready_code.least, row_few way)

  ended_search : Ended (second_of code text start (row_of way))
  ended_search = second_done (decode code) ready_code.rows (text_of text) start (row_of way) row_low allows.inside

  -- Both engines find the same.
  same_result : best (run_of code text start (row_of way)) ≡ result_of (second_of code text start (row_of way))
  same_result = second_agrees (decode code) ready_code.rows (text_of text) start (row_of way) row_low allows.inside

-- The search has ended, and the count reported is its own steps', at most two for each row and position from the start to the end.
pub second_counts : (way : Way) {code text : List ℕ} {start : ℕ} {registers registers' : List ℤ} {workspace workspace' : List ℕ}
    {r : Answer} → Seconded code text start (row_of way) registers workspace r registers' workspace'
    → second_refusal code (lent_by text start registers workspace) ≡ 0
    → Ended (second_of code text start (row_of way)) × (executed r ≡ count_of (second_of code text start (row_of way)))
    × (executed r ≤ 2 * rows_said code * (length text - start + 1))
second_counts way {code} {text} {start} {registers} {workspace = workspace} a e =
    let S : Search = second_of code text start (row_of way) in (
      ended_search way code text start registers workspace e,
      ap (λ x. (values_of x).count) (second_replied a 0 e) ∙ count_of_lem (result_of S) (count_of S),
      a.bounded,
    )

-- The second opinion: on all code that passes the check and all texts that it takes, a call of the second engine answers what the
-- call of the main engine does, but for the count, and its registers hold the same spans. Each call has buffers of its own.
pub second_same : (way : Way) {code text : List ℕ} {start : ℕ} {registers registers₂ registers' registers'' : List ℤ}
    {workspace workspace₂ workspace' workspace'' : List ℕ} {r q : Answer}
    → refusal code (lent_by text start registers workspace) ≡ 0
    → Answered code text start (row_of way) registers workspace r registers' workspace'
    → second_refusal code (lent_by text start registers₂ workspace₂) ≡ 0
    → Seconded code text start (row_of way) registers₂ workspace₂ q registers'' workspace''
    → (outcome (reply_of r) ≡ outcome (reply_of q)) × SameSpans (groups_said code) registers registers' registers₂ registers''
unfolding registers_after
second_same way {code} {text} {start} {registers} {registers₂} {workspace = workspace} {workspace₂ = workspace₂} e a f b =
    let M = run_of code text start (row_of way) in
    let S : Search = second_of code text start (row_of way) in
    let same = same_result way code text start registers₂ workspace₂ f in (
      ap outcome (replied a 0 e) ∙ outcome_of (best M) (count M) (count_of S)
          ∙ ap (λ o. outcome (answer_of o (count_of S))) same ∙ sym (ap outcome (second_replied b 0 f)),
      record {
        result = result_of S;
        first = a.spans ∙ ap (λ k. registers_from k (groups_said code) (best M) registers) e
            ∙ ap (λ o. spans (groups_said code) o ++ drop (registers_of (groups_said code)) registers) same;
        second = second_spans b f;
      },
    )

pub second_standard : (tidying : Bool) (way : Way) {s text : List ℕ} {start : ℕ} {table table' code code' : List ℕ}
    {registers registers' : List ℤ} {workspace workspace' : List ℕ} {n g : ℕ} {answer : Answer} → Bytes text
    → Compiles tidying s table table' code code' (Rows n g)
    → second_refusal code' (lent_by text start registers workspace) ≡ 0
    → Seconded code' text start (row_of way) registers workspace answer registers' workspace'
    → SecondStandard tidying way s table text start g registers registers' answer
second_standard tidying way {s} {text} {start} {table} {code = code} {code' = code'} {registers = registers}
    {workspace = workspace} {n = n} {g = g} bt h e a =
    let m : Compiled tidying s table code n g = compiled tidying s table code n g (rows_bytes h) (sym h.answers) in
    let c = coded_as h.code_is m.is_coded in
    let S : Search = second_of code' text start (row_of way) in
    let result : result_of S ≡ standard_by way text g (shaped tidying m.node) start
    = sym (same_result way code' text start registers workspace e)
    ∙ finds c text bt start way (allows way code' text start registers workspace e).inside in
    record {
      node = m.node;
      is_read = m.is_read;
      answers = second_replied a 0 e ∙ ap₂ answer_of result (sym (second_counts way a e).1);
      spans_are = second_spans a e ∙ ap₂ (λ k o. spans k o ++ drop (registers_of k) registers) c.groups_said_lem result;
    }
