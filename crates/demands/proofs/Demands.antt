-- The three demands, over the promises of the public calls: `Compiles` of `compile` and `compile_tidied`, `Answered` of
-- `match_at` and `search`, `Lists` of `search_all`, `CompilesBytes` and `RunsBytes` of the host's calls, `intake_output` of the
-- intake program. `Finds` of `find` is demand 2 in one definition. That every call ends, and touches only what was lent, is the
-- toolchain's part: a function that may not end, or reaches further, is not proved.
use Rattle.std.specs.Prelude.{◌≡◌, refl, ◌↔◌, Bool, true, List, ◌∷◌, ◌++◌, ℕ, suc, ◌+◌, ◌*◌, ◌-◌, ◌≤◌, ◌<◌, ℤ, length, take, drop}
use Rattle.std.proofs.Common.{sym}
use Rattle.std.proofs.Math.Option.{Option}
use Rattle.meaning.specs.All.{All}
use Rattle.meaning.specs.Text.{Regs}
use Rattle.meaning.specs.Bytes.{Bytes, text_of}
use Rattle.meaning.specs.Limits.{code_words}
use Rattle.meaning.specs.Grounds.{first_of}
use Rattle.meaning.specs.Results.{concat_map}
use Rattle.meaning.specs.Node.{Node}
use Rattle.meaning.specs.Refusals as No
use Rattle.meaning.specs.Standard.{search_from}
use Rattle.machine.specs.Steps.{count, seen, Done}
use Rattle.machine.specs.Words.{rows_said, decode}
use Rattle.machine.specs.Inner.{inner_rows, inner, Straight, RowsApart, fixed}
use Rattle.machine.specs.Replies.{values_of, lent_by, turned_away, refusal, run_of, reply_to}
use Rattle.machine.specs.Repetition.{repetition, executed_in}
use Rattle.tidying_laws.specs.List.{becomes}
use Rattle.reading_grammar.specs.Grammar.{Derives}
use Rattle.compiler.specs.Compiling.{plain, tidied, shaped, Compiles}
use Rattle.compiler.specs.Compiling.{Compilation}
use Rattle.compiler.specs.Compiling.{Compilation.Rows, Compilation.Refused as Unread}
use Rattle.engine.specs.Answers.{reply_of, executed, Answered}
use Rattle.engine.specs.Answers.{Answer}
use Rattle.engine.specs.Answers.{Answer.Refused}
use Rattle.repetition.specs.Listings.{listing_values, lent_all, repetition_refusal, words_of, list_grounds, spans_of, Lists}
use Rattle.repetition.specs.Listings.{Listing}
use Rattle.repetition.specs.Listings.{Listing.Listed, Listing.Short, Listing.Refused as Unlisted}
use Rattle.millkettle.specs.Laws.{Way, row_of, standard_by}
use Rattle.intake_report.specs.Texts.{header_line}
use Rattle.intake_report.specs.Lines.{lines_of}
use Rattle.intake_lines.specs.Intake.{compiled, intake_output}
use Rattle.host.specs.Surface.{compiled_numbers, ran_numbers, lent_to, CompilesBytes, RunsBytes}
use Rattle.host.specs.declared.Ran.{Ran}
use Rattle.demands.specs.Patterns.{Replies, Left}
use Rattle.demands.proofs.Patterns.{answered_exactly, left_behind}
use Rattle.demands.specs.Runs.{steps_of}
use Rattle.demands.proofs.Runs.{bounded_rows, counted_rows, turned_rows, ended_run, position_rows}
use Rattle.demands.specs.Runs.{SomeStandard}
use Rattle.demands.proofs.Runs.{compiled_standard, rows_bytes}
use Rattle.demands.proofs.Tight.{compiled_tight, compiled_once, compiled_inner}
use Rattle.demands.specs.HostAnswers.{kept_grounds, bytes_from}
use Rattle.demands.proofs.HostAnswers.{host_standard}
use Rattle.demands.specs.IntakeAnswers.{line_saying, line_grounds}
use Rattle.demands.proofs.IntakeAnswers.{intake_standard}
use Rattle.demands.specs.Tidied.{Neat, outcome, SameSpans, SameStandard}
use Rattle.demands.proofs.Tidied.{neat, same_answers, laws_standard}
use Rattle.demands.specs.AllMatches.{Bounded}
use Rattle.demands.proofs.AllMatches.{first_number, nothing_changed, too_short, all_listed, bounded}
use Rattle.demands.specs.AllMatches.{SomeStandardAll, outcome_all, SameLists}
use Rattle.demands.proofs.AllMatches.{compiled_all, same_lists}

-- Demand 1, for any bytes as a pattern, and any table and code: the answer is exactly what the grammar and the table of refusals
-- say, 1 to 14 with their places, 15 and 16 by the rows, and rows otherwise; and what a refusal leaves is by its number.
pub demand_1_patterns : {tidying : Bool} {s table table' code code' : List ℕ} {answer : Compilation}
    → Compiles tidying s table table' code code' answer
    → ((x : Compilation) → (answer ≡ x) ↔ Replies tidying s (length table) (length code) x)
    × ((k p : ℕ) → answer ≡ Unread k p → Left table table' code code' k)
demand_1_patterns c = (answered_exactly c, left_behind c)

-- Demand 1, for any code, text, start, registers and workspace: a refusal is the first in order whose condition holds, and
-- changes nothing;
pub demand_1 : {code text : List ℕ} {start row : ℕ} {registers registers' : List ℤ} {workspace workspace' : List ℕ} {r : Answer}
    → Answered code text start row registers workspace r registers' workspace'
    → (k : ℕ) → refusal code (lent_by text start registers workspace) ≡ suc k
    → (r ≡ Refused (suc k)) × (registers' ≡ registers) × (workspace' ≡ workspace)
demand_1 a = turned_rows a

-- a run that is not turned away has ended, and the count reported is the steps';
pub demand_1_count : (way : Way) {code text : List ℕ} {start : ℕ} {registers registers' : List ℤ}
    {workspace workspace' : List ℕ}
    {r : Answer} → Answered code text start (row_of way) registers workspace r registers' workspace'
    → refusal code (lent_by text start registers workspace) ≡ 0
    → Done (run_of code text start (row_of way)) × (executed r ≡ count (run_of code text start (row_of way)))
demand_1_count way {code} {text} {start} {registers} {workspace = workspace} a e =
    (ended_run way code text start registers workspace e, counted_rows a e)

-- and rows executed are at most two for each row at any one position, and so for each position from the start to the end.
pub demand_1_rows : (way : Way) {code text : List ℕ} {start : ℕ} {registers registers' : List ℤ} {workspace workspace' : List ℕ}
    {r : Answer} → Answered code text start (row_of way) registers workspace r registers' workspace'
    → (refusal code (lent_by text start registers workspace) ≡ 0 → (m : ℕ)
    → length (seen (steps_of code text start (row_of way) m)) ≤ 2 * rows_said code)
    × (executed r ≤ 2 * rows_said code * (length text - start + 1))
demand_1_rows way {code} {text} {start} {registers} {workspace = workspace} a =
    (position_rows way code text start registers workspace, bounded_rows a)

-- For code that `compile` or `compile_tidied` left the bound is tighter: at any one position at most n rows are executed, and
-- inner rows once more: those behind a Begin, up to and with its End, outside the prefix; and so for each position;
pub demand_1_tight : (way : Way) {tidying : Bool} {s text : List ℕ} {start : ℕ} {table table' code code' : List ℕ}
    {registers registers' : List ℤ} {workspace workspace' : List ℕ} {n g : ℕ} {r : Answer}
    → Compiles tidying s table table' code code' (Rows n g)
    → Answered code' text start (row_of way) registers workspace r registers' workspace'
    → (turned_away n g (lent_by text start registers workspace) ≡ 0 → (m : ℕ)
    → length (seen (steps_of code' text start (row_of way) m)) ≤ n + inner_rows (decode code'))
    × (executed r ≤ (n + inner_rows (decode code')) * (length text - start + 1))
demand_1_tight = compiled_tight

-- where no Begin and no End stands outside the prefix each row is executed at most once at any one position, and so at most n
-- for each position;
pub demand_1_once : (way : Way) {tidying : Bool} {s text : List ℕ} {start : ℕ} {table table' code code' : List ℕ}
    {registers registers' : List ℤ} {workspace workspace' : List ℕ} {n g : ℕ} {r : Answer}
    → Compiles tidying s table table' code code' (Rows n g)
    → Answered code' text start (row_of way) registers workspace r registers' workspace'
    → Straight (decode code')
    → (turned_away n g (lent_by text start registers workspace) ≡ 0 → (m : ℕ)
    → RowsApart (seen (steps_of code' text start (row_of way) m)))
    × (executed r ≤ n * (length text - start + 1))
demand_1_once = compiled_once

-- and by the pattern that derives, or that tidied: its inner rows, and that it is so exactly if every quantifier that writes
-- rows has its minimum for its maximum.
pub demand_1_inner : {tidying : Bool} {s table table' code code' : List ℕ} {n g : ℕ}
    → Compiles tidying s table table' code code' (Rows n g)
    → (node : Node) × Derives s node g × (inner_rows (decode code') ≡ inner (shaped tidying node))
    × (Straight (decode code') ↔ (fixed (shaped tidying node) ≡ true))
demand_1_inner = compiled_inner

-- The number, found or none, place and count that an answer stands for: a refusal has place 0 and count 0.
pub demand_1_values : (k : ℕ) → values_of (reply_of (Refused k)) ≡ record { number = k; found = 0; place = 0; count = 0 }
demand_1_values k = refl

-- Demand 1 of `search_all`: the number is the first in order whose condition holds, 20, 21, 22, 24 and 25; 20 to 24 change
-- nothing; 25 leaves the list, and reports the words that the matches fill; any other list holds every match, and the count is
-- the sum of the runs';
pub demand_1_all : {code text : List ℕ} {start : ℕ} {list list' : List ℤ} {workspace workspace' : List ℕ} {r : Listing}
    → Lists code text start list list' workspace workspace' r
    → let number = repetition_refusal code text start (length workspace) in let all = repetition code text start in
    ((listing_values r).number ≡ first_of (list_grounds code text start (length list) (length workspace)))
    × ((k : ℕ) → number ≡ suc k → (r ≡ Unlisted (suc k)) × (list' ≡ list) × (workspace' ≡ workspace))
    × (number ≡ 0 → length list < words_of code all → (r ≡ Short (words_of code all)) × (list' ≡ list))
    × (number ≡ 0 → words_of code all ≤ length list → (r ≡ Listed (length all) (executed_in code text start))
    × (list' ≡ spans_of all ++ drop (words_of code all) list))
demand_1_all l = (first_number l, nothing_changed l, too_short l, all_listed l)

-- and each single run has ended and keeps within its bound, from starts that rise strictly.
pub demand_1_all_rows : {code text : List ℕ} {start : ℕ} {list list' : List ℤ} {workspace workspace' : List ℕ} {r : Listing}
    → Lists code text start list list' workspace workspace' r
    → repetition_refusal code text start (length workspace) ≡ 0 → Bounded code text start
demand_1_all_rows {code} {text} {start} {workspace = workspace} l e = bounded code text start (length workspace) e

-- A refusal has place 0 and count 0, 25 too.
pub demand_1_all_values : (k : ℕ)
    → (listing_values (Unlisted k) ≡ record { number = k; place = 0; count = 0; matches = 0; needed = 0 })
    × (listing_values (Short k) ≡ record { number = No.short_list; place = 0; count = 0; matches = 0; needed = k })
demand_1_all_values k = (refl, refl)

-- Demand 2, for any pattern that `compile` or `compile_tidied` answers with rows: it derives by the grammar, and matched at a
-- start, or searched from it on, its code answers what the standard's algorithm finds for the pattern that was read, or for that
-- pattern tidied, with every group's span, and none exactly if that finds nothing. It is turned away only by 21 to 24.
pub demand_2 : (tidying : Bool) (way : Way) {s text : List ℕ} {start : ℕ} {table table' code code' : List ℕ}
    {registers registers' : List ℤ} {workspace workspace' : List ℕ} {n g : ℕ} {answer : Answer} → Bytes text
    → Compiles tidying s table table' code code' (Rows n g)
    → Answered code' text start (row_of way) registers workspace answer registers' workspace'
    → SomeStandard tidying way s table text start n g registers registers' workspace answer
demand_2 = compiled_standard

-- So do the host's calls, on bytes that begin with the code left; refused only by 20, if over 1,164 words, and by 21 to 24.
pub demand_2_host : (tidying : Bool) (way : Way) {s code code' kept text registers registers' : List ℕ} {start n g : ℕ} {r : Ran}
    → Bytes code → Bytes text → Bytes registers → CompilesBytes tidying s code (compiled_numbers (Rows n g)) code'
    → take (4 * code_words n) kept ≡ take (4 * code_words n) code' → RunsBytes (row_of way) kept text start registers r registers'
    → (node : Node) × Derives s node g
    × (let number : ℕ = first_of (kept_grounds kept n g (lent_to text start registers)) in
    let found : Option Regs = standard_by way text g (shaped tidying node) start in
    (r ≡ ran_numbers (reply_to number found r.count)) × (registers' ≡ bytes_from number g found registers))
demand_2_host = host_standard

-- So does the intake program, searching each line behind the pattern's from 0; refused only by 21, too long a line, and by 24.
pub demand_2_intake : {input pattern : List ℕ} {lines : List (List ℕ)} {n g : ℕ} → Bytes input
    → lines_of input ≡ pattern ∷ lines → compiled pattern ≡ Rows n g
    → (node : Node) × Derives pattern node g
    × (intake_output input ≡ header_line n g
    ++ concat_map (λ line. line_saying (first_of (line_grounds n g line)) (search_from (text_of line) g node 0)) lines)
demand_2_intake = intake_standard

-- Demand 2 of `search_all`: for what was compiled it gives every match of the standard's repetition, each once.
pub demand_2_all : (tidying : Bool) {s text : List ℕ} {start : ℕ} {table table' code code' : List ℕ} {list list' : List ℤ}
    {workspace workspace' : List ℕ} {n g : ℕ} {answer : Listing} → Bytes text
    → Compiles tidying s table table' code code' (Rows n g)
    → Lists code' text start list list' workspace workspace' answer
    → SomeStandardAll tidying s table code' text start n g list list' (length workspace) answer
demand_2_all = compiled_all

-- Demand 3: each law of the list is valid inside any surrounding pattern: whatever a part becomes by the law's words, every text
-- is matched the same from every start, with every group;
pub demand_3_laws : All (λ W. (r q : Node) → W r q → SameStandard r q) becomes
demand_3_laws = laws_standard

-- for any pattern that `compile_tidied` answers with rows its table holds the tidied pattern, which is alike, takes no more rows,
-- and to which no law still applies;
pub demand_3 : {s table table' code code' : List ℕ} {n g : ℕ} → Compiles tidied s table table' code code' (Rows n g)
    → Neat s table code n g
demand_3 {s} {table} {code = code} {n = n} {g = g} h = neat s table code n g (rows_bytes h) (sym h.answers)

-- and wherever the plain pattern has room to run, the tidied one answers the same, with every group the same, in calls with
-- buffers of their own.
pub demand_3_answers : (way : Way) {s text : List ℕ} {start : ℕ} {table table₂ table' table'' code code₂ code' code'' : List ℕ}
    {registers registers₂ registers' registers'' : List ℤ} {workspace workspace₂ workspace' workspace'' : List ℕ} {n g : ℕ}
    {compiled : Compilation} {r q : Answer} → Bytes text → Compiles plain s table table' code code' (Rows n g)
    → length table ≡ length table₂ → length code ≡ length code₂ → Compiles tidied s table₂ table'' code₂ code'' compiled
    → turned_away n g (lent_by text start registers workspace) ≡ 0
    → Answered code' text start (row_of way) registers workspace r registers' workspace'
    → length registers ≡ length registers₂ → length workspace ≡ length workspace₂
    → Answered code'' text start (row_of way) registers₂ workspace₂ q registers'' workspace''
    → ((m : ℕ) × (compiled ≡ Rows m g) × (m ≤ n)) × (outcome (reply_of r) ≡ outcome (reply_of q))
    × SameSpans g registers registers' registers₂ registers''
demand_3_answers = same_answers

-- Demand 3 of `search_all`: the whole list is the same, and so is the number of words needed.
pub demand_3_all : {s text : List ℕ} {start : ℕ} {table table₂ table' table'' code code₂ code' code'' : List ℕ}
    {list list₂ list' list'' : List ℤ} {workspace workspace₂ workspace' workspace'' : List ℕ} {n g : ℕ}
    {compiled : Compilation} {r q : Listing} → Bytes text → Compiles plain s table table' code code' (Rows n g)
    → length table ≡ length table₂ → length code ≡ length code₂ → Compiles tidied s table₂ table'' code₂ code'' compiled
    → first_of (lent_all n g text start (length workspace)) ≡ 0
    → Lists code' text start list list' workspace workspace' r
    → length list ≡ length list₂ → length workspace ≡ length workspace₂
    → Lists code'' text start list₂ list'' workspace₂ workspace'' q
    → ((m : ℕ) × (compiled ≡ Rows m g) × (m ≤ n)) × (outcome_all r ≡ outcome_all q) × SameLists g list list' list₂ list''
demand_3_all = same_lists
