-- From what a public call promises to the promise of the call on lent words.
use Rattle.std.specs.Prelude.{◌≡◌, Bool, List, ℕ, ℤ}
use Rattle.std.proofs.Common.{ap, ◌∙◌, arith}
use Rattle.machine.specs.Replies.{Reply.refused}
use Rattle.millkettle.specs.Calls.Compiling.{Compiles}
use Rattle.millkettle.specs.Calls.{Compilation, Answer, Listing}
use Rattle.millkettle.specs.Calls.Answers.{reply_of, Answered}
use Rattle.millkettle.specs.Calls.Answers.{Found, Missing, Refused}
use Rattle.millkettle.specs.Calls.Listings.{Lists}
use Rattle.host.specs.Surface.{compiled_numbers, ran_numbers}
use Rattle.host.specs.declared.Compiled.{Compiled}
use Rattle.host.specs.declared.Ran.{Ran}
use Rattle.engine_c.specs.Calls.{listed_numbers, CompilesWords, RunsWords, ListsWords}
use Rattle.engine_c.specs.declared.Listed.{Listed}

pub compiles_words : {tidying : Bool} {s table table' code code' : List ℕ} {answer : Compilation} {r : Compiled}
    → Compiles tidying s table table' code code' answer → r ≡ compiled_numbers answer
    → CompilesWords tidying s table table' code code' r
compiles_words c e =
    record { answers = e ∙ ap compiled_numbers c.answers; table_is = c.table_is; code_is = c.code_is }

turned : (answer : Answer) (number : ℕ) → reply_of answer ≡ refused number → answer ≡ Refused number
turned (Found n) number e = absurd (let z : ◌≡◌ {A = ℕ} 0 1 = cc in omega arith)
turned (Missing n) number e = absurd (let z : ◌≡◌ {A = ℕ} 0 1 = cc in omega arith)
turned (Refused n) number e = let same : n ≡ number = cc in ap Refused same

pub runs_words : {row : ℕ} {code text : List ℕ} {start : ℕ} {registers registers' : List ℤ} {workspace workspace' : List ℕ}
    {answer : Answer} {r : Ran} → Answered code text start row registers workspace answer registers' workspace'
    → r ≡ ran_numbers (reply_of answer) → RunsWords row code text start registers registers' workspace workspace' r
runs_words {answer = answer} a e = record {
  replies = e ∙ ap ran_numbers a.replies;
  spans = a.spans;
  stays = record { long = a.long; later = a.later };
  untouched = λ number f. a.untouched number (turned answer number (a.replies ∙ f));
}

pub lists_words : {code text : List ℕ} {start : ℕ} {list list' : List ℤ} {workspace workspace' : List ℕ} {answer : Listing}
    {r : Listed} → Lists code text start list list' workspace workspace' answer → r ≡ listed_numbers answer
    → ListsWords code text start list list' workspace workspace' r
lists_words l e = record {
  answers = e ∙ ap listed_numbers l.answers;
  list_is = l.list_is;
  stays = record { long = l.long; later = l.later };
  untouched = λ number f. l.untouched number (l.answers ∙ f);
}
