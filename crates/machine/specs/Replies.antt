-- What a run replies and what it leaves in the registers, by the outline's "When a run is turned away". Definitions only.
use Rattle.std.specs.Prelude.{not, List, [], ◌∷◌, ◌++◌, map, ℕ, zero, suc, ltb, ℤ, pos, negsuc, length, drop, replicate}
use Rattle.std.proofs.Math.Option.{Option, none, some}
use Rattle.meaning.specs.Text.{Regs, registers_of}
use Rattle.meaning.specs.Bytes.{text_of}
use Rattle.meaning.specs.Limits.{text_limit, workspace_words}
use Rattle.meaning.specs.Refusals as No
use Rattle.meaning.specs.Grounds.{Ground, ground, first_of}
use Rattle.machine.specs.Steps.{Machine, best, count, run}
use Rattle.machine.specs.Words.{rows_said, groups_said, decode, code_passes}

-- A run answers found or none and the count of rows executed; or it is turned away by a number.
pub data Reply : Type 0 where
  found : ℕ → Reply
  missing : ℕ → Reply
  refused : ℕ → Reply

-- The outline's values for each case: the number by which it is turned away, 0 if it is not; 1 for found and else 0; the
-- place; and the count of rows executed.
pub record Values : Type 0 where
  pub number : ℕ
  pub found : ℕ
  pub place : ℕ
  pub count : ℕ

abbrev pub values_of : Reply → Values
values_of (found executed) = record { number = 0; found = 1; place = 0; count = executed }
values_of (missing executed) = record { number = 0; found = 0; place = 0; count = executed }
values_of (refused number) = record { number = number; found = 0; place = 0; count = 0 }

-- What is lent to a run, but for the words: the text, the start, how many registers and how many workspace words.
pub record Lent : Type 0 where
  pub text : List ℕ
  pub start : ℕ
  pub registers : ℕ
  pub workspace : ℕ

abbrev pub lend : List ℕ → ℕ → ℕ → ℕ → Lent
lend text start registers workspace =
    record { text = text; start = start; registers = registers; workspace = workspace }

abbrev pub lent_by : List ℕ → ℕ → List ℤ → List ℕ → Lent
lent_by text start registers workspace = lend text start (length registers) (length workspace)

-- The grounds in what is lent, for n rows and g groups: text over the limit; start beyond the text's length; fewer registers,
-- and fewer workspace words, than the run needs.
abbrev pub lent_grounds : ℕ → ℕ → Lent → List Ground
lent_grounds n g lent =
    ground No.long_text (ltb text_limit (length lent.text))
    ∷ ground No.start_beyond (ltb (length lent.text) lent.start)
    ∷ ground No.few_registers (ltb lent.registers (registers_of g))
    ∷ ground No.small_workspace (ltb lent.workspace (workspace_words n g))
    ∷ []

-- All grounds for turning a run away, in order: first that its code fails the check.
abbrev pub run_grounds : List ℕ → Lent → List Ground
run_grounds code lent = ground No.code_fails (not (code_passes code)) ∷ lent_grounds (rows_said code) (groups_said code) lent

-- The number by which a run is turned away, the first in order that holds, 0 if it is not: of any code, and of code that
-- passes and has n rows and g groups.
unfoldable pub refusal : List ℕ → Lent → ℕ
refusal code lent = first_of (run_grounds code lent)

abbrev pub turned_away : ℕ → ℕ → Lent → ℕ
turned_away n g lent = first_of (lent_grounds n g lent)

-- The run of code on a text, from a position and a row.
abbrev pub run_of : List ℕ → List ℕ → ℕ → ℕ → Machine
run_of code text start row = run (text_of text) (decode code) start row

-- What a run that has ended answers.
abbrev pub answer_of : Option Regs → ℕ → Reply
answer_of none executed = missing executed
answer_of (some ρ) executed = found executed

-- The reply by the number of a refusal: 0 is for a run.
abbrev pub reply_to : ℕ → Option Regs → ℕ → Reply
reply_to zero result executed = answer_of result executed
reply_to (suc number) result executed = refused (suc number)

-- The reply to a call: its code, what is lent, and the row to begin at.
unfoldable pub reply : List ℕ → Lent → ℕ → Reply
reply code lent row =
    let M : Machine = run_of code lent.text lent.start row in
    reply_to (refusal code lent) (best M) (count M)

-- A register as a signed number: -1 for a group that took no part.
abbrev pub shown : Option ℕ → ℤ
shown none = negsuc 0
shown (some i) = pos i

-- The registers of a result, all -1 on none.
abbrev pub spans : ℕ → Option Regs → List ℤ
spans g none = replicate (registers_of g) (negsuc 0)
spans g (some ρ) = map shown ρ

-- The registers by the number of a refusal.
abbrev pub registers_from : ℕ → ℕ → Option Regs → List ℤ → List ℤ
registers_from zero g result before = spans g result ++ drop (registers_of g) before
registers_from (suc number) g result before = before

-- The registers after a call: the first 2(g+1) hold starts and ends, later ones stay; all stay if it was turned away.
unfoldable pub registers_after : List ℕ → Lent → ℕ → List ℤ → List ℤ
registers_after code lent row before =
    registers_from (refusal code lent) (groups_said code) (best (run_of code lent.text lent.start row)) before
