-- When a run is turned away, and what holds of one that is not.
use Rattle.std.specs.Prelude.{◌≡◌, refl, true, List, ℕ, ◌≤◌, length}
use Rattle.std.proofs.lemmas.Bool.{not-false}
use Rattle.std.proofs.Common.{ltb-false}
use Rattle.meaning.specs.Text.{registers_of}
use Rattle.meaning.specs.Limits.{text_limit, workspace_words}
use Rattle.meaning.specs.Refusals as No
use Rattle.meaning.specs.Grounds.{Tells, told, none_holds}
use Rattle.machine.specs.Words.{rows_said, groups_said, code_passes}
use Rattle.machine.specs.Replies.{Lent, lent_grounds, run_grounds, refusal, turned_away}

-- A call is turned away by the first number whose ground holds, and by 0 if none does.
pub turned : (number : ℕ) (code : List ℕ) (lent : Lent) → Tells (run_grounds code lent) number → number ≡ refusal code lent
unfolding refusal
turned number code lent t = told number (run_grounds code lent) t

-- What holds of a call that is not turned away.
pub record Allowed (code : List ℕ) (lent : Lent) : Type 0 where
  pub passes : code_passes code ≡ true
  pub short : length lent.text ≤ text_limit
  pub inside : lent.start ≤ length lent.text
  pub enough : registers_of (groups_said code) ≤ lent.registers
  pub room : workspace_words (rows_said code) (groups_said code) ≤ lent.workspace

pub allowed : (code : List ℕ) (lent : Lent) → refusal code lent ≡ 0 → Allowed code lent
unfolding refusal
allowed code lent z = record {
  passes = not-false _ (none_holds No.code_fails (run_grounds code lent) refl z);
  short = ltb-false _ _ (none_holds No.long_text (run_grounds code lent) refl z);
  inside = ltb-false _ _ (none_holds No.start_beyond (run_grounds code lent) refl z);
  enough = ltb-false _ _ (none_holds No.few_registers (run_grounds code lent) refl z);
  room = ltb-false _ _ (none_holds No.small_workspace (run_grounds code lent) refl z);
}

-- So much of what is lent to code that passes.
pub within : (n g : ℕ) (lent : Lent) → turned_away n g lent ≡ 0 → lent.start ≤ length lent.text
within n g lent z = ltb-false _ _ (none_holds No.start_beyond (lent_grounds n g lent) refl z)
