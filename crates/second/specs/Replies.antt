-- What the second engine's calls promise, by the outline's "A second engine". Definitions only.
use Rattle.std.specs.Prelude.{◌≡◌, not, List, [], ◌∷◌, ℕ, ◌+◌, ◌*◌, ◌-◌, ◌≤◌, ltb, ℤ, length, get_or}
use Rattle.meaning.specs.Text.{registers_of}
use Rattle.meaning.specs.Limits.{second_limit, second_words}
use Rattle.meaning.specs.Refusals as No
use Rattle.meaning.specs.Grounds.{Ground, ground, first_of}
use Rattle.machine.specs.Words.{rows_said, groups_said, code_passes}
use Rattle.machine.specs.Replies.{Reply, Lent, lent_by, reply_to, registers_from}
use Rattle.engine.specs.Answers.{Answer, Refused, reply_of, executed}
use Rattle.second.specs.Plain.{Search, result_of, count_of}
use Rattle.second.specs.Held.{second_of}

-- The grounds for turning a call away, in order: code fails its check; text over the limit; start beyond the text's length; fewer
-- registers, and fewer workspace words, than the run needs.
abbrev pub second_grounds : List ℕ → Lent → List Ground
second_grounds code lent =
    ground No.code_fails (not (code_passes code))
    ∷ ground No.long_text (ltb second_limit (length lent.text))
    ∷ ground No.start_beyond (ltb (length lent.text) lent.start)
    ∷ ground No.few_registers (ltb lent.registers (registers_of (groups_said code)))
    ∷ ground No.small_workspace (ltb lent.workspace (second_words (rows_said code) (groups_said code) (length lent.text)))
    ∷ []

unfoldable pub second_refusal : List ℕ → Lent → ℕ
second_refusal code lent = first_of (second_grounds code lent)

-- The reply to a call: its code, what is lent, and the row to begin at; and the registers after it.
unfoldable pub second_reply : List ℕ → Lent → ℕ → Reply
second_reply code lent row =
    let S : Search = second_of code lent.text lent.start row in
    reply_to (second_refusal code lent) (result_of S) (count_of S)

unfoldable pub second_registers : List ℕ → Lent → ℕ → List ℤ → List ℤ
second_registers code lent row before =
    registers_from (second_refusal code lent) (groups_said code) (result_of (second_of code lent.text lent.start row)) before

-- The answer to a call that begins at a row, what it leaves in the registers, and which words of the workspace stay: those
-- behind the words that it needs, and all of them if it was turned away. The count is its own steps'.
pub record Seconded (code text : List ℕ) (start row : ℕ) (registers : List ℤ) (workspace : List ℕ) (r : Answer)
    (registers' : List ℤ) (workspace' : List ℕ) : Type 0 where
  pub replies : reply_of r ≡ second_reply code (lent_by text start registers workspace) row
  pub spans : registers' ≡ second_registers code (lent_by text start registers workspace) row registers
  pub long : length workspace' ≡ length workspace
  pub later : (i : ℕ) → second_words (rows_said code) (groups_said code) (length text) ≤ i
      → get_or workspace' i 0 ≡ get_or workspace i 0
  pub untouched : (number : ℕ) → r ≡ Refused number → workspace' ≡ workspace
  pub bounded : executed r ≤ 2 * rows_said code * (length text - start + 1)
