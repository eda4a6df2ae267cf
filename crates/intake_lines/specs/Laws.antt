-- What a search and a compilation answer, as the line that is written.
use Rattle.std.specs.Prelude.{◌≡◌, List, ℕ, zero, suc, ◌≤◌, ◌<◌, ℤ, pos, take, replicate}
use Rattle.std.proofs.Math.Path.{refl, ap, ap₂}
use Rattle.std.proofs.Common.{sym, ◌∙◌, arith, le-leb}
use Rattle.std.proofs.lemmas.Bool.{lt-leb}
use Rattle.std.proofs.Math.ListN.{length}
use Rattle.meaning.specs.Refusals as No
use Rattle.meaning.specs.Text.{registers_of}
use Rattle.machine.specs.Steps.{Machine, best, count, search_row}
use Rattle.machine.specs.Words.{groups_said}
use Rattle.machine.specs.Allowed.{allowed}
use Rattle.machine.specs.Replies.{Reply.found, lend, lent_by, refusal, run_of, reply_to, reply, registers_after}
use Rattle.reading_items.specs.Reading.{reading}
use Rattle.millkettle.specs.Calls.Compiling.{plain, Compiles, answer_by, code_left}
use Rattle.millkettle.specs.Calls.{Compilation}
use Rattle.millkettle.specs.Calls.Answers.{reply_of, Answered}
use Rattle.millkettle.specs.Calls.{Answer}
use Rattle.millkettle.specs.Calls.Answers.{Found}
use Rattle.intake_report.specs.Texts.{refused_run}
use Rattle.intake_report.specs.Wrote.{Wrote, wrote_none, wrote_as}
use Rattle.intake_lines.specs.Intake.{line_limit, register_count}
use Rattle.meaning.specs.Limits.{table_size, code_size, workspace_size}
use Rattle.intake_lines.specs.Intake.{compiled, pattern_line, reply_line, lent_for, line_for}
use Rattle.intake_lines.specs.Ended.{phase_for, Ends}
use Rattle.intake_lines.specs.declared.Phase.{Phase}
use Rattle.intake_lines.specs.declared.Phase.TheVariants.{Pattern, Texts, Over}
use Rattle.intake_lines.specs.declared.Ended.{Ended}

-- A line too long.
pub too_long : (code line : List ℕ) → line_limit < length line → refused_run No.long_text ≡ line_for code line
unfolding line_for
too_long code line h = rw (lt-leb (length line) line_limit h)

-- A search of a line from 0 with the program's registers and workspace.
module _ {code line work work' : List ℕ} {before after : List ℤ} {r : Answer} (short : length line ≤ line_limit)
    (registers : before ≡ replicate register_count (pos 0)) (long : length work ≡ workspace_size)
    (a : Answered code line 0 search_row before work r after work') where
  -- Its reply is the program's, and so are its numbers.
  pub answer_line : {q : Answer} → r ≡ q → reply_line (reply_of q) (take (registers_of (groups_said code)) after) ≡ line_for code line
  unfolding line_for
  answer_line {q} e =
      let lent : lent_by line 0 before work ≡ lent_for line = ap₂ (lend line 0) (ap length registers) long in
      let reply_is : reply_of q ≡ reply code (lent_for line) search_row
      = ap reply_of (sym e) ∙ a.replies ∙ ap (λ x. reply code x search_row) lent in
      let numbers : after ≡ registers_after code (lent_for line) search_row (replicate register_count (pos 0))
      = a.spans ∙ ap₂ (λ x y. registers_after code x search_row y) lent registers in
      rw (le-leb (length line) line_limit short)
      (ap₂ (λ q l. reply_line q (take (registers_of (groups_said code)) l)) reply_is numbers)

  -- What was found has no more numbers than there are registers.
  pub few_numbers : (executed : ℕ) → r ≡ Found executed → registers_of (groups_said code) ≤ register_count
  unfolding reply
  few_numbers executed e = by (refusal code (lent_by line 0 before work)) refl (sym (ap reply_of e) ∙ a.replies)
    where
      M : Machine
      M = run_of code line 0 search_row

      by : (number : ℕ) → refusal code (lent_by line 0 before work) ≡ number
          → found executed ≡ reply_to number (best M) (count M) → registers_of (groups_said code) ≤ register_count
      by zero z f =
          let enough = (allowed code (lent_by line 0 before work) z).enough in
          omega (arith, enough, ap length registers)
      by (suc number) z f = absurd (let y : ◌≡◌ {A = ℕ} 0 1 = cc in omega arith)

-- A pattern line that was compiled or refused, and the line that was written for it.
pub pattern_ends : {pattern table table' code code' out out' : List ℕ} {at : ℕ} {answer q : Compilation} {r : Ended}
    → length table ≡ table_size → length code ≡ code_size → Compiles plain pattern table table' code code' answer → answer ≡ q
    → r.phase ≡ phase_for q → Wrote out out' at (pattern_line q) r.end → Ends Pattern pattern code code' out out' at r
pattern_ends {pattern} {code = code} {q = q} t l w e p o =
    let is : q ≡ compiled pattern = sym e ∙ w.answers ∙ ap₂ (λ n m. answer_by plain (reading pattern n) m) t l in
    record {
      phase_is = p ∙ ap phase_for is;
      code_is = w.code_is ∙ ap (λ n. code_left plain (reading pattern n) code) t;
      text_is = wrote_as o (ap pattern_line is) refl;
    }

-- The end of a line, by where the work stands.
module _ {phase : Phase} {line code out : List ℕ} {at : ℕ} where
  pub at_pattern : {code' out' : List ℕ} {r : Ended} → phase ≡ Pattern → Ends Pattern line code code' out out' at r
      → Ends phase line code code' out out' at r
  at_pattern e w = rw e w

  pub at_texts : {out' : List ℕ} {end : ℕ} → phase ≡ Texts → Wrote out out' at (line_for code line) end
      → Ends phase line code code out out' at (record { phase = Texts; end = end })
  at_texts e w = rw e (record { phase_is = refl; code_is = refl; text_is = w })

  pub at_over : phase ≡ Over → at ≤ length out → Ends phase line code code out out at (record { phase = Over; end = at })
  at_over e h = rw e (record { phase_is = refl; code_is = refl; text_is = wrote_none out at h })
