-- What is done with a piece of the input that was read, and with its end.
use Rattle.std.specs.Prelude.{◌≡◌, refl, Bool, true, false, not, List, ℕ, ◌+◌, ◌-◌, ◌≤◌, ◌<◌, length, take, drop, replicate}
use Rattle.std.proofs.Common.{sym, ap, ◌∙◌, arith, length-drop, take_all, take-add}
use Rattle.std.proofs.lemmas.Bool.{false≢true}
use Rattle.intake_report.specs.Wrote.{Wrote}
use Rattle.meaning.specs.Limits.{code_size}
use Rattle.intake_lines.specs.Ended.{line_room}
use Rattle.intake_lines.specs.declared.Phase.{Phase}
use Rattle.intake_lines.specs.declared.Phase.TheVariants.{Pattern, Texts, Over}
use Rattle.intake_feeding.specs.Work.{Work, at_first, work_behind, last_text}
use Rattle.intake_feeding.specs.Fed.{work_of, Feeds}
use Rattle.intake_feeding.specs.Pieces.{behind_append, behind_none}
use Rattle.intake_feeding.specs.Laws.{feeds_some, feeds_within}
use Rattle.intake_feeding.specs.declared.Fed.{Fed}
use Rattle.intake.specs.declared.Standing.{Standing}

-- The bytes of the buffers for what is read and for what is written.
abbrev pub buffer_size : ℕ
buffer_size = 65536

-- The work that a standing and the buffers stand for.
abbrev pub work_as : Standing → List ℕ → List ℕ → Work
work_as s line code = work_of s.phase s.kept line code

-- The program begins where no byte was read yet.
pub begins : (line : List ℕ) → work_as (record { phase = Pattern; kept = 0; failed = false }) line (replicate code_size 0) ≡ at_first
begins line = refl

-- The work goes on unless the pattern was refused, the input ended or a write failed.
abbrev pub goes_on_at : Phase → Bool → Bool
goes_on_at Pattern failed = not failed
goes_on_at Texts failed = not failed
goes_on_at Over failed = false

abbrev pub goes_on : Standing → Bool
goes_on s = goes_on_at s.phase s.failed

-- The first bytes of a piece were worked through, and there are some if a write failed.
pub record Onward (w : Work) (piece line' code' : List ℕ) (passed : ℕ) (r : Standing) : Type 0 where
  pub work_is : work_as r line' code' ≡ work_behind w (take passed piece)
  pub within : passed ≤ length piece
  pub some : r.failed ≡ true → 0 < passed

-- A piece was worked through: all of it, unless a write failed.
pub record Through (s : Standing) (piece line line' code code' : List ℕ) (r : Standing) : Type 0 where
  pub passed : ℕ
  pub onward : Onward (work_as s line code) piece line' code' passed r
  pub all : r.failed ≡ false → passed ≡ length piece

-- At the input's end the last line's text was written, and the work is over.
pub record Finished (s : Standing) (line code out out' : List ℕ) (r : Standing) : Type 0 where
  pub end : ℕ
  pub text_is : Wrote out out' 0 (last_text (work_as s line code)) end
  pub over : r.phase ≡ Over

-- What was read: a piece of the input, or no byte, which is its end.
pub record Turned (s : Standing) (piece line line' code code' out out' : List ℕ) (r : Standing) : Type 0 where
  pub read : 0 < length piece → Through s piece line line' code code' r
  pub ended : length piece ≡ 0 → Finished s line code out out' r

-- ---- how a piece is worked through

-- None yet.
pub onward_none : {phase : Phase} {kept : ℕ} {piece line code : List ℕ}
    → Onward (work_of phase kept line code) piece line code 0 (record { phase = phase; kept = kept; failed = false })
onward_none {phase} {kept} {piece} {line} {code} = record {
  within = omega arith;
  work_is = sym (behind_none (work_of phase kept line code));
  some = λ e. absurd (false≢true e);
}

module _ {w : Work} {piece line₁ line₂ code₁ code₂ out₁ out₂ : List ℕ} {from : ℕ} {q : Standing} {fed : Fed}
    (o : Onward w piece line₁ code₁ from q) (more : from < length piece) (room : line_room ≤ length out₁)
    (f : Feeds q.phase q.kept (take (length piece - from) (drop from piece)) line₁ line₂ code₁ code₂ out₁ out₂ fed) where
  rest : take (length piece - from) (drop from piece) ≡ drop from piece
  rest = take_all (length piece - from) (drop from piece) (omega (arith, length-drop from piece))

  pub taken_within : from + fed.taken ≤ length piece
  taken_within = omega (arith, feeds_within f, ap length rest, length-drop from piece)

  pub taken_some : 0 < fed.taken
  taken_some = feeds_some f (omega (arith, ap length rest, length-drop from piece)) room

  -- The bytes that were taken are worked through too.
  pub onward_more : {failed : Bool} → Onward w piece line₂ code₂ (from + fed.taken)
      (record { phase = fed.phase; kept = fed.kept; failed = failed })
  onward_more = record {
    within = taken_within;
    work_is = f.work_is ∙ ap (λ l. work_behind (work_as q line₁ code₁) (take fed.taken l)) rest
        ∙ ap (λ v. work_behind v (take fed.taken (drop from piece))) o.work_is
        ∙ sym (ap (work_behind w) (take-add from fed.taken piece)
        ∙ behind_append w (take from piece) (take fed.taken (drop from piece)));
    some = λ _. omega (arith, taken_some);
  }
