-- When the host turns a run away, exactly, and what it leaves in the registers' bytes.
use Rattle.std.specs.Prelude.{◌≡◌, refl, ◌↔◌, List, ℕ, zero, suc, length}
use Rattle.std.proofs.Common.{sym, ap, ◌∙◌, arith, ltb-false}
use Rattle.std.proofs.Math.Option.{Option, none, some}
use Rattle.meaning.specs.Text.{Regs, registers_of}
use Rattle.meaning.specs.Bytes.{Bytes, text_of}
use Rattle.meaning.specs.Refusals as No
use Rattle.meaning.specs.Grounds.{Ground, first_of, Tells, exactly_told, none_holds}
use Rattle.machine.specs.Steps.{Machine, best, count}
use Rattle.machine.specs.Words.{groups_said, decode}
use Rattle.machine.proofs.Width.{spans_length}
use Rattle.machine.specs.Replies.{run_of, reply_to, values_of, registers_from, spans}
use Rattle.wire.specs.Wire.{bytes_of_ints, written}
use Rattle.wire.proofs.Written.{ints_over, ints_same}
use Rattle.host.specs.Surface.{lent_words, all_words, all_ints, lent_to, byte_grounds, RunsBytes}
use Rattle.host.specs.declared.Ran.{Ran}

-- The number passed is that of the refusal, 0 for none.
number_passed : (n : ℕ) (result : Option Regs) (executed : ℕ) → (values_of (reply_to n result executed)).number ≡ n
number_passed zero none executed = refl
number_passed zero (some ρ) executed = refl
number_passed (suc n) result executed = refl

module _ (code text : List ℕ) (start : ℕ) (registers : List ℕ) where
  abbrev grounds : List Ground
  grounds = byte_grounds code (lent_to text start registers)

  module _ {row : ℕ} {r : Ran} {registers' : List ℕ} (h : RunsBytes row code text start registers r registers') where
    abbrev M : Machine
    M = run_of (all_words code) text start row

    abbrev g : ℕ
    g = groups_said (all_words code)

    pub number_is : r.number ≡ first_of grounds
    number_is = ap (λ x. x.number) h.replies ∙ number_passed (first_of grounds) (best M) (count M)

    -- A run has a number exactly if the number's ground holds and none before it does, and 0 if none holds.
    pub exactly : (n : ℕ) → (r.number ≡ n) ↔ Tells grounds n
    exactly n =
        let e = exactly_told grounds refl n in
        (λ f. e.0 (sym number_is ∙ f), λ t. number_is ∙ e.1 t)

    -- Not refused: the bytes of the starts and ends, and later bytes as they were.
    pub registers_made : Bytes registers → r.number ≡ 0 → registers' ≡ written (bytes_of_ints (spans g (best M))) registers
    registers_made b z =
        let none : first_of grounds ≡ 0 = sym number_is ∙ z in
        h.spans ∙ ap (λ n. written (bytes_of_ints (registers_from n g (best M) (all_ints registers))) registers) none
        ∙ ints_over registers (lent_words (length registers)) b.byte (omega arith) (spans g (best M)) (registers_of g)
        (spans_length (text_of text) (decode (all_words code)) start row)
        (ltb-false _ _ (none_holds No.few_registers grounds refl none))

    -- Refused: all bytes as they were.
    pub registers_stay : Bytes registers → (r.number ≡ 0 → ⊥) → registers' ≡ registers
    registers_stay b z = h.spans ∙ kept (first_of grounds) (λ e. z (number_is ∙ e))
      where
        kept : (n : ℕ) → (n ≡ 0 → ⊥)
            → written (bytes_of_ints (registers_from n g (best M) (all_ints registers))) registers ≡ registers
        kept zero y = absurd (y refl)
        kept (suc n) y = ints_same registers (lent_words (length registers)) b.byte (omega arith)
