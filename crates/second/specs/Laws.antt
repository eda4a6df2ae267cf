-- When a call is turned away, and what a call that is not leaves.
use Rattle.std.specs.Prelude.{◌≡◌, refl, Bool, true, false, List, [], ◌∷◌, ◌++◌, map, ltb, ℤ, length, get_or}
use Rattle.std.proofs.Math.Path.{sym, ap, ap₂}
use Rattle.std.proofs.Common.{◌∙◌, subst, arith, ltb-false, lt-ltb, le-ltb}
use Rattle.std.proofs.Math.Option.{none}
use Prim.Native.Nat.{ℕ, zero, suc, ◌+◌, ◌*◌, ◌-◌, ◌<◌, ◌≤◌}
use Rattle.std.proofs.lemmas.Bool.{not-false}
use Rattle.std.proofs.Math.ListN.{drop, replicate}
use Rattle.meaning.specs.Text.{registers_of}
use Rattle.meaning.specs.Bytes.{text_of}
use Rattle.meaning.specs.Limits.{second_limit, second_words, least_rows}
use Rattle.meaning.specs.Refusals as No
use Rattle.meaning.specs.Refusing.{number_of}
use Rattle.meaning.specs.Grounds.{Ground, ground, Tells, told, first_of, none_holds, none_before}
use Rattle.meaning.specs.declared.refusals.Refusal.{Refusal}
use Rattle.machine.specs.Words.{rows_said, groups_said, code_passes, decode}
use Rattle.machine.proofs.Coded.{rows_in_length}
use Rattle.machine.specs.Replies.{Lent, lend, lent_by, answer_of, reply_to, spans, registers_from}
use Rattle.running_moves.specs.Ready.{ready}
use Rattle.running_threads.specs.Threads.{nowhere}
use Rattle.running_settle.specs.Moved.{best_of}
use Rattle.engine.specs.Answers.{Answer, Found, Missing, Refused, shown_word}
use Rattle.engine.specs.Laws.{spans_are}
use Rattle.engine.specs.Turned.{shared_grounds, Sized, Unfit}
use Rattle.engine.specs.declared.Sizes.{Sizes}
use Rattle.second.specs.Plain.{Search, result_of, count_of}
use Rattle.second.specs.Agrees.{second_frugal}
use Rattle.second.specs.Held.{found_of, LayoutOf, own, second_of, Ran}
use Rattle.second.specs.Replies.{second_grounds, second_refusal, second_reply, second_registers, Seconded}
use Rattle.second.specs.Course.{layout_end}
use Rattle.second.specs.declared.Layout.{Layout}
use Rattle.second.specs.declared.State.{State}
use Rattle.second.specs.declared.State.TheVariants.{Runs, Won, Ended}
use Rattle.second.specs.declared.Trial.{Trial}

-- A call is turned away by the first number whose ground holds, and by 0 if none does.
pub turned : (number : ℕ) (code : List ℕ) (lent : Lent) → Tells (second_grounds code lent) number
    → number ≡ second_refusal code lent
unfolding second_refusal
turned number code lent t = told number (second_grounds code lent) t

-- A search that neither runs nor has ended won, and one that did not win found nothing.
pub only_won : (state : State) → (state ≡ Runs → ⊥) → (state ≡ Ended → ⊥) → state ≡ Won
only_won Runs runs ended = absurd (runs refl)
only_won Won runs ended = refl
only_won Ended runs ended = absurd (ended refl)

pub not_found : (state : State) → (state ≡ Won → ⊥) → found_of state ≡ false
not_found Runs won = refl
not_found Won won = absurd (won refl)
not_found Ended won = refl

-- The grounds that both engines have come first, and the words of the workspace behind them.
module _ (code text : List ℕ) (start registers workspace : ℕ) where
  abbrev few : Ground
  few = ground No.small_workspace (ltb workspace (second_words (rows_said code) (groups_said code) (length text)))

  pub unfit_refused : {why : Refusal} → Unfit code text start registers second_limit why
      → number_of why ≡ second_refusal code (lend text start registers workspace)
  unfolding second_refusal
  unfit_refused u = sym (u.first (few ∷ []))

  module _ {sizes : Sizes} (s : Sized code text start registers second_limit sizes) where
    behind : second_refusal code (lend text start registers workspace) ≡ first_of (few ∷ [])
    unfolding second_refusal
    behind = none_before (shared_grounds code text start registers second_limit) (few ∷ []) s.none

    pub small_refused : workspace < second_words sizes.rows sizes.groups (length text)
        → No.small_workspace ≡ second_refusal code (lend text start registers workspace)
    small_refused h = sym (behind ∙ rw (lt-ltb workspace _ (rw (s.rows, s.groups) at h)))

    pub none_refused : second_words sizes.rows sizes.groups (length text) ≤ workspace
        → 0 ≡ second_refusal code (lend text start registers workspace)
    none_refused h = sym (behind ∙ rw (le-ltb workspace _ (rw (s.rows, s.groups) at h)))

-- What holds of a call that is not turned away.
pub record Allowed (code : List ℕ) (lent : Lent) : Type 0 where
  pub passes : code_passes code ≡ true
  pub short : length lent.text ≤ second_limit
  pub inside : lent.start ≤ length lent.text
  pub enough : registers_of (groups_said code) ≤ lent.registers
  pub room : second_words (rows_said code) (groups_said code) (length lent.text) ≤ lent.workspace

pub allowed : (code : List ℕ) (lent : Lent) → second_refusal code lent ≡ 0 → Allowed code lent
unfolding second_refusal
allowed code lent z = record {
  passes = not-false _ (none_holds No.code_fails (second_grounds code lent) refl z);
  short = ltb-false _ _ (none_holds No.long_text (second_grounds code lent) refl z);
  inside = ltb-false _ _ (none_holds No.start_beyond (second_grounds code lent) refl z);
  enough = ltb-false _ _ (none_holds No.few_registers (second_grounds code lent) refl z);
  room = ltb-false _ _ (none_holds No.small_workspace (second_grounds code lent) refl z);
}

module _ (code text : List ℕ) (start row : ℕ) (before : List ℤ) (workspace : List ℕ) where
  abbrev lent : Lent
  lent = lent_by text start before workspace

  abbrev S : Search
  S = second_of code text start row

  -- A call that is turned away.
  pub refused_answer : (number : ℕ) → number ≡ second_refusal code lent → (number ≡ 0 → ⊥)
      → Seconded code text start row before workspace (Refused number) before workspace
  unfolding second_reply second_registers
  refused_answer zero e ne = absurd (ne refl)
  refused_answer (suc number) e ne = record {
    replies = ap (λ k. reply_to k (result_of S) (count_of S)) e;
    spans = ap (λ k. registers_from k (groups_said code) (result_of S) before) e;
    long = refl;
    later = λ i h. refl;
    untouched = λ k z. refl;
    bounded = omega arith;
  }

  -- A call that is not.
  module _ (none-why : second_refusal code lent ≡ 0) (low : row < least_rows) (after : List ℕ)
      (long : length after ≡ length workspace) (l : Layout) (made : LayoutOf code (length text) l) (x : Trial)
      (w : Ran code text l start row workspace after x) where
    width_is : l.width ≡ registers_of (groups_said code)
    width_is = ap (λ (m : Layout). m.width) made

    reply_is : (f : Bool) → found_of x.state ≡ f → answer_of (best_of f (own after l) none) x.count ≡ second_reply code lent row
    unfolding second_reply
    reply_is f e = ap₂ answer_of (ap (λ b. best_of b (own after l) none) (sym e) ∙ sym w.result) (sym w.count)
        ∙ ap (λ k. reply_to k (result_of S) (count_of S)) (sym none-why)

    registers_are : map shown_word (own after l) ++ drop l.width before ≡ second_registers code lent row before
    unfolding second_registers
    registers_are =
        ap₂ (λ xs k. xs ++ drop k before)
        (spans_are (groups_said code) (found_of x.state) (own after l) (λ z. w.unset z ∙ ap (λ k. replicate k nowhere) width_is)
        ∙ ap (spans (groups_said code)) (sym w.result)) width_is
        ∙ ap (λ k. registers_from k (groups_said code) (result_of S) before) (sym none-why)

    frugal : x.count ≤ 2 * rows_said code * (length text - start + 1)
    frugal =
        let a = allowed code lent none-why in
        let r = ready code a.passes in
        let e = rows_in_length code (rows_said code) 0 in
        subst (λ (k : ℕ). x.count ≤ 2 * k * (length text - start + 1)) e
        (subst (λ (k : ℕ). k ≤ 2 * length (decode code).rows * (length text - start + 1)) w.count
        (second_frugal (decode code) r.rows (text_of text) start row (omega (arith, r.least)) a.inside))

    tail_kept : (i : ℕ) → second_words (rows_said code) (groups_said code) (length text) ≤ i
        → get_or after i 0 ≡ get_or workspace i 0
    tail_kept i h =
        let a = allowed code lent none-why in
        w.tail i (omega (arith, layout_end text (ready code a.passes) a.short made))

    -- The answer by what was found.
    abbrev answer : Bool → Answer
    answer true = Found x.count
    answer false = Missing x.count

    pub ran_answer : (f : Bool) → found_of x.state ≡ f
        → Seconded code text start row before workspace (answer f) (map shown_word (own after l) ++ drop l.width before) after
    ran_answer true e = record {
      replies = reply_is true e;
      spans = registers_are;
      long = long;
      later = tail_kept;
      untouched = λ k z. absurd (let y : ◌≡◌ {A = ℕ} 0 1 = cc in omega arith);
      bounded = frugal;
    }
    ran_answer false e = record {
      replies = reply_is false e;
      spans = registers_are;
      long = long;
      later = tail_kept;
      untouched = λ k z. absurd (let y : ◌≡◌ {A = ℕ} 0 1 = cc in omega arith);
      bounded = frugal;
    }

-- what holds of registers holds of equal ones
pub with_registers : {code text : List ℕ} {start row : ℕ} {before after after' : List ℤ} {workspace left : List ℕ} {r : Answer}
    → after ≡ after' → Seconded code text start row before workspace r after' left
    → Seconded code text start row before workspace r after left
with_registers {code} {text} {start} {row} {before} {workspace = workspace} {left = left} {r = r} e a =
    subst (λ (xs : List ℤ). Seconded code text start row before workspace r xs left) (sym e) a
