-- From what a pass promises to the promise of the call.
use Rattle.std.specs.Prelude.{◌≡◌, refl, not, List, [], ◌∷◌, ◌++◌, ℕ, zero, suc, ◌+◌, ◌*◌, ◌-◌, ◌≤◌, ◌<◌, ℤ, length, get_or, drop}
use Rattle.std.proofs.Common.{ap, ap₂, ◌∙◌, mul-le-mul, mul-le-mul_right, arith, le-ltb, lt-ltb}
use Rattle.std.proofs.lemmas.Bool.{not-false}
use Rattle.meaning.specs.Limits.{text_limit, group_limit, workspace_words}
use Rattle.meaning.specs.Refusals as No
use Rattle.meaning.specs.Grounds.{ground, same_behind}
use Rattle.meaning.specs.Text.{Regs, registers_of}
use Rattle.machine.specs.Words.{rows_said, groups_said, code_passes}
use Rattle.machine.specs.Replies.{lend, lent_grounds, refusal}
use Rattle.machine.specs.Repetition.{found_from, repetition, executed_in}
use Rattle.machine.proofs.Repeated.{matches_few}
use Rattle.running_moves.specs.Ready.{Ready, ready}
use Rattle.repetition.specs.Listings.{lent_all, repetition_refusal, words_of, spans_of, listing_to, list_from, listed_by}
use Rattle.repetition.specs.Listings.{Listed, Short, Refused, Lists}
use Rattle.repetition.specs.Passing.{Passes}
use Rattle.repetition.specs.declared.Listed.{Listed as Tally}

-- With registers for the most groups 23 never holds of code that passes: what is left are the grounds of a repetition.
pub same_refusal : (code text : List ℕ) (start workspace : ℕ)
    → refusal code (lend text start (registers_of group_limit) workspace) ≡ repetition_refusal code text start workspace
unfolding refusal repetition_refusal
same_refusal code text start workspace =
    same_behind (ground No.code_fails (not (code_passes code)))
    (lent_grounds (rows_said code) (groups_said code) (lend text start (registers_of group_limit) workspace))
    (lent_all (rows_said code) (groups_said code) text start workspace) (λ e.
    let r : Ready code = ready code (not-false (code_passes code) e) in
    rw (le-ltb (registers_of group_limit) (registers_of (groups_said code)) (omega (arith, r.groups))))

-- The most words that the matches of a text can fill.
pub words_most : (code text : List ℕ) (start : ℕ)
    → words_of code (repetition code text start) ≤ (length text - start + 1) * registers_of (groups_said code)
words_most code text start =
    mul-le-mul_right (registers_of (groups_said code)) (matches_few (found_from code text) (length text) start)

pub most_fits : {code : List ℕ} (text : List ℕ) (start : ℕ) → Ready code → length text ≤ text_limit
    → (length text - start + 1) * registers_of (groups_said code) ≤ (text_limit + 1) * registers_of group_limit
most_fits {code} text start r h =
    let k : length text - start + 1 ≤ text_limit + 1 = omega arith in
    let w : registers_of (groups_said code) ≤ registers_of group_limit = omega (arith, r.groups) in
    mul-le-mul k w

module _ (code text : List ℕ) (start : ℕ) (list : List ℤ) (workspace : List ℕ) where
  abbrev matches : List Regs
  matches = repetition code text start

  abbrev number : ℕ
  number = repetition_refusal code text start (length workspace)

  -- A call that is turned away.
  pub refused_lists : (k : ℕ) → k ≡ refusal code (lend text start (registers_of group_limit) (length workspace)) → (k ≡ 0 → ⊥)
      → Lists code text start list list workspace workspace (Refused k)
  refused_lists zero e ne = absurd (ne refl)
  refused_lists (suc k) e ne =
      let is : suc k ≡ number = e ∙ same_refusal code text start (length workspace) in
      record {
        answers = ap (λ n. listing_to n (words_of code matches) (length list) (length matches) (executed_in code text start)) is;
        list_is = ap (λ n. list_from n (words_of code matches) matches list) is;
        long = refl;
        later = λ i h. refl;
        untouched = λ n f. refl;
      }

  module _ (none-why : number ≡ 0) {before after : List ℕ} {list₀ list' : List ℤ} {found : Tally}
      (long : length after ≡ length workspace)
      (tail : (j : ℕ) → workspace_words (rows_said code) (groups_said code) ≤ j → get_or before j 0 ≡ get_or workspace j 0)
      (p : Passes code text start list₀ list' before after found) where
    -- A list with room for all matches.
    pub listed_lists : list₀ ≡ list → words_of code matches ≤ length list
        → Lists code text start list list' workspace after (listed_by found)
    listed_lists same enough =
        let fits = le-ltb (length list) (words_of code matches) enough in
        record {
          answers = ap₂ Listed p.matches p.count ∙ rw (none-why, fits);
          list_is = p.listed (rw same enough) ∙ ap (λ l. spans_of matches ++ drop (words_of code matches) l) same
              ∙ rw (none-why, fits);
          long = long;
          later = λ j h. p.tail j h ∙ tail j h;
          untouched = λ k e. absurd (let z : ◌≡◌ {A = ℕ} 0 1 = cc in omega arith);
        }

    -- One that is too short stays as it was.
    pub short_lists : {needed : ℕ} {left : List ℤ} → needed ≡ found.matches * registers_of (groups_said code)
        → length list < needed → left ≡ list → Lists code text start list left workspace after (Short needed)
    short_lists {needed} e few same =
        let is : needed ≡ words_of code matches = e ∙ ap (λ n. n * registers_of (groups_said code)) p.matches in
        let short = lt-ltb (length list) (words_of code matches) (omega arith) in
        record {
          answers = ap Short is ∙ rw (none-why, short);
          list_is = same ∙ rw (none-why, short);
          long = long;
          later = λ j h. p.tail j h ∙ tail j h;
          untouched = λ k e. absurd (let z : ◌≡◌ {A = ℕ} 0 1 = cc in omega arith);
        }

-- A list that has nothing before it, in a part without numbers.
pub nothing_before : (part list : List ℤ) → length part ≡ 0 → part ++ list ≡ list
nothing_before [] list e = refl
nothing_before (x ∷ part) list e = absurd (omega arith)
