-- When a call of either engine is turned away: the grounds that both have, and the words of the workspace behind them.
use Rattle.std.specs.Prelude.{◌≡◌, Result, Ok, Err, true, not, List, [], ◌∷◌, ◌++◌, ℕ, ◌<◌, ◌≤◌, ltb, length}
use Rattle.std.proofs.Common.{sym, ◌∙◌, arith, lt-ltb, le-ltb, ltb-false}
use Rattle.std.proofs.lemmas.Bool.{not-false}
use Rattle.meaning.specs.Text.{registers_of}
use Rattle.meaning.specs.Limits.{text_limit, workspace_words}
use Rattle.meaning.specs.Refusals as No
use Rattle.meaning.specs.Refusing.{number_of}
use Rattle.meaning.specs.Grounds.{Ground, ground, first_of, NoneOf, none_before}
use Rattle.meaning.specs.declared.refusals.Refusal.{Refusal}
use Rattle.meaning.specs.declared.refusals.Refusal.TheVariants as Why
use Rattle.machine.specs.Words.{rows_said, groups_said, code_passes}
use Rattle.machine.specs.Replies.{lend, refusal}
use Rattle.engine.specs.declared.Sizes.{Sizes}

-- The number by which a call is turned away, 0 if it is not.
abbrev pub refused_by : {A : Type 0} → Result A Refusal → ℕ
refused_by (Ok _) = 0
refused_by (Err why) = number_of why

-- The grounds that both engines have, in order: code fails its check; text over a limit; start beyond the text's length; fewer
-- registers than the run needs.
abbrev pub shared_grounds : List ℕ → List ℕ → ℕ → ℕ → ℕ → List Ground
shared_grounds code text start registers longest =
    ground No.code_fails (not (code_passes code))
    ∷ ground No.long_text (ltb longest (length text))
    ∷ ground No.start_beyond (ltb (length text) start)
    ∷ ground No.few_registers (ltb registers (registers_of (groups_said code)))
    ∷ []

-- None of them holds of a call, and its code says so many rows and groups.
pub record Sized (code text : List ℕ) (start registers longest : ℕ) (sizes : Sizes) : Type 0 where
  pub none : NoneOf (shared_grounds code text start registers longest)
  pub rows : sizes.rows ≡ rows_said code
  pub groups : sizes.groups ≡ groups_said code

-- One of them is the first that holds, whatever grounds come behind.
pub record Unfit (code text : List ℕ) (start registers longest : ℕ) (why : Refusal) : Type 0 where
  pub first : (more : List Ground) → first_of (shared_grounds code text start registers longest ++ more) ≡ number_of why

-- ---- numbers

-- No refusal's number is 0.
pub some_number : (why : Refusal) → number_of why ≡ 0 → ⊥
some_number Why.LongPattern e = omega arith
some_number Why.SmallTable e = omega arith
some_number Why.HighByte e = omega arith
some_number Why.BadEscape e = omega arith
some_number Why.LeftOut e = omega arith
some_number Why.NoAtom e = omega arith
some_number Why.BadBraces e = omega arith
some_number Why.HighCount e = omega arith
some_number Why.ReversedCounts e = omega arith
some_number Why.BadClass e = omega arith
some_number Why.Unmatched e = omega arith
some_number Why.Stray e = omega arith
some_number Why.TooDeep e = omega arith
some_number Why.ManyGroups e = omega arith
some_number Why.ManyRows e = omega arith
some_number Why.ShortCode e = omega arith
some_number Why.CodeFails e = omega arith
some_number Why.LongText e = omega arith
some_number Why.StartBeyond e = omega arith
some_number Why.FewRegisters e = omega arith
some_number Why.SmallWorkspace e = omega arith
some_number Why.ShortList e = omega arith
some_number Why.OutsideForm e = omega arith
some_number Why.Unshown e = omega arith
some_number Why.BadField e = omega arith
some_number Why.BadGate e = omega arith

-- ---- with the words of the workspace

-- code passes its check, and the text is within the limit
pub passes : {code text : List ℕ} {start registers longest : ℕ} {sizes : Sizes} → Sized code text start registers longest sizes
    → code_passes code ≡ true
passes {code} s = not-false (code_passes code) s.none.0

pub short : {code text : List ℕ} {start registers longest : ℕ} {sizes : Sizes} → Sized code text start registers longest sizes
    → length text ≤ longest
short {text = text} {longest = longest} s = ltb-false longest (length text) s.none.1.0

module _ (code text : List ℕ) (start registers workspace : ℕ) where
  abbrev few : Ground
  few = ground No.small_workspace (ltb workspace (workspace_words (rows_said code) (groups_said code)))

  pub unfit_refused : {why : Refusal} → Unfit code text start registers text_limit why
      → number_of why ≡ refusal code (lend text start registers workspace)
  unfolding refusal
  unfit_refused u = sym (u.first (few ∷ []))

  module _ {sizes : Sizes} (s : Sized code text start registers text_limit sizes) where
    behind : refusal code (lend text start registers workspace) ≡ first_of (few ∷ [])
    unfolding refusal
    behind = none_before (shared_grounds code text start registers text_limit) (few ∷ []) s.none

    pub small_refused : workspace < workspace_words sizes.rows sizes.groups
        → No.small_workspace ≡ refusal code (lend text start registers workspace)
    small_refused h = sym (behind ∙ rw (lt-ltb workspace _ (rw (s.rows, s.groups) at h)))

    pub none_refused : workspace_words sizes.rows sizes.groups ≤ workspace
        → 0 ≡ refusal code (lend text start registers workspace)
    none_refused h = sym (behind ∙ rw (le-ltb workspace _ (rw (s.rows, s.groups) at h)))
