-- What one pass over the matches promises. Definitions only.
use Rattle.std.specs.Prelude.{◌≡◌, cond, List, ◌++◌, ℕ, ◌+◌, ◌≤◌, ltb, ℤ, length, get_or, take, drop}
use Rattle.meaning.specs.Limits.{workspace_words}
use Rattle.machine.specs.Words.{rows_said, groups_said}
use Rattle.machine.specs.Repetition.{repetition, executed_in}
use Rattle.repetition.specs.Listings.{words_of, spans_of}
use Rattle.repetition.specs.declared.Listed.{Listed as Tally}

-- Numbers in a list from a place on, if it has room for them.
abbrev pub placed : ℕ → List ℤ → List ℤ → List ℤ
placed at new list =
    cond (ltb (length list) (at + length new)) list (take at list ++ (new ++ drop (length new) (drop at list)))

-- Matches and count are the repetition's, and where the list has room it holds the spans; words behind those that a run needs
-- stay.
pub record Passes (code text : List ℕ) (start : ℕ) (list list' : List ℤ) (work work' : List ℕ) (r : Tally) : Type 0 where
  pub matches : r.matches ≡ length (repetition code text start)
  pub count : r.count ≡ executed_in code text start
  pub listed : words_of code (repetition code text start) ≤ length list
      → list' ≡ spans_of (repetition code text start) ++ drop (words_of code (repetition code text start)) list
  pub tail : (j : ℕ) → workspace_words (rows_said code) (groups_said code) ≤ j → get_or work' j 0 ≡ get_or work j 0
