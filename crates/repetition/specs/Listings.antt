-- What a call for every match answers and leaves behind. Definitions only.
use Rattle.std.specs.Prelude.{◌≡◌, Result, Ok, Err, cond, not, List, [], ◌∷◌, ◌++◌, map, ℕ, zero, suc, ◌≤◌, ltb, ℤ, length, get_or, drop}
use Rattle.meaning.specs.Limits.{text_limit, workspace_words}
use Rattle.meaning.specs.Refusals as No
use Rattle.meaning.specs.Refusing.{number_of}
use Rattle.meaning.specs.Grounds.{Ground, ground, first_of}
use Rattle.meaning.specs.Text.{Regs}
use Rattle.meaning.specs.Results.{concat_map}
use Rattle.machine.specs.Words.{rows_said, groups_said, code_passes}
use Rattle.machine.specs.Replies.{shown}
use Rattle.machine.specs.Repetition.{repetition, executed_in, list_words}
use Rattle.repetition.specs.declared.Listed.{Listed as Tally}
use Rattle.repetition.specs.declared.Unlisted.{Unlisted}

-- What a call answers: every match stands in the list, how many there are and the count of rows executed; or the list is too
-- short, and so many words are needed; or it is turned away by a number.
pub data Listing : Type 0 where
  Listed : ℕ → ℕ → Listing
  Short : ℕ → Listing
  Refused : ℕ → Listing

-- The answer where every match stands in the list.
abbrev pub listed_by : Tally → Listing
listed_by found = Listed found.matches found.count

abbrev pub listing_of : Result Tally Unlisted → Listing
listing_of (Ok found) = listed_by found
listing_of (Err (Unlisted.Short needed)) = Short needed
listing_of (Err (Unlisted.Refused why)) = Refused (number_of why)

-- The outline's values for each case: the number by which it is turned away, 0 if it is not; the place; the count of rows
-- executed; how many matches there are; and how many words are needed, where the list is too short.
pub record ListingValues : Type 0 where
  pub number : ℕ
  pub place : ℕ
  pub count : ℕ
  pub matches : ℕ
  pub needed : ℕ

abbrev pub listing_values : Listing → ListingValues
listing_values (Listed matches count) = record { number = 0; place = 0; count = count; matches = matches; needed = 0 }
listing_values (Short needed) = record { number = No.short_list; place = 0; count = 0; matches = 0; needed = needed }
listing_values (Refused number) = record { number = number; place = 0; count = 0; matches = 0; needed = 0 }

-- The grounds in what is lent to the runs of a repetition, for n rows and g groups: a run's own without 23, as no registers are
-- lent.
abbrev pub lent_all : ℕ → ℕ → List ℕ → ℕ → ℕ → List Ground
lent_all n g text start workspace =
    ground No.long_text (ltb text_limit (length text))
    ∷ ground No.start_beyond (ltb (length text) start)
    ∷ ground No.small_workspace (ltb workspace (workspace_words n g))
    ∷ []

-- All grounds for turning its runs away, in order: first that its code fails the check.
abbrev pub repetition_grounds : List ℕ → List ℕ → ℕ → ℕ → List Ground
repetition_grounds code text start workspace =
    ground No.code_fails (not (code_passes code)) ∷ lent_all (rows_said code) (groups_said code) text start workspace

-- The number by which they are turned away, 0 if they are not.
unfoldable pub repetition_refusal : List ℕ → List ℕ → ℕ → ℕ → ℕ
repetition_refusal code text start workspace = first_of (repetition_grounds code text start workspace)

-- The words that the matches of a repetition fill: 2(g+1) for each.
abbrev pub words_of : List ℕ → List Regs → ℕ
words_of code matches = list_words (length matches) (groups_said code)

-- All grounds for turning the call away: last that the list has fewer words than the matches fill.
abbrev pub list_grounds : List ℕ → List ℕ → ℕ → ℕ → ℕ → List Ground
list_grounds code text start list workspace =
    repetition_grounds code text start workspace
    ++ (ground No.short_list (ltb list (words_of code (repetition code text start))) ∷ [])

-- The answer by the number of a refusal and the matches: 25 exactly if the list is shorter than the words that they fill.
abbrev pub listing_to : ℕ → ℕ → ℕ → ℕ → ℕ → Listing
listing_to zero needed list matches count = cond (ltb list needed) (Short needed) (Listed matches count)
listing_to (suc number) needed list matches count = Refused (suc number)

-- The answer to code on a text from a start, with so many words of a list and of a workspace.
abbrev pub listing : List ℕ → List ℕ → ℕ → ℕ → ℕ → Listing
listing code text start list workspace =
    let matches : List Regs = repetition code text start in
    listing_to (repetition_refusal code text start workspace) (words_of code matches) list (length matches)
    (executed_in code text start)

-- The spans of matches, one behind the other: starts and ends, -1 for a group that took no part.
abbrev pub spans_of : List Regs → List ℤ
spans_of matches = concat_map (map shown) matches

-- The list by the number of a refusal: the spans of the matches, and later words as they were; all of it if it is too short.
abbrev pub list_from : ℕ → ℕ → List Regs → List ℤ → List ℤ
list_from zero needed matches list = cond (ltb (length list) needed) list (spans_of matches ++ drop needed list)
list_from (suc number) needed matches list = list

abbrev pub list_after : List ℕ → List ℕ → ℕ → List ℤ → ℕ → List ℤ
list_after code text start list workspace =
    let matches : List Regs = repetition code text start in
    list_from (repetition_refusal code text start workspace) (words_of code matches) matches list

-- The promise: the answer, the list, and which words of the workspace stay: those behind the words that a run needs, and all of
-- them on 20 to 24.
pub record Lists (code text : List ℕ) (start : ℕ) (list list' : List ℤ) (workspace workspace' : List ℕ) (answer : Listing)
    : Type 0 where
  pub answers : answer ≡ listing code text start (length list) (length workspace)
  pub list_is : list' ≡ list_after code text start list (length workspace)
  pub long : length workspace' ≡ length workspace
  pub later : (i : ℕ) → workspace_words (rows_said code) (groups_said code) ≤ i → get_or workspace' i 0 ≡ get_or workspace i 0
  pub untouched : (number : ℕ) → answer ≡ Refused number → workspace' ≡ workspace
