-- What the calls on lent words promise: the numbers of the answer, and what every lent buffer holds. Definitions only.
use Rattle.std.specs.Prelude.{◌≡◌, Bool, List, ℕ, ◌≤◌, ℤ, length, get_or}
use Rattle.meaning.specs.Limits.{workspace_words}
use Rattle.machine.specs.Words.{rows_said, groups_said}
use Rattle.machine.specs.Replies.{Reply.refused, lent_by, reply, registers_after}
use Rattle.millkettle.specs.Calls.Compiling.{compilation, table_at, code_at}
use Rattle.millkettle.specs.Calls.Listings.{listing_values, listing, list_after}
use Rattle.millkettle.specs.Calls.{Listing}
use Rattle.millkettle.specs.Calls.Listings.{Refused}
use Rattle.host.specs.Surface.{compiled_numbers, ran_numbers}
use Rattle.host.specs.declared.Compiled.{Compiled}
use Rattle.host.specs.declared.Ran.{Ran}
use Rattle.engine_c.specs.declared.Listed.{Listed}

-- The numbers passed for what a call for every match answers: the outline's values.
abbrev pub listed_numbers : Listing → Listed
listed_numbers r = record {
  number = (listing_values r).number;
  place = (listing_values r).place;
  matches = (listing_values r).matches;
  needed = (listing_values r).needed;
  count = (listing_values r).count;
}

-- The promise of compiling: the numbers of the answer, the table and the code.
pub record CompilesWords (tidying : Bool) (s table table' code code' : List ℕ) (r : Compiled) : Type 0 where
  pub answers : r ≡ compiled_numbers (compilation tidying s table code)
  pub table_is : table' ≡ table_at tidying s table code
  pub code_is : code' ≡ code_at tidying s table code

-- The workspace after a call: words behind those that a run needs stay.
pub record Stays (code workspace workspace' : List ℕ) : Type 0 where
  pub long : length workspace' ≡ length workspace
  pub later : (i : ℕ) → workspace_words (rows_said code) (groups_said code) ≤ i → get_or workspace' i 0 ≡ get_or workspace i 0

-- The promise of a run that begins at a row: the numbers of the reply, and the registers; all of the workspace stays if it is
-- turned away.
pub record RunsWords (row : ℕ) (code text : List ℕ) (start : ℕ) (registers registers' : List ℤ) (workspace workspace' : List ℕ)
    (r : Ran) : Type 0 where
  pub replies : r ≡ ran_numbers (reply code (lent_by text start registers workspace) row)
  pub spans : registers' ≡ registers_after code (lent_by text start registers workspace) row registers
  pub stays : Stays code workspace workspace'
  pub untouched : (number : ℕ) → reply code (lent_by text start registers workspace) row ≡ refused number → workspace' ≡ workspace

-- The promise of a call for every match: the numbers of the answer, and the list; all of the workspace stays on 20 to 24.
pub record ListsWords (code text : List ℕ) (start : ℕ) (list list' : List ℤ) (workspace workspace' : List ℕ) (r : Listed)
    : Type 0 where
  pub answers : r ≡ listed_numbers (listing code text start (length list) (length workspace))
  pub list_is : list' ≡ list_after code text start list (length workspace)
  pub stays : Stays code workspace workspace'
  pub untouched : (number : ℕ) → listing code text start (length list) (length workspace) ≡ Refused number
      → workspace' ≡ workspace
