-- What `read` answers, by the outline's number and values for each case. Definitions only.
use Rattle.std.specs.Prelude.{◌≡◌, List, ℕ, ◌≤◌, length, Result, Ok, Err}
use Rattle.meaning.specs.Limits.{pattern_limit, table_words}
use Rattle.table.specs.Table.{record_count}
use Rattle.reading_items.specs.Reading.{reading, table_after, first_high}
use Rattle.reading_items.specs.Reading as given
use Rattle.meaning.specs.Refusing.{number_of}
use Rattle.meaning.specs.declared.refusals.Refused.{Refused}
use Rattle.reading.specs.declared.Pattern.{Pattern as Read}

-- A pattern by its records in the table and its groups, or a refusal's number and place.
pub data Reading : Type 0 where
  Pattern : ℕ → ℕ → Reading
  Turned : ℕ → ℕ → Reading

abbrev pub reading_of : Result Read Refused → Reading
reading_of (Ok p) = Pattern p.records p.groups
reading_of (Err e) = Turned (number_of e.why) e.place

-- The outline's number and values for each case of what `read` answers; the pattern itself is in the table.
abbrev pub answer_of : given.Reading → Reading
answer_of (given.Reading.pattern r g) = Pattern (record_count r) g
answer_of (given.Reading.refused number place) = Turned number place

-- What `read` answers, and what it leaves in the table.
pub record Reads (s table table' : List ℕ) (answer : Reading) : Type 0 where
  pub answer_is : answer ≡ answer_of (reading s (length table))
  pub table_is : table' ≡ table_after s table

-- A pattern and a table that passed checks 1 to 3.
pub record Checked (s table : List ℕ) : Type 0 where
  pub short : length s ≤ pattern_limit
  pub words : table_words (length s) ≤ length table
  pub plain : length s ≤ first_high s
