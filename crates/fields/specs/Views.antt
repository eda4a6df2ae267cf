-- The calls' results as the outline's answers: a refusal by its number and place. Definitions only.
use Rattle.std.specs.Prelude.{Option, Some, None, Result, Ok, Err}
use Rattle.std.proofs.Math.Option.{Option as Maybe, none, some}
use Rattle.meaning.specs.Refusing.{number_of}
use Rattle.meaning.specs.declared.refusals.Refused.{Refused}
use Rattle.fields.specs.Fields.{Numeral, reading_of}
use Rattle.fields.specs.Field.{Field, Number, Refused as Unread}
use Rattle.fields.specs.Passing.{Passing, Passes, Stopped, Refused as Unpassed}
use Rattle.fields.specs.declared.Reading.{Reading}
use Rattle.fields.specs.declared.Passing.{Passing as Said}

abbrev pub field_view : Result Reading Refused → Field
field_view (Ok r) = Number r
field_view (Err e) = Unread (number_of e.why) e.place

abbrev pub passing_view : Result Said Refused → Passing
passing_view (Ok Said.Passes) = Passes
passing_view (Ok Said.Stopped) = Stopped
passing_view (Err e) = Unpassed (number_of e.why) e.place

-- The reading of a number that was found, if one was.
abbrev pub reading_by : Maybe Numeral → Option Reading
reading_by none = None
reading_by (some n) = Some (reading_of n)
