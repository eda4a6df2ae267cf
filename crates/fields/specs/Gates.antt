-- Gates on readings: at most, at least, or between two limits, ends included. Definitions only.
use Rattle.std.specs.Prelude.{Bool, cond, not, ◌&&◌, List, ℕ, ℤ, Float}
use Rattle.std.specs.Float.Ieee.{le, lt, is_nan}
use Rattle.meaning.specs.Refusals as No
use Rattle.fields.specs.Scanning.{field_of}
use Rattle.fields.specs.declared.Reading.{Reading}
use Rattle.fields.specs.Field.{Field, Number, Refused as Unread}
use Rattle.fields.specs.declared.Gate.{Gate}
use Rattle.fields.specs.declared.Gate.TheVariants.{AtMost, AtLeast, Between}
use Rattle.fields.specs.Passing.{Passing, Passes, Stopped, Refused}

-- The outline's number and values for each case: 29 at place 0 for a limit that is no number, else whether it passes.
abbrev pub told_by : Bool → Bool → Passing
told_by numbers passes = cond numbers (cond passes Passes Stopped) (Refused No.bad_gate 0)

-- What a gate says of a value. One whose lower limit is above its upper passes nothing.
abbrev pub passing_value : Gate → Float → Passing
passing_value (AtMost limit) value = told_by (not (is_nan limit)) (le value limit)
passing_value (AtLeast limit) value = told_by (not (is_nan limit)) (le limit value)
passing_value (Between low high) value =
    told_by (not (is_nan low) && not (is_nan high)) (not (lt high low) && (le low value && le value high))

abbrev pub passing : Gate → Reading → Passing
passing gate reading = passing_value gate reading.value

-- What a gate says of a span that was read: its refusal first.
abbrev pub passing_by : Gate → Field → Passing
passing_by gate (Number reading) = passing gate reading
passing_by gate (Unread number place) = Refused number place

abbrev pub passing_field : Gate → List ℕ → ℤ → ℤ → Passing
passing_field gate text start end = passing_by gate (field_of text start end)

-- The two tests of a gate apart: whether its limits are numbers, and whether a value lies within them.
abbrev pub numbers_in : Gate → Bool
numbers_in (AtMost limit) = not (is_nan limit)
numbers_in (AtLeast limit) = not (is_nan limit)
numbers_in (Between low high) = not (is_nan low) && not (is_nan high)

abbrev pub holds : Gate → Float → Bool
holds (AtMost limit) value = le value limit
holds (AtLeast limit) value = le limit value
holds (Between low high) value = not (lt high low) && (le low value && le value high)
