-- What the host passes of fields and gates: numbers for each answer, and a value as a 64-bit float. Definitions only.
use Rattle.std.specs.Float.{binary64}
use Rattle.std.specs.Float.Ieee.{of_bits}
use Rattle.millkettle.specs.Calls.{Field, Passing}
use Rattle.millkettle.specs.Calls.Field.{Number, Refused}
use Rattle.millkettle.specs.Calls.Passing.{Passes, Stopped, Refused as Unpassed}
use Rattle.host.specs.declared.readings.Read.{Read}
use Rattle.host.specs.declared.readings.Passed.{Passed}

-- The numbers passed for what reading answers: 0, the decimals and the value, at place 0; or a refusal's number and place.
abbrev pub field_numbers : Field → Read
field_numbers (Number r) = record { number = 0; decimals = r.decimals; place = 0; value = r.value }
field_numbers (Refused number place) = record { number = number; decimals = 0; place = place; value = of_bits binary64 0 }

-- The numbers passed for what a gate answers: 0 and 1 or 0, at place 0; or a refusal's number and place.
abbrev pub passed_numbers : Passing → Passed
passed_numbers Passes = record { number = 0; passes = 1; place = 0 }
passed_numbers Stopped = record { number = 0; passes = 0; place = 0 }
passed_numbers (Unpassed number place) = record { number = number; passes = 0; place = place }
