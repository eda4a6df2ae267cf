-- The outline's values for each case of what the readers answer. Definitions only.
use Rattle.std.specs.Prelude.{ℕ, Result, Ok, Err}
use Rattle.meaning.specs.Refusing.{number_of}
use Rattle.meaning.specs.declared.refusals.Refused.{Refused}
use Rattle.reading_items.specs.declared.parts.Reached.{Reached}
use Rattle.reading_items.specs.declared.openings.Opening.{Opening as Opened}

-- A part that was read: the place behind it, the top of the table above its records, and the groups so far; or a refusal's
-- number and place.
pub data Got : Type 0 where
  GotPart : ℕ → ℕ → ℕ → Got
  GotRefused : ℕ → ℕ → Got

abbrev pub got_of : Result Reached Refused → Got
got_of (Ok p) = GotPart p.at p.top p.groups
got_of (Err e) = GotRefused (number_of e.why) e.place

-- What a `(` opens: alternatives from a place on, a group's number or 0 for `(?:`, and the groups so far; or a refusal's number
-- and place.
pub data Opening : Type 0 where
  Inside : ℕ → ℕ → ℕ → Opening
  NotOpened : ℕ → ℕ → Opening

abbrev pub opening_of : Result Opened Refused → Opening
opening_of (Ok o) = Inside o.from o.group o.groups
opening_of (Err e) = NotOpened (number_of e.why) e.place
