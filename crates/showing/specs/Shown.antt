-- What is answered where a table is shown, and what the room holds then. Definitions only.
use Rattle.std.specs.Prelude.{◌≡◌, Bool, cond, ◌||◌, List, ◌++◌, ℕ, ltb, length, drop}
use Rattle.std.proofs.Math.Option.{Option, none, some}
use Rattle.meaning.specs.Limits.{pattern_limit, depth_limit}
use Rattle.meaning.specs.Refusals as No
use Rattle.meaning.specs.Node.{Node}
use Rattle.showing_form.specs.Form.{form_of}
use Rattle.showing.specs.Text.{text, depth}

-- What is answered: a text of so many bytes, which stands first in the room; or a refusal, by number and place.
pub data Shown : Type 0 where
  Text : ℕ → Shown
  Refused : ℕ → ℕ → Shown

-- A tree's text is over 2,048 bytes, deeper than 32 parentheses or larger than so much room.
abbrev pub large : Node → ℕ → Bool
large r room = ltb pattern_limit (length (text r)) || ltb depth_limit (depth r) || ltb room (length (text r))

-- By the tree, if the table is of the form: 26, then 27, both at place 0; or the text's length.
abbrev pub answer_for : Option Node → ℕ → Shown
answer_for none room = Refused No.outside_form 0
answer_for (some r) room = cond (large r room) (Refused No.unshown 0) (Text (length (text r)))

-- The text stands first in the room, and later room stays; refused, all of it stays.
abbrev pub room_for : Option Node → List ℕ → List ℕ
room_for none room = room
room_for (some r) room = cond (large r (length room)) room (text r ++ drop (length (text r)) room)

-- The answer, and the room at exit: one each for every table and room.
unfoldable pub showing : List ℕ → ℕ → Shown
showing table room = answer_for (form_of table) room

unfoldable pub room_after : List ℕ → List ℕ → List ℕ
room_after table room = room_for (form_of table) room

-- The promise of showing a table.
pub record Shows (table room room' : List ℕ) (answer : Shown) : Type 0 where
  pub answers : answer ≡ showing table (length room)
  pub room_is : room' ≡ room_after table room
