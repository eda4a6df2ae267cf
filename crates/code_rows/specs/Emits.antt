-- The contracts of the functions that write rows: what they ask and what they write, each as a record, so that callers name
-- no argument.
use Rattle.std.specs.Prelude.{Bool, List, [], ◌∷◌, ◌++◌, ℕ, suc, ◌+◌, ◌*◌, ◌≤◌}
use Rattle.meaning.specs.Node.{Node, lo, hi}
use Rattle.meaning.specs.Results.{concat_map}
use Rattle.machine.specs.Rows.{Row, Row.reset, Row.fork, Row.jump}
use Rattle.machine.specs.Layout.{size_of, past, rows_of, past_turn, copies, turn_rows}
use Rattle.machine.specs.Words.{words_of}
use Rattle.table.specs.Stands.{Ends}
use Rattle.code_words.specs.Wrote.{Room, Wrote}

-- The records of a pattern are the last ones below record number `top`.
pub record Part (table : List ℕ) (top : ℕ) (r : Node) : Type 0 where
  pub before : List ℕ
  pub ends : Ends table top before r

-- What is asked: a pattern's records end at `top`, and the rows that it needs fit before row `end`.
pub record Asks (need : Node → ℕ) (table : List ℕ) (top : ℕ) (code : List ℕ) (end : ℕ) : Type 0 where
  pub node : Node
  pub part : Part table top node
  pub fits : need node ≤ end
  pub room : Room code end

-- What is answered, whatever the pattern is: its rows are written, and they end at row `end`.
pub record Lays (need : Node → ℕ) (rows : Node → ℕ → List Row)
    (table : List ℕ) (top : ℕ) (code code' : List ℕ) (start end : ℕ) : Type 0 where
  pub by : (r : Node) → Part table top r → need r ≤ end → Wrote code code' start end (need r) (concat_map words_of (rows r start))

-- A fresh pass over a part: Reset of its groups, and its rows.
abbrev pub fresh_size : Node → ℕ
fresh_size r = size_of r + 1

abbrev pub clear : Node → Row
clear r = reset (lo r) (hi r)

abbrev pub fresh_rows : Node → ℕ → List Row
fresh_rows r q = clear r ∷ rows_of r (suc q)

-- n passes.
abbrev pub repeats_size : ℕ → Node → ℕ
repeats_size n r = n * fresh_size r

abbrev pub repeats_rows : ℕ → Node → ℕ → List Row
repeats_rows n r q = copies (λ p. fresh_rows r p) (λ p. past r (suc p)) n q

-- A turn that can be left out.
abbrev pub turn_size : Node → ℕ
turn_size r = size_of r + 4

abbrev pub turn_of : Bool → ℕ → ℕ → Node → ℕ → List Row
turn_of lazy out back r q = turn_rows lazy (clear r) (rows_of r) out back q

-- n turns, each of which goes on at the next or out to one row.
abbrev pub turns_size : ℕ → Node → ℕ
turns_size n r = n * turn_size r

abbrev pub turns_of : Bool → ℕ → ℕ → Node → ℕ → List Row
turns_of lazy out n r q = copies (λ p. turn_of lazy out (past_turn (past r) p) r p) (past_turn (past r)) n q

-- An alternative that is not the last: Fork to it or past it, and Jump from its end to the end of all.
abbrev pub alternative_size : Node → ℕ
alternative_size r = size_of r + 2

abbrev pub alternative_rows : ℕ → Node → ℕ → List Row
alternative_rows end r q = fork (suc q) (suc (past r (suc q))) ∷ (rows_of r (suc q) ++ (jump end ∷ []))
