-- The rows of a pattern, by the outline's "Rows". Definitions only.
use Rattle.std.specs.Prelude.{Bool, true, false, List, [], ◌∷◌, ◌++◌, ℕ, zero, suc, ◌+◌, ◌*◌}
use Rattle.std.proofs.Math.Option.{Option, none, some}
use Rattle.sets.specs.Sets.{set_of}
use Rattle.meaning.specs.Node.{Node, Node.empty, Node.bset, Node.assert, Node.group, Node.seq, Node.alt, Node.many, lo, hi}
use Rattle.machine.specs.Rows.{Row, Row.accept, Row.consume, Row.jump, Row.fork, Row.opens, Row.closes, Row.reset}
use Rattle.machine.specs.Rows.{Row.begin, Row.end, Row.assertion}
use Rattle.machine.specs.Rows.{Program}

-- The number of rows of a pattern.
unfoldable pub size_of : Node → ℕ
size_of empty = 0
size_of (bset s) = 1
size_of (assert a) = 1
size_of (group n r) = size_of r + 2
size_of (seq r s) = size_of r + size_of s
size_of (alt r s) = size_of r + size_of s + 2
size_of (many n none lazy r) = n * (size_of r + 1) + (size_of r + 4)
size_of (many n (some e) lazy r) = n * (size_of r + 1) + e * (size_of r + 4)

-- A fork between the next row and row k: the next row is preferred, unless lazy.
abbrev pub fork_of : Bool → ℕ → ℕ → Row
fork_of false q k = fork (suc q) k
fork_of true q k = fork k (suc q)

-- The row after n parts from row q on, each of which ends where f says.
abbrev pub times : (ℕ → ℕ) → ℕ → ℕ → ℕ
times f zero q = q
times f (suc n) q = times f n (f q)

-- The row after a turn that can be left out, if its body ends where f says.
abbrev pub past_turn : (ℕ → ℕ) → ℕ → ℕ
past_turn f q = suc (f (suc (suc (suc q))))

-- The row after the turns that can be left out.
abbrev pub past_turns : (ℕ → ℕ) → Option ℕ → ℕ → ℕ
past_turns f none q = past_turn f q
past_turns f (some n) q = times (past_turn f) n q

-- The row after the rows of a pattern that begin at row q.
unfoldable pub past : Node → ℕ → ℕ
past empty q = q
past (bset s) q = suc q
past (assert a) q = suc q
past (group n r) q = suc (past r (suc q))
past (seq r s) q = past s (past r q)
past (alt r s) q = past s (suc (past r (suc q)))
past (many n e lazy r) q = past_turns (past r) e (times (λ p. past r (suc p)) n q)

-- n parts one after the other, each of which ends where f says.
abbrev pub copies : (ℕ → List Row) → (ℕ → ℕ) → ℕ → ℕ → List Row
copies rows f zero q = []
copies rows f (suc n) q = rows q ++ copies rows f n (f q)

-- A turn that can be left out: it goes on at row `back`, or out to row k.
abbrev pub turn_rows : Bool → Row → (ℕ → List Row) → ℕ → ℕ → ℕ → List Row
turn_rows lazy clear rows k back q = fork_of lazy q k ∷ begin ∷ clear ∷ (rows (suc (suc (suc q))) ++ (end back ∷ []))

-- The turns that can be left out.
abbrev pub turns_rows : Bool → Row → (ℕ → List Row) → (ℕ → ℕ) → Option ℕ → ℕ → List Row
turns_rows lazy clear rows f none q = turn_rows lazy clear rows (past_turn f q) q q
turns_rows lazy clear rows f (some n) q = copies (λ p. turn_rows lazy clear rows (times (past_turn f) n q) (past_turn f p) p)
    (past_turn f) n q

-- The rows of a pattern, from row q on.
unfoldable pub rows_of : Node → ℕ → List Row
rows_of empty q = []
rows_of (bset s) q = consume s ∷ []
rows_of (assert a) q = assertion a ∷ []
rows_of (group n r) q = opens n ∷ (rows_of r (suc q) ++ (closes n ∷ []))
rows_of (seq r s) q = rows_of r q ++ rows_of s (past r q)
rows_of (alt r s) q = fork (suc q) (suc (past r (suc q))) ∷
    (rows_of r (suc q) ++ (jump (past s (suc (past r (suc q)))) ∷ rows_of s (suc (past r (suc q)))))
rows_of (many n e lazy r) q =
    let clear : Row = reset (lo r) (hi r) in
    copies (λ p. clear ∷ rows_of r (suc p)) (λ p. past r (suc p)) n q ++ turns_rows lazy clear (rows_of r) (past r) e
    (times (λ p. past r (suc p)) n q)

-- The set of all bytes.
unfoldable pub any_byte : List ℕ
any_byte = set_of (λ b. true)

-- A pattern as group 0, after as few bytes as can be.
abbrev pub whole : Node → Node
whole r = seq (many 0 none true (bset any_byte)) (group 0 r)

-- The program of a pattern with g groups: the prefix of five rows, Open 0, the pattern, Close 0, Accept.
abbrev pub program_of : ℕ → Node → Program
program_of g r = record {
  groups = g;
  rows = fork 5 1 ∷ begin ∷ reset 1 0 ∷ consume any_byte ∷ end 0 ∷ opens 0 ∷ (rows_of r 6 ++ (closes 0 ∷ accept ∷ []));
}
