-- Inner rows: those behind a Begin, up to and with its End, outside the prefix. Definitions only.
use Rattle.std.specs.Prelude.{◌≡◌, Bool, true, false, cond, ◌&&◌, ◌||◌, List, [], ◌∷◌, ℕ, zero, suc, ◌+◌, ◌*◌, ◌-◌, ◌≤◌, ◌<◌, eqb, leb}
use Rattle.std.proofs.Math.Option.{none, some}
use Rattle.meaning.specs.All.{All}
use Rattle.meaning.specs.Node.{Node, Node.empty, Node.bset, Node.assert, Node.group, Node.seq, Node.alt, Node.many}
use Rattle.machine.specs.Rows.{Row, Row.accept, Row.consume, Row.jump, Row.fork, Row.opens, Row.closes, Row.reset}
use Rattle.machine.specs.Rows.{Row.begin, Row.end, Row.assertion, Program, row_count, row_at, Key}
use Rattle.machine.specs.Steps.{match_row}
use Rattle.machine.specs.Layout.{size_of}

-- How many turns are open behind a row, of those open at it: a Begin opens one, an End closes one.
abbrev pub open_behind : Row → ℕ → ℕ
open_behind accept d = d
open_behind (consume s) d = d
open_behind (jump t) d = d
open_behind (fork t u) d = d
open_behind (opens k) d = d
open_behind (closes k) d = d
open_behind (reset l h) d = d
open_behind begin d = suc d
open_behind (end t) d = d - 1
open_behind (assertion a) d = d

-- How many turns are open at row q.
unfoldable pub open_at : List Row → ℕ → ℕ
open_at rows zero = 0
open_at rows (suc q) = open_behind (row_at rows q) (open_at rows q)

abbrev pub some? : ℕ → Bool
some? zero = false
some? (suc d) = true

-- Row q is inner: a turn is open at it, and it is not of the prefix.
abbrev pub is_inner : List Row → ℕ → Bool
is_inner rows q = leb match_row q && some? (open_at rows q)

-- How many of the first n rows are inner, and how many rows of a program.
unfoldable pub inner_below : List Row → ℕ → ℕ
inner_below rows zero = 0
inner_below rows (suc n) = cond (is_inner rows n) 1 0 + inner_below rows n

abbrev pub inner_rows : Program → ℕ
inner_rows p = inner_below p.rows (row_count p)

-- The same by recursion over a pattern (`Counted.inner_rows_lem`): of a turn that can be left out Reset, its body's rows and End are
-- inner. Other rows count u each: 0, or 1 where the pattern stands in a turn.
unfoldable pub counting : ℕ → Node → ℕ
counting u empty = 0
counting u (bset s) = u
counting u (assert a) = u
counting u (group n r) = counting u r + (u + u)
counting u (seq r s) = counting u r + counting u s
counting u (alt r s) = counting u r + counting u s + (u + u)
counting u (many n none lazy r) = n * (counting u r + u) + (size_of r + 2 + (u + u))
counting u (many n (some e) lazy r) = n * (counting u r + u) + e * (size_of r + 2 + (u + u))

abbrev pub inner : Node → ℕ
inner r = counting 0 r

-- A Begin or an End.
abbrev pub marks_turn : Row → Bool
marks_turn accept = false
marks_turn (consume s) = false
marks_turn (jump t) = false
marks_turn (fork t u) = false
marks_turn (opens k) = false
marks_turn (closes k) = false
marks_turn (reset l h) = false
marks_turn begin = true
marks_turn (end t) = true
marks_turn (assertion a) = false

-- No Begin and no End stands outside the prefix.
abbrev pub Straight : Program → Type 0
Straight p = (q : ℕ) → match_row ≤ q → q < row_count p → marks_turn (row_at p.rows q) ≡ false

-- No two keys of a list have the same row.
abbrev pub RowsApart : List Key → Type 0
RowsApart [] = Unit {0}
RowsApart (k ∷ s) = All (λ l. l.row ≡ k.row → ⊥) s × RowsApart s

-- Every quantifier that writes rows has its minimum for its maximum: nothing may be added, and the body is such, or not written.
unfoldable pub fixed : Node → Bool
fixed empty = true
fixed (bset s) = true
fixed (assert a) = true
fixed (group n r) = fixed r
fixed (seq r s) = fixed r && fixed s
fixed (alt r s) = fixed r && fixed s
fixed (many n none lazy r) = false
fixed (many n (some e) lazy r) = eqb e 0 && (eqb n 0 || fixed r)
