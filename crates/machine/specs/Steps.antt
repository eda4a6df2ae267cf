-- The steps of the outline, in its words. Definitions only.
use Rattle.std.specs.Prelude.{Bool, true, false, cond, ◌||◌, ◌&&◌, List, [], ◌∷◌, ◌++◌, ℕ, zero, suc, ◌+◌, ◌*◌, ◌-◌, eqb, length}
use Rattle.std.specs.Bool.{beq}
use Rattle.std.proofs.Math.Option.{Option, none, some}
use Rattle.meaning.specs.Text.{Input, Regs, size, unset, fits, holds_at, opened, closed, cleared}
use Rattle.machine.specs.Rows.{Row, Row.accept, Row.consume, Row.jump, Row.fork, Row.opens, Row.closes, Row.reset}
use Rattle.machine.specs.Rows.{Row.begin, Row.end, Row.assertion}
use Rattle.machine.specs.Rows.{Program, row_at, Key, at}

-- What a thread does: it wins; it is dropped; it is queued for the next position; it goes on with other registers; it goes two
-- ways, the first choice first.
pub data Move : Type 0 where
  win : Move
  lose : Move
  eat : Key → Move
  on : (Regs → Regs) → Key → Move
  both : Key → Key → Move

-- What executing a row does at position i, for a thread at row q with flag b: Accept wins; a Consume that fits queues the next
-- row with the flag set; Jump and Fork go to their rows; Open and Close write the position; Reset makes groups -1; Begin clears
-- the flag; End goes on only if it is set; Assert goes on or drops.
abbrev pub act : Input → ℕ → ℕ → Bool → Row → Move
act w i q b accept = win
act w i q b (consume s) = cond (fits w s i) (eat (at (suc q) true)) lose
act w i q b (jump t) = on (λ ρ. ρ) (at t b)
act w i q b (fork t u) = both (at t b) (at u b)
act w i q b (opens k) = on (opened k i) (at (suc q) b)
act w i q b (closes k) = on (closed k i) (at (suc q) b)
act w i q b (reset l h) = on (cleared l h) (at (suc q) b)
act w i q b begin = on (λ ρ. ρ) (at (suc q) false)
act w i q b (end t) = cond b (on (λ ρ. ρ) (at t b)) lose
act w i q b (assertion a) = cond (holds_at w a i) (on (λ ρ. ρ) (at (suc q) b)) lose

abbrev pub move_of : Input → List Row → ℕ → Key → Move
move_of w rows i k = act w i k.row k.flag (row_at rows k.row)

-- A thread is row, flag and registers.
pub record Thread : Type 0 where
  pub key : Key
  pub regs : Regs

abbrev pub thread : Key → Regs → Thread
thread k ρ = record { key = k; regs = ρ }

-- A position; the active threads, in order; the queue for the next position; the keys executed at this position; the result
-- recorded last; and the count of rows executed.
pub data Machine : Type 0 where
  machine : ℕ → List Thread → List Thread → List Key → Option Regs → ℕ → Machine

-- Whether two keys are the same, and whether a key is among others.
abbrev pub same_key : Key → Key → Bool
same_key k l = eqb k.row l.row && beq k.flag l.flag

abbrev pub among : Key → List Key → Bool
among k [] = false
among k (l ∷ ls) = same_key k l || among k ls

-- A thread's move. Accept records the result, drops the active threads behind it and keeps the queue.
abbrev pub exec : Move → Regs → Machine → Machine
exec win ρ (machine i a q s b c) = machine i [] q s (some ρ) c
exec lose ρ (machine i a q s b c) = machine i a q s b c
exec (eat k) ρ (machine i a q s b c) = machine i a (q ++ (thread k ρ ∷ [])) s b c
exec (on f k) ρ (machine i a q s b c) = machine i (thread k (f ρ) ∷ a) q s b c
exec (both k l) ρ (machine i a q s b c) = machine i (thread k ρ ∷ thread l ρ ∷ a) q s b c

-- A step. A thread whose row and flag were already executed at this position is dropped, uncounted; any other execution counts
-- one. When no thread is active the queue becomes active at the next position; an empty queue ends the run.
abbrev pub step : (ℕ → Key → Move) → Machine → Machine
step move (machine i [] [] s b c) = machine i [] [] s b c
step move (machine i [] (t ∷ q) s b c) = machine (suc i) (t ∷ q) [] [] b c
step move (machine i (t ∷ a) q s b c) =
    cond (among t.key s) (machine i a q s b c) (exec (move i t.key) t.regs (machine i a q (t.key ∷ s) b (suc c)))

-- n steps.
unfoldable pub steps : (ℕ → Key → Move) → ℕ → Machine → Machine
steps move zero M = M
steps move (suc n) M = steps move n (step move M)

-- A machine that begins with a list of threads at position i.
abbrev pub begun : ℕ → List Thread → Machine
begun i ts = machine i ts [] [] none 0

-- A machine that has ended: no thread is active and none is queued.
abbrev pub Done : Machine → Type 0
Done (machine i [] [] s b c) = Unit {0}
Done (machine i [] (t ∷ q) s b c) = ⊥
Done (machine i (t ∷ a) q s b c) = ⊥

-- The keys executed at its position; the result; and the count of rows executed.
abbrev pub seen : Machine → List Key
seen (machine i a q s b c) = s

abbrev pub best : Machine → Option Regs
best (machine i a q s b c) = b

abbrev pub count : Machine → ℕ
count (machine i a q s b c) = c

-- A number of steps after which a machine of n rows that began at i has ended (`Bound.ends`).
abbrev pub enough : Input → ℕ → ℕ → ℕ
enough w n i = (size w - i) * suc (n + n + (n + n) + (n + n)) + (n + n + (n + n)) + 1

-- The first thread of a run: registers all -1 and the flag true.
abbrev pub first_thread : Program → ℕ → Thread
first_thread p row = thread (at row true) (unset p.groups)

-- The run of a program from a position and a row to its end. Searching starts at row 0, matching at the start at row 5.
unfoldable pub run : Input → Program → ℕ → ℕ → Machine
run w p i row = steps (move_of w p.rows) (enough w (length p.rows) i) (begun i (first_thread p row ∷ []))

abbrev pub search_row : ℕ
search_row = 0

abbrev pub match_row : ℕ
match_row = 5
