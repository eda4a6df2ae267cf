-- The steps of the plain second engine, in the outline's words. Definitions only.
use Rattle.std.specs.Prelude.{cond, true, List, [], ◌∷◌, ℕ, zero, suc, ◌+◌, ◌*◌, ◌-◌, eqb}
use Rattle.std.proofs.Math.Option.{Option, none, some}
use Rattle.meaning.specs.Text.{Input, Regs, size, unset}
use Rattle.machine.specs.Rows.{Program, row_count, Key, at}
use Rattle.machine.specs.Steps.{Move, Move.win, Move.lose, Move.eat, Move.on, Move.both, move_of, among}

-- A choice is row, flag, position and registers.
pub record Choice : Type 0 where
  pub position : ℕ
  pub key : Key
  pub regs : Regs

abbrev pub choice : ℕ → Key → Regs → Choice
choice i k ρ = record { position = i; key = k; regs = ρ }

-- The rows and flags that were tried at each position; none yet; and one more at position i.
abbrev pub Memory : Type 0
Memory = ℕ → List Key

abbrev pub nothing : Memory
nothing j = []

abbrev pub remembered : Memory → ℕ → Key → Memory
remembered tried i k j = cond (eqb i j) (k ∷ tried j) (tried j)

-- The choices, the newest first, of which the first is the thread that runs; what was tried; the result; and the count of rows
-- executed.
pub data Search : Type 0 where
  searching : List Choice → Memory → Option Regs → ℕ → Search

-- What a row does at position i to the thread that runs, with other choices behind it. Accept ends the search. Where a thread
-- ends the newest choice goes on. A Consume that fits goes on at the next position. Fork stores its second row and goes on with
-- its first.
abbrev pub go_on : Move → ℕ → Regs → Search → Search
go_on win i ρ (searching cs tried b c) = searching [] tried (some ρ) c
go_on lose i ρ (searching cs tried b c) = searching cs tried b c
go_on (eat k) i ρ (searching cs tried b c) = searching (choice (suc i) k ρ ∷ cs) tried b c
go_on (on f k) i ρ (searching cs tried b c) = searching (choice i k (f ρ) ∷ cs) tried b c
go_on (both k l) i ρ (searching cs tried b c) = searching (choice i k ρ ∷ choice i l ρ ∷ cs) tried b c

-- A step. A row and flag tried before at its position ends the thread, uncounted; any other counts one. Without a choice the
-- search has ended.
abbrev pub try_one : (ℕ → Key → Move) → Search → Search
try_one move (searching [] tried b c) = searching [] tried b c
try_one move (searching (t ∷ cs) tried b c) =
    cond (among t.key (tried t.position)) (searching cs tried b c)
    (go_on (move t.position t.key) t.position t.regs
    (searching cs (remembered tried t.position t.key) b (suc c)))

-- m steps.
unfoldable pub try_some : (ℕ → Key → Move) → ℕ → Search → Search
try_some move zero S = S
try_some move (suc m) S = try_some move m (try_one move S)

-- A search that has ended: no choice is left.
abbrev pub Ended : Search → Type 0
Ended (searching [] tried b c) = Unit {0}
Ended (searching (t ∷ cs) tried b c) = ⊥

-- The result, and the count of rows executed.
abbrev pub result_of : Search → Option Regs
result_of (searching cs tried b c) = b

abbrev pub count_of : Search → ℕ
count_of (searching cs tried b c) = c

-- A number of steps after which a search of n rows that began at i has ended (`Ends`).
abbrev pub enough_tries : Input → ℕ → ℕ → ℕ
enough_tries w n i = let keys : ℕ = suc (size w - i) * (n + n) in keys + keys + 1

-- A search begins with one choice: registers all -1 and the flag true.
abbrev pub beginning : Program → ℕ → ℕ → Search
beginning p i row = searching (choice i (at row true) (unset p.groups) ∷ []) nothing none 0

-- The search of a program from a position and a row to its end.
unfoldable pub second_run : Input → Program → ℕ → ℕ → Search
second_run w p i row = try_some (move_of w p.rows) (enough_tries w (row_count p) i) (beginning p i row)
