-- For any code that passes the check, not only for compiled code: the steps end, keep within the bound, and need no more than
-- their room.
use Rattle.std.specs.Prelude.{◌≡◌, refl, Bool, true, false, cond, List, [], ◌∷◌, ℕ, suc, ◌+◌, ◌*◌, ◌-◌, ◌≤◌, ◌<◌, ltb, length}
use Rattle.std.proofs.Common.{sym, subst, ◌∙◌, arith, ltb-true}
use Rattle.std.proofs.lemmas.Bool.{false≢true}
use Rattle.std.proofs.Math.Decide.{dec_lt}
use Rattle.sets.specs.Bits.{below_at}
use Rattle.meaning.specs.Tests.{and_true, by_test}
use Rattle.meaning.specs.Text.{Input, Regs, size, fits, holds_at, fits_within}
use Rattle.meaning.specs.All.{All}
use Rattle.machine.specs.Rows.{Row, Row.accept, Row.consume, Row.jump, Row.fork, Row.opens, Row.closes, Row.reset}
use Rattle.machine.specs.Rows.{Row.begin, Row.end, Row.assertion}
use Rattle.machine.specs.Rows.{Program, row_count, row_at, Key, at}
use Rattle.machine.specs.Steps.{Move, Move.lose, Move.on, act, move_of, Thread, Machine, steps, begun, Done, seen, count}
use Rattle.machine.specs.Steps.{enough, first_thread, run}
use Rattle.machine.specs.Words.{row_passes, may_be_last, each_passes, last_passes, rows_pass}
use Rattle.machine.proofs.Bound.{two_each, May, Inside, Bound, Room, room, counts, executes_few, begins, left_begun, after}
use Rattle.machine.proofs.Bound.{ends}

module _ (p : Program) (pass : rows_pass p ≡ true) where
  abbrev n : ℕ
  n = row_count p

  -- What the check says of each row, and of one that is not the last.
  row_passes_lem : (q : ℕ) → q < n → row_passes n p.groups (row_at p.rows q) ≡ true
  unfolding rows_pass
  row_passes_lem q h = below_at n _ (and_true (each_passes p) (last_passes p) pass).0 q h

  last_passes_lem : last_passes p ≡ true
  unfolding rows_pass
  last_passes_lem = (and_true (each_passes p) (last_passes p) pass).1

  not_last : (q : ℕ) → q < n → may_be_last (row_at p.rows q) ≡ false → suc q < n
  not_last q h e = go (dec_lt (suc q) n)
    where
      go : Dec (suc q < n) → suc q < n
      go (yes l) = l
      go (no l) =
          let same : n - 1 ≡ q = omega arith in
          absurd (false≢true (sym e ∙ subst (λ (z : ℕ). may_be_last (row_at p.rows z) ≡ true) same last_passes_lem))

  module _ (w : Input) where
    -- All keys of the program may be executed.
    abbrev Leads : ℕ → Move → Type 0
    Leads i m = Inside (two_each n) (size w) i m

    guards : (i : ℕ) (g : Bool) (f : Regs → Regs) (k : Key) → k.row < n → Leads i (cond g (on f k) lose)
    guards i g f k h = by_test (Leads i) g (λ e. (h, refl)) (λ e. tt)

    acts : (i q : ℕ) (b : Bool) (row : Row) → row_passes n p.groups row ≡ true → (may_be_last row ≡ false → suc q < n)
        → Leads i (act w i q b row)
    acts i q b accept e next = tt
    acts i q b (consume s) e next = by_test (Leads i) (fits w s i) (λ t. ((next refl, refl), fits_within w s i t)) (λ t. tt)
    acts i q b (jump t) e next = (ltb-true t n e, refl)
    acts i q b (fork t u) e next =
        let h = and_true (ltb t n) (ltb u n) e in ((ltb-true t n h.0, refl), (ltb-true u n h.1, refl))
    acts i q b (opens k) e next = (next refl, refl)
    acts i q b (closes k) e next = (next refl, refl)
    acts i q b (reset l h) e next = (next refl, refl)
    acts i q b begin e next = (next refl, refl)
    acts i q b (end t) e next = guards i b (λ ρ. ρ) (at t b) (ltb-true t n e)
    acts i q b (assertion a) e next = guards i (holds_at w a i) (λ ρ. ρ) (at (suc q) b) (next refl)

    -- Rows that pass lead to rows of the program.
    pub leads : (i : ℕ) (k : Key) → May (two_each n) k → Leads i (move_of w p.rows i k)
    leads i k h = acts i k.row k.flag (row_at p.rows k.row) (row_passes_lem k.row h.0) (not_last k.row h.0)

    may : (ts : List Thread) → All (λ t. t.key.row < n) ts → All (λ t. May (two_each n) t.key) ts
    may [] h = tt
    may (t ∷ ts) h = ((h.0, refl), may ts h.1)

    -- A machine that begins with threads at rows of the program, no more than 2n: what holds after any number of steps.
    module _ (i : ℕ) (ts : List Thread) (here : All (λ t. t.key.row < n) ts) (few : length ts ≤ n + n)
        (within : i ≤ size w) where
      abbrev after_steps : ℕ → Machine
      after_steps m = steps (move_of w p.rows) m (begun i ts)

      beginning : Bound (two_each n) (size w) i (n + n) (begun i ts)
      beginning = begins (two_each n) (size w) i (n + n) ts (may ts here) few (omega arith) within

      pub bound : (m : ℕ) → Bound (two_each n) (size w) i (n + n) (after_steps m)
      bound m = after (two_each n) (size w) i (n + n) (move_of w p.rows) leads m (begun i ts) beginning

      -- At most 4n threads are active and 2n are queued.
      pub roomy : (m : ℕ) → Room (two_each n) (size w) i (n + n) (after_steps m)
      roomy m = room (two_each n) (size w) i (n + n) (after_steps m) (bound m)

      -- At each position at most 2n rows are executed,
      pub at_position : (m : ℕ) → length (seen (after_steps m)) ≤ 2 * n
      at_position m = omega (arith, executes_few (two_each n) (size w) i (n + n) (after_steps m) (bound m))

      -- and so at most 2n for each position from the start to the end, both included.
      pub frugal : (m : ℕ) → count (after_steps m) ≤ 2 * n * (size w - i + 1)
      frugal m =
          let e : n + n ≡ 2 * n = omega arith in
          rw e at (counts (two_each n) (size w) i (n + n) (after_steps m) (bound m))

      -- The steps end.
      pub halts : (m : ℕ) → (size w - i) * suc (n + n + (n + n) + (n + n)) + (n + n + (n + n)) + length ts ≤ m
          → Done (after_steps m)
      halts m h = ends (two_each n) (size w) i (n + n) (move_of w p.rows) leads m (begun i ts) beginning
          (omega (arith, left_begun (two_each n) (size w) i (n + n) ts))

    -- The run of a program that passes, from a position in the text and one of its rows.
    module _ (i row : ℕ) (here : row < n) (within : i ≤ size w) where
      one : All (λ t. t.key.row < n) (first_thread p row ∷ [])
      one = (here, tt)

      -- It ends.
      pub run_done : Done (run w p i row)
      unfolding run
      run_done = halts i (first_thread p row ∷ []) one (omega arith) within (enough w n i) (omega arith)

      -- At each position that it comes to it executes at most 2n rows,
      pub run_at_position : (m : ℕ) → length (seen (steps (move_of w p.rows) m (begun i (first_thread p row ∷ [])))) ≤ 2 * n
      run_at_position = at_position i (first_thread p row ∷ []) one (omega arith) within

      -- and so at most 2n for each position from the start to the end, both included.
      pub run_frugal : count (run w p i row) ≤ 2 * n * (size w - i + 1)
      unfolding run
      run_frugal = frugal i (first_thread p row ∷ []) one (omega arith) within (enough w n i)
