-- Demand 2 on rows: the machine answers what the standard's algorithm does, every group included.
use Rattle.std.specs.Prelude.{◌≡◌, refl, Bool, ◌||◌, List, [], ◌∷◌, length, get_or}
use Rattle.std.proofs.Math.Path.{sym}
use Rattle.std.proofs.Common.{subst, ◌∙◌, arith}
use Rattle.std.proofs.Math.Bool.{true, false}
use Rattle.std.proofs.Math.Option.{Option, some}
use Prim.Native.Nat.{ℕ, zero, suc, ◌+◌, ◌-◌, ◌≤◌, ◌<◌}
use Rattle.std.proofs.Math.ListN.{get_elem?}
use Rattle.sets.specs.Laws.{set_of_holds}
use Rattle.meaning.specs.Tests.{ahead}
use Rattle.meaning.specs.Text.{Input, Regs, State, unset, fits, fits_all, cleared, wiped}
use Rattle.meaning.specs.Bytes.{text_of, Bytes}
use Rattle.meaning.specs.Node.{Node, Node.bset, Node.group, lo, hi, Proper}
use Rattle.meaning.specs.Results.{or_else_none, first_some, later, fresh, turns, forced, results, first_concat_map}
use Rattle.meaning.specs.Results.{first_stop, first_turns}
use Rattle.meaning.specs.Standard.{initial, matcher, match_at, exec, search_from}
use Rattle.meaning.proofs.Agrees.{standard}
use Rattle.meaning.specs.Numbering.{Numbered, Numbers, apart, numbered}
use Rattle.machine.specs.Rows.{Row, Row.accept, Program, row_count, row_at, Key}
use Rattle.machine.specs.Steps.{Move, move_of, Thread, begun, Done, best, enough, first_thread, run}
use Rattle.machine.specs.Steps.{match_row, search_row}
use Rattle.machine.specs.Trees.{Tree.won, first}
use Rattle.machine.specs.Layout.{any_byte, whole, program_of}
use Rattle.machine.specs.Laid.{Laid.chain, Stand, program_stands}
use Rattle.machine.proofs.Compile.{Run, Follows, compile}
use Rattle.machine.proofs.Best.{Trees, firsts, starts, after, ended}
use Rattle.machine.proofs.Passed.{run_done}
use Rattle.machine.specs.Compiled.{compiled_passes}

-- A run records the answer of its first thread's tree, once it has ended.
records : (w : Input) (p : Program) (i row : ℕ) (o : Option Regs) → Run w p.rows i row true (unset p.groups) o
    → Done (run w p i row) → best (run w p i row) ≡ o
unfolding run
records w p i row o t d =
    let move : ℕ → Key → Move = move_of w p.rows in
    let ts : List Thread = first_thread p row ∷ [] in
    let trees : Trees move i ts = (t.runs.tree, tt) in
    let same : firsts move i ts trees ≡ o = or_else_none _ ∙ t.runs.wins in
    ended move (run w p i row) o d (after move (enough w (row_count p) i) (begun i ts) o (rw same at (starts move i ts trees)))

-- A thread at a row that accepts wins.
accepts : (w : Input) (rows : List Row) {k : ℕ} → row_at rows k ≡ accept → (i : ℕ) (b : Bool) (ρ : Regs)
    → Run w rows i k b ρ (some ρ)
unfolding first
accepts w rows e i b ρ = record { runs = rw e (record { tree = won; wins = refl }) }

byte_of : (l : List ℕ) (i b : ℕ) → get_elem? l i ≡ some b → get_or l i 0 ≡ b
byte_of [] i b e = cc
byte_of (x ∷ l) zero b e = cc
byte_of (x ∷ l) (suc i) b e = byte_of l i b e

-- Every byte of a text fits the set of all bytes.
any_fits : (text : List ℕ) → Bytes text → (i : ℕ) → i < length text → fits (text_of text) any_byte i ≡ true
unfolding any_byte
any_fits text bytes i h =
    fits_all (text_of text) any_byte i h (λ b e.
    let small : b < 256 = subst (λ (x : ℕ). x < 256) (byte_of text i b e) (bytes.byte i) in
    (set_of_holds (λ x. true)).bytes b small)

module _ (text : List ℕ) (g : ℕ) (r : Node) (num : Numbers 1 r (suc g)) where
  abbrev w : Input
  w = text_of text

  -- What follows a match of the pattern as group 0.
  abbrev found : State → Option Regs
  found y = first_some (λ z. some z.regs) (results w (group 0 r) y)

  -- The first success over the results of the pattern as group 0 is the standard's match at a position.
  matches : (i : ℕ) → i ≤ length text → found (initial g i) ≡ match_at w g r i
  unfolding match_at matcher
  matches i h =
      let apart0 : Numbered (group 0 r) = (
        apart 0 r 1 (suc g) (omega arith) (omega arith) num,
        numbered r 1 (suc g)
            (omega arith) num,
      ) in
      sym (standard w (group 0 r) apart0 (initial g i) (λ y. some y.regs) h)

  module _ (bytes : Bytes text) where
    -- The lazy loop over any byte tries each position in turn, as the standard's search does.
    scans : (n i : ℕ) → i + n ≤ length text
        → first_some found (turns true (λ y. results w (bset any_byte) (fresh (bset any_byte) y)) n (initial g i)) ≡ exec w g r n i
    unfolding results lo hi cleared wiped
    scans zero i h = first_stop found true (λ y. results w (bset any_byte) (fresh (bset any_byte) y)) (initial g i)
        ∙ matches i (omega arith)
    scans (suc n) i h =
        rw (
          first_turns,
          any_fits text bytes i (omega arith),
          ahead false i (suc i) (omega arith),
          or_else_none,
          scans n (suc i) (omega arith),
          matches i (omega arith),
        )

    searches : (i : ℕ) → i ≤ length text
        → first_some (λ y. some y.regs) (results w (whole r) (initial g i)) ≡ search_from w g r i
    unfolding search_from results forced
    searches i h = rw first_concat_map (scans (length text - i) i (omega arith))

    module _ (ok : Proper r) (i : ℕ) (within : i ≤ length text) where
      abbrev program : Program
      program = program_of g r

      abbrev stand : Stand g r
      stand = program_stands g r

      -- The row behind the pattern accepts.
      follows : (b : Bool) (x : State) → Follows w program.rows stand.last b x (λ y. some y.regs)
      follows b x y h h' = accepts w program.rows stand.accepts y.pos (b || later x y) y.regs

      ends : (row : ℕ) → row ≤ match_row → Done (run w program i row)
      ends row h = run_done program (compiled_passes g r num ok) w i row (omega (arith, stand.counts)) within

      -- Started at row 5 the machine answers what the standard's match at the start does: none exactly if that finds none.
      pub matched : best (run w program i match_row) ≡ match_at w g r i
      matched = records w program i match_row (match_at w g r i)
          (rw (matches i within) at (compile w program.rows stand.pattern true (initial g i) (λ y. some y.regs) within
          (follows true (initial g i))))
          (ends match_row (omega arith))

      -- Started at row 0 it answers what the standard's search does.
      pub searched : best (run w program i search_row) ≡ search_from w g r i
      searched = records w program i search_row (search_from w g r i)
          (rw (searches i within) at (compile w program.rows (chain stand.prefix stand.pattern) true (initial g i)
          (λ y. some y.regs) within (follows true (initial g i))))
          (ends search_row (omega arith))
