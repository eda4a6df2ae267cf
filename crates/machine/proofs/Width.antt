-- Every step keeps the number of registers: a result has two for each group and two for the whole match, whatever the code.
use Rattle.std.specs.Prelude.{◌≡◌, refl, Bool, [], ◌∷◌, negsuc, length}
use Rattle.std.proofs.Common.{◌∙◌, length-set}
use Rattle.std.proofs.Math.Option.{Option, none, some}
use Prim.Native.Nat.{ℕ, zero, suc, ◌+◌, ◌-◌}
use Rattle.std.proofs.lemmas.List.{length-map, length-replicate}
use Rattle.meaning.specs.All.{All, all_append}
use Rattle.meaning.specs.Tests.{by_test}
use Rattle.meaning.specs.Text.{Input, Regs, registers_of, unset, opened, closed, wiped, cleared, fits, holds_at}
use Rattle.machine.specs.Rows.{Row, Row.accept, Row.consume, Row.jump, Row.fork, Row.opens, Row.closes, Row.reset}
use Rattle.machine.specs.Rows.{Row.begin, Row.end, Row.assertion, Program, Key, row_at}
use Rattle.machine.specs.Steps.{Move, Move.win, Move.lose, Move.eat, Move.on, Move.both, act, move_of, Thread, thread, Machine}
use Rattle.machine.specs.Steps.{Machine.machine, among, exec, step, steps, enough, begun, first_thread, run, best}
use Rattle.machine.specs.Replies.{shown, spans}

-- A move that changes registers keeps their number.
abbrev Keeps : Move → Type 0
Keeps win = Unit {0}
Keeps lose = Unit {0}
Keeps (eat k) = Unit {0}
Keeps (on f k) = (ρ : Regs) → length (f ρ) ≡ length ρ
Keeps (both k l) = Unit {0}

wiped_length : (n k : ℕ) (ρ : Regs) → length (wiped n k ρ) ≡ length ρ
unfolding wiped
wiped_length zero k ρ = refl
wiped_length (suc n) k ρ = wiped_length n (suc k) _ ∙ length-set ρ k none

row_keeps : (w : Input) (i q : ℕ) (b : Bool) (row : Row) → Keeps (act w i q b row)
unfolding opened closed cleared
row_keeps w i q b accept = tt
row_keeps w i q b (consume s) = by_test Keeps (fits w s i) (λ e. tt) (λ e. tt)
row_keeps w i q b (jump t) = λ ρ. refl
row_keeps w i q b (fork t u) = tt
row_keeps w i q b (opens k) = λ ρ. length-set ρ (k + k) (some i)
row_keeps w i q b (closes k) = λ ρ. length-set ρ (suc (k + k)) (some i)
row_keeps w i q b (reset l h) = λ ρ. wiped_length (suc h - l + (suc h - l)) (l + l) ρ
row_keeps w i q b begin = λ ρ. refl
row_keeps w i q b (end t) = by_test Keeps b (λ e ρ. refl) (λ e. tt)
row_keeps w i q b (assertion a) = by_test Keeps (holds_at w a i) (λ e ρ. refl) (λ e. tt)

module _ (n : ℕ) where
  -- So many registers: of a thread, of a result, and of all that a machine holds.
  abbrev Wide : Thread → Type 0
  Wide t = length t.regs ≡ n

  abbrev WideResult : Option Regs → Type 0
  WideResult none = Unit {0}
  WideResult (some ρ) = length ρ ≡ n

  abbrev Holds : Machine → Type 0
  Holds (machine i a q s b c) = All Wide a × All Wide q × WideResult b

  exec_holds : (m : Move) (ρ : Regs) (M : Machine) → Keeps m → length ρ ≡ n → Holds M → Holds (exec m ρ M)
  exec_holds win ρ (machine i a q s b c) k e h = (tt, h.1, e)
  exec_holds lose ρ (machine i a q s b c) k e h = h
  exec_holds (eat l) ρ (machine i a q s b c) k e h = (h.0, all_append Wide q (thread l ρ ∷ []) h.1 (e, tt), h.2)
  exec_holds (on f l) ρ (machine i a q s b c) k e h = ((k ρ ∙ e, h.0), h.1, h.2)
  exec_holds (both l o) ρ (machine i a q s b c) k e h = ((e, (e, h.0)), h.1, h.2)

  module _ (move : ℕ → Key → Move) (keeps : (i : ℕ) (k : Key) → Keeps (move i k)) where
    step_holds : (M : Machine) → Holds M → Holds (step move M)
    step_holds (machine i [] [] s b c) h = h
    step_holds (machine i [] (t ∷ q) s b c) h = (h.1, tt, h.2)
    step_holds (machine i (t ∷ a) q s b c) h =
        by_test Holds (among t.key s) (λ e. (h.0.1, h.1, h.2))
        (λ e. exec_holds (move i t.key) t.regs (machine i a q (t.key ∷ s) b (suc c)) (keeps i t.key) h.0.0
        (h.0.1, h.1, h.2))

    steps_hold : (k : ℕ) (M : Machine) → Holds M → Holds (steps move k M)
    unfolding steps
    steps_hold zero M h = h
    steps_hold (suc k) M h = steps_hold k (step move M) (step_holds M h)

-- The registers of a run's result.
run_holds : (w : Input) (p : Program) (i row : ℕ) → Holds (registers_of p.groups) (run w p i row)
unfolding run unset
run_holds w p i row =
    steps_hold (registers_of p.groups) (move_of w p.rows)
    (λ j k. row_keeps w j k.row k.flag (row_at p.rows k.row)) (enough w (length p.rows) i)
    (begun i (first_thread p row ∷ []))
    ((length-replicate (registers_of p.groups) none, tt), tt, tt)

pub spans_length : (w : Input) (p : Program) (i row : ℕ)
    → length (spans p.groups (best (run w p i row))) ≡ registers_of p.groups
spans_length w p i row = long (run w p i row) (run_holds w p i row)
  where
    long : (M : Machine) → Holds (registers_of p.groups) M → length (spans p.groups (best M)) ≡ registers_of p.groups
    long (machine j a q s none c) h = length-replicate (registers_of p.groups) (negsuc 0)
    long (machine j a q s (some ρ) c) h = length-map ρ shown ∙ h.2
