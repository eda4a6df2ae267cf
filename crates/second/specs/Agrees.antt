-- On all code that passes the check the second engine's search ends, executes at most 2n rows for each position, and finds what
-- the machine finds.
use Rattle.std.specs.Prelude.{◌≡◌, true}
use Rattle.std.proofs.Math.Path.{sym, ap, subst}
use Rattle.std.proofs.Common.{◌∙◌, mul_comm}
use Rattle.std.proofs.Math.Option.{Option}
use mathlib.Core.List.{[], ◌∷◌}
use Prim.Native.Nat.{ℕ, suc, ◌+◌, ◌*◌, ◌-◌, ◌≤◌, ◌<◌}
use native.Mathlib.Omega.{arith}
use Rattle.meaning.specs.Text.{Input, Regs, size}
use Rattle.machine.specs.Rows.{Program, row_count, Key}
use Rattle.machine.specs.Steps.{Move, move_of, begun, best, enough, first_thread, run}
use Rattle.machine.specs.Words.{rows_pass}
use Rattle.machine.proofs.Passed.{run_done}
use Rattle.second.specs.Below.{leads}
use Rattle.second.specs.Plain.{Memory, nothing, Search, try_some, Ended, result_of, count_of, enough_tries}
use Rattle.second.specs.Plain.{beginning, second_run}
use Rattle.second.specs.Tried.{ended, starts, after}
use Rattle.second.specs.Tries.{Tries, tries}
use Rattle.second.specs.Follows.{Leads, add_tries, Follows, Follows.fails, Follows.wins, says_nothing, follows}
use Rattle.second.specs.Ends.{Bound, counts, untried_all, stays, ends}
use Rattle.second.specs.Ends as Ends

module _ (p : Program) (pass : rows_pass p ≡ true) (w : Input) (i row : ℕ) (here : row < row_count p) (within : i ≤ size w) where
  abbrev n : ℕ
  n = row_count p

  abbrev move : ℕ → Key → Move
  move = move_of w p.rows

  begins : Bound n (size w) i (beginning p i row)
  begins = record {
    stand = ((here, omega arith, within), tt);
    paid = omega (arith, untried_all n i (suc (size w - i)));
  }

  -- It ends,
  pub second_done : Ended (second_run w p i row)
  unfolding second_run
  second_done = ends n (size w) i move (leads p pass w) (enough_tries w n i) (beginning p i row) begins
      (omega (arith, untried_all n i (suc (size w - i))))

  -- and executes at most 2n rows for each position from the start to the end, both included.
  pub second_frugal : count_of (second_run w p i row) ≤ 2 * n * (size w - i + 1)
  unfolding second_run
  second_frugal =
      let few = counts n (size w) i (second_run w p i row)
      (Ends.after n (size w) i move (leads p pass w) (enough_tries w n i) (beginning p i row) begins) in
      let a : n + n ≡ 2 * n = omega arith in
      let b : suc (size w - i) ≡ size w - i + 1 = omega arith in
      subst (λ (k : ℕ). count_of (second_run w p i row) ≤ k) (mul_comm (suc (size w - i)) (n + n) ∙ rw (a, b)) few

  -- A search that has ended on the way is the run's.
  pub is_run : {T : Search} → Leads move (beginning p i row) T → Ended T → second_run w p i row ≡ T
  unfolding second_run
  is_run {T} l d =
      let e : ℕ = enough_tries w n i in
      let R : Search = try_some move e (beginning p i row) in
      let stay : try_some move l.turns R ≡ R = stays n (size w) i move (leads p pass w) l.turns R second_done in
      let stay' : try_some move e T ≡ T = stays n (size w) i move (leads p pass w) e T d in
      let z : e + l.turns ≡ l.turns + e = omega arith in
      sym stay ∙ add_tries move e l.turns (beginning p i row) ∙ ap (λ (k : ℕ). try_some move k (beginning p i row)) z
      ∙ sym (add_tries move l.turns e (beginning p i row)) ∙ ap (try_some move e) l.there ∙ stay'

  -- It finds what the machine finds: both find what trying does.
  found : {o : Option Regs} {Y : Memory} → Follows move i (first_thread p row ∷ []) [] nothing 0 o Y
      → result_of (second_run w p i row) ≡ o
  found (fails f) = ap result_of (is_run f.leads tt)
  found (wins f) = ap result_of (is_run f.leads tt)

  pub second_agrees : best (run w p i row) ≡ result_of (second_run w p i row)
  unfolding run
  second_agrees =
      let T : Tries n (size w) move (leads p pass w) i (first_thread p row ∷ []) nothing
      = tries n (size w) move (leads p pass w) (size w - i) i (omega arith) (first_thread p row ∷ []) nothing (here, tt) in
      let D = T.tried in
      ended move (run w p i row) T.found (run_done p pass w i row here within)
      (after move (enough w n i) (begun i (first_thread p row ∷ [])) T.found (starts move i (first_thread p row ∷ []) D))
      ∙ sym (found (follows move D nothing (says_nothing i) [] 0))
