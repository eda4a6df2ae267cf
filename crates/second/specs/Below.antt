-- Rows that lead to rows below n: the machine's keys, all of them allowed.
use Rattle.std.specs.Prelude.{◌≡◌, refl, true, false, List, [], ◌∷◌, ℕ, zero, suc, ◌+◌, ◌≤◌, ◌<◌}
use Rattle.std.proofs.Common.{arith}
use Rattle.meaning.specs.Text.{Input, size}
use Rattle.machine.specs.Rows.{Key, Program, row_count}
use Rattle.machine.specs.Steps.{Move, Move.win, Move.lose, Move.eat, Move.on, Move.both, among, move_of}
use Rattle.machine.specs.Words.{rows_pass}
use Rattle.machine.proofs.Bound as Machine
use Rattle.machine.proofs.Passed as Passed

-- How many keys of the first n rows are not in a list; all, in none; one less with a new one.
abbrev pub free : ℕ → List Key → ℕ
free n s = Machine.free (λ k. true) n s

pub free_all : (n : ℕ) → free n [] ≡ n + n
free_all zero = refl
free_all (suc n) = omega (arith, free_all n)

pub spend : (n : ℕ) (p : Key) (s : List Key) → p.row < n → among p s ≡ false → suc (free n (p ∷ s)) ≤ free n s
spend n p s h e = Machine.spend (λ k. true) n p s h refl e

-- A move leads to rows below n, and reads a byte only before the end of the text.
abbrev pub Inside : ℕ → ℕ → ℕ → Move → Type 0
Inside n size i win = Unit {0}
Inside n size i lose = Unit {0}
Inside n size i (eat p) = (p.row < n) × (i < size)
Inside n size i (on f p) = p.row < n
Inside n size i (both p p') = (p.row < n) × (p'.row < n)

below : (n size i : ℕ) (m : Move) → Machine.Inside (Machine.two_each n) size i m → Inside n size i m
below n size i win h = tt
below n size i lose h = tt
below n size i (eat p) h = (h.0.0, h.1)
below n size i (on f p) h = h.0
below n size i (both p p') h = (h.0.0, h.1.0)

-- Rows that pass lead so.
pub leads : (p : Program) (pass : rows_pass p ≡ true) (w : Input) (i : ℕ) (k : Key) → k.row < row_count p
    → Inside (row_count p) (size w) i (move_of w p.rows i k)
leads p pass w i k h = below (row_count p) (size w) i (move_of w p.rows i k) (Passed.leads p pass w i k (h, refl))
