-- For rows that lead to rows, trying ends: there is a derivation for any threads and any memory.
use Rattle.std.specs.Prelude.{◌≡◌, refl, Bool, true, false, List, [], ◌∷◌, ℕ, zero, suc, ◌+◌, ◌≤◌, ◌<◌, length}
use Rattle.std.proofs.Math.Option.{Option, none, some}
use Rattle.std.proofs.Common.{arith}
use Rattle.meaning.specs.Text.{Regs}
use Rattle.meaning.specs.All.{All}
use Rattle.machine.specs.Rows.{Key}
use Rattle.machine.specs.Steps.{Move, Move.win, Move.lose, Move.eat, Move.on, Move.both, Thread, thread, among}
use Rattle.second.specs.Below.{Inside, free, spend}
use Rattle.second.specs.Plain.{Memory}
use Rattle.second.specs.Tried.{stored, behind, Tried, Tried.done, Tried.again, Tried.won, Tried.lost, Tried.ate}
use Rattle.second.specs.Tried.{Tried.ate_won, Tried.went, Tried.split}

module _ (n size : ℕ) (move : ℕ → Key → Move) (inside : (i : ℕ) (p : Key) → p.row < n → Inside n size i (move i p)) where
  abbrev Below : Thread → Type 0
  Below t = t.key.row < n

  pub record Tries (i : ℕ) (ts : List Thread) (X : Memory) : Type 0 where
    pub found : Option Regs
    pub memory : Memory
    pub tried : Tried move i ts X found memory

  module _ (i : ℕ) (deeper : (k : Key) (ρ : Regs) (X : Memory) → k.row < n → i < size → Tries (suc i) (thread k ρ ∷ []) X) where
    -- Trying with less to do than f.
    abbrev Less : ℕ → Type 0
    Less f = (ts : List Thread) (X : Memory) → All Below ts → free n (X 0) + free n (X 0) + length ts ≤ f → Tries i ts X

    module _ (f : ℕ) (less : Less f) (t : Thread) (ts : List Thread) (X : Memory) (b : All Below ts)
        (h : free n (X 0) + free n (X 0) + length ts ≤ f) where
      module _ (new : among t.key (X 0) ≡ false) (spent : suc (free n (t.key ∷ X 0)) ≤ free n (X 0)) where
        ate_one : (k : Key) → move i t.key ≡ eat k → (o : Option Regs) (Z : Memory)
            → Tried move (suc i) (thread k t.regs ∷ []) (behind X) o Z → Tries i (t ∷ ts) X
        ate_one k e (some ρ) Z d = record { found = some ρ; memory = X; tried = ate_won new e d }
        ate_one k e none Z d =
            let q = less ts (stored (t.key ∷ X 0) Z) b (omega arith) in
            record { found = q.found; memory = q.memory; tried = ate new e d q.tried }

        moved : (m : Move) → move i t.key ≡ m → Inside n size i m → Tries i (t ∷ ts) X
        moved win e g = record { found = some t.regs; memory = X; tried = won new e }
        moved lose e g =
            let r = less ts (stored (t.key ∷ X 0) (behind X)) b (omega arith) in
            record { found = r.found; memory = r.memory; tried = lost new e r.tried }
        moved (on u k) e g =
            let r = less (thread k (u t.regs) ∷ ts) (stored (t.key ∷ X 0) (behind X)) (g, b) (omega arith) in
            record { found = r.found; memory = r.memory; tried = went new e r.tried }
        moved (both k l) e g =
            let r = less (thread k t.regs ∷ thread l t.regs ∷ ts) (stored (t.key ∷ X 0) (behind X))
            (g.0, (g.1, b)) (omega arith) in
            record { found = r.found; memory = r.memory; tried = split new e r.tried }
        moved (eat k) e g = let r = deeper k t.regs (behind X) g.0 g.1 in ate_one k e r.found r.memory r.tried

      one : Below t → (g : Bool) → among t.key (X 0) ≡ g → Tries i (t ∷ ts) X
      one low true e = let r = less ts X b h in record { found = r.found; memory = r.memory; tried = again e r.tried }
      one low false e = moved e (spend n t.key (X 0) low e) (move i t.key) refl (inside i t.key low)

    level : (f : ℕ) → Less f
    level zero = none_left
      where
        none_left : Less zero
        none_left [] X b h = record { found = none; memory = X; tried = done }
        none_left (t ∷ ts) X b h = absurd (omega arith)
    level (suc f) = next (level f)
      where
        next : Less f → Less (suc f)
        next less [] X b h = record { found = none; memory = X; tried = done }
        next less (t ∷ ts) X b h = one f less t ts X b.1 (omega arith) b.0 (among t.key (X 0)) refl

  -- At most so many bytes are left.
  pub tries : (d i : ℕ) → size ≤ i + d → (ts : List Thread) (X : Memory) → All Below ts → Tries i ts X
  tries zero i h ts X b =
      level i (λ k ρ X' low lt. absurd (omega arith)) (free n (X 0) + free n (X 0) + length ts) ts X b (omega arith)
  tries (suc d) i h ts X b =
      level i (λ k ρ X' low lt. tries d (suc i) (omega arith) (thread k ρ ∷ []) X' (low, tt))
      (free n (X 0) + free n (X 0) + length ts) ts X b (omega arith)
