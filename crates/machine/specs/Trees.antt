-- The tree of all that a thread can do from a position on. It does not depend on registers.
use Rattle.std.specs.Prelude.{◌≡◌, ℕ, suc}
use Rattle.std.proofs.Math.Path.{refl}
use Rattle.std.proofs.Math.Option.{Option, none, some, map}
use Rattle.meaning.specs.Text.{Regs}
use Rattle.meaning.specs.Results.{or_else}
use Rattle.machine.specs.Rows.{Key}
use Rattle.machine.specs.Steps.{Move, Move.win, Move.lose, Move.eat, Move.on, Move.both}

module _ (move : ℕ → Key → Move) where
  pub data Tree : ℕ → Move → Type 0 where
    won : {i : ℕ} → Tree i win
    lost : {i : ℕ} → Tree i lose
    ate : {i : ℕ} {p : Key} → Tree (suc i) (move (suc i) p) → Tree i (eat p)
    went : {i : ℕ} {p : Key} {f : Regs → Regs} → Tree i (move i p) → Tree i (on f p)
    split : {i : ℕ} {p q : Key} → Tree i (move i p) → Tree i (move i q) → Tree i (both p q)

module _ {move : ℕ → Key → Move} where
  -- The registers of the first thread of a tree that wins.
  unfoldable pub first : {i : ℕ} {m : Move} → Tree move i m → Regs → Option Regs
  first won ρ = some ρ
  first lost ρ = none
  first (ate t) ρ = first t ρ
  first (went {f = f} t) ρ = first t (f ρ)
  first (split t u) ρ = or_else (first t ρ) (first u ρ)

  -- How many moves that thread makes.
  unfoldable pub rank : {i : ℕ} {m : Move} → Tree move i m → Option ℕ
  rank won = some 0
  rank lost = none
  rank (ate t) = map suc (rank t)
  rank (went t) = map suc (rank t)
  rank (split t u) = map suc (or_else (rank t) (rank u))

  -- There is one tree only, as far as ranks go.
  pub rank_unique : {i : ℕ} {m : Move} (t u : Tree move i m) → rank t ≡ rank u
  unfolding rank
  rank_unique won won = refl
  rank_unique lost lost = refl
  rank_unique (ate t) (ate u) = rw (rank_unique t u)
  rank_unique (went t) (went u) = rw (rank_unique t u)
  rank_unique (split t t') (split u u') = rw (rank_unique t u, rank_unique t' u')
