-- Theorem 1: the rows of a pattern do what the pattern means.
use Rattle.std.specs.Prelude.{◌≡◌, Bool, cond, ◌||◌, List, ℕ, zero, suc, ◌+◌, ◌-◌, ◌≤◌, ◌<◌}
use Rattle.std.proofs.Math.Path.{refl}
use Rattle.std.proofs.Math.Bool.{true, false}
use Rattle.std.proofs.Math.Option.{Option, none, some}
use Rattle.std.proofs.Common.{arith}
use Rattle.meaning.specs.Tests.{lt_of, ahead, here, flags}
use Rattle.meaning.specs.Text.{Input, Regs, State, size, fits, holds_at, fits_within}
use Rattle.meaning.specs.Node.{Node, Node.many}
use Rattle.meaning.specs.Results.{or_else, first_some, choose, later, moved, enter, leave, fresh, forced, turns, results}
use Rattle.meaning.specs.Results.{or_else_none, first_append, first_concat_map, first_cond, first_stop, first_turns}
use Rattle.meaning.specs.Reach.{reach, body_reach, enough}
use Rattle.machine.specs.Steps.{Move, Move.lose, Move.eat, Move.on, Move.both, act, move_of}
use Rattle.machine.specs.Trees.{Tree, Tree.lost, Tree.ate, Tree.went, Tree.split, first}
use Rattle.machine.specs.Rows.{Row, row_at, at}
use Rattle.machine.specs.Layout.{fork_of}
use Rattle.machine.specs.Laid.{Turn, Laid, Laid.nothing, Laid.one, Laid.test, Laid.inside, Laid.chain, Laid.either}
use Rattle.machine.specs.Laid.{Laid.must, Laid.stop, Laid.may, Laid.loop}

module _ (w : Input) (code : List Row) where
  -- A tree of the moves from m, in which the first thread that wins has the registers o.
  pub record Runs (i : ℕ) (m : Move) (ρ : Regs) (o : Option Regs) : Type 0 where
    pub tree : Tree (move_of w code) i m
    pub wins : first tree ρ ≡ o

  -- The same from row q, with the flag b.
  pub record Run (i q : ℕ) (b : Bool) (ρ : Regs) (o : Option Regs) : Type 0 where
    pub runs : Runs i (move_of w code i (at q b)) ρ o

  -- From row k on, c is what follows a part that began at x with the flag b.
  abbrev pub Follows : ℕ → Bool → State → (State → Option Regs) → Type 0
  Follows k b x c = (y : State) → x.pos ≤ y.pos → y.pos ≤ size w → Run y.pos k (b || later x y) y.regs (c y)

  -- The rows from q to k do what r means.
  abbrev pub Does : Node → ℕ → ℕ → Type 0
  Does r q k = (b : Bool) (x : State) (c : State → Option Regs) → x.pos ≤ size w → Follows k b x c
      → Run x.pos q b x.regs (first_some c (results w r x))

  -- One move of each kind.
  from : {i q : ℕ} {b : Bool} {ρ : Regs} {o : Option Regs} {row : Row} → row_at code q ≡ row → Runs i (act w i q b row) ρ o
      → Run i q b ρ o
  from e t = record { runs = rw e t }

  step : {i q : ℕ} {b : Bool} {f : Regs → Regs} {ρ : Regs} {o : Option Regs} → Run i q b (f ρ) o → Runs i (on f (at q b)) ρ o
  unfolding first
  step t = record { tree = went t.runs.tree; wins = t.runs.wins }

  read : {i q : ℕ} {b : Bool} {ρ : Regs} {o : Option Regs} → Run (suc i) q b ρ o → Runs i (eat (at q b)) ρ o
  unfolding first
  read t = record { tree = ate t.runs.tree; wins = t.runs.wins }

  fork : {i q k : ℕ} {b : Bool} {ρ : Regs} {o o' : Option Regs} → Run i q b ρ o → Run i k b ρ o'
      → Runs i (both (at q b) (at k b)) ρ (or_else o o')
  unfolding first
  fork t u = record { tree = split t.runs.tree u.runs.tree; wins = rw (t.runs.wins, u.runs.wins) }

  guard : {i : ℕ} {m : Move} {ρ : Regs} {o : Option Regs} (g : Bool) → (g ≡ true → Runs i m ρ o)
      → Runs i (cond g m lose) ρ (cond g o none)
  unfolding first
  guard true f = f refl
  guard false f = record { tree = lost; wins = refl }

  -- What follows a part follows its end, and what follows two parts follows the second.
  last : {k : ℕ} (b : Bool) (x : State) {c : State → Option Regs} → x.pos ≤ size w → Follows k b x c
      → Run x.pos k b x.regs (c x)
  last b x hx h = rw (here b x.pos x.pos (omega arith)) at (h x (omega arith) hx)

  next : {k : ℕ} (b : Bool) (x y : State) {c : State → Option Regs} → x.pos ≤ y.pos → Follows k b x c
      → Follows k (b || later x y) y c
  next b x y le h z h₁ h₂ = rw (flags b x.pos y.pos z.pos) (h z (omega arith) h₂)

  after : {k : ℕ} (b : Bool) (x y : State) {c : State → Option Regs} → x.pos < y.pos → Follows k b x c → Follows k true y c
  after b x y lt h z h₁ h₂ = rw (ahead b x.pos z.pos (omega arith)) at (h z (omega arith) h₂)

  -- A turn that can be left out.
  branch : {i : ℕ} (lazy : Bool) {q k : ℕ} {b : Bool} {ρ : Regs} {more less : Option Regs} → row_at code q ≡ fork_of lazy q k
      → Run i (suc q) b ρ more → Run i k b ρ less → Run i q b ρ (choose or_else lazy more less)
  branch false e t u = from e (fork t u)
  branch true e t u = from e (fork u t)

  turn : {lazy : Bool} {r : Node} {q k m back : ℕ}
      → Turn code lazy r q k m back → Does r (suc (suc (suc q))) m
      → (b : Bool) (x : State) (c d : State → Option Regs) → x.pos ≤ size w → Follows k b x c
      → ((y : State) → x.pos < y.pos → y.pos ≤ size w → Run y.pos back true y.regs (d y))
      → Run x.pos q b x.regs (choose or_else lazy (first_some (λ y. cond (later x y) (d y) none) (results w r (fresh r x)))
      (c x))
  turn {lazy} {r} {m = m} s body b x c d hx h h' =
      branch lazy s.forks (from s.begins (step
      (from s.resets (step (body false (fresh r x) (λ y. cond (later x y) (d y) none) hx ends))))) (last b x hx h)
    where
      ends : Follows m false (fresh r x) (λ y. cond (later x y) (d y) none)
      ends y h₁ h₂ = from s.ends (guard (later x y) (λ t. step (rw t (h' y (lt_of x.pos y.pos t) h₂))))

  -- A loop goes round no more often than bytes are left.
  rounds : {lazy : Bool} {r : Node} {q m : ℕ}
      → Turn code lazy r q (suc m) m q → Does r (suc (suc (suc q))) m
      → (n : ℕ) (b : Bool) (x : State) (c : State → Option Regs) → size w ≤ x.pos + n → x.pos ≤ size w → Follows (suc m) b x c
      → Run x.pos q b x.regs (first_some c (turns lazy (λ y. results w r (fresh r y)) n x))
  rounds {lazy} {r} s body zero b x c hn hx h =
      let f : State → List State = λ y. results w r (fresh r y) in
      rw (enough w lazy f (body_reach w r (reach w r)) 0 1 x hx hn (omega arith), first_turns)
      (turn s body b x c (λ y. first_some c (turns lazy f 0 y)) hx h (λ y h₁ h₂. absurd (omega arith)))
  rounds {lazy} {r} s body (suc n) b x c hn hx h =
      let f : State → List State = λ y. results w r (fresh r y) in
      rw first_turns (turn s body b x c (λ y. first_some c (turns lazy f n y)) hx h
      (λ y h₁ h₂. rounds s body n true y c (omega arith) h₂ (after b x y h₁ h)))

  pub compile : {r : Node} {q k : ℕ} → Laid code r q k → Does r q k
  unfolding results forced
  compile nothing b x c hx h = rw or_else_none (last b x hx h)
  compile (one {s = s} e) b x c hx h =
      rw (first_cond, or_else_none) (from e (guard (fits w s x.pos) (λ t.
      read (rw (ahead b x.pos (suc x.pos) (omega arith)) at (h (moved x) (omega arith) (fits_within w s x.pos t))))))
  compile (test {a = a} e) b x c hx h = rw (first_cond, or_else_none)
      (from e (guard (holds_at w a x.pos) (λ t. step (last b x hx h))))
  compile (inside {n = n} e l e') b x c hx h =
      simp (first_concat_map, or_else_none) (from e (step (compile l b (enter n x) (λ y. c (leave n y)) hx
      (λ y h₁ h₂. from e' (step (h (leave n y) h₁ h₂))))))
  compile (chain {s = s} l l') b x c hx h =
      rw first_concat_map (compile l b x (λ y. first_some c (results w s y)) hx
      (λ y h₁ h₂. compile l' (b || later x y) y c h₂ (next b x y h₁ h)))
  compile (either e l e' l') b x c hx h =
      rw first_append (from e (fork (compile l b x c hx (λ y h₁ h₂. from e' (step (h y h₁ h₂)))) (compile l' b x c hx h)))
  compile (must {n = n} {e = e} {lazy = lazy} {r = r} e₂ l l') b x c hx h =
      rw first_concat_map (from e₂ (step (compile l b (fresh r x) (λ y. first_some c (results w (many n e lazy r) y)) hx
      (λ y h₁ h₂. compile l' (b || later x y) y c h₂ (next b x y h₁ h)))))
  compile stop b x c hx h = rw first_stop (last b x hx h)
  compile (may {n = n} {lazy = lazy} {r = r} s l l') b x c hx h =
      rw first_turns (turn s (compile l) b x c (λ y. first_some c (results w (many 0 (some n) lazy r) y)) hx h
      (λ y h₁ h₂. compile l' true y c h₂ (after b x y h₁ h)))
  compile (loop s l) b x c hx h = rounds s (compile l) (size w - x.pos) b x c (omega arith) hx h
