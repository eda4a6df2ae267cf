-- The bound of the second engine's steps, for any rows that lead to rows: each row and flag is tried once at a position, and the
-- search ends.
use Rattle.std.specs.Prelude.{◌≡◌, ◌⊎◌, false, length}
use Rattle.std.proofs.Math.Path.{refl, subst⁻¹}
use Rattle.std.proofs.Common.{subst, inl, inr, suc-mul, arith}
use Rattle.std.proofs.Math.Option.{Option}
use mathlib.Core.List.{List, [], ◌∷◌}
use Prim.Native.Nat.{ℕ, zero, suc, ◌+◌, ◌*◌, ◌-◌, ◌≤◌, ◌<◌}
use Rattle.std.proofs.Math.Decide.{ℕ_discrete}
use Rattle.meaning.specs.Tests.{eq_true, eq_false, by_test}
use Rattle.meaning.specs.Text.{Regs}
use Rattle.meaning.specs.All.{All}
use Rattle.machine.specs.Rows.{Key}
use Rattle.machine.specs.Steps.{Move, Move.win, Move.lose, Move.eat, Move.on, Move.both, among}
use Rattle.second.specs.Below.{Inside, free, free_all, spend}
use Rattle.second.specs.Plain.{Choice, Memory, nothing, remembered, Search, Search.searching, go_on, try_one, try_some}
use Rattle.second.specs.Plain.{Ended, count_of}

-- How many rows and flags of n rows were not tried yet at d positions from one on.
abbrev pub untried : ℕ → Memory → ℕ → ℕ → ℕ
untried n tried start zero = 0
untried n tried start (suc d) = free n (tried (start + d)) + untried n tried start d

-- All of them, where nothing was.
pub untried_all : (n start d : ℕ) → untried n nothing start d ≡ d * (n + n)
untried_all n start zero = omega arith
untried_all n start (suc d) = omega (arith, free_all n, untried_all n start d, suc-mul d (n + n))

module _ (n start : ℕ) (tried : Memory) (i : ℕ) (k : Key) where
  -- A key more at a position leaves the others as they were.
  elsewhere : (d : ℕ) → start + d ≤ i → untried n (remembered tried i k) start d ≡ untried n tried start d
  elsewhere zero h = refl
  elsewhere (suc d) h = rw (eq_false i (start + d) (λ z. omega arith), elsewhere d (omega arith))

  -- At its own position there is one less to try.
  pub spend_one : (d : ℕ) → start ≤ i → i < start + d → k.row < n → among k (tried i) ≡ false
      → suc (untried n (remembered tried i k) start d) ≤ untried n tried start d
  spend_one zero low high row e = absurd (omega arith)
  spend_one (suc d) low high row e = go (ℕ_discrete i (start + d)) (λ h. spend_one d low h row e)
    where
      go : Dec (i ≡ start + d)
          → (i < start + d → suc (untried n (remembered tried i k) start d) ≤ untried n tried start d)
          → suc (untried n (remembered tried i k) start (suc d)) ≤ untried n tried start (suc d)
      go (yes z) less =
          let a : among k (tried (start + d)) ≡ false = subst (λ (j : ℕ). among k (tried j) ≡ false) z e in
          let one = spend n k (tried (start + d)) row a in
          rw (eq_true i (start + d) z, elsewhere d (omega arith)) (omega arith)
      go (no z) less = let one = less (omega arith) in rw (eq_false i (start + d) z) (omega arith)

module _ (n size start : ℕ) where
  -- As many positions, from the start to the end, both included.
  abbrev positions : ℕ
  positions = suc (size - start)

  -- A choice stands at a row below n and at one of them.
  abbrev pub Stands : Choice → Type 0
  Stands t = (t.key.row < n) × (start ≤ t.position) × (t.position ≤ size)

  -- So do all choices, and each row counted is one less to try.
  pub record Kept (cs : List Choice) (tried : Memory) (c : ℕ) : Type 0 where
    pub stand : All Stands cs
    pub paid : c + untried n tried start positions ≤ positions * (n + n)

  abbrev pub Bound : Search → Type 0
  Bound (searching cs tried b c) = Kept cs tried c

  -- What is left to do.
  abbrev pub left : Search → ℕ
  left (searching cs tried b c) =
      untried n tried start positions + untried n tried start positions + length cs

  -- It executes at most 2n rows for each position.
  pub counts : (S : Search) → Bound S → count_of S ≤ positions * (n + n)
  counts (searching cs tried b c) g = omega (arith, g.paid)

  module _ (move : ℕ → Key → Move) (inside : (i : ℕ) (p : Key) → p.row < n → Inside n size i (move i p)) where
    -- What a move makes of a search in which one row more was counted.
    goes : (m : Move) (i : ℕ) (ρ : Regs) (cs : List Choice) (tried : Memory) (b : Option Regs) (c : ℕ) → Inside n size i m
        → start ≤ i → i ≤ size → Kept cs tried c → Bound (go_on m i ρ (searching cs tried b c))
    goes win i ρ cs tried b c h low high g = record { stand = tt; paid = g.paid }
    goes lose i ρ cs tried b c h low high g = g
    goes (eat k) i ρ cs tried b c h low high g =
        record { stand = ((h.0, omega arith, h.1), g.stand); paid = g.paid }
    goes (on f k) i ρ cs tried b c h low high g = record { stand = ((h, low, high), g.stand); paid = g.paid }
    goes (both k l) i ρ cs tried b c h low high g =
        record { stand = ((h.0, low, high), ((h.1, low, high), g.stand)); paid = g.paid }

    -- It adds one choice at most.
    goes_few : (m : Move) (i : ℕ) (ρ : Regs) (cs : List Choice) (tried : Memory) (b : Option Regs) (c rest : ℕ)
        → suc (untried n tried start positions) ≤ rest
        → left (go_on m i ρ (searching cs tried b c)) < rest + rest + suc (length cs)
    goes_few win i ρ cs tried b c rest h = omega arith
    goes_few lose i ρ cs tried b c rest h = omega arith
    goes_few (eat k) i ρ cs tried b c rest h = omega arith
    goes_few (on f k) i ρ cs tried b c rest h = omega arith
    goes_few (both k l) i ρ cs tried b c rest h = omega arith

    -- One less to try, where the first choice was not tried at its position.
    one_less : (t : Choice) (tried : Memory) → Stands t → among t.key (tried t.position) ≡ false
        → suc (untried n (remembered tried t.position t.key) start positions) ≤ untried n tried start positions
    one_less t tried s e =
        spend_one n start tried t.position t.key positions s.1 (omega (arith, s.2)) s.0 e

    -- A step keeps a search bounded, and leaves less to do until it has ended.
    pub keeps : (S : Search) → Bound S → Bound (try_one move S)
    keeps (searching [] tried b c) g = g
    keeps (searching (t ∷ cs) tried b c) g = by_test Bound (among t.key (tried t.position))
        (λ e. record { stand = g.stand.1; paid = g.paid })
        (λ e. let s = g.stand.0 in let one = one_less t tried s e in
        goes (move t.position t.key) t.position t.regs cs (remembered tried t.position t.key) b (suc c)
        (inside t.position t.key s.0) s.1 s.2
        (record { stand = g.stand.1; paid = omega (arith, g.paid) }))

    pub less : (S : Search) → Bound S → Ended S ⊎ (left (try_one move S) < left S)
    less (searching [] tried b c) g = inl tt
    less (searching (t ∷ cs) tried b c) g = inr (by_test (λ T. left T < left (searching (t ∷ cs) tried b c))
        (among t.key (tried t.position)) (λ e. omega arith)
        (λ e. goes_few (move t.position t.key) t.position t.regs cs (remembered tried t.position t.key) b
        (suc c) (untried n tried start positions) (one_less t tried g.stand.0 e)))

    pub after : (m : ℕ) (S : Search) → Bound S → Bound (try_some move m S)
    unfolding try_some
    after zero S g = g
    after (suc m) S g = after m (try_one move S) (keeps S g)

    -- A search that has ended stays as it is.
    pub stays : (m : ℕ) (S : Search) → Ended S → try_some move m S ≡ S
    unfolding try_some
    stays zero S d = refl
    stays (suc m) (searching [] tried b c) d = stays m (searching [] tried b c) d
    stays (suc m) (searching (t ∷ cs) tried b c) d = absurd d

    -- The steps end: after as many as are left to do.
    pub ends : (m : ℕ) (S : Search) → Bound S → left S ≤ m → Ended (try_some move m S)
    unfolding try_some
    ends zero S g h = go (less S g)
      where
        go : Ended S ⊎ (left (try_one move S) < left S) → Ended S
        go (inl d) = d
        go (inr l) = absurd (omega arith)
    ends (suc m) S g h = go (less S g) (λ l. ends m (try_one move S) (keeps S g) (omega arith))
      where
        go : Ended S ⊎ (left (try_one move S) < left S)
            → (left (try_one move S) < left S → Ended (try_some move (suc m) S)) → Ended (try_some move (suc m) S)
        go (inl d) f = subst⁻¹ Ended (stays (suc m) S d) d
        go (inr l) f = f l
