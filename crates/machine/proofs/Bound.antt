-- The bound, for any rows that lead to rows, and over a test of the keys that may be executed: at most so many executions at a
-- position as the test lets keys pass, each key once, room for the threads, and an end.
use Rattle.std.specs.Prelude.{◌≡◌, refl, ◌⊎◌, Bool, true, false, cond, ◌||◌, List, [], ◌∷◌, ◌++◌, length}
use Rattle.std.proofs.Common.{ap, ◌∙◌, inl, inr, suc-mul, mul_comm, mul-le-mul_right, arith, length-append}
use Rattle.std.proofs.Math.Path.{subst⁻¹}
use Rattle.std.specs.Bool.{beq}
use Rattle.std.proofs.Math.Option.{Option}
use Prim.Native.Nat.{ℕ, zero, suc, ◌+◌, ◌*◌, ◌-◌, ◌≤◌, ◌<◌, suc-le-suc}
use Rattle.std.proofs.Math.Decide.{dec_lt}
use Rattle.meaning.specs.Tests.{eq_true, by_test}
use Rattle.meaning.specs.Text.{Regs}
use Rattle.meaning.specs.All.{All, all_append}
use Rattle.machine.specs.Rows.{Key, at}
use Rattle.machine.specs.Steps.{Move, Move.win, Move.lose, Move.eat, Move.on, Move.both, Thread, thread, Machine}
use Rattle.machine.specs.Steps.{Machine.machine}
use Rattle.machine.specs.Steps.{same_key, among, exec, step, steps, begun, Done, seen, count}

pub same_key_refl : (p : Key) → same_key p p ≡ true
same_key_refl p = rw (eq_true p.row p.row refl) (go p.flag)
  where
    go : (b : Bool) → beq b b ≡ true
    go true = refl
    go false = refl

-- How many of the keys of the first n rows that a test lets pass are not in a list.
module _ (allowed : Key → Bool) where
  abbrev missing : Key → List Key → ℕ
  missing p s = cond (among p s) 0 (cond (allowed p) 1 0)

  abbrev pub free : ℕ → List Key → ℕ
  free zero s = 0
  free (suc n) s = missing (at n false) s + missing (at n true) s + free n s

  missing_cons : (p p' : Key) (s : List Key) → missing p (p' ∷ s) ≤ missing p s
  missing_cons p p' s = go (same_key p p')
    where
      go : (g : Bool) → cond (g || among p s) 0 (cond (allowed p) 1 0) ≤ missing p s
      go true = omega arith
      go false = omega arith

  free_cons : (n : ℕ) (p : Key) (s : List Key) → free n (p ∷ s) ≤ free n s
  free_cons zero p s = omega arith
  free_cons (suc n) p s = omega (arith, missing_cons (at n false) p s, missing_cons (at n true) p s, free_cons n p s)

  -- A new key is one less that is missing.
  missing_self : (p : Key) (s : List Key) → allowed p ≡ true → among p s ≡ false → suc (missing p (p ∷ s)) ≤ missing p s
  missing_self p s h e = rw (same_key_refl p, e, h) (omega arith)

  spend_last : (n : ℕ) (b : Bool) (s : List Key) → allowed (at n b) ≡ true → among (at n b) s ≡ false
      → suc (free (suc n) (at n b ∷ s)) ≤ free (suc n) s
  spend_last n false s h e =
      omega (arith, missing_self (at n false) s h e, missing_cons (at n true) (at n false) s, free_cons n (at n false) s)
  spend_last n true s h e =
      omega (arith, missing_self (at n true) s h e, missing_cons (at n false) (at n true) s, free_cons n (at n true) s)

  pub spend : (n : ℕ) (p : Key) (s : List Key) → p.row < n → allowed p ≡ true → among p s ≡ false
      → suc (free n (p ∷ s)) ≤ free n s
  spend zero p s low h e = absurd (omega arith)
  spend (suc n) p s low h e = go (dec_lt p.row n) (λ l. spend n p s l h e)
    where
      go : Dec (p.row < n) → (p.row < n → suc (free n (p ∷ s)) ≤ free n s) → suc (free (suc n) (p ∷ s)) ≤ free (suc n) s
      go (yes l) less = omega (arith, less l, missing_cons (at n false) p s, missing_cons (at n true) p s)
      go (no l) less =
          let P : ℕ → Type 0 = λ m. suc (free (suc m) (p ∷ s)) ≤ free (suc m) s in
          subst⁻¹ P (let r : n ≡ p.row = omega arith in r) (spend_last p.row p.flag s h e)

-- The keys that may be executed: those of so many rows that a test lets pass, at most `most` of them.
pub record Keys : Type 0 where
  pub rows : ℕ
  pub allowed : Key → Bool
  pub most : ℕ
  pub few : free allowed rows [] ≤ most

-- All keys of n rows: two for each.
pub all_keys : (n : ℕ) → free (λ k. true) n [] ≤ n + n
all_keys zero = omega arith
all_keys (suc n) = omega (arith, all_keys n)

abbrev pub two_each : ℕ → Keys
two_each n = record { rows = n; allowed = λ k. true; most = n + n; few = all_keys n }

-- A key that may be executed.
abbrev pub May : Keys → Key → Type 0
May K p = (p.row < K.rows) × (K.allowed p ≡ true)

-- The moves of a key lead to such keys, and read a byte only before the end of the text.
abbrev pub Inside : Keys → ℕ → ℕ → Move → Type 0
Inside K size i win = Unit {0}
Inside K size i lose = Unit {0}
Inside K size i (eat p) = May K p × (i < size)
Inside K size i (on f p) = May K p
Inside K size i (both p p') = May K p × May K p'

-- No key stands twice in a list.
abbrev pub Apart : List Key → Type 0
Apart [] = Unit {0}
Apart (p ∷ s) = (among p s ≡ false) × Apart s

-- A machine that has ended stays as it is.
pub stays : (move : ℕ → Key → Move) (m : ℕ) (M : Machine) → Done M → steps move m M ≡ M
unfolding steps
stays move zero M d = refl
stays move (suc m) (machine i [] [] s b c) d = stays move m (machine i [] [] s b c) d
stays move (suc m) (machine i [] (t ∷ q) s b c) d = absurd d
stays move (suc m) (machine i (t ∷ a) q s b c) d = absurd d

module _ (K : Keys) (size start cap : ℕ) where
  abbrev rest : List Key → ℕ
  rest s = free K.allowed K.rows s

  -- A thread's key may be executed.
  abbrev Here : Thread → Type 0
  Here t = May K t.key

  -- No more moves than `most` were made at each position, at this one as many as keys were executed, each once and each of those
  -- that may be; and the position lies in the text.
  pub record Paid (i : ℕ) (s : List Key) (c : ℕ) : Type 0 where
    pub k : ℕ
    pub here : i ≡ start + k
    pub within : i ≤ size
    pub spent : c + rest s ≤ suc k * K.most
    pub once : length s + rest s ≤ K.most
    pub may : All (May K) s
    pub apart : Apart s

  -- So it is for a machine; its threads' keys may be executed, and are not too many.
  pub record Bounded (i : ℕ) (a q : List Thread) (s : List Key) (c : ℕ) : Type 0 where
    pub paid : Paid i s c
    pub now : All Here a
    pub soon : All (λ t. Here t × (i < size)) q
    pub wide : K.most ≤ cap
    pub space : length a + rest s ≤ cap + K.most
    pub wait : length q + rest s ≤ K.most

  -- The same of a machine.
  abbrev pub Bound : Machine → Type 0
  Bound (machine i a q s b c) = Bounded i a q s c

  -- How much room a machine takes: `cap` threads and `most` more are active, and `most` are queued. It may begin with `cap`
  -- threads.
  abbrev pub Room : Machine → Type 0
  Room (machine i a q s b c) = (length a ≤ cap + K.most) × (length q ≤ K.most)

  pub room : (M : Machine) → Bound M → Room M
  room (machine i a q s b c) g = (omega (arith, g.space), omega (arith, g.wait))

  -- It makes at most `most` moves for each position from the start to the end, both included.
  pub counts : (M : Machine) → Bound M → count M ≤ K.most * (size - start + 1)
  counts (machine i a q s b c) g =
      let p : Paid i s c = g.paid in
      let h : p.k ≤ size - start = omega (arith, p.here, p.within) in
      let e : suc (size - start) * K.most ≡ K.most * (size - start + 1)
      = mul_comm (suc (size - start)) K.most ∙ ap (λ (z : ℕ). K.most * z) (omega arith) in
      omega (arith, p.spent, mul-le-mul_right K.most (suc-le-suc h), e)

  -- At this position it has executed at most `most` keys, each once, and each of those that may be.
  pub executes_few : (M : Machine) → Bound M → length (seen M) ≤ K.most
  executes_few (machine i a q s b c) g = omega (arith, g.paid.once)

  pub executes_apart : (M : Machine) → Bound M → All (May K) (seen M) × Apart (seen M)
  executes_apart (machine i a q s b c) g = (g.paid.may, g.paid.apart)

  -- What is left to do.
  abbrev pub left : Machine → ℕ
  left (machine i a q s b c) = (size - i) * suc (K.most + K.most + K.most) + (rest s + rest s + length a)

  -- A machine that begins with threads whose keys may be executed is bounded.
  pub begins : (ts : List Thread) → All Here ts → length ts ≤ cap → K.most ≤ cap → start ≤ size → Bound (begun start ts)
  begins ts h l wide h' =
      let e : rest [] ≤ K.most = K.few in
      let paid : Paid start [] 0
      = record { k = 0; here = omega arith; within = h'; spent = omega arith; once = omega arith; may = tt; apart = tt } in
      record { paid = paid; now = h; soon = tt; wide = wide; space = omega arith; wait = omega arith }

  executes : (i : ℕ) (m : Move) (ρ : Regs) (a q : List Thread) (s : List Key) (b : Option Regs) (c : ℕ) → Inside K size i m
      → Bounded i a q s c → length a + 2 + rest s ≤ cap + K.most → length q + 1 + rest s ≤ K.most
      → Bound (exec m ρ (machine i a q s b c))
  executes i win ρ a q s b c h g r v
      = record { paid = g.paid; now = tt; soon = g.soon; wide = g.wide; space = omega arith; wait = g.wait }
  executes i lose ρ a q s b c h g r v = g
  executes i (eat p) ρ a q s b c h g r v =
      let soon : All (λ t. Here t × (i < size)) (q ++ (thread p ρ ∷ []))
      = all_append (λ t. Here t × (i < size)) q (thread p ρ ∷ []) g.soon (h, tt) in
      let wait : length (q ++ (thread p ρ ∷ [])) + rest s ≤ K.most = rw length-append (omega arith) in
      record { paid = g.paid; now = g.now; soon = soon; wide = g.wide; space = g.space; wait = wait }
  executes i (on f p) ρ a q s b c h g r v =
      record { paid = g.paid; now = (h, g.now); soon = g.soon; wide = g.wide; space = omega arith; wait = g.wait }
  executes i (both p p') ρ a q s b c h g r v =
      let now : All Here (thread p ρ ∷ thread p' ρ ∷ a) = (h.0, (h.1, g.now)) in
      record { paid = g.paid; now = now; soon = g.soon; wide = g.wide; space = omega arith; wait = g.wait }

  lower : (i : ℕ) (q : List Thread) → All (λ t. Here t × (i < size)) q → All Here q
  lower i [] h = tt
  lower i (t ∷ q) h = (h.0.0, lower i q h.1)

  module _ (move : ℕ → Key → Move) (inside : (i : ℕ) (p : Key) → May K p → Inside K size i (move i p)) where
    -- A key that is executed for the first time at a position spends one.
    spends : (p : Key) (s : List Key) → May K p → among p s ≡ false → suc (rest (p ∷ s)) ≤ rest s
    spends p s h e = spend K.allowed K.rows p s h.0 h.1 e

    -- A step keeps a machine bounded.
    pub keeps : (M : Machine) → Bound M → Bound (step move M)
    keeps (machine i [] [] s b c) g = g
    keeps (machine i [] (t ∷ q) s b c) g =
        let p : Paid i s c = g.paid in
        let e : rest [] ≤ K.most = K.few in
        record {
          paid = record {
            k = suc p.k;
            here = omega (arith, p.here);
            within = g.soon.0.1;
            spent = omega (arith, p.spent, suc-mul (suc p.k) K.most);
            once = omega arith;
            may = tt;
            apart = tt;
          };
          now = lower i (t ∷ q) g.soon;
          soon = tt;
          wide = g.wide;
          space = omega (arith, g.wait, g.wide);
          wait = omega arith;
        }
    keeps (machine i (t ∷ a) q s b c) g = by_test Bound (among t.key s) drop move_on
      where
        drop : among t.key s ≡ true → Bounded i a q s c
        drop e =
            let space : length a + rest s ≤ cap + K.most = omega (arith, g.space) in
            record { paid = g.paid; now = g.now.1; soon = g.soon; wide = g.wide; space = space; wait = g.wait }

        move_on : among t.key s ≡ false → Bound (exec (move i t.key) t.regs (machine i a q (t.key ∷ s) b (suc c)))
        move_on e =
            let p : Paid i s c = g.paid in
            let f : suc (rest (t.key ∷ s)) ≤ rest s = spends t.key s g.now.0 e in
            let p' : Paid i (t.key ∷ s) (suc c) = record {
              k = p.k;
              here = p.here;
              within = p.within;
              spent = omega (arith, p.spent);
              once = omega (arith, p.once);
              may = (g.now.0, p.may);
              apart = (e, p.apart);
            } in
            let g' : Bounded i a q (t.key ∷ s) (suc c) = record {
              paid = p';
              now = g.now.1;
              soon = g.soon;
              wide = g.wide;
              space = omega (arith, g.space);
              wait = omega (arith, g.wait);
            } in
            executes i (move i t.key) t.regs a q (t.key ∷ s) b (suc c) (inside i t.key g.now.0) g'
            (omega (arith, g.space)) (omega (arith, g.wait))

    -- A step leaves less to do, until the machine has ended.
    pub less : (M : Machine) → Bound M → Done M ⊎ (left (step move M) < left M)
    less (machine i [] [] s b c) g = inl tt
    less (machine i [] (t ∷ q) s b c) g =
        let w : ℕ = suc (K.most + K.most + K.most) in
        let d : size - i ≡ suc (size - suc i) = omega (arith, g.soon.0.1) in
        let e : (size - i) * w ≡ (size - suc i) * w + w = ap (λ z. z * w) d ∙ suc-mul (size - suc i) w in
        inr (omega (arith, e, g.wait, K.few))
    less (machine i (t ∷ a) q s b c) g = inr (by_test (λ M. left M < left (machine i (t ∷ a) q s b c)) (among t.key s)
        (λ e. omega arith) move_on)
      where
        moves : (m : Move) (ρ : Regs) (c' : ℕ) → suc (rest (t.key ∷ s)) ≤ rest s
            → left (exec m ρ (machine i a q (t.key ∷ s) b c')) < left (machine i (t ∷ a) q s b c)
        moves win ρ c' h = omega arith
        moves lose ρ c' h = omega arith
        moves (eat p) ρ c' h = omega arith
        moves (on f p) ρ c' h = omega arith
        moves (both p p') ρ c' h = omega arith

        move_on : among t.key s ≡ false → left
            (exec (move i t.key) t.regs (machine i a q (t.key ∷ s) b (suc c))) < left (machine i (t ∷ a) q s b c)
        move_on e = moves (move i t.key) t.regs (suc c) (spends t.key s g.now.0 e)

    -- So it is after any number of steps.
    pub after : (m : ℕ) (M : Machine) → Bound M → Bound (steps move m M)
    unfolding steps
    after zero M g = g
    after (suc m) M g = after m (step move M) (keeps M g)

    -- The steps end: after as many as are left to do.
    pub ends : (m : ℕ) (M : Machine) → Bound M → left M ≤ m → Done (steps move m M)
    unfolding steps
    ends zero M g h = go (less M g)
      where
        go : Done M ⊎ (left (step move M) < left M) → Done M
        go (inl d) = d
        go (inr l) = absurd (omega arith)
    ends (suc m) M g h = go (less M g) (λ l. ends m (step move M) (keeps M g) (omega arith))
      where
        go : Done M ⊎ (left (step move M) < left M) → (left (step move M) < left M → Done (steps move (suc m) M))
            → Done (steps move (suc m) M)
        go (inl d) f = subst⁻¹ Done (stays move (suc m) M d) d
        go (inr l) f = f l

  -- What is left to do when the machine begins.
  pub left_begun : (ts : List Thread) → left (begun start ts) ≤ (size - start) * suc (K.most + K.most + K.most) +
      (K.most + K.most) + length ts
  left_begun ts = omega (arith, K.few)
