-- Theorem 2: the machine finds the first thread that wins, though it executes no row and flag twice at one position.
use Rattle.std.specs.Prelude.{◌≡◌, refl, ◌⊎◌, Bool, true, false, ◌||◌, List, [], ◌∷◌, ◌++◌, T, eqb}
use Rattle.std.proofs.Common.{sym, ◌∙◌, inl, inr, arith, eqb→eq}
use Rattle.std.proofs.Math.Path.{subst⁻¹}
use Rattle.std.specs.Bool.{beq}
use Rattle.std.proofs.lemmas.Bool.{false≢true}
use Rattle.std.proofs.Math.Option.{Option, none, some, map, IsSome}
use Prim.Native.Nat.{ℕ, zero, suc, ◌<◌}
use Rattle.meaning.specs.Tests.{and_true, beq_eq, by_test}
use Rattle.meaning.specs.Text.{Regs}
use Rattle.meaning.specs.Results.{or_else, or_else_none, or_else_assoc}
use Rattle.machine.specs.Rows.{Key}
use Rattle.machine.specs.Steps.{Move, Thread, thread, Machine}
use Rattle.machine.specs.Steps.{Machine.machine}
use Rattle.machine.specs.Steps.{same_key, among, exec, step, steps, begun, Done, best}
use Rattle.machine.specs.Trees.{Tree, Tree.won, Tree.lost, Tree.ate, Tree.went, Tree.split, first, rank, rank_unique}

-- Orders of ranks: the second, if it is there, is greater than the first.
abbrev Before : Option ℕ → Option ℕ → Type 0
Before o none = Unit {0}
Before none (some n) = ⊥
Before (some m) (some n) = m < n

-- The ranks of a queue and of the active threads come before a rank.
abbrev Ahead : Option ℕ → Option ℕ → Option ℕ → Type 0
Ahead q a n = IsSome q ⊎ Before a n

-- Places that are the same are equal.
same_eq : (p q : Key) → same_key p q ≡ true → p ≡ q
same_eq p q e =
    let h : (eqb p.row q.row ≡ true) × (beq p.flag q.flag ≡ true)
    = and_true (eqb p.row q.row) (beq p.flag q.flag) e in
    let r : p.row ≡ q.row = eqb→eq p.row q.row (subst⁻¹ T h.0 tt) in
    let f : p.flag ≡ q.flag = beq_eq p.flag q.flag h.1 in
    λ i. record { row = r i; flag = f i }

-- A thread that moves keeps what comes before a rank, and comes before its own.
moves : (q k r n : Option ℕ) → Ahead q (or_else (map suc k) r) n → Ahead q (or_else k r) n
moves q none r n h = h
moves q (some m) r none h = h
moves q (some m) r (some n) (inl h) = inl h
moves q (some m) r (some n) (inr h) = inr (omega arith)

moved : (q k r : Option ℕ) → Ahead q (or_else k r) (map suc k)
moved q none r = inr tt
moved q (some m) r = inr (omega arith)

-- The same for a thread that joins the queue.
waits : (q k r n : Option ℕ) → Ahead q (or_else (map suc k) r) n → Ahead (or_else q k) r n
waits none none r n h = h
waits none (some m) r n h = inl tt
waits (some l) k r n h = inl tt

waited : (q k r : Option ℕ) → Ahead (or_else q k) r (map suc k)
waited none none r = inr tt
waited none (some m) r = inl tt
waited (some l) k r = inl tt

-- A thread that is dropped where its key comes before its own rank.
drops : (q k r n : Option ℕ) → Ahead q (or_else k r) k → Ahead q (or_else k r) n → Ahead q r n
drops q none r n h g = g
drops q (some m) r n (inl h) g = inl h
drops q (some m) r n (inr h) g = absurd (omega arith)

-- Both fail, or neither does.
abbrev Alike : {A B : Type 0} → Option A → Option B → Type 0
Alike none none = Unit {0}
Alike none (some y) = ⊥
Alike (some x) none = ⊥
Alike (some x) (some y) = Unit {0}

alike_or : {A B : Type 0} (a b : Option A) (x y : Option B) → Alike a x → Alike b y → Alike (or_else a b) (or_else x y)
alike_or none b none y h g = g
alike_or none b (some x) y h g = absurd h
alike_or (some a) b none y h g = absurd h
alike_or (some a) b (some x) y h g = tt

alike_suc : {B : Type 0} (a : Option ℕ) (x : Option B) → Alike a x → Alike (map suc a) x
alike_suc none x h = h
alike_suc (some n) none h = h
alike_suc (some n) (some x) h = h

dropped : {A : Type 0} (q k r : Option ℕ) (x y z b : Option A)
    → Ahead q (or_else k r) k → Alike q x → Alike k y → or_else x (or_else (or_else y z) b) ≡ or_else x (or_else z b)
dropped q none r x none z b h g g' = refl
dropped q none r x (some y) z b h g g' = absurd g'
dropped q (some m) r x y z b (inr h) g g' = absurd (omega arith)
dropped none (some m) r x y z b (inl h) g g' = absurd h
dropped (some l) (some m) r none y z b (inl h) g g' = absurd g
dropped (some l) (some m) r (some x) y z b (inl h) g g' = refl

module _ {move : ℕ → Key → Move} where
  -- A tree has a rank if a thread of it wins.
  agree : {i : ℕ} {m : Move} (t : Tree move i m) (ρ : Regs) → Alike (rank t) (first t ρ)
  unfolding rank first
  agree won ρ = tt
  agree lost ρ = tt
  agree (ate t) ρ = alike_suc (rank t) (first t ρ) (agree t ρ)
  agree (went {f = f} t) ρ = alike_suc (rank t) (first t (f ρ)) (agree t (f ρ))
  agree (split t u) ρ =
      alike_suc (or_else (rank t) (rank u)) (or_else (first t ρ) (first u ρ))
      (alike_or (rank t) (rank u) (first t ρ) (first u ρ) (agree t ρ) (agree u ρ))

module _ (move : ℕ → Key → Move) where
  -- A tree for each thread of a list; the first that wins in them, and its rank.
  abbrev pub Trees : ℕ → List Thread → Type 0
  Trees i [] = Unit {0}
  Trees i (t ∷ ts) = Tree move i (move i t.key) × Trees i ts

  abbrev pub firsts : (i : ℕ) (ts : List Thread) → Trees i ts → Option Regs
  firsts i [] g = none
  firsts i (t ∷ ts) g = or_else (first g.0 t.regs) (firsts i ts g.1)

  abbrev ranks : (i : ℕ) (ts : List Thread) → Trees i ts → Option ℕ
  ranks i [] g = none
  ranks i (t ∷ ts) g = or_else (rank g.0) (ranks i ts g.1)

  agrees : (i : ℕ) (ts : List Thread) (g : Trees i ts) → Alike (ranks i ts g) (firsts i ts g)
  agrees i [] g = tt
  agrees i (t ∷ ts) g = alike_or (rank g.0) (ranks i ts g.1) (first g.0 t.regs) (firsts i ts g.1)
      (agree g.0 t.regs) (agrees i ts g.1)

  -- One more thread at the end.
  abbrev snoc : (i : ℕ) (ts : List Thread) (t : Thread) → Trees i ts → Tree move i (move i t.key) → Trees i (ts ++ (t ∷ []))
  snoc i [] t g u = (u, tt)
  snoc i (t' ∷ ts) t g u = (g.0, snoc i ts t g.1 u)

  firsts_snoc : (i : ℕ) (ts : List Thread) (t : Thread) (g : Trees i ts) (u : Tree move i (move i t.key))
      → firsts i (ts ++ (t ∷ [])) (snoc i ts t g u) ≡ or_else (firsts i ts g) (first u t.regs)
  firsts_snoc i [] t g u = or_else_none _
  firsts_snoc i (t' ∷ ts) t g u = rw (firsts_snoc i ts t g.1 u, or_else_assoc)

  ranks_snoc : (i : ℕ) (ts : List Thread) (t : Thread) (g : Trees i ts) (u : Tree move i (move i t.key))
      → ranks i (ts ++ (t ∷ [])) (snoc i ts t g u) ≡ or_else (ranks i ts g) (rank u)
  ranks_snoc i [] t g u = or_else_none _
  ranks_snoc i (t' ∷ ts) t g u = rw (ranks_snoc i ts t g.1 u, or_else_assoc)

  -- There is a thread.
  abbrev Busy : List Thread → Type 0
  Busy [] = ⊥
  Busy (t ∷ ts) = Unit {0}

  -- A machine that will end with the best match o. A key that was visited is harmless: what could win from it is already ahead.
  pub record Good (i : ℕ) (a q : List Thread) (s : List Key) (b o : Option Regs) : Type 0 where
    pub now : Trees i a
    pub soon : Trees (suc i) q
    pub settled : Busy a → (p : Key) → among p s ≡ true → (t : Tree move i (move i p))
        → Ahead (ranks (suc i) q soon) (ranks i a now) (rank t)
    pub says : or_else (firsts (suc i) q soon) (or_else (firsts i a now) b) ≡ o

  -- The same of a machine.
  abbrev pub Fine : Machine → Option Regs → Type 0
  Fine (machine i a q s b c) o = Good i a q s b o

  -- What holds of the places visited, and of a key that is new, holds of all of them.
  visited : (i : ℕ) (A : Option ℕ → Type 0) (k : Option ℕ) (p : Key) (s : List Key)
      → ((u : Tree move i (move i p)) → rank u ≡ k) → A k
      → ((p' : Key) → among p' s ≡ true → (u : Tree move i (move i p')) → A (rank u))
      → (p' : Key) → among p' (p ∷ s) ≡ true → (u : Tree move i (move i p')) → A (rank u)
  visited i A k p s e new old p' = go (same_key p' p) refl
    where
      go : (g : Bool) → same_key p' p ≡ g → (g || among p' s) ≡ true → (u : Tree move i (move i p')) → A (rank u)
      go true h t = subst⁻¹ (λ (z : Key). (u : Tree move i (move i z)) → A (rank u)) (same_eq p' p h) (λ u. rw (e u) new)
      go false h t = old p' t

  -- A move keeps a machine good.
  executes : {i : ℕ} {m : Move} (t : Tree move i m) (ρ : Regs) (p : Key)
      (a q : List Thread) (s : List Key) (b : Option Regs) (c : ℕ) (o : Option Regs) (now : Trees i a) (soon : Trees (suc i) q)
      → ((u : Tree move i (move i p)) → rank u ≡ rank t)
      → ((p' : Key) → among p' s ≡ true → (u : Tree move i (move i p'))
      → Ahead (ranks (suc i) q soon) (or_else (rank t) (ranks i a now)) (rank u))
      → or_else (firsts (suc i) q soon) (or_else (or_else (first t ρ) (firsts i a now)) b) ≡ o
      → Fine (exec m ρ (machine i a q (p ∷ s) b c)) o
  unfolding first rank
  executes {i} won ρ p a q s b c o now soon e old says =
      record { now = tt; soon = soon; settled = λ h. absurd h; says = says }
  executes {i} lost ρ p a q s b c o now soon e old says =
      record {
        now = now;
        soon = soon;
        settled = λ h. visited i (Ahead (ranks (suc i) q soon) (ranks i a now)) none p s e
            (inr tt) old;
        says = says;
      }
  executes {i} (ate {p = p'} t) ρ p a q s b c o now soon e old says =
      let th : Thread = thread p' ρ in
      let rq : Option ℕ = ranks (suc i) q soon in
      let ra : Option ℕ = ranks i a now in
      record {
        now = now;
        soon = snoc (suc i) q th soon t;
        settled = λ h. rw (ranks_snoc (suc i) q th soon t)
            (visited i (Ahead (or_else rq (rank t)) ra) (map suc (rank t)) p s e (waited rq (rank t) ra)
            (λ p'' h' u. waits rq (rank t) ra (rank u) (old p'' h' u)));
        says = rw (firsts_snoc (suc i) q th soon t, or_else_assoc, ← or_else_assoc (first t ρ) (firsts i a now) b) says;
      }
  executes {i} (went {p = p'} t) ρ p a q s b c o now soon e old says =
      let rq : Option ℕ = ranks (suc i) q soon in
      let ra : Option ℕ = ranks i a now in
      record {
        now = (t, now);
        soon = soon;
        settled = λ h. visited i (Ahead rq (or_else (rank t) ra)) (map suc (rank t)) p s e (moved rq (rank t) ra)
            (λ p'' h' u. moves rq (rank t) ra (rank u) (old p'' h' u));
        says = says;
      }
  executes {i} (split t t') ρ p a q s b c o now soon e old says =
      let rq : Option ℕ = ranks (suc i) q soon in
      let ra : Option ℕ = ranks i a now in
      let k : Option ℕ = or_else (rank t) (rank t') in
      record {
        now = (t, (t', now));
        soon = soon;
        settled = λ h. rw (← or_else_assoc (rank t) (rank t') ra)
            (visited i (Ahead rq (or_else k ra)) (map suc k) p s e (moved rq k ra)
            (λ p'' h' u. moves rq k ra (rank u) (old p'' h' u)));
        says = rw (← or_else_assoc (first t ρ) (first t' ρ) (firsts i a now)) says;
      }

  -- A step keeps a machine good.
  pub keeps : (M : Machine) (o : Option Regs) → Fine M o → Fine (step move M) o
  keeps (machine i [] [] s b c) o g = g
  keeps (machine i [] (t ∷ q) s b c) o g = record {
    now = g.soon;
    soon = tt;
    settled = λ h p h'. absurd
        (false≢true h');
    says = g.says;
  }
  keeps (machine i (t ∷ a) q s b c) o g = by_test (λ M. Fine M o) (among t.key s) drop move_on
    where
      u : Tree move i (move i t.key)
      u = g.now.0

      drop : among t.key s ≡ true → Good i a q s b o
      drop e =
          let rq : Option ℕ = ranks (suc i) q g.soon in
          let ra : Option ℕ = ranks i a g.now.1 in
          let fq : Option Regs = firsts (suc i) q g.soon in
          let fa : Option Regs = firsts i a g.now.1 in
          let h : Ahead rq (or_else (rank u) ra) (rank u) = g.settled tt t.key e u in
          record {
            now = g.now.1;
            soon = g.soon;
            settled = λ h' p h'' v. drops rq (rank u) ra (rank v) h (g.settled tt p h'' v);
            says = sym (dropped rq (rank u) ra fq (first u t.regs) fa b h (agrees (suc i) q g.soon) (agree u t.regs))
                ∙ g.says;
          }

      move_on : among t.key s ≡ false → Fine (exec (move i t.key) t.regs (machine i a q (t.key ∷ s) b (suc c))) o
      move_on e = executes u t.regs t.key a q s b (suc c) o g.now.1 g.soon (λ v. rank_unique v u) (g.settled tt)
          g.says

  -- A machine that begins with threads is good, and will end with the first that wins in their trees.
  pub starts : (i : ℕ) (ts : List Thread) (g : Trees i ts) → Fine (begun i ts) (firsts i ts g)
  starts i ts g = record { now = g; soon = tt; settled = λ b p e. absurd (false≢true e); says = or_else_none _ }

  -- Theorem 2: when a good machine has ended, it has the best match.
  pub ended : (M : Machine) (o : Option Regs) → Done M → Fine M o → best M ≡ o
  ended (machine i [] [] s b c) o d g = g.says
  ended (machine i [] (t ∷ q) s b c) o d g = absurd d
  ended (machine i (t ∷ a) q s b c) o d g = absurd d

  -- So it is after any number of steps.
  pub after : (m : ℕ) (M : Machine) (o : Option Regs) → Fine M o → Fine (steps move m M) o
  unfolding steps
  after zero M o g = g
  after (suc m) M o g = after m (step move M) o (keeps M o g)
