-- The second engine's steps find what trying finds: they follow a derivation of `Tried`, one after the other.
use Rattle.std.specs.Prelude.{◌≡◌, refl, true, false, List, [], ◌∷◌, ◌++◌}
use Rattle.std.proofs.Common.{sym, ◌∙◌}
use Rattle.std.proofs.Math.Path.{ap}
use Rattle.std.proofs.Math.Option.{Option, none, some}
use Prim.Native.Nat.{ℕ, zero, suc, ◌+◌, ◌<◌}
use native.Mathlib.Omega.{arith}
use Rattle.meaning.specs.Tests.{eq_true, eq_false}
use Rattle.meaning.specs.Text.{Regs}
use Rattle.machine.specs.Rows.{Key}
use Rattle.machine.specs.Steps.{Move, Move.win, Move.lose, Move.eat, Move.on, Move.both, Thread, thread, among}
use Rattle.second.specs.Plain.{Choice, choice, Memory, nothing, remembered, Search, Search.searching, go_on, try_one}
use Rattle.second.specs.Plain.{try_some}
use Rattle.second.specs.Tried.{stored, behind, Tried, Tried.done, Tried.again, Tried.won, Tried.lost, Tried.ate}
use Rattle.second.specs.Tried.{Tried.ate_won, Tried.went, Tried.split}

-- The choices of threads at a position.
abbrev pub standing : ℕ → List Thread → List Choice
standing i [] = []
standing i (t ∷ ts) = choice i t.key t.regs ∷ standing i ts

-- A memory by distance from position i says what a memory of all positions does.
pub record Says (tried : Memory) (i : ℕ) (X : Memory) : Type 0 where
  pub tells : (d j : ℕ) → j ≡ i + d → tried j ≡ X d

pub says_nothing : (i : ℕ) → Says nothing i nothing
says_nothing i = record { tells = λ d j e. refl }

-- One key more at position i; positions below it, and behind it, are as they were.
other : (tried : Memory) (i : ℕ) (k : Key) (j : ℕ) → (i ≡ j → ⊥) → remembered tried i k j ≡ tried j
other tried i k j ne = rw (eq_false i j ne)

same : (tried : Memory) (i : ℕ) (k : Key) (j : ℕ) → i ≡ j → remembered tried i k j ≡ k ∷ tried j
same tried i k j e = rw (eq_true i j e)

says_more : {tried : Memory} {i : ℕ} {X : Memory} (k : Key) → Says tried i X
    → Says (remembered tried i k) i (stored (k ∷ X 0) (behind X))
says_more {tried} {i} {X} k s = record { tells = go }
  where
    go : (d j : ℕ) → j ≡ i + d → remembered tried i k j ≡ stored (k ∷ X 0) (behind X) d
    go zero j e = same tried i k j (omega arith) ∙ ap (λ (ks : List Key). k ∷ ks) (s.tells 0 j e)
    go (suc d) j e = other tried i k j (λ z. omega arith) ∙ s.tells (suc d) j e

says_behind : {tried : Memory} {i : ℕ} {X : Memory} (k : Key) → Says tried i X
    → Says (remembered tried i k) (suc i) (behind X)
says_behind {tried} {i} {X} k s = record {
  tells = λ d j e. other tried i k j (λ z. omega arith) ∙ s.tells (suc d) j (omega arith);
}

module _ (move : ℕ → Key → Move) where
  -- Some number of steps leads from one search to another.
  pub record Leads (S T : Search) : Type 0 where
    pub turns : ℕ
    pub there : try_some move turns S ≡ T

  pub leads_here : {S T : Search} → S ≡ T → Leads S T
  unfolding try_some
  leads_here e = record { turns = 0; there = e }

  pub leads_one : {S T : Search} → try_one move S ≡ T → Leads S T
  unfolding try_some
  leads_one e = record { turns = 1; there = e }

  pub add_tries : (m n : ℕ) (S : Search) → try_some move n (try_some move m S) ≡ try_some move (m + n) S
  unfolding try_some
  add_tries zero n S = let e : n ≡ 0 + n = omega arith in ap (λ (k : ℕ). try_some move k S) e
  add_tries (suc m) n S = let e : suc (m + n) ≡ suc m + n = omega arith in add_tries m n (try_one move S)
      ∙ ap (λ (k : ℕ). try_some move k S) e

  pub leads_on : {S T U : Search} → Leads S T → Leads T U → Leads S U
  leads_on {S} a b = record {
    turns = a.turns + b.turns;
    there = sym (add_tries a.turns b.turns S) ∙ ap (try_some move b.turns) a.there ∙ b.there;
  }

  -- Threads at position i, before other choices, end without a result: the next choice runs, and nothing was tried below i.
  pub record Fails (i : ℕ) (ts : List Thread) (cs : List Choice) (tried : Memory) (c : ℕ) (Y : Memory) : Type 0 where
    pub memory : Memory
    pub count : ℕ
    pub leads : Leads (searching (standing i ts ++ cs) tried none c) (searching cs memory none count)
    pub says : Says memory i Y
    pub low : (j : ℕ) → j < i → memory j ≡ tried j

  -- One of them ends the search with a result.
  pub record Wins (i : ℕ) (ts : List Thread) (cs : List Choice) (tried : Memory) (c : ℕ) (ρ : Regs) : Type 0 where
    pub memory : Memory
    pub count : ℕ
    pub leads : Leads (searching (standing i ts ++ cs) tried none c) (searching [] memory (some ρ) count)

  pub data Follows (i : ℕ) (ts : List Thread) (cs : List Choice) (tried : Memory) (c : ℕ) : Option Regs → Memory → Type 0 where
    fails : {Y : Memory} → Fails i ts cs tried c Y → Follows i ts cs tried c none Y
    wins : {ρ : Regs} {Y : Memory} → Wins i ts cs tried c ρ → Follows i ts cs tried c (some ρ) Y

  -- Steps before that leave the positions below i as they were.
  before : {i : ℕ} {ts us : List Thread} {cs : List Choice} {tried tried' : Memory} {c c' : ℕ} {o : Option Regs} {Y : Memory}
      → Leads (searching (standing i ts ++ cs) tried none c) (searching (standing i us ++ cs) tried' none c')
      → ((j : ℕ) → j < i → tried' j ≡ tried j) → Follows i us cs tried' c' o Y → Follows i ts cs tried c o Y
  before l low (fails f) = fails (record {
    memory = f.memory;
    count = f.count;
    leads = leads_on l f.leads;
    says = f.says;
    low = λ j h. f.low j h ∙ low j h;
  })
  before l low (wins f) = wins (record { memory = f.memory; count = f.count; leads = leads_on l f.leads })

  -- A thread whose key was tried at its position, and one whose key was not.
  module _ {i : ℕ} {X tried : Memory} (t : Thread) (ts : List Thread) (s : Says tried i X) (cs : List Choice) (c : ℕ) where
    dropped : among t.key (X 0) ≡ true
        → Leads (searching (standing i (t ∷ ts) ++ cs) tried none c) (searching (standing i ts ++ cs) tried none c)
    dropped e = let z : i ≡ i + 0 = omega arith in leads_one (rw (s.tells 0 i z, e))

    moves : among t.key (X 0) ≡ false → (m : Move) → move i t.key ≡ m
        → Leads (searching (standing i (t ∷ ts) ++ cs) tried none c)
        (go_on m i t.regs (searching (standing i ts ++ cs) (remembered tried i t.key) none (suc c)))
    moves e m em = let z : i ≡ i + 0 = omega arith in leads_one (rw (s.tells 0 i z, e, em))

    below : (j : ℕ) → j < i → remembered tried i t.key j ≡ tried j
    below j h = other tried i t.key j (λ z. omega arith)

    -- What was tried from the next position on, and at this one as before.
    deeper : {Z memory : Memory} → Says memory (suc i) Z → ((j : ℕ) → j < suc i → memory j ≡ remembered tried i t.key j)
        → Says memory i (stored (t.key ∷ X 0) Z)
    deeper {Z} {memory} z low = record { tells = go }
      where
        go : (d j : ℕ) → j ≡ i + d → memory j ≡ stored (t.key ∷ X 0) Z d
        go zero j e = low j (omega arith) ∙ (says_more t.key s).tells 0 j e
        go (suc d) j e = z.tells d j (omega arith)

  -- The steps follow a derivation, whatever choices stand behind the threads.
  pub follows : {i : ℕ} {ts : List Thread} {X Y : Memory} {o : Option Regs} → Tried move i ts X o Y → (tried : Memory)
      → Says tried i X → (cs : List Choice) (c : ℕ) → Follows i ts cs tried c o Y
  follows done tried s cs c = fails
      (record { memory = tried; count = c; leads = leads_here refl; says = s; low = λ j h. refl })
  follows (again {t = t} {ts = ts} e d) tried s cs c = before (dropped t ts s cs c e) (λ j h. refl) (follows d tried s cs c)
  follows {i} (won {t = t} {ts = ts} e m) tried s cs c = wins
      (record { memory = remembered tried i t.key; count = suc c; leads = moves t ts s cs c e win m })
  follows (lost {t = t} {ts = ts} e m d) tried s cs c =
      before (moves t ts s cs c e lose m) (below t ts s cs c) (follows d _ (says_more t.key s) cs (suc c))
  follows {i} (ate_won {t = t} {ts = ts} {k = k} e m d) tried s cs c =
      won_deeper (follows d _ (says_behind t.key s) (standing i ts ++ cs) (suc c))
    where
      won_deeper : {ρ : Regs} {Z Y : Memory}
          → Follows (suc i) (thread k t.regs ∷ []) (standing i ts ++ cs) (remembered tried i t.key) (suc c) (some ρ) Z
          → Follows i (t ∷ ts) cs tried c (some ρ) Y
      won_deeper (wins f) = wins (record {
        memory = f.memory;
        count = f.count;
        leads = leads_on (moves t ts s cs c e (eat k) m) f.leads;
      })
  follows {i} {X = X} {Y = Y} {o = o} (ate {t = t} {ts = ts} {Z = Z} {k = k} e m d d') tried s cs c =
      failed_deeper (follows d _ (says_behind t.key s) (standing i ts ++ cs) (suc c))
      (λ memory z c'. follows d' memory z cs c')
    where
      failed_deeper : Follows (suc i) (thread k t.regs ∷ []) (standing i ts ++ cs) (remembered tried i t.key) (suc c) none Z
          → ((memory : Memory) → Says memory i (stored (t.key ∷ X 0) Z) → (c' : ℕ) → Follows i ts cs memory c' o Y)
          → Follows i (t ∷ ts) cs tried c o Y
      failed_deeper (fails f) rest =
          before (leads_on (moves t ts s cs c e (eat k) m) f.leads)
          (λ j h. f.low j (omega arith) ∙ below t ts s cs c j h)
          (rest f.memory (deeper t ts s cs c f.says f.low) f.count)
  follows (went {t = t} {ts = ts} {f = f} {k = k} e m d) tried s cs c =
      before (moves t ts s cs c e (on f k) m) (below t ts s cs c) (follows d _ (says_more t.key s) cs (suc c))
  follows (split {t = t} {ts = ts} {k = k} {l = l} e m d) tried s cs c =
      before (moves t ts s cs c e (both k l) m) (below t ts s cs c) (follows d _ (says_more t.key s) cs (suc c))
