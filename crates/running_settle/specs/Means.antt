-- What a row does in the code's words is what it does in the steps.
use Rattle.std.specs.Prelude.{◌≡◌, Bool, true, false, cond, eqb}
use Rattle.std.proofs.Math.Path.{refl, sym, ap, ap₂}
use Rattle.std.proofs.Common.{◌∙◌, lt-ltb}
use Rattle.std.proofs.Math.Option.{Option, none, some}
use mathlib.Core.List.{List, [], ◌∷◌, ◌++◌, map, append-nil}
use Prim.Native.Nat.{ℕ, zero, suc, ◌+◌, ◌-◌, ◌<◌}
use native.Mathlib.Omega.{arith}
use Rattle.std.proofs.Math.ListN.{set}
use Rattle.sets.specs.Sets.{has}
use Rattle.meaning.specs.Limits.{position_limit}
use Rattle.meaning.specs.Text.{Regs, fits, holds_at, opened, closed, wiped, cleared, passes, byte_before, byte_after}
use Rattle.meaning.specs.Bytes.{text_of, asserts}
use Rattle.machine.specs.Rows.{Row, Row.accept, Row.consume, Row.jump, Row.fork, Row.opens, Row.closes, Row.reset}
use Rattle.machine.specs.Rows.{Row.begin, Row.end, Row.assertion}
use Rattle.machine.specs.Rows.{row_at, Key, at}
use Rattle.machine.specs.Steps.{Move, Move.lose, Move.eat, Move.on, act, Thread, thread, Machine, Machine.machine}
use Rattle.machine.specs.Steps.{exec, step, steps, among}
use Rattle.machine.specs.Words.{rows_said, row_in, rows_in}
use Rattle.machine.proofs.Coded.{rows_in_at}
use Rattle.running_moves.specs.Keys.{key_number, row_of, flag_of, next_key, start_of, end_of, key_of, key_of_lem, key_after, key_next}
use Rattle.running_moves.specs.Chosen.{byte_of, chosen}
use Rattle.running_moves.specs.declared.Move.{Move as Doing}
use Rattle.running_moves.specs.declared.Move.TheVariants.{Lose, Eat, On}
use Rattle.running_threads.specs.Threads.{nowhere, reg_of, thread_of, wipe}
use Rattle.running_threads.specs.declared.Spot.{Spot}
use Rattle.running_settle.specs.Moved.{pushes, eaten, wins, dropped, best_of, Sees, moves_of, Leads}

-- ---- registers

pub map_set : (rs : List ℕ) (k v : ℕ) → map reg_of (set rs k v) ≡ set (map reg_of rs) k (reg_of v)
map_set [] k v = refl
map_set (x ∷ rs) zero v = refl
map_set (x ∷ rs) (suc k) v = ap (λ (ρ : Regs). reg_of x ∷ ρ) (map_set rs k v)

pub reg_some : (p : ℕ) → p < position_limit → reg_of p ≡ some p
unfolding reg_of
reg_some p h = rw (lt-ltb p position_limit h)

pub reg_none : reg_of nowhere ≡ none
unfolding reg_of
reg_none = refl

pub map_wipe : (n k : ℕ) (rs : List ℕ) → map reg_of (wipe n k rs) ≡ wiped n k (map reg_of rs)
unfolding wipe wiped
map_wipe zero k rs = refl
map_wipe (suc n) k rs = map_wipe n (suc k) (set rs k nowhere)
    ∙ ap (wiped n (suc k)) (map_set rs k nowhere ∙ ap (set (map reg_of rs) k) reg_none)

-- ---- a row

-- What a move makes of a machine.
abbrev pub made : Doing → List ℕ → ℕ → List Thread → List Thread → List Key → Option Regs → ℕ → Machine
made mv rs p A Q ks b c = machine p (dropped (wins mv) (pushes p mv rs ++ A)) (Q ++ eaten mv rs) ks
    (best_of (wins mv) rs b) c

module _ (text : List ℕ) (p key : ℕ) (rs : List ℕ) (A Q : List Thread) (ks : List Key) (b : Option Regs) (c : ℕ)
    (small : p < position_limit) where
  abbrev before : Option ℕ
  before = byte_before text p

  abbrev after : Option ℕ
  after = byte_after text p

  abbrev M : Machine
  M = machine p A Q ks b c

  abbrev flag : Bool
  flag = eqb (flag_of key) 1

  abbrev lost : Machine
  lost = machine p A (Q ++ []) ks b c

  loses : M ≡ lost
  loses = ap (λ (q : List Thread). machine p A q ks b c) (sym (append-nil Q))

  on_with : {k : Key} {ρ : Regs} (k' : ℕ) (rs' : List ℕ) → k ≡ key_of k' → ρ ≡ map reg_of rs'
      → machine p (thread k ρ ∷ A) Q ks b c ≡ machine p (thread_of k' rs' ∷ A) (Q ++ []) ks b c
  on_with k' rs' e f = ap₂ (λ (t : Thread) (q : List Thread). machine p (t ∷ A) q ks b c) (ap₂ thread e f)
      (sym (append-nil Q))

  goes_to : (t : ℕ) → at t flag ≡ key_of (key_number t (flag_of key))
  goes_to t = sym (key_of_lem t (flag_of key) (omega arith))

  goes_next : at (suc (row_of key)) flag ≡ key_of (next_key key)
  goes_next = sym (key_next key)

  may_eat : (t : Bool) → exec (cond t (eat (at (suc (row_of key)) true)) lose) (map reg_of rs) M ≡ made
      (cond t (Eat (key_number (row_of key + 1) 1)) Lose) rs p A Q ks b c
  may_eat true = ap (λ (k : Key). machine p A (Q ++ (thread k (map reg_of rs) ∷ [])) ks b c)
      (sym (key_after (row_of key) 1 (omega arith)))
  may_eat false = loses

  may_go : (t : Bool) {k : Key} (k' : ℕ) → k ≡ key_of k'
      → exec (cond t (on (λ ρ. ρ) k) lose) (map reg_of rs) M ≡ made (cond t (On k') Lose) rs p A Q ks b c
  may_go true k' e = on_with k' rs e refl
  may_go false k' e = loses

  set_position : (i : ℕ) → set (map reg_of rs) i (some p) ≡ map reg_of (set rs i p)
  set_position i = ap (set (map reg_of rs) i) (sym (reg_some p small)) ∙ sym (map_set rs i p)

  means : (row : Row) → exec (act (text_of text) p (row_of key) flag row) (map reg_of rs) M ≡ made
      (chosen before after key row) rs p A Q ks b c
  unfolding fits holds_at opened closed cleared
  means accept = ap (λ (q : List Thread). machine p [] q ks (some (map reg_of rs)) c) (sym (append-nil Q))
  means (consume s) = may_eat (passes (has s) after)
  means (jump t) = on_with (key_number t (flag_of key)) rs (goes_to t) refl
  means (fork t u) =
      ap₂ (λ (ts q : List Thread). machine p ts q ks b c)
      (ap₂ (λ (k l : Key). thread k (map reg_of rs) ∷ thread l (map reg_of rs) ∷ A) (goes_to t) (goes_to u))
      (sym (append-nil Q))
  means (opens k) =
      let e : k + k ≡ start_of k = omega arith in
      on_with (next_key key) (set rs (start_of k) p) goes_next (rw e (set_position (start_of k)))
  means (closes k) =
      let e : suc (k + k) ≡ end_of k = omega arith in
      on_with (next_key key) (set rs (end_of k) p) goes_next
      (ap (λ (j : ℕ). set (map reg_of rs) j (some p)) e ∙ set_position (end_of k))
  means (reset l h) =
      let n : ℕ = suc h - l in
      let e : n + n ≡ start_of (h + 1) - start_of l = omega arith in
      let f : l + l ≡ start_of l = omega arith in
      on_with (next_key key) (wipe (start_of (h + 1) - start_of l) (start_of l) rs) goes_next
      (ap₂ (λ (m j : ℕ). wiped m j (map reg_of rs)) e f ∙ sym (map_wipe (start_of (h + 1) - start_of l) (start_of l) rs))
  means begin = on_with (key_number (row_of key + 1) 0) rs (sym (key_after (row_of key) 0 (omega arith))) refl
  means (end t) = may_go flag (key_number t (flag_of key)) (goes_to t)
  means (assertion a) = may_go (asserts a before after) (next_key key) goes_next

  -- A step of a thread whose key was not executed at this position, and of one whose key was.
  module _ (code : List ℕ) (low : row_of key < rows_said code) where
    pub fresh_step : among (key_of key) ks ≡ false
        → step (moves_of code text) (machine p (thread_of key rs ∷ A) Q ks b c) ≡ exec
        (act (text_of text) p (row_of key) flag (row_in code (row_of key))) (map reg_of rs)
        (machine p A Q (key_of key ∷ ks) b (suc c))
    fresh_step h =
        let row : row_at (rows_in code (rows_said code) 0) (row_of key) ≡ row_in code (row_of key) =
        rows_in_at code (rows_said code) 0 (row_of key) low ∙ ap (row_in code) (omega arith) in
        rw h (ap (λ (r : Row). exec (act (text_of text) p (row_of key) flag r) (map reg_of rs)
        (machine p A Q (key_of key ∷ ks) b (suc c))) row)

    pub seen_step : among (key_of key) ks ≡ true
        → step (moves_of code text) (machine p (thread_of key rs ∷ A) Q ks b c) ≡ machine p A Q ks b c
    seen_step h = rw h

-- A thread's step, by the move that its row makes.
pub steps_as : (text code : List ℕ) (spot : Spot) (key : ℕ) (rs : List ℕ) (A Q : List Thread) (ks : List Key)
    (b : Option Regs) (c : ℕ) → spot.position < position_limit → row_of key < rows_said code → Sees text spot
    → among (key_of key) ks ≡ false → step (moves_of code text) (machine spot.position (thread_of key rs ∷ A) Q ks b c) ≡ made
    (chosen (byte_of spot.before) (byte_of spot.after) key (row_in code (row_of key))) rs spot.position A Q
    (key_of key ∷ ks) b (suc c)
steps_as text code spot key rs A Q ks b c small low sees h =
    fresh_step text spot.position key rs A Q ks b c small code low h
    ∙ means text spot.position key rs A Q (key_of key ∷ ks) b (suc c) small (row_in code (row_of key))
    ∙ ap₂ (λ (u v : Option ℕ). made (chosen u v key (row_in code (row_of key))) rs spot.position A Q (key_of key ∷ ks) b
    (suc c)) (sym sees.before) (sym sees.after)

-- ---- some steps

module _ (move : ℕ → Key → Move) where
  snoc : (n : ℕ) (M : Machine) → steps move n (step move M) ≡ step move (steps move n M)
  unfolding steps
  snoc zero M = refl
  snoc (suc n) M = snoc n (step move M)

  pub add_steps : (m n : ℕ) (M : Machine) → steps move n (steps move m M) ≡ steps move (m + n) M
  unfolding steps
  add_steps zero n M = let e : n ≡ 0 + n = omega arith in ap (λ (k : ℕ). steps move k M) e
  add_steps (suc m) n M = let e : suc (m + n) ≡ suc m + n = omega arith in add_steps m n (step move M)
      ∙ ap (λ (k : ℕ). steps move k M) e

module _ {move : ℕ → Key → Move} where
  pub leads_here : {M N : Machine} → M ≡ N → Leads move M N
  unfolding steps
  leads_here e = record { turns = 0; there = e }

  pub leads_step : {M N N' : Machine} → Leads move M N → step move N ≡ N' → Leads move M N'
  unfolding steps
  leads_step {M} g e = record { turns = suc g.turns; there = snoc move g.turns M ∙ ap (step move) g.there ∙ e }

  pub leads_to_lem : {M N N' : Machine} → Leads move M N → N ≡ N' → Leads move M N'
  leads_to_lem g e = record { turns = g.turns; there = g.there ∙ e }

  pub leads_on : {M N N' : Machine} → Leads move M N → Leads move N N' → Leads move M N'
  leads_on {M} g h = record {
    turns = g.turns + h.turns;
    there = sym (add_steps move g.turns h.turns M)
        ∙ ap (steps move h.turns) g.there ∙ h.there;
  }
