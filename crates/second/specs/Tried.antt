-- The machine, for any moves, answers what an ordered search with a memory does: the first thread with all that comes of it
-- before the second, and no key twice at a position.
use Rattle.std.specs.Prelude.{◌≡◌, refl, true, false, List, [], ◌∷◌, ◌++◌}
use Rattle.std.proofs.Common.{sym, ◌∙◌}
use Rattle.std.proofs.Math.Path.{subst⁻¹}
use Rattle.std.proofs.lemmas.Bool.{false≢true}
use Rattle.std.proofs.Math.Option.{Option, none, some}
use Prim.Native.Nat.{ℕ, zero, suc}
use Rattle.meaning.specs.Tests.{by_test}
use Rattle.meaning.specs.Text.{Regs}
use Rattle.meaning.specs.Results.{or_else, or_else_none}
use Rattle.machine.specs.Rows.{Key}
use Rattle.machine.specs.Steps.{Move, Move.win, Move.lose, Move.eat, Move.on, Move.both, Thread, thread, Machine}
use Rattle.machine.specs.Steps.{Machine.machine}
use Rattle.second.specs.Plain.{Memory, nothing}
use Rattle.machine.specs.Steps.{among, exec, step, steps, begun, Done, best}

-- A memory is here by distance from a position: what was tried at it, and at the positions behind it.
abbrev pub behind : Memory → Memory
behind X d = X (suc d)

abbrev pub stored : List Key → Memory → Memory
stored s Z zero = s
stored s Z (suc d) = Z d

fresh : stored [] nothing ≡ nothing
fresh = λ j d. go d j
  where
    go : (d : ℕ) → stored [] nothing d ≡ nothing d
    go zero = refl
    go (suc d) = refl

module _ (move : ℕ → Key → Move) where
  -- The threads of a list are tried at position i, in order, the first with all that comes of it before the second: what is
  -- found, and what has been tried then.
  pub data Tried : ℕ → List Thread → Memory → Option Regs → Memory → Type 0 where
    done : {i : ℕ} {X : Memory} → Tried i [] X none X
    again : {i : ℕ} {t : Thread} {ts : List Thread} {X Y : Memory} {o : Option Regs} → among t.key (X 0) ≡ true
        → Tried i ts X o Y → Tried i (t ∷ ts) X o Y
    won : {i : ℕ} {t : Thread} {ts : List Thread} {X Y : Memory} → among t.key (X 0) ≡ false → move i t.key ≡ win
        → Tried i (t ∷ ts) X (some t.regs) Y
    lost : {i : ℕ} {t : Thread} {ts : List Thread} {X Y : Memory} {o : Option Regs} → among t.key (X 0) ≡ false
        → move i t.key ≡ lose → Tried i ts (stored (t.key ∷ X 0) (behind X)) o Y → Tried i (t ∷ ts) X o Y
    ate_won : {i : ℕ} {t : Thread} {ts : List Thread} {X Y Z : Memory} {ρ : Regs} {k : Key} → among t.key (X 0) ≡ false
        → move i t.key ≡ eat k → Tried (suc i) (thread k t.regs ∷ []) (behind X) (some ρ) Z
        → Tried i (t ∷ ts) X (some ρ) Y
    ate : {i : ℕ} {t : Thread} {ts : List Thread} {X Y Z : Memory} {o : Option Regs} {k : Key} → among t.key (X 0) ≡ false
        → move i t.key ≡ eat k → Tried (suc i) (thread k t.regs ∷ []) (behind X) none Z
        → Tried i ts (stored (t.key ∷ X 0) Z) o Y → Tried i (t ∷ ts) X o Y
    went : {i : ℕ} {t : Thread} {ts : List Thread} {X Y : Memory} {o : Option Regs} {f : Regs → Regs} {k : Key}
        → among t.key (X 0) ≡ false → move i t.key ≡ on f k
        → Tried i (thread k (f t.regs) ∷ ts) (stored (t.key ∷ X 0) (behind X)) o Y → Tried i (t ∷ ts) X o Y
    split : {i : ℕ} {t : Thread} {ts : List Thread} {X Y : Memory} {o : Option Regs} {k l : Key}
        → among t.key (X 0) ≡ false → move i t.key ≡ both k l
        → Tried i (thread k t.regs ∷ thread l t.regs ∷ ts) (stored (t.key ∷ X 0) (behind X)) o Y
        → Tried i (t ∷ ts) X o Y

  -- Threads behind a winner make no difference; threads behind others that all fail are tried next.
  more : {i : ℕ} {ts : List Thread} (us : List Thread) {X Z : Memory} {ρ : Regs} → Tried i ts X (some ρ) Z
      → Tried i (ts ++ us) X (some ρ) Z
  more us (again e d) = again e (more us d)
  more us (won e m) = won e m
  more us (lost e m d) = lost e m (more us d)
  more us (ate_won e m d) = ate_won e m d
  more us (ate e m d d') = ate e m d (more us d')
  more us (went e m d) = went e m (more us d)
  more us (split e m d) = split e m (more us d)

  chained : {i : ℕ} {ts us : List Thread} {X Z Y : Memory} {o : Option Regs} → Tried i ts X none Z → Tried i us Z o Y
      → Tried i (ts ++ us) X o Y
  chained done g = g
  chained (again e d) g = again e (chained d g)
  chained (lost e m d) g = lost e m (chained d g)
  chained (ate e m d d') g = ate e m d (chained d' g)
  chained (went e m d) g = went e m (chained d g)
  chained (split e m d) g = split e m (chained d g)

  -- Nothing was tried at a position that is new.
  anew : {i : ℕ} {ts : List Thread} {o : Option Regs} {Y : Memory} → Tried i ts nothing o Y → Tried i ts (stored [] nothing) o Y
  anew {i} {ts} {o} {Y} d = subst⁻¹ (λ (X : Memory). Tried i ts X o Y) fresh d

  -- A machine that will end with o: its queue wins, or the queue fails and what is active, or else what was recorded, is o.
  pub data Good (i : ℕ) (a q : List Thread) (s : List Key) (b o : Option Regs) : Type 0 where
    later : {ρ : Regs} {Z : Memory} → Tried (suc i) q nothing (some ρ) Z → some ρ ≡ o → Good i a q s b o
    now : {o' : Option Regs} {Z X : Memory} → Tried (suc i) q nothing none Z → Tried i a (stored s Z) o' X → or_else o' b ≡ o
        → Good i a q s b o

  abbrev pub Fine : Machine → Option Regs → Type 0
  Fine (machine i a q s b c) o = Good i a q s b o

  waits : (i : ℕ) (a q : List Thread) (s : List Key) (b : Option Regs) (c : ℕ) (ρ' : Regs) (o : Option Regs) {ρ : Regs}
      {Z : Memory}
      → Tried (suc i) q nothing (some ρ) Z → some ρ ≡ o → (m : Move) → Fine (exec m ρ' (machine i a q s b c)) o
  waits i a q s b c ρ' o d e win = later d e
  waits i a q s b c ρ' o d e lose = later d e
  waits i a q s b c ρ' o d e (eat k) = later (more (thread k ρ' ∷ []) d) e
  waits i a q s b c ρ' o d e (on f k) = later d e
  waits i a q s b c ρ' o d e (both k l) = later d e

  -- A step keeps it.
  pub keeps : (M : Machine) (o : Option Regs) → Fine M o → Fine (step move M) o
  keeps (machine i [] [] s b c) o g = g
  keeps (machine i [] (t ∷ q) s b c) o (later d e) = now done (anew d) e
  keeps (machine i [] (t ∷ q) s b c) o (now d done e) = now done (anew d) e
  keeps (machine i (t ∷ a) q s b c) o (later d e) = by_test (λ M. Fine M o) (among t.key s) (λ x. later d e)
      (λ x. waits i a q (t.key ∷ s) b (suc c) t.regs o d e (move i t.key))
  keeps (machine i (t ∷ a) q s b c) o (now d d' e) = by_test (λ M. Fine M o) (among t.key s) (drop d d' e) (go d d' e)
    where
      drop : {o' : Option Regs} {Z Y : Memory} → Tried (suc i) q nothing none Z → Tried i (t ∷ a) (stored s Z) o' Y
          → or_else o' b ≡ o → among t.key s ≡ true → Good i a q s b o
      drop d (again x d') e y = now d d' e
      drop d (won x m) e y = absurd (false≢true (sym x ∙ y))
      drop d (lost x m d') e y = absurd (false≢true (sym x ∙ y))
      drop d (ate_won x m d') e y = absurd (false≢true (sym x ∙ y))
      drop d (ate x m d' d'') e y = absurd (false≢true (sym x ∙ y))
      drop d (went x m d') e y = absurd (false≢true (sym x ∙ y))
      drop d (split x m d') e y = absurd (false≢true (sym x ∙ y))

      go : {o' : Option Regs} {Z Y : Memory} → Tried (suc i) q nothing none Z → Tried i (t ∷ a) (stored s Z) o' Y
          → or_else o' b ≡ o → among t.key s ≡ false → Fine (exec (move i t.key) t.regs (machine i a q (t.key ∷ s) b (suc c))) o
      go d (again x d') e y = absurd (false≢true (sym y ∙ x))
      go d (won x m) e y = rw m (now d done e)
      go d (lost x m d') e y = rw m (now d d' e)
      go d (ate_won x m d') e y = rw m (later (chained d d') e)
      go d (ate x m d' d'') e y = rw m (now (chained d d') d'' e)
      go d (went x m d') e y = rw m (now d d' e)
      go d (split x m d') e y = rw m (now d d' e)

  -- When it has ended, it has recorded o.
  pub ended : (M : Machine) (o : Option Regs) → Done M → Fine M o → best M ≡ o
  ended (machine i [] [] s b c) o d (now done done e) = e
  ended (machine i [] [] s b c) o d (later {ρ = ρ} {Z = Z} x e) = elim x [ ]
  ended (machine i [] (t ∷ q) s b c) o d g = absurd d
  ended (machine i (t ∷ a) q s b c) o d g = absurd d

  -- A machine that begins with threads will end with what trying them finds.
  pub starts : (i : ℕ) (ts : List Thread) {o : Option Regs} {Y : Memory} → Tried i ts nothing o Y → Fine (begun i ts) o
  starts i ts {o} d = now done (anew d) (or_else_none o)

  pub after : (m : ℕ) (M : Machine) (o : Option Regs) → Fine M o → Fine (steps move m M) o
  unfolding steps
  after zero M o g = g
  after (suc m) M o g = after m (step move M) o (keeps M o g)
