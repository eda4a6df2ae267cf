-- Where no Begin and no End stands outside the prefix of a compiled program no row is inner, and each row is executed at most
-- once at a position; and which patterns those are.
use Rattle.std.specs.Prelude.{◌≡◌, ◌↔◌, Bool, ◌&&◌, ◌||◌, List, [], ◌∷◌, eqb, leb}
use Rattle.std.proofs.Math.Path.{refl}
use Rattle.std.proofs.Common.{sym, ap, subst, ◌∙◌}
use Rattle.std.proofs.Math.Bool.{true, false, or-true, or-false}
use Rattle.std.specs.Bool.{beq}
use Rattle.std.proofs.lemmas.Bool.{false≢true, lt-leb}
use Rattle.std.proofs.Math.Option.{Option, none, some}
use Prim.Native.Nat.{ℕ, zero, suc, ◌+◌, ◌*◌, ◌-◌, ◌≤◌, ◌<◌}
use native.Mathlib.Omega.{arith}
use Rattle.std.proofs.Math.Decide.{dec_le}
use Rattle.std.proofs.Math.Dec.{eqb-suc-zero}
use Rattle.meaning.specs.Tests.{and_true, beq_eq}
use Rattle.meaning.specs.Text.{Input, size}
use Rattle.meaning.specs.Node.{Node, Node.many}
use Rattle.meaning.specs.All.{All}
use Rattle.machine.specs.Rows.{Row, Row.accept, Row.consume, Row.jump, Row.fork, Row.opens, Row.closes, Row.reset}
use Rattle.machine.specs.Rows.{Row.begin, Row.end, Row.assertion}
use Rattle.machine.specs.Rows.{Program, row_count, row_at, Key}
use Rattle.machine.specs.Steps.{move_of, same_key, among, Machine, steps, begun, seen, count, first_thread, run, match_row}
use Rattle.machine.specs.Layout.{fork_of, program_of}
use Rattle.machine.specs.Laid.{Turn, Laid, Laid.nothing, Laid.one, Laid.test, Laid.inside, Laid.chain, Laid.either}
use Rattle.machine.specs.Laid.{Laid.must, Laid.stop, Laid.may, Laid.loop, grows, Each, nil, cons, join, Stand}
use Rattle.machine.specs.Laid.{program_stands}
use Rattle.machine.specs.Inner.{open_behind, open_at, is_inner, inner_below, inner_rows, marks_turn, Straight, RowsApart}
use Rattle.machine.specs.Inner.{fixed}
use Rattle.machine.proofs.Bound.{same_key_refl, May, Apart, Bound, executes_apart}
use Rattle.machine.proofs.Tight.{flag_of, one_each, bound, run_tight}

-- Keys with the flags of their rows, each once: no two have the same row.
rows_apart : (s : List Key) → All (λ k. k.flag ≡ flag_of k.row) s → Apart s → RowsApart s
rows_apart [] f a = tt
rows_apart (k ∷ s) f a = (others s f.1 a.0, rows_apart s f.1 a.1)
  where
    differs : (l : Key) → l.flag ≡ flag_of l.row → same_key k l ≡ false → l.row ≡ k.row → ⊥
    differs l h e same =
        let flag : l.flag ≡ k.flag = h ∙ ap flag_of same ∙ sym f.0 in
        let here : l ≡ k = λ i. record { row = same i; flag = flag i } in
        false≢true (sym e ∙ ap (same_key k) here ∙ same_key_refl k)

    neither : (x y : Bool) → (x || y) ≡ false → (x ≡ false) × (y ≡ false)
    neither true y e = absurd (false≢true (sym e))
    neither false y e = (refl, e)

    others : (s : List Key) → All (λ k. k.flag ≡ flag_of k.row) s → among k s ≡ false → All (λ l. l.row ≡ k.row → ⊥) s
    others [] f e = tt
    others (l ∷ s) f e =
        let (here, later) = neither (same_key k l) (among k s) e in
        (differs l f.0 here, others s f.1 later)

-- ---- no turn is open, no row is inner

module _ (g : ℕ) (r : Node) (straight : Straight (program_of g r)) where
  abbrev p : Program
  p = program_of g r

  abbrev n : ℕ
  n = row_count p

  closed : (q : ℕ) → match_row ≤ q → q ≤ n → open_at p.rows q ≡ 0
  unfolding open_at
  closed zero h l = absurd (omega arith)
  closed (suc q) h l = go (dec_le match_row q) (λ d. closed q d (omega arith))
    where
      quiet : (row : Row) (d : ℕ) → d ≡ 0 → marks_turn row ≡ false → open_behind row d ≡ 0
      quiet accept d e m = e
      quiet (consume s) d e m = e
      quiet (jump t) d e m = e
      quiet (fork t u) d e m = e
      quiet (opens k) d e m = e
      quiet (closes k) d e m = e
      quiet (reset x y) d e m = e
      quiet begin d e m = absurd (false≢true (sym m))
      quiet (end t) d e m = omega arith
      quiet (assertion a) d e m = e

      go : Dec (match_row ≤ q) → (match_row ≤ q → open_at p.rows q ≡ 0) → open_at p.rows (suc q) ≡ 0
      go (yes d) before = quiet (row_at p.rows q) (open_at p.rows q) (before d) (straight q d (omega arith))
      go (no d) before = let e : q ≡ 4 = omega arith in rw e

  not_inner : (q : ℕ) → q < n → is_inner p.rows q ≡ false
  not_inner q l = go (dec_le match_row q)
    where
      both : (b : Bool) → (b && false) ≡ false
      both true = refl
      both false = refl

      go : Dec (match_row ≤ q) → is_inner p.rows q ≡ false
      go (yes d) = rw (closed q d (omega arith)) (both (leb match_row q))
      go (no d) = rw (lt-leb match_row q (omega arith))

  none_below : (m : ℕ) → m ≤ n → inner_below p.rows m ≡ 0
  unfolding inner_below
  none_below zero h = refl
  none_below (suc m) h = rw (not_inner m h) (omega (arith, none_below m (omega arith)))

  pub none_inner : inner_rows p ≡ 0
  none_inner = none_below n (omega arith)

  module _ (w : Input) (row start : ℕ) (here : row < n) (flag : flag_of row ≡ true) (within : start ≤ size w) where
    -- At each position that a run comes to, each row is executed at most once,
    pub once : (m : ℕ) → RowsApart (seen (steps (move_of w p.rows) m (begun start (first_thread p row ∷ []))))
    once m =
        let M : Machine = steps (move_of w p.rows) m (begun start (first_thread p row ∷ [])) in
        let b : Bound (one_each p) (size w) start (n + inner_rows p) M = bound g r w row start here flag within m in
        let (allowed, apart) = executes_apart (one_each p) (size w) start (n + inner_rows p) M b in
        rows_apart (seen M) (flags (seen M) allowed) apart
      where
        flags : (s : List Key) → All (May (one_each p)) s → All (λ k. k.flag ≡ flag_of k.row) s
        flags [] h = tt
        flags (k ∷ s) h =
            let same : Bool = beq k.flag (flag_of k.row) in
            let e : (same || false) ≡ true = subst (λ i. (same || i) ≡ true) (not_inner k.row h.0.0) h.0.1 in
            (beq_eq k.flag (flag_of k.row) (sym (or-false same) ∙ e), flags s h.1)

    -- and so at most n rows for each position from the start to the end, both included.
    pub run_once : count (run w p start row) ≤ n * (size w - start + 1)
    run_once =
        let e : n + inner_rows p ≡ n = omega (arith, none_inner) in
        subst (λ (k : ℕ). count (run w p start row) ≤ k * (size w - start + 1)) e (run_tight g r w row start here flag within)

-- ---- which patterns those are

-- Neither Begin nor End, whatever the address.
abbrev NoTurn : ℕ → Row → Type 0
NoTurn p row = marks_turn row ≡ false

fork_no_turn : (lazy : Bool) (q k : ℕ) → marks_turn (fork_of lazy q k) ≡ false
fork_no_turn false q k = refl
fork_no_turn true q k = refl

module _ {rows : List Row} where
  -- A turn that can be left out has a Begin.
  turns : {lazy : Bool} {r : Node} {q k m back : ℕ} → Turn rows lazy r q k m back → suc (suc (suc q)) ≤ m
      → (k' : ℕ) → suc m ≤ k' → Each rows NoTurn q k' → ⊥
  turns {q = q} t h k' h' s = false≢true (sym (s.each (suc q) (omega arith) (omega arith)) ∙ ap marks_turn t.begins)

  narrow : {q k : ℕ} (a b : ℕ) → q ≤ a → b ≤ k → Each rows NoTurn q k → Each rows NoTurn a b
  narrow a b h h' s = record { each = λ p l l'. s.each p (omega arith) (omega arith) }

  laid_fixed : {r : Node} {q k : ℕ} → Laid rows r q k → Each rows NoTurn q k → fixed r ≡ true
  unfolding fixed
  laid_fixed nothing s = refl
  laid_fixed (one e) s = refl
  laid_fixed (test e) s = refl
  laid_fixed (inside {q = q} {m = m} e l e') s = laid_fixed l (narrow (suc q) m (omega arith) (omega arith) s)
  laid_fixed (chain {q = q} {m = m} {k = k} l l') s =
      rw (laid_fixed l (narrow q m (omega arith) (grows l') s)) (laid_fixed l' (narrow m k (grows l) (omega arith) s))
  laid_fixed (either {q = q} {m = m} {k = k} e l e' l') s =
      let d : suc q ≤ m = grows l in
      let d' : suc m ≤ k = grows l' in
      rw (laid_fixed l (narrow (suc q) m (omega arith) (omega arith) s))
      (laid_fixed l' (narrow (suc m) k (omega arith) (omega arith) s))
  laid_fixed (must {n = n} {e = x} {lazy = lazy} {r = r} {q = q} {m = m} {k = k} e l l') s =
      let d : suc q ≤ m = grows l in
      let d' : m ≤ k = grows l' in
      more x (laid_fixed l (narrow (suc q) m (omega arith) (omega arith) s))
      (laid_fixed l' (narrow m k (omega arith) (omega arith) s))
    where
      more : (x : Option ℕ) → fixed r ≡ true → fixed (many n x lazy r) ≡ true → fixed (many (suc n) x lazy r) ≡ true
      more none h h' = absurd (false≢true h')
      more (some z) h h' = rw ((and_true (eqb z 0) (eqb n 0 || fixed r) h').0, h) (or-true (eqb (suc n) 0))
  laid_fixed stop s = refl
  laid_fixed (may {k = k} t l l') s = absurd (turns t (grows l) k (grows l') s)
  laid_fixed (loop {m = m} t l) s = absurd (turns t (grows l) (suc m) (omega arith) s)

  fixed_laid : {r : Node} {q k : ℕ} → Laid rows r q k → fixed r ≡ true → Each rows NoTurn q k
  unfolding fixed
  fixed_laid nothing h = nil
  fixed_laid (one e) h = cons e refl nil
  fixed_laid (test e) h = cons e refl nil
  fixed_laid (inside e l e') h = cons e refl (join (fixed_laid l h) (cons e' refl nil))
  fixed_laid (chain {r = r} {s = s} l l') h =
      let (a, b) = and_true (fixed r) (fixed s) h in join (fixed_laid l a) (fixed_laid l' b)
  fixed_laid (either {r = r} {s = s} e l e' l') h =
      let (a, b) = and_true (fixed r) (fixed s) h in
      cons e refl (join (fixed_laid l a) (cons e' refl (fixed_laid l' b)))
  fixed_laid (must {n = n} {e = x} {lazy = lazy} {r = r} e l l') h =
      let (a, b) = less x h in cons e refl (join (fixed_laid l a) (fixed_laid l' b))
    where
      less : (x : Option ℕ) → fixed (many (suc n) x lazy r) ≡ true → (fixed r ≡ true) × (fixed (many n x lazy r) ≡ true)
      less none h = absurd (false≢true h)
      less (some z) h =
          let (a, b) = and_true (eqb z 0) (fixed r) (rw (eqb-suc-zero n) at h) in (b, rw (a, b) (or-true (eqb n 0)))
  fixed_laid stop h = nil
  fixed_laid (may {n = n} t l l') h = absurd (false≢true (rw (eqb-suc-zero n) at h))
  fixed_laid (loop t l) h = absurd (false≢true h)

-- A pattern's program has no Begin and no End outside the prefix exactly if every quantifier that writes rows has its minimum
-- for its maximum.
pub straight_pattern : (g : ℕ) (r : Node) → Straight (program_of g r) ↔ (fixed r ≡ true)
unfolding fixed
straight_pattern g r = (
  λ s. laid_fixed stand.pattern (record { each = λ q h l. s q h (omega (arith, stand.ends)) }),
  λ f q h l. (join (fixed_laid stand.pattern f) (cons stand.accepts refl nil)).each q h (omega (arith, stand.ends)),
)
  where
    stand : Stand g r
    stand = program_stands g r
