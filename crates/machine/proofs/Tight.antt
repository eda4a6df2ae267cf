-- The bound for compiled programs: at a position each row is executed at most once, and inner rows once more.
use Rattle.std.specs.Prelude.{◌≡◌, refl, Bool, true, false, cond, not, ◌||◌, List, [], ◌∷◌, ℕ, zero, suc, ◌+◌, ◌*◌, ◌-◌, ◌≤◌, ◌<◌, eqb, length}
use Rattle.std.proofs.Common.{sym, ap, ◌∙◌, arith, le-leb}
use Rattle.std.specs.Bool.{beq}
use Rattle.std.proofs.lemmas.Bool.{false≢true}
use Rattle.std.proofs.Math.Decide.{dec_lt}
use Rattle.meaning.specs.Tests.{by_test, eq_false}
use Rattle.meaning.specs.Text.{Input, size, fits, holds_at, fits_within}
use Rattle.meaning.specs.Node.{Node}
use Rattle.machine.specs.Rows.{Row, Row.accept, Row.consume, Row.jump, Row.fork, Row.opens, Row.closes, Row.reset}
use Rattle.machine.specs.Rows.{Row.begin, Row.end, Row.assertion}
use Rattle.machine.specs.Rows.{Program, row_count, row_at, Key, at}
use Rattle.machine.specs.Steps.{Move, act, move_of, Machine, steps, begun, seen, count, enough, first_thread, run}
use Rattle.machine.specs.Steps.{match_row}
use Rattle.machine.specs.Layout.{any_byte, fork_of, program_of}
use Rattle.machine.specs.Laid.{Turn, Laid, Laid.nothing, Laid.one, Laid.test, Laid.inside, Laid.chain, Laid.either}
use Rattle.machine.specs.Laid.{Laid.must, Laid.stop, Laid.may, Laid.loop, grows, Each, nil, cons, join, Stand}
use Rattle.machine.specs.Laid.{program_stands}
use Rattle.machine.specs.Inner.{open_behind, open_at, some?, is_inner, inner_below, inner_rows}
use Rattle.machine.proofs.Bound.{free, Keys, May, Inside, Bound, counts, executes_few}
use Rattle.machine.proofs.Bound.{begins, after}

-- The flag that a row runs with, unless it is inner: clear behind the prefix's Begin up to its Consume, else set.
abbrev pub flag_of : ℕ → Bool
flag_of q = not (eqb q 2 || eqb q 3)

-- The keys that a compiled program may execute: a row with its flag, and an inner row with either. They are n + inner.
abbrev pub allowed_in : List Row → Key → Bool
allowed_in rows k = beq k.flag (flag_of k.row) || is_inner rows k.row

pub few_keys : (rows : List Row) (n : ℕ) → free (allowed_in rows) n [] ≤ n + inner_below rows n
unfolding inner_below
few_keys rows zero = omega arith
few_keys rows (suc n) = omega (arith, few_keys rows n, two (flag_of n) (is_inner rows n))
  where
    two : (f i : Bool) → cond (beq false f || i) 1 0 + cond (beq true f || i) 1 0 ≡ 1 + cond i 1 0
    two true true = refl
    two true false = refl
    two false true = refl
    two false false = refl

abbrev pub one_each : Program → Keys
one_each p = record {
  rows = row_count p;
  allowed = allowed_in p.rows;
  most = row_count p + inner_rows p;
  few = few_keys p.rows (row_count p);
}

-- They are no more than 2n.
pub inner_few : (rows : List Row) (n : ℕ) → inner_below rows n ≤ n
unfolding inner_below
inner_few rows zero = omega arith
inner_few rows (suc n) = by_test (λ (k : ℕ). k + inner_below rows n ≤ suc n) (is_inner rows n)
    (λ e. omega (arith, inner_few rows n)) (λ e. omega (arith, inner_few rows n))

-- ---- rows that are laid lead to rows where as many turns are open

pub next_open : (rows : List Row) (q : ℕ) {row : Row} → row_at rows q ≡ row → open_at rows (suc q) ≡ open_behind row (open_at rows q)
unfolding open_at
next_open rows q e = ap (λ row. open_behind row (open_at rows q)) e

module _ (rows : List Row) (lo hi : ℕ) where
  -- Row p leads to row t, between two rows, where as many turns are open.
  record Level (p t : ℕ) : Type 0 where
    low : lo ≤ t
    high : t ≤ hi
    same : open_at rows t ≡ open_at rows p

  level : (p t : ℕ) → lo ≤ t → t ≤ hi → open_at rows t ≡ open_at rows p → Level p t
  level p t a b e = record { low = a; high = b; same = e }

  -- A row leads to such rows where it does not go on to the next; an End, which closes a turn, to rows between the two.
  abbrev Goes : ℕ → Row → Type 0
  Goes p accept = Unit {0}
  Goes p (consume s) = Unit {0}
  Goes p (jump t) = Level p t
  Goes p (fork t u) = Level p t × Level p u
  Goes p (opens k) = Unit {0}
  Goes p (closes k) = Unit {0}
  Goes p (reset l h) = Unit {0}
  Goes p begin = Unit {0}
  Goes p (end t) = (lo ≤ t) × (t ≤ hi)
  Goes p (assertion a) = Unit {0}

  -- From row q to row k all do, and as many turns are open at k as at q.
  pub record Even (q k : ℕ) : Type 0 where
    pub same : open_at rows k ≡ open_at rows q
    goes : Each rows Goes q k

  none : {q : ℕ} → Even q q
  none = record { same = refl; goes = nil }

  row : {q k : ℕ} {x : Row} → row_at rows q ≡ x → open_behind x (open_at rows q) ≡ open_at rows q → Goes q x → Even (suc q) k
      → Even q k
  row {q} e f g s = record { same = s.same ∙ next_open rows q e ∙ f; goes = cons e g s.goes }

  both : {q m k : ℕ} → Even q m → Even m k → Even q k
  both s t = record { same = t.same ∙ s.same; goes = join s.goes t.goes }

  fork_open : (lazy : Bool) (q k d : ℕ) → open_behind (fork_of lazy q k) d ≡ d
  fork_open false q k d = refl
  fork_open true q k d = refl

  fork_goes : (lazy : Bool) (q k : ℕ) → Level q (suc q) → Level q k → Goes q (fork_of lazy q k)
  fork_goes false q k a b = (a, b)
  fork_goes true q k a b = (b, a)

  -- A turn that can be left out opens one and closes it.
  pub turn_open : {lazy : Bool} {r : Node} {q k m back : ℕ} → Turn rows lazy r q k m back → Even (suc (suc (suc q))) m
      → (open_at rows (suc q) ≡ open_at rows q) × (open_at rows (suc m) ≡ open_at rows q)
  turn_open {lazy} {q = q} {k = k} {m = m} t s =
      let f : open_at rows (suc q) ≡ open_at rows q = next_open rows q t.forks ∙ fork_open lazy q k (open_at rows q) in
      let b : open_at rows (suc (suc q)) ≡ suc (open_at rows (suc q)) = next_open rows (suc q) t.begins in
      let c : open_at rows (suc (suc (suc q))) ≡ open_at rows (suc (suc q)) = next_open rows (suc (suc q)) t.resets in
      let e : open_at rows (suc m) ≡ open_at rows m - 1 = next_open rows m t.ends in
      (f, omega (arith, s.same))

  turn : {lazy : Bool} {r : Node} {q k m back : ℕ} → Turn rows lazy r q k m back → Even (suc (suc (suc q))) m
      → lo ≤ q → suc q ≤ hi → Level q k → (lo ≤ back) × (back ≤ hi) → Even q (suc m)
  turn {lazy} {q = q} {k = k} t s a b out back =
      let (f, e) = turn_open t s in
      let fork : Goes q (fork_of lazy q k) = fork_goes lazy q k (level q (suc q) (omega arith) b f) out in
      let ends : Each rows Goes _ _ = cons t.ends back nil in
      record { same = e; goes = cons t.forks fork (cons t.begins tt (cons t.resets tt (join s.goes ends))) }

  pub even : {r : Node} {q k : ℕ} → Laid rows r q k → lo ≤ q → k ≤ hi → Even q k
  even nothing a b = none
  even (one e) a b = row e refl tt none
  even (test e) a b = row e refl tt none
  even (inside {q = q} {m = m} e l e') a b =
      let d : suc q ≤ m = grows l in
      row e refl tt (both (even l (omega arith) (omega arith)) (row e' refl tt none))
  even (chain {q = q} {m = m} {k = k} l l') a b =
      let d : q ≤ m = grows l in
      let d' : m ≤ k = grows l' in
      both (even l a (omega arith)) (even l' (omega arith) b)
  even (either {q = q} {m = m} {k = k} e l e' l') a b =
      let d : suc q ≤ m = grows l in
      let d' : suc m ≤ k = grows l' in
      let s : Even (suc q) m = even l (omega arith) (omega arith) in
      let s' : Even (suc m) k = even l' (omega arith) b in
      let f : open_at rows (suc q) ≡ open_at rows q = next_open rows q e in
      let f' : open_at rows (suc m) ≡ open_at rows m = next_open rows m e' in
      let first : Level q (suc q) = level q (suc q) (omega arith) (omega arith) f in
      let second : Level q (suc m) = level q (suc m) (omega arith) (omega arith) (f' ∙ s.same ∙ f) in
      row e refl (first, second) (both s (row e' refl (level m k (omega arith) b (s'.same ∙ f')) s'))
  even (must {q = q} {m = m} {k = k} e l l') a b =
      let d : suc q ≤ m = grows l in
      let d' : m ≤ k = grows l' in
      row e refl tt (both (even l (omega arith) (omega arith)) (even l' (omega arith) b))
  even stop a b = none
  even (may {q = q} {m = m} {k = k} t l l') a b =
      let d : suc (suc (suc q)) ≤ m = grows l in
      let d' : suc m ≤ k = grows l' in
      let s : Even (suc (suc (suc q))) m = even l (omega arith) (omega arith) in
      let s' : Even (suc m) k = even l' (omega arith) b in
      let out : Level q k = level q k (omega arith) b (s'.same ∙ (turn_open t s).1) in
      both (turn t s a (omega arith) out (omega arith, omega arith)) s'
  even (loop {q = q} {m = m} t l) a b =
      let d : suc (suc (suc q)) ≤ m = grows l in
      let s : Even (suc (suc (suc q))) m = even l (omega arith) (omega arith) in
      let out : Level q (suc m) = level q (suc m) (omega arith) b (turn_open t s).1 in
      turn t s a (omega arith) out (a, omega arith)

-- ---- so the keys that a compiled program may execute lead to such keys

module _ (g : ℕ) (r : Node) (w : Input) where
  abbrev p : Program
  p = program_of g r

  abbrev rows : List Row
  rows = p.rows

  abbrev n : ℕ
  n = row_count p

  abbrev stand : Stand g r
  stand = program_stands g r

  abbrev Leads : ℕ → Move → Type 0
  Leads i m = Inside (one_each p) (size w) i m

  big : 8 ≤ n
  big = omega (arith, stand.counts)

  -- Outside the prefix: the flag is set, or a turn is open.
  outside : (q : ℕ) (b : Bool) → match_row ≤ q → allowed_in rows (at q b) ≡ (beq b true || some? (open_at rows q))
  outside q b h = rw (eq_false q 2 (λ e. omega arith), eq_false q 3 (λ e. omega arith), le-leb 5 q h)

  set : (q : ℕ) → match_row ≤ q → q < n → May (one_each p) (at q true)
  set q h l = (l, outside q true h)

  to : (q t : ℕ) (b : Bool) → match_row ≤ q → match_row ≤ t → t < n → open_at rows t ≡ open_at rows q
      → allowed_in rows (at q b) ≡ true → May (one_each p) (at t b)
  to q t b hq ht l e a = (l, outside t b ht ∙ ap (λ (d : ℕ). beq b true || some? d) e ∙ sym (outside q b hq) ∙ a)

  acts : (i q : ℕ) (b : Bool) (x : Row) → row_at rows q ≡ x → match_row ≤ q → suc q < n → allowed_in rows (at q b) ≡ true
      → Goes rows match_row (n - 1) q x → Leads i (act w i q b x)
  acts i q b accept e h l a o = tt
  acts i q b (consume s) e h l a o = by_test (Leads i) (fits w s i)
      (λ t. (set (suc q) (omega arith) l, fits_within w s i t)) (λ t. tt)
  acts i q b (jump t) e h l a o = to q t b h o.low (omega (arith, o.high)) o.same a
  acts i q b (fork t u) e h l a o = (
    to q t b h o.0.low (omega (arith, o.0.high)) o.0.same a,
    to q u b h o.1.low (omega (arith, o.1.high)) o.1.same a,
  )
  acts i q b (opens k) e h l a o = to q (suc q) b h (omega arith) l (next_open rows q e) a
  acts i q b (closes k) e h l a o = to q (suc q) b h (omega arith) l (next_open rows q e) a
  acts i q b (reset x y) e h l a o = to q (suc q) b h (omega arith) l (next_open rows q e) a
  acts i q b begin e h l a o = (l, outside (suc q) false (omega arith) ∙ ap some? (next_open rows q e))
  acts i q true (end t) e h l a o = set t o.0 (omega (arith, o.1))
  acts i q false (end t) e h l a o = tt
  acts i q b (assertion x) e h l a o = by_test (Leads i) (holds_at w x i)
      (λ t. to q (suc q) b h (omega arith) l (next_open rows q e) a) (λ t. tt)

  -- From row 5 on: the pattern's rows, and the last, which accepts.
  beyond : (i q : ℕ) (b : Bool) → match_row ≤ q → q < n → allowed_in rows (at q b) ≡ true → Leads i (move_of w rows i (at q b))
  beyond i q b h l a = go (dec_lt q stand.last)
    where
      go : Dec (q < stand.last) → Leads i (move_of w rows i (at q b))
      go (yes d) = acts i q b (row_at rows q) refl h (omega (arith, stand.ends)) a
          ((even rows match_row (n - 1) stand.pattern (omega arith) (omega (arith, stand.ends))).goes.each q h d)
      go (no d) =
          let e : q ≡ stand.last = omega (arith, stand.ends) in
          let f : row_at rows q ≡ accept = ap (row_at rows) e ∙ stand.accepts in
          rw f tt

  leads : (i : ℕ) (k : Key) → May (one_each p) k → Leads i (move_of w rows i k)
  leads i k h = by k.row k.flag h.0 h.1
    where
      may : (q : ℕ) (b : Bool) → q ≤ match_row → allowed_in rows (at q b) ≡ true → May (one_each p) (at q b)
      may q b l a = (omega (arith, big), a)

      by : (q : ℕ) (b : Bool) → q < n → allowed_in rows (at q b) ≡ true → Leads i (move_of w rows i (at q b))
      by zero true l a = (may 5 true (omega arith) refl, may 1 true (omega arith) refl)
      by zero false l a = absurd (false≢true a)
      by (suc zero) b l a = may 2 false (omega arith) refl
      by (suc (suc zero)) true l a = absurd (false≢true a)
      by (suc (suc zero)) false l a = may 3 false (omega arith) refl
      by (suc (suc (suc zero))) b l a = by_test (Leads i) (fits w any_byte i)
          (λ t. (may 4 true (omega arith) refl, fits_within w any_byte i t)) (λ t. tt)
      by (suc (suc (suc (suc zero)))) true l a = may 0 true (omega arith) refl
      by (suc (suc (suc (suc zero)))) false l a = tt
      by (suc (suc (suc (suc (suc q))))) b l a = beyond i (suc (suc (suc (suc (suc q))))) b (omega arith) l a

  -- A run that begins at a row of the program whose flag is set, as the first of searching and of matching.
  module _ (row start : ℕ) (here : row < n) (flag : flag_of row ≡ true) (within : start ≤ size w) where
    abbrev after_steps : ℕ → Machine
    after_steps m = steps (move_of w rows) m (begun start (first_thread p row ∷ []))

    pub bound : (m : ℕ) → Bound (one_each p) (size w) start (n + inner_rows p) (after_steps m)
    bound m = after (one_each p) (size w) start (n + inner_rows p) (move_of w rows) leads m (begun start (first_thread p row ∷ []))
        (begins (one_each p) (size w) start (n + inner_rows p) (first_thread p row ∷ []) ((here, rw flag), tt)
        (omega (arith, big)) (omega arith) within)

    -- At each position that it comes to it executes at most n rows, and inner rows once more,
    pub tight_at_position : (m : ℕ) → length (seen (after_steps m)) ≤ n + inner_rows p
    tight_at_position m = executes_few (one_each p) (size w) start (n + inner_rows p) (after_steps m) (bound m)

    -- and so for each position from the start to the end, both included.
    pub run_tight : count (run w p start row) ≤ (n + inner_rows p) * (size w - start + 1)
    unfolding run
    run_tight = counts (one_each p) (size w) start (n + inner_rows p) (after_steps (enough w n start)) (bound (enough w n start))
