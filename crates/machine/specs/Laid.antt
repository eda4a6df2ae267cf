-- That the rows of a pattern stand as they should: the layout as a relation, without arithmetic.
use Rattle.std.specs.Prelude.{◌≡◌, refl, Bool, true, length}
use Rattle.std.proofs.Common.{sym, ap, subst, zero-mul, suc-mul, arith, length-append}
use Rattle.std.proofs.Math.Option.{Option, none, some}
use mathlib.Core.List.{List, [], ◌∷◌, ◌++◌, append_assoc}
use Prim.Native.Nat.{ℕ, zero, suc, ◌+◌, ◌*◌, ◌≤◌, ◌<◌}
use Rattle.std.proofs.Math.Decide.{dec_lt}
use Rattle.std.proofs.Math.Seq.{get_or-append_seam}
use Rattle.meaning.specs.Node.{Node, Node.empty, Node.bset, Node.assert, Node.group, Node.seq, Node.alt, Node.many, lo, hi}
use Rattle.machine.specs.Rows.{Row, Row.accept, Row.consume, Row.jump, Row.fork, Row.opens, Row.closes, Row.reset}
use Rattle.machine.specs.Rows.{Row.begin, Row.end, Row.assertion}
use Rattle.meaning.specs.Limits.{least_rows}
use Rattle.machine.specs.Rows.{row_at}
use Rattle.machine.specs.Steps.{match_row}
use Rattle.machine.specs.Layout.{size_of, fork_of, times, past_turn, past_turns, past, copies, turn_rows, turns_rows, rows_of}
use Rattle.machine.specs.Layout.{any_byte, whole, program_of}

-- The rows around the body of a turn that can be left out: from row q in, after row m on to row `back`, or from q out to row k.
pub record Turn (code : List Row) (lazy : Bool) (r : Node) (q k m back : ℕ) : Type 0 where
  pub forks : row_at code q ≡ fork_of lazy q k
  pub begins : row_at code (suc q) ≡ begin
  pub resets : row_at code (suc (suc q)) ≡ reset (lo r) (hi r)
  pub ends : row_at code m ≡ end back

-- `Laid code r q k`: from row q on stand the rows of r, and the row after them is k.
pub data Laid (code : List Row) : Node → ℕ → ℕ → Type 0 where
  nothing : {q : ℕ} → Laid code empty q q
  one : {s : List ℕ} {q : ℕ} → row_at code q ≡ consume s → Laid code (bset s) q (suc q)
  test : {a q : ℕ} → row_at code q ≡ assertion a → Laid code (assert a) q (suc q)
  inside : {n : ℕ} {r : Node} {q m : ℕ} → row_at code q ≡ opens n → Laid code r (suc q) m → row_at code m ≡ closes n
      → Laid code (group n r) q (suc m)
  chain : {r s : Node} {q m k : ℕ} → Laid code r q m → Laid code s m k → Laid code (seq r s) q k
  either : {r s : Node} {q m k : ℕ}
      → row_at code q ≡ fork (suc q) (suc m) → Laid code r (suc q) m → row_at code m ≡ jump k → Laid code s (suc m) k
      → Laid code (alt r s) q k
  must : {n : ℕ} {e : Option ℕ} {lazy : Bool} {r : Node} {q m k : ℕ}
      → row_at code q ≡ reset (lo r) (hi r) → Laid code r (suc q) m → Laid code (many n e lazy r) m k
      → Laid code (many (suc n) e lazy r) q k
  stop : {lazy : Bool} {r : Node} {q : ℕ} → Laid code (many 0 (some 0) lazy r) q q
  may : {n : ℕ} {lazy : Bool} {r : Node} {q m k : ℕ}
      → Turn code lazy r q k m (suc m) → Laid code r (suc (suc (suc q))) m → Laid code (many 0 (some n) lazy r) (suc m) k
      → Laid code (many 0 (some (suc n)) lazy r) q k
  loop : {lazy : Bool} {r : Node} {q m : ℕ}
      → Turn code lazy r q (suc m) m q → Laid code r (suc (suc (suc q))) m
      → Laid code (many 0 none lazy r) q (suc m)

-- Rows are laid forwards.
pub grows : {rows : List Row} {r : Node} {q k : ℕ} → Laid rows r q k → q ≤ k
grows nothing = omega arith
grows (one e) = omega arith
grows (test e) = omega arith
grows (inside e l e') = omega (arith, grows l)
grows (chain l l') = omega (arith, grows l, grows l')
grows (either e l e' l') = omega (arith, grows l, grows l')
grows (must e l l') = omega (arith, grows l, grows l')
grows stop = omega arith
grows (may t l l') = omega (arith, grows l, grows l')
grows (loop t l) = omega (arith, grows l)

-- `Each rows P q k`: the rows from q up to k, each with its address, have a property.
pub record Each (rows : List Row) (P : ℕ → Row → Type 0) (q k : ℕ) : Type 0 where
  pub each : (p : ℕ) → q ≤ p → p < k → P p (row_at rows p)

module _ {rows : List Row} {P : ℕ → Row → Type 0} where
  pub nil : {q : ℕ} → Each rows P q q
  nil {q} = record { each = λ p h h'. absurd (omega arith) }

  pub cons : {q k : ℕ} {row : Row} → row_at rows q ≡ row → P q row → Each rows P (suc q) k → Each rows P q k
  cons {q} {k} {row} e l s = record { each = λ p h h'. go p h h' (dec_lt q p) }
    where
      go : (p : ℕ) → q ≤ p → p < k → Dec (q < p) → P p (row_at rows p)
      go p h h' (yes d) = s.each p d h'
      go p h h' (no d) = let f : p ≡ q = omega arith in rw (f, e) l

  pub join : {q m k : ℕ} → Each rows P q m → Each rows P m k → Each rows P q k
  join {q} {m} {k} s t = record { each = λ p h h'. go p h h' (dec_lt p m) }
    where
      go : (p : ℕ) → q ≤ p → p < k → Dec (p < m) → P p (row_at rows p)
      go p h h' (yes d) = s.each p h d
      go p h h' (no d) = t.each p (omega arith) h'

module _ (code : List Row) where
  -- Rows stand in the code from row q on, up to row k.
  abbrev pub Stands : List Row → ℕ → ℕ → Type 0
  Stands [] q k = q ≡ k
  Stands (row ∷ rows) q k = (row_at code q ≡ row) × Stands rows (suc q) k

  regroup : (a b c : List Row) (q k : ℕ) → Stands ((a ++ b) ++ c) q k → Stands (a ++ (b ++ c)) q k
  regroup a b c q k h = subst (λ (l : List Row). Stands l q k) (append_assoc a b c) h

  -- What stands at the rows of r is laid as it should, and the rest stands after it.
  abbrev Sound : (ℕ → List Row) → Node → (ℕ → ℕ) → Type 0
  Sound rows r f = (q k : ℕ) (rest : List Row) → Stands (rows q ++ rest) q k → Laid code r q (f q) × Stands rest (f q) k

  module _ (lazy : Bool) (r : Node) (body : Sound (rows_of r) r (past r)) where
    abbrev clear : Row
    clear = reset (lo r) (hi r)

    -- A turn that can be left out, and what stands after it.
    turn : (out back q k : ℕ) (rest : List Row) → Stands (turn_rows lazy clear (rows_of r) out back q ++ rest) q k
        → let b : ℕ = suc (suc (suc q)) in Turn code lazy r q out (past r b) back × Laid code r b (past r b) × Stands rest
        (suc (past r b)) k
    turn out back q k rest h =
        let b : ℕ = suc (suc (suc q)) in
        let (l, s) = body b k (end back ∷ rest) (regroup (rows_of r b) (end back ∷ []) rest b k h.1.1.1) in
        (record { forks = h.0; begins = h.1.0; resets = h.1.1.0; ends = s.0 }, l, s.1)

    bounded : (n : ℕ) → Sound (turns_rows lazy clear (rows_of r) (past r) (some n)) (many 0 (some n) lazy r)
        (times (past_turn (past r)) n)
    bounded zero q k rest h = (stop, h)
    bounded (suc n) q k rest h =
        let f : ℕ → ℕ = past_turn (past r) in
        let out : ℕ = times f n (f q) in
        let rows : ℕ → List Row = λ p. turn_rows lazy clear (rows_of r) out (f p) p in
        let more : List Row = copies rows f n (f q) in
        let (t, l, s) = turn out (f q) q k (more ++ rest) (regroup (rows q) more rest q k h) in
        let (l', s') = bounded n (f q) k rest s in
        (may t l l', s')

    options : (e : Option ℕ) → Sound (turns_rows lazy clear (rows_of r) (past r) e) (many 0 e lazy r) (past_turns (past r) e)
    options none q k rest h = let (t, l, s) = turn (past_turn (past r) q) q q k rest h in (loop t l, s)
    options (some n) q k rest h = bounded n q k rest h

    repeats : (n : ℕ) (e : Option ℕ)
        → Sound (λ q. copies (λ p. clear ∷ rows_of r (suc p)) (λ p. past r (suc p)) n q ++ turns_rows lazy clear (rows_of r)
        (past r) e (times (λ p. past r (suc p)) n q))
        (many n e lazy r) (λ q. past_turns (past r) e (times (λ p. past r (suc p)) n q))
    repeats zero e q k rest h = options e q k rest h
    repeats (suc n) e q k rest h =
        let f : ℕ → ℕ = λ p. past r (suc p) in
        let rows : ℕ → List Row = λ p. clear ∷ rows_of r (suc p) in
        let more : List Row = copies rows f n (f q) in
        let last : List Row = turns_rows lazy clear (rows_of r) (past r) e (times f n (f q)) in
        let h' : Stands (rows q ++ (more ++ last ++ rest)) q k
        = regroup (rows q) (more ++ last) rest q k
        (subst (λ (l : List Row). Stands (l ++ rest) q k) (append_assoc (rows q) more last) h) in
        let (l, s) = body (suc q) k (more ++ last ++ rest) h'.1 in
        let (l', s') = repeats n e (f q) k rest s in
        (must h'.0 l l', s')

  pub laid : (r : Node) → Sound (rows_of r) r (past r)
  unfolding rows_of past
  laid empty q k rest h = (nothing, h)
  laid (bset s) q k rest h = (one h.0, h.1)
  laid (assert a) q k rest h = (test h.0, h.1)
  laid (group n r) q k rest h =
      let (l, s) = laid r (suc q) k (closes n ∷ rest) (regroup (rows_of r (suc q)) (closes n ∷ []) rest (suc q) k h.1) in
      (inside h.0 l s.0, s.1)
  laid (seq r s) q k rest h =
      let m : ℕ = past r q in
      let (l, t) = laid r q k (rows_of s m ++ rest) (regroup (rows_of r q) (rows_of s m) rest q k h) in
      let (l', t') = laid s m k rest t in
      (chain l l', t')
  laid (alt r s) q k rest h =
      let m : ℕ = past r (suc q) in
      let right : List Row = jump (past s (suc m)) ∷ rows_of s (suc m) in
      let (l, t) = laid r (suc q) k (right ++ rest) (regroup (rows_of r (suc q)) right rest (suc q) k h.1) in
      let (l', t') = laid s (suc m) k rest t.1 in
      (either h.0 l t.0 l', t')
  laid (many n e lazy r) q k rest h = repeats lazy r (laid r) n e q k rest h

-- The rows of a list stand in it.
pub stands : (before rows : List Row) (q k : ℕ) → length before ≡ q → q + length rows ≡ k → Stands (before ++ rows) rows q k
stands before [] q k e e' = omega arith
stands before (row ∷ rows) q k e e' = (
  subst (λ (z : ℕ). row_at (before ++ row ∷ rows) z ≡ row) e (get_or-append_seam before row rows accept),
  subst (λ (l : List Row). Stands l rows (suc q) k) (append_assoc before (row ∷ []) rows)
      (stands (before ++ (row ∷ [])) rows (suc q) k (rw length-append (omega arith)) (omega arith)),
)

times_add : (f : ℕ → ℕ) (d : ℕ) → ((q : ℕ) → f q ≡ q + d) → (n q : ℕ) → times f n q ≡ q + n * d
times_add f d h zero q = rw zero-mul (omega arith)
times_add f d h (suc n) q = rw (suc-mul, times_add f d h n (f q), h q) (omega arith)

-- The rows of a pattern end where they should.
pub past_size_of : (r : Node) (q : ℕ) → past r q ≡ q + size_of r
unfolding past size_of
past_size_of empty q = omega arith
past_size_of (bset s) q = omega arith
past_size_of (assert a) q = omega arith
past_size_of (group n r) q = omega (arith, past_size_of r (suc q))
past_size_of (seq r s) q = omega (arith, past_size_of r q, past_size_of s (past r q))
past_size_of (alt r s) q = omega (arith, past_size_of r (suc q), past_size_of s (suc (past r (suc q))))
past_size_of (many n none lazy r) q =
    let m : ℕ = times (λ p. past r (suc p)) n q in
    let e₁ : m ≡ q + n * (size_of r + 1) = times_add (λ p. past r (suc p)) (size_of r + 1)
    (λ p. omega (arith, past_size_of r (suc p))) n q in
    omega (arith, past_size_of r (suc (suc (suc m))))
past_size_of (many n (some k) lazy r) q =
    let m : ℕ = times (λ p. past r (suc p)) n q in
    let e₁ : m ≡ q + n * (size_of r + 1) = times_add (λ p. past r (suc p)) (size_of r + 1)
    (λ p. omega (arith, past_size_of r (suc p))) n q in
    let e₂ : times (past_turn (past r)) k m ≡ m + k * (size_of r + 4)
    = times_add (past_turn (past r)) (size_of r + 4) (λ p. omega (arith, past_size_of r (suc (suc (suc p))))) k m in
    omega arith

-- The rows of a program are those of the whole pattern, and a row that accepts.
pub program_rows : (g : ℕ) (r : Node) → (program_of g r).rows ≡ rows_of (whole r) 0 ++ (accept ∷ [])
unfolding rows_of past lo hi
program_rows g r =
    ap (λ (l : List Row). fork 5 1 ∷ begin ∷ reset 1 0 ∷ consume any_byte ∷ end 0 ∷ opens 0 ∷ l)
    (sym (append_assoc (rows_of r 6) (closes 0 ∷ []) (accept ∷ [])))

-- They are laid as they should: the prefix up to row 5, the pattern as group 0 from there up to the row that accepts, the last.
pub record Stand (g : ℕ) (r : Node) : Type 0 where
  pub last : ℕ
  pub prefix : Laid (program_of g r).rows (many 0 none true (bset any_byte)) 0 match_row
  pub pattern : Laid (program_of g r).rows (group 0 r) match_row last
  pub accepts : row_at (program_of g r).rows last ≡ accept
  pub ends : suc last ≡ length (program_of g r).rows
  pub counts : length (program_of g r).rows ≡ least_rows + size_of r

pub program_stands : (g : ℕ) (r : Node) → Stand g r
unfolding rows_of past lo hi
program_stands g r =
    let rows : List Row = (program_of g r).rows in
    let k : ℕ = length rows in
    let tail : List Row = rows_of (group 0 r) match_row ++ (accept ∷ []) in
    let h : Stands rows (rows_of (many 0 none true (bset any_byte)) 0 ++ tail) 0 k
    = subst (λ (l : List Row). Stands rows l 0 k) (program_rows g r) (stands [] rows 0 k refl (omega arith)) in
    let (l, s) = laid rows (many 0 none true (bset any_byte)) 0 k tail h in
    let (l', s') = laid rows (group 0 r) match_row k (accept ∷ []) s in
    record {
      last = past (group 0 r) match_row;
      prefix = l;
      pattern = l';
      accepts = s'.0;
      ends = s'.1;
      counts = omega (arith, s'.1, past_size_of r 6);
    }
