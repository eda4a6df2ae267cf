-- What the compiler writes passes the check.
use Rattle.std.specs.Prelude.{◌≡◌, refl, ◌⊎◌, Bool, true, false, ◌||◌, ◌&&◌, List, ℕ, suc, ◌-◌, ◌≤◌, ◌<◌, eqb, leb}
use Rattle.std.proofs.Common.{ap, ◌∙◌, inl, inr, arith, lt-ltb, le-leb, eq-eqb}
use Rattle.sets.specs.Sets.{Formed}
use Rattle.sets.specs.Bits.{below_all}
use Rattle.sets.specs.Laws.{set_of_holds}
use Rattle.meaning.specs.Node.{Node, Node.group, lo, hi, Proper, within_fewer}
use Rattle.meaning.specs.Numbering.{Numbers, Range, range, forwards}
use Rattle.machine.specs.Rows.{Row, Row.accept, Row.consume, Row.jump, Row.fork, Row.opens, Row.closes, Row.reset}
use Rattle.machine.specs.Rows.{Row.begin, Row.end, Row.assertion}
use Rattle.machine.specs.Rows.{row_count, row_at}
use Rattle.machine.specs.Steps.{match_row}
use Rattle.machine.specs.Layout.{fork_of, any_byte, program_of}
use Rattle.machine.specs.Laid.{Turn, Laid, Laid.nothing, Laid.one, Laid.test, Laid.inside, Laid.chain, Laid.either}
use Rattle.machine.specs.Laid.{Laid.must, Laid.stop, Laid.may, Laid.loop}
use Rattle.machine.specs.Laid.{grows, Each, nil, cons, join, Stand, program_stands}
use Rattle.machine.specs.Words.{row_passes, may_be_last, last_passes, rows_pass}

-- A property of rows that holds of whatever the layout of a pattern with groups up to g writes into n rows.
pub record Rules (n g : ℕ) (P : Row → Type 0) : Type 0 where
  pub accepts : P accept
  pub consumes : (s : List ℕ) → Formed s → P (consume s)
  pub jumps : (t : ℕ) → t < n → P (jump t)
  pub forks : (t u : ℕ) → t < n → u < n → P (fork t u)
  pub groups : (k : ℕ) → k ≤ g → P (opens k) × P (closes k)
  pub resets : (l h : ℕ) → ((1 ≤ l) × (l ≤ h) × (h ≤ g)) ⊎ ((l ≡ 1) × (h ≡ 0)) → P (reset l h)
  pub begins : P begin
  pub ends : (t : ℕ) → t < n → P (end t)
  pub asserts : (a : ℕ) → a ≤ 3 → P (assertion a)

module _ (rows : List Row) (n g : ℕ) (P : Row → Type 0) (rules : Rules n g P) where
  -- The rows from q to k have the property.
  abbrev Pass : ℕ → ℕ → Type 0
  Pass q k = Each rows (λ p. P) q k

  either_fork : (lazy : Bool) (q k : ℕ) → suc q < n → k < n → P (fork_of lazy q k)
  either_fork false q k h h' = rules.forks (suc q) k h h'
  either_fork true q k h h' = rules.forks k (suc q) h' h

  clears : (a b l h : ℕ) → 1 ≤ a → b ≤ suc g → Range a l h b → P (reset l h)
  clears a b l h pos top (inl f) = rules.resets l h (inl (omega arith))
  clears a b l h pos top (inr f) = rules.resets l h (inr (f.1, f.2))

  turn : {lazy : Bool} {r : Node} {q k m back : ℕ} → Turn rows lazy r q k m back → P (reset (lo r) (hi r))
      → Pass (suc (suc (suc q))) m → suc q < n → k < n → back < n → suc (suc (suc q)) ≤ m → Pass q (suc m)
  turn {lazy} {r} {q} {k} {m} {back} t clear s h h₁ h₂ le =
      cons t.forks (either_fork lazy q k h h₁) (cons t.begins rules.begins (cons t.resets clear
      (join s (cons t.ends (rules.ends back h₂) nil))))

  -- The rows that are laid for a pattern pass, with groups from a up to b and the rows after them in the program.
  pub laid_pass : {r : Node} {q k : ℕ} → Laid rows r q k
      → (a b : ℕ) → 1 ≤ a → b ≤ suc g → Numbers a r b → Proper r → k < n → Pass q k
  laid_pass nothing a b pos top num ok h = nil
  laid_pass (one {s = s} e) a b pos top num ok h = cons e (rules.consumes s ok) nil
  laid_pass (test {a = t} e) a b pos top num ok h = cons e (rules.asserts t ok) nil
  laid_pass (inside {n = k} {r = r} {q = q} {m = m} e l e') a b pos top num ok h =
      let d : suc q ≤ m = grows l in
      let least : k ≤ g = omega (arith, num.0, forwards r (suc a) b (omega arith) num.1) in
      cons e (rules.groups k least).0 (join (laid_pass l (suc a) b (omega arith) top num.1 ok.1 (omega arith))
      (cons e' (rules.groups k least).1 nil))
  laid_pass (chain {r = r} {s = s} {q = q} {m = m} {k = k} l l') a b pos top num ok h =
      let d : m ≤ k = grows l' in
      let f : a ≤ num.0 = forwards r a num.0 pos num.1 in
      let f' : num.0 ≤ b = forwards s num.0 b (omega arith) num.2 in
      join (laid_pass l a num.0 pos (omega arith) num.1 ok.0 (omega arith))
      (laid_pass l' num.0 b (omega arith) top num.2 ok.1 h)
  laid_pass (either {r = r} {s = s} {q = q} {m = m} {k = k} e l e' l') a b pos top num ok h =
      let d : suc q ≤ m = grows l in
      let d' : suc m ≤ k = grows l' in
      let f : a ≤ num.0 = forwards r a num.0 pos num.1 in
      let f' : num.0 ≤ b = forwards s num.0 b (omega arith) num.2 in
      cons e (rules.forks (suc q) (suc m) (omega arith) (omega arith))
      (join (laid_pass l a num.0 pos (omega arith) num.1 ok.0 (omega arith))
      (cons e' (rules.jumps k h) (laid_pass l' num.0 b (omega arith) top num.2 ok.1 h)))
  laid_pass (must {n = n} {e = more} {r = r} {q = q} {m = m} {k = k} e l l') a b pos top num ok h =
      let d : suc q ≤ m = grows l in
      let d' : m ≤ k = grows l' in
      cons e (clears a b (lo r) (hi r) pos top (range r a b pos num))
      (join (laid_pass l a b pos top num ok.1 (omega arith))
      (laid_pass l' a b pos top num (within_fewer n more ok.0, ok.1) h))
  laid_pass stop a b pos top num ok h = nil
  laid_pass (may {r = r} {q = q} {m = m} {k = k} t l l') a b pos top num ok h =
      let d : suc (suc (suc q)) ≤ m = grows l in
      let d' : suc m ≤ k = grows l' in
      join
      (turn t (clears a b (lo r) (hi r) pos top (range r a b pos num)) (laid_pass l a b pos top num ok.1 (omega arith))
      (omega arith) h (omega arith) d)
      (laid_pass l' a b pos top num (omega arith, ok.1) h)
  laid_pass (loop {r = r} {q = q} {m = m} t l) a b pos top num ok h =
      let d : suc (suc (suc q)) ≤ m = grows l in
      turn t (clears a b (lo r) (hi r) pos top (range r a b pos num)) (laid_pass l a b pos top num ok.1 (omega arith))
      (omega arith) h (omega arith) d

  -- So do those of a pattern as group 0.
  whole_pass : {r : Node} {q k : ℕ} → Laid rows (group 0 r) q k → Numbers 1 r (suc g) → Proper r → k < n → Pass q k
  whole_pass (inside {q = q} {m = m} e l e') num ok h =
      let d : suc q ≤ m = grows l in
      let (opens-it, closes-it) = rules.groups 0 (omega arith) in
      cons e opens-it (join (laid_pass l 1 (suc g) (omega arith) (omega arith) num ok (omega arith)) (cons e' closes-it nil))

-- Every row of a pattern's program has such a property, if its groups are numbered from 1 to g.
pub every_row : (g : ℕ) (r : Node) → Numbers 1 r (suc g) → Proper r → (P : Row → Type 0) → Rules (row_count (program_of g r)) g P
    → (q : ℕ) → q < row_count (program_of g r) → P (row_at (program_of g r).rows q)
unfolding any_byte
every_row g r num ok P rules q h =
    let s : Stand g r = program_stands g r in
    let rows : List Row = (program_of g r).rows in
    let n : ℕ = row_count (program_of g r) in
    let k : ℕ = s.last in
    let d : suc k ≡ n = s.ends in
    let d₅ : match_row ≤ k = grows s.pattern in
    let prefix : Each rows (λ p. P) 0 match_row
    = laid_pass rows n g P rules s.prefix 1 1 (omega arith) (omega arith) refl
    (omega arith, (set_of_holds (λ b. true)).formed) (omega arith) in
    let pattern : Each rows (λ p. P) match_row k = whole_pass rows n g P rules s.pattern num ok (omega arith) in
    let last : Each rows (λ p. P) k (suc k) = cons s.accepts rules.accepts nil in
    (join prefix (join pattern last)).each q (omega arith) (omega arith)

either_way : (x y : Bool) → (x ≡ true) ⊎ (y ≡ true) → (x || y) ≡ true
either_way true y h = refl
either_way false true h = refl
either_way false false (inl e) = e
either_way false false (inr e) = e

-- To pass the check is such a property.
pass_rules : (n g : ℕ) → Rules n g (λ row. row_passes n g row ≡ true)
pass_rules n g = record {
  accepts = refl;
  consumes = λ s f. refl;
  jumps = λ t h. lt-ltb t n h;
  forks = λ t u h h'. rw (lt-ltb t n h, lt-ltb u n h');
  groups = λ k h. (le-leb k g h, le-leb k g h);
  resets = λ l h e. either_way (leb 1 l && leb l h && leb h g) (eqb l 1 && eqb h 0) (side l h e);
  begins = refl;
  ends = λ t h. lt-ltb t n h;
  asserts = λ a h. le-leb a 3 h;
}
  where
    side : (l h : ℕ) → ((1 ≤ l) × (l ≤ h) × (h ≤ g)) ⊎ ((l ≡ 1) × (h ≡ 0))
        → ((leb 1 l && leb l h && leb h g) ≡ true) ⊎ ((eqb l 1 && eqb h 0) ≡ true)
    side l h (inl f) = inl (rw (le-leb 1 l f.0, le-leb l h f.1, le-leb h g f.2))
    side l h (inr f) = inr (rw (eq-eqb l 1 f.0, eq-eqb h 0 f.1))

-- The rows of a pattern's program pass the check.
pub compiled_passes : (g : ℕ) (r : Node) → Numbers 1 r (suc g) → Proper r → rows_pass (program_of g r) ≡ true
unfolding rows_pass
compiled_passes g r num ok =
    let n : ℕ = row_count (program_of g r) in
    let s : Stand g r = program_stands g r in
    let k : n - 1 ≡ s.last = omega (arith, s.ends) in
    let last : last_passes (program_of g r) ≡ true = ap (λ q. may_be_last (row_at (program_of g r).rows q)) k
    ∙ ap may_be_last s.accepts in
    rw (below_all n _ (every_row g r num ok (λ row. row_passes n g row ≡ true) (pass_rules n g))) last
