-- The inner rows of a compiled program are those of its pattern, by recursion over the pattern.
use Rattle.std.specs.Prelude.{◌≡◌, refl, Bool, cond, List}
use Rattle.std.proofs.Common.{sym, ap, ◌∙◌, le-leb}
use Rattle.std.proofs.Math.Option.{Option, none, some}
use Prim.Native.Nat.{ℕ, suc, ◌+◌, ◌≤◌}
use Rattle.std.proofs.Math.Nat.{suc-mul}
use native.Mathlib.Omega.{arith}
use Rattle.meaning.specs.Node.{Node, Node.empty, Node.bset, Node.assert, Node.group, Node.seq, Node.alt, Node.many}
use Rattle.machine.specs.Rows.{Row}
use Rattle.machine.specs.Steps.{match_row}
use Rattle.machine.specs.Layout.{size_of, program_of}
use Rattle.machine.specs.Laid.{Turn, Laid, Laid.nothing, Laid.one, Laid.test, Laid.inside, Laid.chain, Laid.either}
use Rattle.machine.specs.Laid.{Laid.must, Laid.stop, Laid.may, Laid.loop, grows, Stand, program_stands}
use Rattle.machine.specs.Inner.{open_at, some?, inner_below, inner_rows, counting, inner}
use Rattle.machine.proofs.Tight.{next_open, Even, even, turn_open}

-- Where every row counts, those of a pattern are its size.
all_count : (r : Node) → counting 1 r ≡ size_of r
unfolding counting size_of
all_count empty = refl
all_count (bset s) = refl
all_count (assert a) = refl
all_count (group n r) = omega (arith, all_count r)
all_count (seq r s) = omega (arith, all_count r, all_count s)
all_count (alt r s) = omega (arith, all_count r, all_count s)
all_count (many n none lazy r) = rw (all_count r) (omega arith)
all_count (many n (some e) lazy r) =
    let f : size_of r + 2 + (1 + 1) ≡ size_of r + 4 = omega arith in rw (all_count r, f)

-- What a row counts where so many turns are open.
abbrev unit : ℕ → ℕ
unit d = cond (some? d) 1 0

module _ (rows : List Row) where
  step : (q u : ℕ) → match_row ≤ q → unit (open_at rows q) ≡ u → inner_below rows (suc q) ≡ inner_below rows q + u
  unfolding inner_below
  step q u h e = rw (le-leb match_row q h) (omega (arith, e))

  -- A turn that can be left out: Fork and Begin count as the rows around them, Reset, the body and End as inner rows.
  turn : {lazy : Bool} {r : Node} {q k m back : ℕ} → Turn rows lazy r q k m back → suc (suc (suc q)) ≤ m
      → Even rows match_row m (suc (suc (suc q))) m → (u : ℕ) → match_row ≤ q → unit (open_at rows q) ≡ u
      → inner_below rows m ≡ inner_below rows (suc (suc (suc q))) + counting 1 r
      → inner_below rows (suc m) ≡ inner_below rows q + (size_of r + 2 + (u + u))
  turn {r = r} {q = q} {m = m} t d s u h e body =
      let f : open_at rows (suc q) ≡ open_at rows q = (turn_open rows match_row m t s).0 in
      let b : open_at rows (suc (suc q)) ≡ suc (open_at rows (suc q)) = next_open rows (suc q) t.begins in
      let c : open_at rows (suc (suc (suc q))) ≡ open_at rows (suc (suc q)) = next_open rows (suc (suc q)) t.resets in
      omega (
        arith,
        step q u h e,
        step (suc q) u (omega arith) (ap unit f ∙ e),
        step (suc (suc q)) 1 (omega arith) (ap unit b),
        step m 1 (omega arith) (ap unit (s.same ∙ c ∙ b)),
        all_count r,
      )

  -- In its body a turn is open.
  open_turn : {lazy : Bool} {r : Node} {q k m back : ℕ} → Turn rows lazy r q k m back
      → unit (open_at rows (suc (suc (suc q)))) ≡ 1
  open_turn {q = q} t = ap unit (next_open rows (suc (suc q)) t.resets ∙ next_open rows (suc q) t.begins)

  counted : {r : Node} {q k : ℕ} → Laid rows r q k → (u : ℕ) → match_row ≤ q → unit (open_at rows q) ≡ u
      → inner_below rows k ≡ inner_below rows q + counting u r
  unfolding counting
  counted nothing u h e = omega arith
  counted (one {q = q} x) u h e = step q u h e
  counted (test {q = q} x) u h e = step q u h e
  counted (inside {q = q} {m = m} x l x') u h e =
      let d : suc q ≤ m = grows l in
      let f : open_at rows (suc q) ≡ open_at rows q = next_open rows q x in
      let s : open_at rows m ≡ open_at rows (suc q) = (even rows match_row m l (omega arith) (omega arith)).same in
      omega (
        arith,
        step q u h e,
        counted l u (omega arith) (ap unit f ∙ e),
        step m u (omega arith) (ap unit (s ∙ f) ∙ e),
      )
  counted (chain {q = q} {m = m} l l') u h e =
      let d : q ≤ m = grows l in
      let s : open_at rows m ≡ open_at rows q = (even rows match_row m l h (omega arith)).same in
      omega (arith, counted l u h e, counted l' u (omega arith) (ap unit s ∙ e))
  counted (either {q = q} {m = m} x l x' l') u h e =
      let d : suc q ≤ m = grows l in
      let f : open_at rows (suc q) ≡ open_at rows q = next_open rows q x in
      let s : open_at rows m ≡ open_at rows (suc q) = (even rows match_row m l (omega arith) (omega arith)).same in
      let f' : open_at rows (suc m) ≡ open_at rows m = next_open rows m x' in
      omega (
        arith,
        step q u h e,
        counted l u (omega arith) (ap unit f ∙ e),
        step m u (omega arith) (ap unit (s ∙ f) ∙ e),
        counted l' u (omega arith) (ap unit (f' ∙ s ∙ f) ∙ e),
      )
  counted (must {n = n} {e = more} {lazy = lazy} {r = r} {q = q} {m = m} x l l') u h e =
      let d : suc q ≤ m = grows l in
      let f : open_at rows (suc q) ≡ open_at rows q = next_open rows q x in
      let s : open_at rows m ≡ open_at rows (suc q) = (even rows match_row m l (omega arith) (omega arith)).same in
      omega (
        arith,
        step q u h e,
        counted l u (omega arith) (ap unit f ∙ e),
        counted l' u (omega arith) (ap unit (s ∙ f) ∙ e),
        one_more more,
      )
    where
      one_more : (more : Option ℕ) → counting u (many (suc n) more lazy r) ≡ counting u r + u + counting u (many n more lazy r)
      one_more none = omega (arith, suc-mul n (counting u r + u))
      one_more (some z) = omega (arith, suc-mul n (counting u r + u))
  counted stop u h e = omega arith
  counted (may {n = n} {lazy = lazy} {r = r} {q = q} {m = m} t l l') u h e =
      let d : suc (suc (suc q)) ≤ m = grows l in
      let s : Even rows match_row m (suc (suc (suc q))) m = even rows match_row m l (omega arith) (omega arith) in
      omega (
        arith,
        turn t d s u h e (counted l 1 (omega arith) (open_turn t)),
        counted l' u (omega arith) (ap unit (turn_open rows match_row m t s).1 ∙ e),
        suc-mul n (size_of r + 2 + (u + u)),
      )
  counted (loop {q = q} {m = m} t l) u h e =
      let d : suc (suc (suc q)) ≤ m = grows l in
      let s : Even rows match_row m (suc (suc (suc q))) m = even rows match_row m l (omega arith) (omega arith) in
      omega (arith, turn t d s u h e (counted l 1 (omega arith) (open_turn t)))

-- So n + inner is by the pattern.
pub inner_rows_lem : (g : ℕ) (r : Node) → inner_rows (program_of g r) ≡ inner r
unfolding inner_below open_at counting
inner_rows_lem g r =
    let stand : Stand g r = program_stands g r in
    let rows : List Row = (program_of g r).rows in
    let d : match_row ≤ stand.last = grows stand.pattern in
    let five : inner_below rows match_row ≡ 0 = refl in
    let s : open_at rows stand.last ≡ open_at rows match_row
    = (even rows match_row stand.last stand.pattern (omega arith) (omega arith)).same in
    let body : inner_below rows stand.last ≡ inner_below rows match_row + counting 0 (group 0 r)
    = counted rows stand.pattern 0 (omega arith) refl in
    let last : inner_below rows (suc stand.last) ≡ inner_below rows stand.last + 0
    = step rows stand.last 0 d (ap unit s) in
    ap (inner_below rows) (sym stand.ends) ∙ omega arith
