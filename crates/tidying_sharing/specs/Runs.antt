-- Where a run ends: the parts of a series behind its first are walked from the last one back.
use Rattle.std.specs.Prelude.{◌≡◌, refl, Bool, List, [], ◌∷◌, ◌++◌, ℕ, ◌+◌, ◌-◌, ◌≤◌, ◌<◌, length}
use Rattle.std.proofs.Math.Path.{sym}
use Rattle.std.proofs.Common.{ap, subst, ◌∙◌, append_assoc, append-nil, arith}
use Rattle.std.proofs.Math.Bool.{true, false}
use Rattle.meaning.specs.Node.{Node}
use Rattle.meaning.specs.Results.{concat_map}
use Rattle.table.specs.Table.{record_count, records}
use Rattle.table.specs.Laws.{count_all, count_append, inner_count}
use Rattle.table.specs.Roots.{among_ends}
use Rattle.table.specs.Roots.{Last, some_last, last_ends, shorter}
use Rattle.table.specs.Stands.{Ends, Series, SomePart}
use Rattle.tidying_fitting.specs.Parts.{Tells, TellsBoth}
use Rattle.tidying_fitting.specs.Parts.{room}
use Rattle.tidying_fitting.specs.Words.{start_of}
use Rattle.tidying_fitting.specs.Wants.{alike}
use Rattle.tidying_sharing.specs.Leads.{opening}

-- At `top` end the parts up to q, which ends at `first`, and more.
pub record Behind (table : List ℕ) (top first : ℕ) (before : List ℕ) (front : List Node) (q : Node)
    (more : List Node) : Type 0 where
  pub series : Series table top (length (front ++ (q ∷ more))) before (front ++ (q ∷ more))
  pub here : top ≡ first + count_all more

-- What is asked: that there is such a series.
pub record SomeBehind (table : List ℕ) (top first : ℕ) : Type 0 where
  pub before : List ℕ
  pub front : List Node
  pub node : Node
  pub more : List Node
  pub behind : Behind table top first before front node more

-- What is answered: where the parts behind q that begin as q does end.
pub record RunEnds (stop : ℕ) (table : List ℕ) (top first : ℕ) : Type 0 where
  pub by : (before : List ℕ) (front : List Node) (q : Node) (more : List Node) → Behind table top first before front q more
      → stop ≡ first + count_all (opening (alike q) more)

-- The walk has come to `end`: the run among the parts that it passed ends at `stop`.
pub record Back (table : List ℕ) (first end stop : ℕ) (before : List ℕ) (front : List Node) (q : Node)
    (more : List Node) : Type 0 where
  pub rest : List Node
  pub seen : List Node
  pub split : more ≡ rest ++ seen
  pub behind : Behind table end first before front q rest
  pub best : stop ≡ end + count_all (opening (alike q) seen)

-- What the loop keeps, whatever the series is.
pub record Backs (table : List ℕ) (top first end stop : ℕ) : Type 0 where
  pub by : (before : List ℕ) (front : List Node) (q : Node) (more : List Node) → Behind table top first before front q more
      → Back table first end stop before front q more

pub backs_start : {table : List ℕ} {top first : ℕ} → Backs table top first top top
unfolding opening
backs_start = record {
  by = λ before front q more b. record { rest = more; seen = []; split = sym (append-nil more); behind = b; best = omega arith };
}

-- Where records are left, a part is left.
some_rest : (l : List Node) → 0 < count_all l → 0 < length l
some_rest [] h = h
some_rest (r ∷ l) h = omega arith

module _ {table : List ℕ} {first end stop : ℕ} {before : List ℕ} {front : List Node} {q : Node} {more : List Node}
    (b : Back table first end stop before front q more) where
  -- The first part of the run stands where it ends.
  first_here : end - count_all b.rest ≡ first
  first_here = omega (arith, b.behind.here)

  first_ends : Ends table first (before ++ concat_map records front) q
  first_ends = subst (λ (i : ℕ). Ends table i (before ++ concat_map records front) q) first_here
      (among_ends front q b.rest b.behind.series)

  pub first_there : SomePart table first
  first_there = record { before = before ++ concat_map records front; part = q; ends = first_ends }

  module _ (h : first < end) where
    last : Last b.rest
    last = some_last b.rest (some_rest b.rest (omega (arith, b.behind.here)))

    abbrev part : Node
    part = last.last

    series : Series table end (length (front ++ (q ∷ b.rest))) before ((front ++ (q ∷ last.front)) ++ (part ∷ []))
    series = rw (append_assoc, ← last.split) b.behind.series

    ends : Ends table end (before ++ concat_map records (front ++ (q ∷ last.front))) part
    ends = last_ends (front ++ (q ∷ last.front)) part series

    pub last_there : SomePart table end
    last_there = record { before = before ++ concat_map records (front ++ (q ∷ last.front)); part = part; ends = ends }

    counted : count_all b.rest ≡ count_all last.front + record_count part
    counted = omega (arith, ap count_all last.split, count_append last.front (part ∷ []))

    next : Behind table (end - record_count part) first before front q last.front
    next = record {
      series = let r = shorter (front ++ (q ∷ last.front)) part series in
          record { stands = r.stands; counted = refl; proper = r.proper };
      here = omega (arith, counted, b.behind.here);
    }

    split_more : more ≡ last.front ++ (part ∷ b.seen)
    split_more = b.split ∙ ap (λ x. x ++ b.seen) last.split ∙ append_assoc last.front (part ∷ []) b.seen

    passed : {r : Bool} {begin : ℕ} → TellsBoth r table first end alike → Tells begin table end (start_of end)
        → (r ≡ alike q part) × (begin ≡ end - record_count part)
    passed t s = (t.by _ _ q part first_ends ends, s.by _ part ends)

    pub back_less : {begin : ℕ} → Tells begin table end (start_of end) → begin < end
    back_less s = let low = s.by _ part ends in omega (arith, (room ends).some, (room ends).few)

    -- A part that begins as q does is of the run, if the run goes on behind it; and any other ends it.
    pub back_alike : {r : Bool} {begin : ℕ} → TellsBoth r table first end alike → Tells begin table end (start_of end) → r ≡ true
        → Back table first begin stop before front q more
    unfolding opening
    back_alike t s e =
        let (is, low) = passed t s in
        let one : alike q part ≡ true = sym is ∙ e in
        rw low (record {
          rest = last.front;
          seen = part ∷ b.seen;
          split = split_more;
          behind = next;
          best = rw one (omega (arith, b.best, (room ends).few));
        })

    pub back_other : {r : Bool} {begin : ℕ} → TellsBoth r table first end alike → Tells begin table end (start_of end) → r ≡ false
        → Back table first begin begin before front q more
    unfolding opening
    back_other t s e =
        let (is, low) = passed t s in
        let one : alike q part ≡ false = sym is ∙ e in
        rw low (record {
          rest = last.front;
          seen = part ∷ b.seen;
          split = split_more;
          behind = next;
          best = rw one (omega arith);
        })

pub one_back : {table : List ℕ} {top first end stop : ℕ} (s : SomeBehind table top first) → Backs table top first end stop
    → Back table first end stop s.before s.front s.node s.more
one_back s h = h.by s.before s.front s.node s.more s.behind

-- In the end it has come to the first part.
pub backs_end : {table : List ℕ} {top first end stop : ℕ} → end ≤ first → Backs table top first end stop
    → RunEnds stop table top first
backs_end {table} {top} {first} {end} {stop} h w = record { by = λ before front q more b. go (w.by before front q more b) }
  where
    none : (l : List Node) → count_all l ≤ 0 → l ≡ []
    none [] z = refl
    none (r ∷ l) z = absurd (omega (arith, inner_count r))

    go : {before : List ℕ} {front : List Node} {q : Node} {more : List Node} → Back table first end stop before front q more
        → stop ≡ first + count_all (opening (alike q) more)
    go {q = q} b =
        let over : b.rest ≡ [] = none b.rest (omega (arith, b.behind.here)) in
        let same : end ≡ first = omega (arith, b.behind.here, ap count_all over) in
        b.best ∙ rw (same, b.split, over)
