-- T8 on the alternatives of a run: they are walked from the last one back, and each loses its set.
use Rattle.std.specs.Prelude.{◌≡◌, refl, List, [], ◌∷◌, ◌++◌, map, ℕ, ◌+◌, ◌-◌, ◌≤◌, ◌<◌, length}
use Rattle.std.proofs.Common.{sym, ap, ◌∙◌, append_assoc, append-nil, arith, length-append}
use Rattle.meaning.specs.Limits.{word_limit}
use Rattle.meaning.specs.Node.{Node}
use Rattle.meaning.specs.Flat.{Kind.alternation, parts}
use Rattle.meaning.specs.Results.{concat_map}
use Rattle.table.specs.Table.{record_count, records}
use Rattle.meaning.specs.All.{All, all_left, all_right}
use Rattle.table.specs.Stands.{SomePart}
use Rattle.table.specs.Roots.{Last, some_last}
use Rattle.tidying_fitting.specs.Parts.{Tells, length_parts}
use Rattle.tidying_fitting.specs.Words.{start_of}
use Rattle.tidying_shapes.specs.Skeleton.{Token, skeleton}
use Rattle.tidying_shapes.specs.Tokens.{Says}
use Rattle.tidying_shapes.proofs.Told.{skeleton_count}
use Rattle.tidying_rewriting.specs.Series.{skeletons_append}
use Rattle.tidying_rewriting.proofs.Walks.{Walked, Turned, turned}
use Rattle.tidying_sharing.specs.Leads.{Lead, left}
use Rattle.tidying_sharing.specs.Trims.{trimmed, fewer_parts, trim_width}
use Rattle.tidying_sharing.specs.Lent.{TrimmingAt, SomeTrimmingAt, some_trimming_at, TrimsAt}

-- How many alternatives some patterns are in one alternation.
abbrev pub widths : List Node → ℕ
widths [] = 0
widths (r ∷ l) = length (parts alternation r) + widths l

-- From record `from` to `stop` stand alternatives that begin with a set; before them other parts, and behind them some tokens.
pub record Running (table : List ℕ) (n from stop : ℕ) (before s : List ℕ) (front leads : List Node)
    (l ts : List Token) : Type 0 where
  pub walk : Walked table n stop (length (front ++ leads)) before (front ++ leads) l ts
  pub here : length l + length (concat_map skeleton front) ≡ from
  pub all : All (λ a. Lead s a (left s a)) leads

-- What is asked: that there is such a run, of so few records that its alternatives can be counted in a word.
pub record SomeRunning (table : List ℕ) (n from stop : ℕ) : Type 0 where
  pub before : List ℕ
  pub set : List ℕ
  pub front : List Node
  pub leads : List Node
  pub left : List Token
  pub right : List Token
  pub running : Running table n from stop before set front leads left right
  pub short : stop < from + word_limit

-- What is done, whatever the run is: what is left of each is said in its place. So many were trimmed, and so many they are then.
pub record Shortens (table table' : List ℕ) (n from stop n' gone width : ℕ) : Type 0 where
  pub by : (before s : List ℕ) (front leads : List Node) (l ts : List Token)
      → Running table n from stop before s front leads l ts
      → Says table' n' (l ++ (concat_map skeleton front ++ (concat_map trimmed (map (left s) leads) ++ ts)))
      × (gone ≡ length leads) × (width ≡ widths (map (left s) leads))

-- The walk has come to `end`: the alternatives that it passed are trimmed.
pub record Short (table : List ℕ) (n from end gone width : ℕ) (before s : List ℕ) (front leads : List Node)
    (l ts : List Token) : Type 0 where
  pub rest : List Node
  pub done : List Node
  pub split : leads ≡ rest ++ done
  pub running : Running table n from end before s front rest l (concat_map trimmed (map (left s) done) ++ ts)
  pub counted : gone ≡ length done
  pub wide : width ≡ widths (map (left s) done)

-- What the loop keeps, whatever the run is.
pub record Shorts (table₀ : List ℕ) (n₀ from stop : ℕ) (table : List ℕ) (n end gone width : ℕ) : Type 0 where
  pub by : (before s : List ℕ) (front leads : List Node) (l ts : List Token)
      → Running table₀ n₀ from stop before s front leads l ts
      → Short table n from end gone width before s front leads l ts

pub shorts_start : {table : List ℕ} {n from stop : ℕ} → Shorts table n from stop table n stop 0 0
shorts_start = record {
  by = λ before s front leads l ts r.
      record { rest = leads; done = []; split = sym (append-nil leads); running = r; counted = refl; wide = refl };
}

pub one_short : {table₀ table : List ℕ} {n₀ from stop n end gone width : ℕ} (s : SomeRunning table₀ n₀ from stop)
    → Shorts table₀ n₀ from stop table n end gone width
    → Short table n from end gone width s.before s.set s.front s.leads s.left s.right
one_short s h = h.by s.before s.set s.front s.leads s.left s.right s.running

-- Where tokens are left, a part is left.
some_part : (l : List Node) → 0 < length (concat_map skeleton l) → 0 < length l
some_part [] h = h
some_part (r ∷ l) h = omega arith

module _ {table : List ℕ} {n from end gone width : ℕ} {before s : List ℕ} {front leads : List Node} {l ts : List Token}
    (k : Short table n from end gone width before s front leads l ts) where
  tokens : (m : List Node)
      → length (concat_map skeleton (front ++ m)) ≡ length (concat_map skeleton front) + length (concat_map skeleton m)
  tokens m = ap length (skeletons_append front m) ∙ length-append (concat_map skeleton front) (concat_map skeleton m)

  module _ (h : from < end) where
    last : Last k.rest
    last = some_last k.rest (some_part k.rest (omega (arith, k.running.walk.low, k.running.here, tokens k.rest)))

    abbrev item : Node
    item = last.last

    abbrev before_it : List Node
    before_it = front ++ last.front

    abbrev behind : List Token
    behind = concat_map trimmed (map (left s) k.done) ++ ts

    turn : Turned table n end (length (front ++ k.rest)) before before_it item l behind
    turn = turned before_it item (rw (append_assoc, ← last.split) k.running.walk)

    leads_all : All (λ a. Lead s a (left s a)) (last.front ++ (item ∷ []))
    leads_all = rw last.split at k.running.all

    lead : Lead s item (left s item)
    lead = (all_right (λ a. Lead s a (left s a)) last.front (item ∷ []) leads_all).0

    pub item_there : SomePart table end
    item_there = record { before = before ++ concat_map records before_it; part = item; ends = turn.ends }

    start_of_lem : {at : ℕ} → Tells at table end (start_of end) → at ≡ end - record_count item
    start_of_lem t = t.by _ item turn.ends

    pub item_less : {at : ℕ} → Tells at table end (start_of end) → at < end
    item_less t = omega (arith, start_of_lem t, turn.some, turn.few)

    trimming : {at : ℕ} → Tells at table end (start_of end)
        → TrimmingAt table n at end s item (left s item) (l ++ concat_map skeleton before_it) behind
    trimming t =
        let low : length (l ++ concat_map skeleton before_it) ≡ end - record_count item
        = length-append l (concat_map skeleton before_it) ∙ turn.start in
        record {
          lead = lead;
          says = rw append_assoc turn.says;
          start = low ∙ sym (start_of_lem t);
          stop = omega (arith, low, turn.few, skeleton_count item turn.ends.proper);
        }

    pub item_trimming : {at : ℕ} → Tells at table end (start_of end) → SomeTrimmingAt table n at end
    item_trimming t = some_trimming_at (trimming t)

    -- So the next turn has one alternative more behind it, with its own part of the alternatives.
    pub short_next : {table' : List ℕ} {at n' w : ℕ} → Tells at table end (start_of end) → TrimsAt table table' n at end n' w
        → Short table' n' from at (gone + 1) (width + w) before s front leads l ts
    short_next {table'} {at} {n'} {w} t c =
        let (said, is) = c.by s item (left s item) (l ++ concat_map skeleton before_it) behind (trimming t) in
        let whole : concat_map trimmed (map (left s) (item ∷ k.done)) ++ ts ≡ trimmed (left s item) ++ behind
        = append_assoc (trimmed (left s item)) (concat_map trimmed (map (left s) k.done)) ts in
        let kept = rw (start_of_lem t) at c.below in
        let next = turn.next (trimmed (left s item) ++ behind) kept (rw append_assoc at said) in
        rw (start_of_lem t) (record {
          rest = last.front;
          done = item ∷ k.done;
          split = k.split ∙ ap (λ x. x ++ k.done) last.split ∙ append_assoc last.front (item ∷ []) k.done;
          running = record {
            walk = rw whole (record {
              series = record { stands = next.series.stands; counted = refl; proper = next.series.proper };
              low = next.low;
              says = next.says;
            });
            here = k.running.here;
            all = all_left (λ a. Lead s a (left s a)) last.front (item ∷ []) leads_all;
          };
          counted = omega (arith, k.counted);
          wide = omega (arith, k.wide, is);
        })

    -- It has an alternative, and no more than records.
    pub item_width : {table' : List ℕ} {at n' w : ℕ} → Tells at table end (start_of end) → TrimsAt table table' n at end n' w
        → (1 ≤ w) × (at + w ≤ end) × (from ≤ at)
    item_width t c =
        let (said, is) = c.by s item (left s item) (l ++ concat_map skeleton before_it) behind (trimming t) in
        omega (
          arith,
          is,
          length_parts alternation (left s item),
          trim_width lead,
          (trimming t).stop,
          (trimming t).start,
          length-append l (concat_map skeleton before_it),
          tokens last.front,
          k.running.here,
        )

-- In the end all are trimmed.
pub shorts_end : {table₀ table : List ℕ} {n₀ from stop n end gone width : ℕ} → end ≤ from
    → Shorts table₀ n₀ from stop table n end gone width → Shortens table₀ table n₀ from stop n gone width
shorts_end {table₀} {table} {n₀} {from} {stop} {n} {end} {gone} {width} h w = record {
  by = λ before s front leads l ts r. go (w.by before s front leads l ts r);
}
  where
    none : (m : List Node) → length (concat_map skeleton m) ≤ 0 → m ≡ []
    none [] z = refl
    none (r ∷ m) z = absurd (omega (arith, fewer_parts (r ∷ m)))

    go : {before s : List ℕ} {front leads : List Node} {l ts : List Token}
        → Short table n from end gone width before s front leads l ts
        → Says table n (l ++ (concat_map skeleton front ++ (concat_map trimmed (map (left s) leads) ++ ts)))
        × (gone ≡ length leads) × (width ≡ widths (map (left s) leads))
    go {s = s} {front} {leads} {l} {ts} k =
        let over : k.rest ≡ [] = none k.rest (omega (arith, k.running.walk.low, k.running.here, tokens k k.rest)) in
        let all : k.done ≡ leads = sym (k.split ∙ ap (λ x. x ++ k.done) over) in
        let says = rw (over, append-nil) at k.running.walk.says in
        rw (← all) (says, k.counted, k.wide)
