-- A step of the tidier over a table: a law is carried out at the part that was found, what it makes merges in the series that
-- it stands in, and the derived words are written anew.
use Rattle.std.specs.Prelude.{◌≡◌, List, [], ◌∷◌, ◌++◌, ℕ, zero, suc, ◌+◌, ◌-◌, ◌*◌, ◌≤◌, ◌<◌, length, get_or}
use Rattle.std.proofs.Common.{sym, subst, ◌∙◌, arith, length-append}
use Rattle.std.proofs.Math.Path.{ap}
use Rattle.std.proofs.Math.Option.{Option, none, some, map, none-ne-some, some-injective}
use Rattle.meaning.specs.Node.{Node, Node.empty}
use Rattle.meaning.specs.Flat.{Kind, pair, Flat, by_parts}
use Rattle.meaning.specs.Results.{concat_map}
use Rattle.table.specs.Table.{record_words}
use Rattle.table.specs.Laws.{inner}
use Rattle.tidying_laws.specs.Charge.{records_bound}
use Rattle.tidying_laws.specs.Tidier.{Place, itself, places, lowest, found, tidy_step}
use Rattle.tidying_laws.proofs.Found.{first_nth, places_records}
use Rattle.tidying_laws.specs.ByNumber.{law_of}
use Rattle.tidying_laws.proofs.ByNumber.{law_at}
use Rattle.tidying_laws.specs.Tidy.{Step}
use Rattle.tidying_laws.proofs.Tidy.{step}
use Rattle.tidying_shapes.specs.Skeleton.{Token, skeleton_in, skeleton, width, token, inner_skeleton, pair_row, pair_in}
use Rattle.tidying_shapes.specs.Skeleton.{alone as in-series}
use Rattle.tidying_shapes.specs.Tokens.{Says}
use Rattle.tidying_shapes.specs.Laws.{says_length}
use Rattle.tidying_shapes.proofs.Told.{skeleton_count, stands_say}
use Rattle.tidying_shapes.specs.Spots.{Parent, Parent.top as outermost, Parent.alone, Parent.among, row_of, behind, Spot}
use Rattle.tidying_shapes.specs.Placed.{Spots, placed}
use Rattle.tidying_shapes.proofs.Replaced.{spot_tokens, spot_unmerged, spot_merged}
use Rattle.tidying_shapes.specs.Merging.{Unmerged, SomeUnmerged, Merged}
use Rattle.tidying_shapes.specs.Fresh.{Said, SomeSaid, Refreshed}
use Rattle.tidying_rewriting.specs.Rewriting.{Fitting, SomeFitting, count}
use Rattle.tidying_rewriting.specs.Carried.{Carries}
use Rattle.tidying.specs.Standing.{Whole, place_at, IsPlace, place_count, place_ended, place_ends, place_flat}
use Rattle.tidying.specs.Search.{choice}
use Rattle.tidying.specs.Held.{Held, held_whole}

-- What a place found says: the part there, what the law makes of it, and what the pattern becomes.
record Fits (r : Node) (top law : ℕ) (q : Node) : Type 0 where
  result : Node
  within : IsPlace top (length (places none r))
  law_fits : law_of law (place_at r top).part ≡ some result
  becomes : (place_at r top).put result ≡ q

-- What a place gives comes of what the lowest law makes of its part.
from_choice : (p : Place) (o : Option (ℕ × Node)) (k : ℕ) (q : Node)
    → map {B = ℕ × Node} (λ t. (t.0, p.put t.1)) o ≡ some (k, q) → (y : Node) × (o ≡ some (k, y)) × (p.put y ≡ q)
from_choice p none k q e = absurd (none-ne-some (k, q) e)
from_choice p (some (j, y)) k q e =
    let f : Path (ℕ × Node) (j, p.put y) (k, q) = some-injective (j, p.put y) (k, q) e in
    (y, ap (λ (t : ℕ × Node). some (t.0, y)) f, ap (λ (t : ℕ × Node). t.1) f)

fits_at : (r q : Node) (top law : ℕ) → found r ≡ some (top, (law, q)) → Fits r top law q
unfolding found
fits_at r q top law e =
    let (low, high, here) = first_nth choice (itself empty) (places none r) top (law, q) e in
    let x : Node = (place_at r top).part in
    let (y, least, put) = from_choice (place_at r top) (lowest x) law q here in
    record { result = y; within = (low, high); law_fits = law_at x y law least; becomes = put }

-- The place of a number is a spot, whose number is that of its own record, from 0.
spots_at : {r : Node} (n : ℕ) (l : List Place) → Spots none r n l → (i m : ℕ) → i < length l → n + i ≡ m
    → Spot none r (get_or l i (itself empty)) m
spots_at n [] h i m g e = absurd (omega arith)
spots_at {r} n (p ∷ l) h zero m g e = subst (λ (x : ℕ). Spot none r p x) (omega arith) h.0
spots_at n (p ∷ l) h (suc i) m g e = spots_at (suc n) l h.1 i m (omega arith) (omega arith)

spot_at : (r : Node) → Flat r → (top : ℕ) → IsPlace top (length (places none r)) → Spot none r (place_at r top) (top - 1)
spot_at r f zero h = absurd (omega arith)
spot_at r f (suc i) h = spots_at 0 (places none r) (placed none r f).1 i (suc i - 1) (omega arith) (omega arith)

-- A pattern alone has at most one token more than in a series.
series_less : (k : Kind) (y : Node) → length (skeleton y) ≤ length (skeleton_in (some k) y) + 1
series_less k = by_parts k (λ y l. length (skeleton y) ≤ length (skeleton_in (some k) y) + 1)
    (λ r h. omega (arith, ap length (in-series k r h).0))
    (λ r q l e.
    let series : length (skeleton_in (some k) (pair k r q)) ≡ length (skeleton r) + length (skeleton_in (some k) q)
    = ap length (pair_row k r q) ∙ length-append (skeleton r) (skeleton_in (some k) q) in
    let own : length (skeleton (pair k r q)) ≡ length (skeleton r) + (length (skeleton_in (some k) q) + 1)
    = ap length (pair_in none k r q) ∙ simp length-append (omega arith) in
    omega arith)

-- So before a part has merged there is at most one token more than after.
unmerged_less : (P : Parent none) (y : Node)
    → length (skeleton y) + length (behind P 1) ≤ length (skeleton_in (row_of P) y ++ behind P (width (row_of P) y)) + 1
unmerged_less outermost y = simp length-append (omega arith)
unmerged_less (alone tok rest) y = simp length-append (omega arith)
unmerged_less (among k others later rest) y = simp length-append (omega (arith, series_less k y))

-- Every pattern has a token.
has_token : (y : Node) → 1 ≤ length (skeleton y)
has_token y = omega (arith, ap length (inner_skeleton y) ∙ length-append (concat_map skeleton (inner y)) (token y ∷ []))

-- The parts of a step at a place that was found.
module _ {table : List ℕ} {n g p : ℕ} {r q : Node} {top law : ℕ} (h : Held table n r g p)
    (e : found r ≡ some (top, (law, q))) where
  -- What is known of the pattern, of the place, and of the pattern that it becomes,
  all : Whole r
  all = held_whole h

  fit : Fits r top law q
  fit = fits_at r q top law e

  pub steps : tidy_step r ≡ some q
  unfolding tidy_step
  steps = ap (map (λ t. t.1.1)) e

  next : Step r g q
  next = step r g h.numbers q steps

  -- which takes at most two records for each byte and one, so that with one more there is room,
  next_count : length (skeleton q) ≤ 2 * p + 1
  next_count =
      let flat : Flat q = next.flat h.flat in
      omega (arith, (placed none q flat).0, places_records q, (records_bound q flat).0, next.light, h.light)

  -- and of the tokens on both sides of the part.
  spot : Spot none r (place_at r top) (top - 1)
  spot = spot_at r h.flat top fit.within

  abbrev left : List Token
  left = concat_map skeleton spot.earlier

  abbrev right : List Token
  right = behind spot.parent 1

  within : IsPlace top n
  within = omega (arith, fit.within, place_count r all h.stands)

  next_tokens : skeleton q ≡ left ++ (skeleton_in (row_of spot.parent) fit.result ++
      behind spot.parent (width (row_of spot.parent) fit.result))
  next_tokens = ap skeleton (sym fit.becomes) ∙ spot.put fit.result

  room : length left + length (skeleton fit.result) + length right ≤ 2 * p + 2
  room =
      let long : length (skeleton q) ≡ length left + length (skeleton_in (row_of spot.parent) fit.result ++
      behind spot.parent (width (row_of spot.parent) fit.result))
      = ap length next_tokens ∙ simp length-append in
      omega (arith, next_count, unmerged_less spot.parent fit.result)

  -- The law is carried out,
  fitting : Fitting (law_of law) table n top (place_ended r all h.stands top within).before (place_at r top).part
      fit.result left right
  fitting = record {
    placed = record {
      ends = place_ends r all h.stands top within;
      says = subst (λ (ts : List Token). Says table n ts) (spot_tokens spot) (stands_say r h.proper h.stands);
      here = omega (arith, spot.number, within);
      flat = place_flat r all h.stands top within;
    };
    fits = fit.law_fits;
    room = omega (arith, room, h.room);
  }

  pub some_fitting : SomeFitting (law_of law) table n top
  some_fitting = record {
    before = _;
    node = (place_at r top).part;
    result = fit.result;
    left = left;
    right = right;
    fitting = fitting;
  }

  -- what it makes merges,
  module _ {table₁ : List ℕ} {n₁ : ℕ} (w : Carries law table table₁ n top n₁) where
    says₁ : Says table₁ n₁ (left ++ (skeleton fit.result ++ right))
    says₁ = w.by.by _ (place_at r top).part fit.result left right fitting

    -- its own record as far from the end as that of the part was,
    root_at : (n < top + n₁) × (length left + length (skeleton fit.result) ≡ top + n₁ - n)
    root_at = omega (
      arith,
      sym (says_length says₁) ∙ length-append left (skeleton fit.result ++ right),
      length-append (skeleton fit.result) right,
      count fitting.placed,
      fitting.placed.here,
      has_token fit.result,
    )

    pub made_few : (top ≤ n) × (n < top + n₁) × (record_words * n ≤ length table) × (record_words * n₁ ≤ length table₁)
    made_few = (within.1, root_at.0, h.stands.room, says₁.room)

    unmerged : Unmerged table₁ n₁ (top + n₁ - n - 1) left fit.result spot.parent
    unmerged = spot_unmerged spot fit.result says₁ (omega (arith, root_at)) (rw fit.becomes (next.proper h.proper))
        (rw fit.becomes (omega (arith, skeleton_count q (next.proper h.proper), next_count, h.short)))

    pub some_unmerged : SomeUnmerged table₁ n₁ (top + n₁ - n - 1)
    some_unmerged = record { before = left; part = fit.result; parent = spot.parent; unmerged = unmerged }

    -- and the derived words are written.
    module _ {table₂ : List ℕ} {n₂ : ℕ} (s : Merged table₁ table₂ n₁ (top + n₁ - n - 1) n₂) where
      said : Said table₂ n₂ q
      said =
          let says₂ : Says table₂ n₂ (skeleton q) = rw fit.becomes at (spot_merged spot fit.result unmerged s) in
          record {
            says = says₂;
            proper = next.proper h.proper;
            few = omega (arith, says_length says₂, next_count, h.short);
          }

      pub some_said : SomeSaid table₂ n₂
      some_said = record { node = q; said = said }

      pub step_held : {table₃ : List ℕ} → Refreshed table₂ table₃ n₂ → length table₃ ≡ length table → Held table₃ n₂ q g p
      step_held f l = record {
        stands = f.by q said;
        flat = next.flat h.flat;
        proper = next.proper h.proper;
        numbers = next.numbers;
        light = omega (arith, next.light, h.light);
        short = h.short;
        room = omega (arith, h.room);
      }
