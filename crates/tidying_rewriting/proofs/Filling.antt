-- T1: the items of a sequence are walked from the last one back, and empty ones go.
use Rattle.std.specs.Prelude.{◌≡◌, refl, Bool, false, cond, ℕ, ◌+◌, ◌-◌, ◌*◌, ◌≤◌, ◌<◌, get_or}
use Rattle.std.proofs.Math.Path.{sym, ap, subst}
use Rattle.std.proofs.Common.{◌∙◌, not-suc-le-zero, arith}
use Rattle.std.proofs.Math.Bool.{true}
use Rattle.std.proofs.Math.Option.{Option}
use mathlib.Core.List.{List, [], ◌∷◌, ◌++◌, append_assoc, append-nil}
use Rattle.std.proofs.Math.ListN.{length, take, length-append}
use borrow.Author.Tests.{eq-eqb, ne_eqb}
use Rattle.meaning.specs.Node.{Node, Node.empty}
use Rattle.meaning.specs.Flat.{Kind.sequence, Not, join}
use Rattle.meaning.specs.Results.{concat_map}
use Rattle.table.specs.Table.{empty_kind, items_word, kind_word, records_word}
use Rattle.table.specs.Table.{record_words, records_in, record_count}
use Rattle.meaning.specs.All.{All}
use Rattle.table.specs.Laws.{inner, kind_of, parts_flat}
use Rattle.tidying_laws.specs.Choices.{any}
use Rattle.tidying_laws.specs.Equal.{same_eq}
use Rattle.tidying_laws.specs.Laws.{when, is_empty, filled, t1}
use Rattle.tidying_laws.specs.Kept.{ok_when}
use Rattle.table.specs.Roots.{Last, some_last}
use Rattle.tidying_fitting.specs.Words.{empty_kind_lem}
use Rattle.tidying_shapes.specs.Skeleton.{Token, token, row_token, skeleton_in, skeleton}
use Rattle.tidying_shapes.specs.Tokens.{Says}
use Rattle.tidying_shapes.specs.Laws.{says_length}
use Rattle.tidying_rewriting.specs.Rewriting.{Placed, Fitting, SomeFitting, Rewrites, ok_some, count}
use Rattle.tidying_rewriting.specs.Frames.{Cut}
use Rattle.tidying_rewriting.specs.Series.{SeriesOf, series_of, Rejoins, Rejoining, joined}
use Rattle.tidying_rewriting.proofs.Walks.{Walked, walk_start, Turned, turned, last_word}

-- Of the items behind those still to be walked the filled ones are left, `kept` of them.
pub record Filling (table : List ℕ) (n end left kept : ℕ) (before : List ℕ) (x : Node) (l m : List Token) : Type 0 where
  pub rest : List Node
  pub more : List Node
  pub split : inner x ≡ rest ++ more
  pub walk : Walked table n end left before rest l (concat_map skeleton (filled more) ++ (token x ∷ m))
  pub counted : kept ≡ length (filled more)

module _ {table : List ℕ} {n : ℕ} {before : List ℕ} {x : Node} {l m : List Token} where
  -- It begins with no item behind,
  pub filling_start : {top w : ℕ} → Placed table n top before x l m → w ≡ get_or table (record_words * (top - 1) + items_word) 0
      → Filling table n (top - 1) w 0 before x l m
  unfolding filled
  filling_start p e = record {
    rest = inner x;
    more = [];
    split = sym (append-nil (inner x));
    walk = walk_start p e;
    counted = refl;
  }

  -- and then an empty item, which is one record, goes, and any other stays.
  module _ {end left kept : ℕ} (f : Filling table n end left kept before x l m) (h : 0 < left) where
    last : Last f.rest
    last = some_last f.rest (omega (arith, f.walk.series.counted))

    abbrev front : List Node
    front = last.front

    abbrev item : Node
    item = last.last

    abbrev behind : List Token
    behind = concat_map skeleton (filled f.more) ++ (token x ∷ m)

    turn : Turned table n end left before front item l behind
    turn = turned front item (rw last.split at f.walk)

    split_more : inner x ≡ front ++ (item ∷ f.more)
    split_more = f.split ∙ ap (λ r. r ++ f.more) last.split ∙ append_assoc front (item ∷ []) f.more

    gone : kind_of item ≡ empty_kind → (item ≡ empty) × (filled (item ∷ f.more) ≡ filled f.more)
    unfolding filled
    gone e =
        let passes : is_empty item ≡ true = empty_kind_lem item ∙ eq-eqb (kind_of item) empty_kind e in
        (same_eq item empty passes, rw passes)

    stays : (kind_of item ≡ empty_kind → ⊥) → filled (item ∷ f.more) ≡ item ∷ filled f.more
    unfolding filled
    stays e = rw (empty_kind_lem item ∙ ne_eqb (kind_of item) empty_kind e)

    pub filling_gone : {table' : List ℕ} {w n' : ℕ} → w ≡ get_or table (record_words * (end - 1) + kind_word) 0 → w ≡ empty_kind
        → Cut table table' n (end - 1) 1 n' → Filling table' n' (end - 1) (left - 1) kept before x l m
    unfolding records_in skeleton_in
    filling_gone {table'} {w} {n'} e z cut =
        let (is, same) = gone (sym (last_word turn kind_word (omega arith)) ∙ sym e ∙ z) in
        let one : record_count item ≡ 1 = ap record_count is in
        let ts : List Token = concat_map skeleton (filled (item ∷ f.more)) ++ (token x ∷ m) in
        let tokens : List Token = concat_map skeleton front in
        let low : length (l ++ tokens) ≡ end - 1 = omega (arith, length-append l tokens, turn.start) in
        let says : Says table' n' (l ++ (tokens ++ ts))
        = rw same (rw append_assoc at (cut.says (l ++ tokens) (skeleton item) behind low (ap (λ q. length (skeleton q)) is)
        (rw append_assoc turn.says))) in
        record {
          rest = front;
          more = item ∷ f.more;
          split = split_more;
          walk = subst (λ (i : ℕ). take (record_words * (end - i)) table' ≡ take (record_words * (end - i)) table
              → Walked table' n' (end - i) (left - 1) before front l ts) one (λ b. turn.next ts b says) cut.below;
          counted = f.counted ∙ ap length (sym same);
        }

    pub filling_kept : {v w : ℕ} → w ≡ get_or table (record_words * (end - 1) + kind_word) 0 → (w ≡ empty_kind → ⊥)
        → v ≡ get_or table (record_words * (end - 1) + records_word) 0 → Filling table n (end - v) (left - 1) (kept + 1) before x l m
    filling_kept {v} {w} e z r =
        let same = stays (λ k. z (e ∙ last_word turn kind_word (omega arith) ∙ k)) in
        let all : v ≡ record_count item = r ∙ last_word turn records_word (omega arith) in
        let ts : List Token = concat_map skeleton (filled (item ∷ f.more)) ++ (token x ∷ m) in
        let says : Says table n (l ++ (concat_map skeleton front ++ ts)) = rw (same, append_assoc) turn.says in
        record {
          rest = front;
          more = item ∷ f.more;
          split = split_more;
          walk = rw all (turn.next ts refl says);
          counted = omega (arith, f.counted, ap length same);
        }

    -- The item is there.
    pub item_there : (0 < end) × (end ≤ n) × (record_words * n ≤ length table)
    item_there = omega (arith, turn.some, turn.few, turn.under, turn.says.room)

    pub item_few : {v : ℕ} → v ≡ get_or table (record_words * (end - 1) + records_word) 0 → v ≤ end
    item_few r = let all = r ∙ last_word turn records_word (omega arith) in omega (arith, turn.few)

-- In the end the series is rejoined over the filled items.
each_filled : (l : List Node) → All (Not sequence) l → All (Not sequence) (filled l)
unfolding filled
each_filled [] h = tt
each_filled (r ∷ l) h = go (is_empty r) (each_filled l h.1)
  where
    go : (b : Bool) → All (Not sequence) (filled l) → All (Not sequence) (cond b (filled l) (r ∷ filled l))
    go true g = g
    go false g = (h.0, g)

abbrev filled_series : List Node → Option Node
filled_series l = when (any is_empty l) (join sequence (filled l))

module _ {table₀ : List ℕ} {n₀ top : ℕ} {before : List ℕ} {x y : Node} {l m : List Token}
    (fit : Fitting t1 table₀ n₀ top before x y l m) where
  series : SeriesOf sequence filled_series x y
  series = ok_some (SeriesOf sequence filled_series x) fit.fits (series_of sequence filled_series x)

  pub fill_result : join sequence (filled (inner x)) ≡ y
  fill_result = let P : Node → Type 0 = λ y. join sequence (filled (inner x)) ≡ y in
      ok_some P series.fits (ok_when P (any is_empty (inner x)) (join sequence (filled (inner x))) (λ t. refl))

  pub filled_room : {table : List ℕ} {n end left kept : ℕ} → Filling table n end left kept before x l m
      → (n₀ < top + n) × (top + n - n₀ ≤ n) × (record_words * n ≤ length table)
  filled_room {n = n} f =
      let front : List Token = concat_map skeleton f.rest in
      let some : List Token = concat_map skeleton (filled f.more) in
      let s = f.walk.says in
      omega (
        arith,
        count fit.placed,
        fit.placed.here,
        s.room,
        says_length s,
        length-append l (front ++ (some ++ (token x ∷ m))),
        length-append front (some ++ (token x ∷ m)),
        length-append some (token x ∷ m),
      )

  pub filled_rejoining : {table : List ℕ} {n end left kept : ℕ} → left ≤ 0 → Filling table n end left kept before x l m
      → Rejoining table n (top + n - n₀) kept sequence (filled (inner x)) l m
  filled_rejoining {table} {n} {end} {left} {kept} z f =
      go f.rest f.split (omega (arith, f.walk.series.counted)) f.walk.says
    where
      go : (rest : List Node) → inner x ≡ rest ++ f.more → length rest ≤ 0
          → Says table n (l ++ (concat_map skeleton rest ++ (concat_map skeleton (filled f.more) ++ (token x ∷ m))))
          → Rejoining table n (top + n - n₀) kept sequence (filled (inner x)) l m
      go (r ∷ rest) e h s = absurd (not-suc-le-zero h)
      go [] e h s =
          let some : List Token = concat_map skeleton (filled (inner x)) in
          let Said : List Node → Type 0 = λ ps. Says table n (l ++ (concat_map skeleton (filled ps) ++ (token x ∷ m))) in
          let said : Says table n (l ++ (some ++ (row_token sequence (length (inner x)) ∷ m)))
          = rw (← series.says) (subst Said (sym e) s) in
          record {
            old = length (inner x);
            says = said;
            here = omega (
              arith,
              count fit.placed,
              fit.placed.here,
              says_length said,
              length-append l (some ++ (row_token sequence (length (inner x)) ∷ m)),
              length-append some (row_token sequence (length (inner x)) ∷ m),
            );
            counted = f.counted ∙ ap (λ ps. length (filled ps)) (sym e);
            apart = each_filled (inner x) (rw series.all (parts_flat sequence x fit.placed.flat));
          }

-- What the loop keeps, whatever the part is.
pub record Fills (table₀ : List ℕ) (n₀ top : ℕ) (table : List ℕ) (n end left kept : ℕ) : Type 0 where
  pub by : (before : List ℕ) (x y : Node) (l m : List Token) → Fitting t1 table₀ n₀ top before x y l m
      → Filling table n end left kept before x l m

pub one_filling : {table₀ table : List ℕ} {n₀ top n end left kept : ℕ} (s : SomeFitting t1 table₀ n₀ top)
    → Fills table₀ n₀ top table n end left kept → Filling table n end left kept s.before s.node s.left s.right
one_filling s f = f.by s.before s.node s.result s.left s.right s.fitting

pub fills_all : {table₀ table table' : List ℕ} {n₀ top n n' end left kept : ℕ} → left ≤ 0
    → Fills table₀ n₀ top table n end left kept → Rejoins table table' n (top + n - n₀) kept n'
    → Rewrites t1 table₀ table' n₀ top n'
fills_all z f c = record {
  by = λ before x y l m fit.
      rw (fill_result fit) at (joined c (filled_rejoining fit z (f.by before x y l m fit)));
}
