-- T6 and T7 in a table: where the alternative that goes stands, and what is said without it.
use Rattle.std.proofs.Common.{Some}
use mathlib.Core.Option.{some}
use Rattle.std.specs.Option.{IsSome}
use Rattle.std.specs.Prelude.{◌≡◌, List, ◌∷◌, ◌++◌, ℕ, ◌+◌, ◌-◌, ◌*◌, ◌≤◌, ◌<◌, length, get_or}
use Rattle.std.proofs.Common.{sym, ap, subst, ◌∙◌, append_assoc, arith, length-append}
use Rattle.meaning.specs.Node.{Node, Node.bset, Proper}
use Rattle.meaning.specs.Flat.{Kind, Kind.alternation, Not}
use Rattle.meaning.specs.Results.{concat_map}
use Rattle.table.specs.Table.{set_kind}
use Rattle.table.specs.Table.{sequence_kind}
use Rattle.table.specs.Table.{items_word, kind_word}
use Rattle.table.specs.Table.{record_words, record_count, records}
use Rattle.meaning.specs.All.{All, all_append, all_left, all_right}
use Rattle.table.specs.Laws.{inner, kind_of, parts_flat}
use Rattle.table.specs.Laws.{count_all}
use Rattle.table.specs.Stands.{Ends, Series, SomePart}
use Rattle.table.specs.Roots.{inside, among_ends}
use Rattle.tidying_laws.specs.Void.{void}
use Rattle.tidying_laws.specs.Laws.{t7}
use Rattle.tidying_fitting.specs.Parts.{Tells}
use Rattle.tidying_fitting.specs.Words.{start_of}
use Rattle.tidying_fitting.specs.Places.{Place, end_of}
use Rattle.tidying_fitting.specs.Wants.{without, wanted_end}
use Rattle.tidying_fitting.specs.declared.Want.{Want}
use Rattle.tidying_fitting.specs.declared.Want.TheVariants.{Void}
use Rattle.tidying_shapes.specs.Skeleton.{Token, token, row_token, skeleton_in, skeleton}
use Rattle.tidying_shapes.specs.Tokens.{Says}
use Rattle.tidying_shapes.proofs.Told.{skeleton_count}
use Rattle.tidying_rewriting.specs.Rewriting.{Placed, Fitting, SomeFitting, Rewrites, Shrinks, ok_some, fitting_wide}
use Rattle.tidying_rewriting.specs.Rewriting.{some_wide}
use Rattle.tidying_rewriting.specs.Rewriting.{within, own_word}
use Rattle.tidying_rewriting.proofs.Own.{own_said, inside_here}
use Rattle.tidying_rewriting.specs.Frames.{Cut}
use Rattle.tidying_rewriting.specs.Series.{skeletons_count, skeletons_append, Rejoins, Rejoining, joined}
use Rattle.tidying_rewriting.specs.Dropping.{dropping}
use Rattle.tidying_rewriting.proofs.Dropping.{Drop, drop_of, void_alternation, void_sequence}

-- A part inside a part that is placed: where its records end.
module _ {table : List ℕ} {n top : ℕ} {before : List ℕ} {x : Node} {l m : List Token}
    (p : Placed table n top before x l m)
    (front : List Node) (q : Node) (more : List Node) (split : inner x ≡ front ++ (q ∷ more)) where
  series : Series table (top - 1) (length (front ++ (q ∷ more))) before (front ++ (q ∷ more))
  series = rw split at (inside p.ends)

  proper : All Proper (q ∷ more)
  proper = all_right Proper front (q ∷ more) series.proper

  pub inner_tokens : concat_map skeleton (inner x) ≡ concat_map skeleton front ++ (skeleton q ++ concat_map skeleton more)
  inner_tokens = ap (concat_map skeleton) split ∙ skeletons_append front (q ∷ more)

  pub front_count : length (concat_map skeleton front) ≡ count_all front
  front_count = skeletons_count front (all_left Proper front (q ∷ more) series.proper)

  pub part_count : length (skeleton q) ≡ record_count q
  part_count = skeleton_count q proper.0

  -- Before it stand the tokens on the left and those of the parts in front.
  pub part_end : length l + length (concat_map skeleton front) + record_count q + length (concat_map skeleton more) + 1 ≡ top
  part_end = omega (
    arith,
    inside_here p,
    ap length inner_tokens,
    length-append (concat_map skeleton front) (skeleton q ++ concat_map skeleton more),
    length-append (skeleton q) (concat_map skeleton more),
    part_count,
  )

  pub part_ends : Ends table (length l + length (concat_map skeleton front) + record_count q)
      (before ++ concat_map records front) q
  part_ends =
      let number : top - 1 - count_all more ≡ length l + length (concat_map skeleton front) + record_count q
      = omega (arith, part_end, skeletons_count more proper.1) in
      rw number at (among_ends front q more series)

-- The numbers of records at which the alternative that goes ends and starts, and how many alternatives there are.
pub record DropAt (want : Want) (n top : ℕ) (x y : Node) (l : List Token) (end from items : ℕ) : Type 0 where
  pub drop : Drop want x y
  pub start : from ≡ length l + length (concat_map skeleton drop.at.front)
  pub gone : end - from ≡ record_count drop.at.part
  pub order : from ≤ end
  pub few : end < top
  pub inside : top ≤ n
  pub all : items ≡ length (inner x)
  pub some : 1 ≤ items

module _ (want : Want) {table : List ℕ} {n top : ℕ} {before : List ℕ} {x y : Node} {l m : List Token}
    (fit : Fitting (dropping want) table n top before x y l m) where
  drop : Drop want x y
  drop = drop_of want x y fit.fits

  abbrev ended : ℕ
  ended = length l + length (concat_map skeleton drop.at.front) + record_count drop.at.part

  -- There is one, and this is where it ends.
  pub drop_some : {found : Place} → Tells found table top (wanted_end want top) → IsSome found
  drop_some t = rw (t.by before x fit.placed.ends, drop.found)

  drop_end : {end : ℕ} → Tells (Some end) table top (wanted_end want top) → end ≡ ended
  drop_end {end} t =
      let found : Some end ≡ end_of (top - record_count x) (some drop.at)
      = t.by before x fit.placed.ends ∙ ap (end_of (top - record_count x)) drop.found in
      let told : end ≡ top - record_count x + count_all drop.at.front + record_count drop.at.part = cc in
      omega (
        arith,
        told,
        fit.placed.here,
        skeleton_count x fit.placed.ends.proper,
        front_count fit.placed drop.at.front drop.at.part drop.at.more drop.split,
      )

  drop_ends : {end : ℕ} → Tells (Some end) table top (wanted_end want top)
      → Ends table end (before ++ concat_map records drop.at.front) drop.at.part
  drop_ends t =
      rw (drop_end t) (part_ends fit.placed drop.at.front drop.at.part drop.at.more drop.split)

  pub drop_there : {end : ℕ} → Tells (Some end) table top (wanted_end want top) → SomePart table end
  drop_there t =
      record { before = before ++ concat_map records drop.at.front; part = drop.at.part; ends = drop_ends t }

  pub drop_at : {end from items : ℕ} → Tells (Some end) table top (wanted_end want top)
      → Tells from table end (start_of end) → items ≡ get_or table (record_words * (top - 1) + items_word) 0
      → DropAt want n top x y l end from items
  drop_at {end} {from} {items} t s e =
      let started : from ≡ end - record_count drop.at.part = s.by _ _ (drop_ends t) in
      let all : items ≡ length (inner x) = e ∙ own_word fit.placed items_word (omega arith) in
      let stop : end ≡ ended = drop_end t in
      let one = ap length drop.split in
      let low = within fit.placed in
      record {
        drop = drop;
        start = omega arith;
        gone = omega arith;
        order = omega arith;
        few = omega (arith, part_end fit.placed drop.at.front drop.at.part drop.at.more drop.split);
        inside = omega arith;
        all = all;
        some = omega (arith, length-append drop.at.front (drop.at.part ∷ drop.at.more));
      }

-- Without it the others are left, and the series is rejoined over them.
each_without : (k : Kind) (a : List Node) (q : Node) (b : List Node) → All (Not k) (a ++ (q ∷ b)) → All (Not k) (a ++ b)
each_without k a q b h = all_append (Not k) a b (all_left (Not k) a (q ∷ b) h) (all_right (Not k) a (q ∷ b) h).1

module _ {want : Want} {table table' : List ℕ} {n top n' end from items : ℕ} {before : List ℕ} {x y : Node}
    {l m : List Token} (fit : Fitting (dropping want) table n top before x y l m)
    (d : DropAt want n top x y l end from items) (cut : Cut table table' n from (end - from) n') where
  abbrev front : List Node
  front = d.drop.at.front

  abbrev gone : Node
  gone = d.drop.at.part

  abbrev more : List Node
  more = d.drop.at.more

  abbrev a : List Token
  a = concat_map skeleton front

  abbrev q : List Token
  q = skeleton gone

  abbrev b : List Token
  b = concat_map skeleton more

  numbers : (length q ≡ record_count gone) × (length l + length a + length q + length b + 1 ≡ top)
  numbers =
      let count = part_count fit.placed front gone more d.drop.split in
      (count, omega (arith, part_end fit.placed front gone more d.drop.split))

  left_said : Says table' n'
      (l ++ (concat_map skeleton (without d.drop.at) ++ (row_token alternation (length (inner x)) ∷ m)))
  left_said =
      let rest : List Token = token x ∷ m in
      let whole : concat_map skeleton (inner x) ++ rest ≡ a ++ (q ++ (b ++ rest))
      = ap (λ ts. ts ++ rest) (inner_tokens fit.placed front gone more d.drop.split)
      ∙ append_assoc a (q ++ b) rest ∙ ap (λ ts. a ++ ts) (append_assoc q b rest) in
      let low : length (l ++ a) ≡ from = omega (arith, d.start, length-append l a) in
      let said : Says table n ((l ++ a) ++ (q ++ (b ++ rest)))
      = rw append_assoc (subst (λ (ts : List Token). Says table n (l ++ ts)) whole (own_said fit.placed)) in
      let short : Says table' n' ((l ++ a) ++ (b ++ rest))
      = cut.says (l ++ a) q (b ++ rest) low (numbers.0 ∙ sym d.gone) said in
      let left : concat_map skeleton (without d.drop.at) ++ rest ≡ a ++ (b ++ rest)
      = ap (λ ts. ts ++ rest) (skeletons_append front more) ∙ append_assoc a b rest in
      rw (← d.drop.says, left, ← append_assoc) short

  pub drop_rejoining : Rejoining table' n' (top + n' - n) (items - 1) alternation (without d.drop.at) l m
  drop_rejoining = record {
    old = length (inner x);
    says = left_said;
    here = omega
        (arith, numbers, cut.left, d.gone, d.inside, ap length (skeletons_append front more), length-append a b);
    counted = omega
        (arith, d.all, ap length d.drop.split, length-append front (gone ∷ more), length-append front more);
    apart = each_without alternation front gone more
        (rw (← d.drop.split, d.drop.all) (parts_flat alternation x fit.placed.flat));
  }

pub drops : (want : Want) {table table₁ table₂ : List ℕ} {n top n₁ n₂ end from items : ℕ}
    → Tells (Some end) table top (wanted_end want top) → Tells from table end (start_of end)
    → items ≡ get_or table (record_words * (top - 1) + items_word) 0 → Cut table table₁ n from (end - from) n₁
    → Rejoins table₁ table₂ n₁ (top + n₁ - n) (items - 1) n₂ → Rewrites (dropping want) table table₂ n top n₂
drops want t s e cut c = record {
  by = λ before x y l m fit.
      let d = drop_at want fit t s e in
      rw d.drop.result at (joined c (drop_rejoining fit d cut));
}

-- T7, by the kind of the part: a sequence becomes the empty set.
pub voids : {table table₁ : List ℕ} {n top n' w : ℕ} → w ≡ get_or table (record_words * (top - 1) + kind_word) 0 → w ≡ sequence_kind
    → Shrinks table table₁ n top set_kind n' → Rewrites t7 table table₁ n top n'
unfolding skeleton_in inner
voids e z s = record {
  by = λ before x y l m f.
      let kind : kind_of x ≡ sequence_kind = sym (own_word f.placed kind_word (omega arith)) ∙ sym e ∙ z in
      rw (ok_some (λ y. y ≡ bset void) f.fits (void_sequence x kind)) (s.by before x l m f.placed);
}

-- And of an alternation the leftmost empty set goes.
module _ {table : List ℕ} {n top w : ℕ} (e : w ≡ get_or table (record_words * (top - 1) + kind_word) 0)
    (z : w ≡ sequence_kind → ⊥) where
  other : {before : List ℕ} {x : Node} {l m : List Token} → Placed table n top before x l m → kind_of x ≡ sequence_kind → ⊥
  other p h = z (e ∙ own_word p kind_word (omega arith) ∙ h)

  pub void_fits : SomeFitting t7 table n top → SomeFitting (dropping Void) table n top
  void_fits s = some_wide s (void_alternation s.node (other s.fitting.placed))

  pub void_drops : {table₁ : List ℕ} {n' : ℕ} → Rewrites (dropping Void) table table₁ n top n'
      → Rewrites t7 table table₁ n top n'
  void_drops r = record {
    by = λ before x y l m f. r.by before x y l m (fitting_wide (void_alternation x (other f.placed)) f);
  }
