-- A part merges: what is known of it and its parent, and what becomes of their tokens. Assumes nothing.
use mathlib.Core.Path.{◌≡◌, refl, sym, ap, ap₂, subst, ◌∙◌}
use mathlib.Core.Logic.{⊎_elim}
use mathlib.Core.Option.{none, some}
use mathlib.Core.List.{List, [], ◌∷◌, ◌++◌, append_assoc}
use Prim.Native.Nat.{ℕ, suc, ◌+◌, ◌-◌, ◌*◌, ◌≤◌, ◌<◌}
use native.Mathlib.Omega.{arith}
use lib.ListN.{length, get_or, length-append}
use Rattle.meaning.specs.Node.{Node, Node.empty, Node.bset, Node.assert, Node.group, Node.seq, Node.alt, Node.many}
use Rattle.meaning.specs.Flat.{Kind, Kind.sequence, Kind.alternation, pair, Not, parts}
use Rattle.meaning.specs.Results.{concat_map}
use Rattle.table.specs.Table.{record_words}
use Rattle.table.specs.Laws.{inner, kind_of}
use Rattle.tidying_shapes.specs.Skeleton.{Token, token, row_kind, row_token, skeleton_in, skeleton, width, alone as as_alone}
use Rattle.tidying_shapes.specs.Skeleton.{row_token_lem, pair_row, pair_own, pair_parts, inner_skeleton}
use Rattle.tidying_shapes.specs.Spots.{Parent, Parent.top, Parent.alone, Parent.among, row_of, behind}
use Rattle.tidying_shapes.specs.Climb.{away, climbs}
use Rattle.tidying_shapes.specs.Tokens.{token_at, Says}
use Rattle.tidying_shapes.specs.Laws.{says_length, says_at, above_more}
use Rattle.tidying_shapes.specs.Edits.{Removed, Counted}
use Rattle.tidying_shapes.specs.Merging.{Parented, items_of, Unmerged, Merged}

row_low : (k : Kind) → 5 ≤ row_kind k
row_low sequence = omega arith
row_low alternation = omega arith

row_high : (k : Kind) → row_kind k ≤ 6
row_high sequence = omega arith
row_high alternation = omega arith

-- A pattern of another kind than a row's is not of the row's kind.
not_of : (k : Kind) (r : Node) → (kind_of r ≡ row_kind k → ⊥) → Not k r
not_of k empty h = tt
not_of k (bset s) h = tt
not_of k (assert a) h = tt
not_of k (group n r) h = tt
not_of sequence (seq r q) h = absurd (h refl)
not_of alternation (seq r q) h = tt
not_of sequence (alt r q) h = tt
not_of alternation (alt r q) h = absurd (h refl)
not_of k (many n e lazy r) h = tt

-- A pattern of a row's kind is a row: its tokens are those of its parts and then its own, and its items are its parts.
as_pair : (k : Kind) (r : Node) → kind_of r ≡ row_kind k → (a : Node) × (q : Node) × (r ≡ pair k a q)
as_pair k empty e = absurd (omega (arith, row_low k))
as_pair k (bset s) e = absurd (omega (arith, row_low k))
as_pair k (assert a) e = absurd (omega (arith, row_low k))
as_pair k (group n r) e = absurd (omega (arith, row_low k))
as_pair sequence (seq r q) e = (r, q, refl)
as_pair alternation (seq r q) e = absurd (omega arith)
as_pair sequence (alt r q) e = absurd (omega arith)
as_pair alternation (alt r q) e = (r, q, refl)
as_pair k (many n x lazy r) e = absurd (omega (arith, row_high k))

row_own : (k : Kind) (r : Node) → kind_of r ≡ row_kind k
    → skeleton r ≡ skeleton_in (some k) r ++ (row_token k (length (parts k r)) ∷ [])
row_own k r e =
    let (a, q, f) = as_pair k r e in
    rw f (pair_own k a q
    ∙ ap₂ (λ l n. l ++ (row_token k n ∷ [])) (sym (pair_row k a q)) (sym (ap length (pair_parts k a q))))

row_items : (k : Kind) (r : Node) → kind_of r ≡ row_kind k → length (inner r) ≡ length (parts k r)
row_items k r e =
    let (a, q, f) = as_pair k r e in
    rw f (ap (λ t. t.items) (row_token_lem k a q) ∙ sym (ap length (pair_parts k a q)))

module _ {table : List ℕ} {n root : ℕ} {before : List Token} {r : Node} {P : Parent none}
    (u : Unmerged table n root before r P) where
  -- The part's own record, and where its parent's is.
  own_token : token_at table root ≡ token r
  own_token =
      let l : List Token = before ++ concat_map skeleton (inner r) in
      let tokens : before ++ (skeleton r ++ behind P 1) ≡ l ++ (token r ∷ behind P 1)
      = ap (λ x. before ++ (x ++ behind P 1)) (inner_skeleton r)
      ∙ ap (λ x. before ++ x) (append_assoc (concat_map skeleton (inner r)) (token r ∷ []) (behind P 1))
      ∙ sym (append_assoc before (concat_map skeleton (inner r)) (token r ∷ behind P 1)) in
      let place : length l ≡ root
      = omega (
        arith,
        u.here,
        length-append before (concat_map skeleton (inner r)),
        ap length (inner_skeleton r),
        length-append (concat_map skeleton (inner r)) (token r ∷ []),
      ) in
      subst (λ (i : ℕ). token_at table i ≡ token r) place (says_at l (token r) (behind P 1) (rw tokens at u.says))

  pub own_kind : get_or table (record_words * root) 0 ≡ kind_of r
  own_kind = ap (λ t. t.kind) own_token

  -- There are as many records as up to it and behind it.
  all_records : n ≡ suc root + length (behind P 1)
  all_records = omega (
    arith,
    u.here,
    says_length u.says,
    length-append before (skeleton r ++ behind P 1),
    length-append (skeleton r) (behind P 1),
  )

  pub root_low : root < n
  root_low = omega (arith, all_records)

  parent_at : {at : ℕ} → Parented table n root at → at ≡ suc root + away P
  parent_at p =
      let whole : length (before ++ skeleton r) ≡ suc root = omega (arith, length-append before (skeleton r), u.here) in
      let climbed = p.by (before ++ skeleton r) (behind P 1) whole (rw append_assoc u.says) in
      omega (arith, climbed, climbs P u.sound 1 (omega arith))

  -- A record among those behind the part.
  token_behind : (l : List Token) (tok : Token) (m : List Token) → behind P 1 ≡ l ++ (tok ∷ m)
      → token_at table (suc root + length l) ≡ tok
  token_behind l tok m e =
      let first : List Token = before ++ (skeleton r ++ l) in
      let tokens : before ++ (skeleton r ++ behind P 1) ≡ first ++ (tok ∷ m)
      = ap (λ x. before ++ (skeleton r ++ x)) e ∙ ap (λ x. before ++ x) (sym (append_assoc (skeleton r) l (tok ∷ m)))
      ∙ sym (append_assoc before (skeleton r ++ l) (tok ∷ m)) in
      let place : length first ≡ suc root + length l
      = omega (arith, u.here, length-append before (skeleton r ++ l), length-append (skeleton r) l) in
      subst (λ (i : ℕ). token_at table i ≡ tok) place (says_at first tok m (rw tokens at u.says))

-- Nothing changes where no part of a row is of the row's kind.
pub stays : {table : List ℕ} {n root : ℕ}
    → ((before : List Token) (r : Node) (k : Kind) (others : ℕ) (later : List Node) (rest : List Token)
    → Unmerged table n root before r (among k others later rest) → kind_of r ≡ row_kind k → ⊥)
    → Merged table table n root n
stays {table} {n} {root} differs = record { by = go; above = refl; fewer = omega arith }
  where
    go : (before : List Token) (r : Node) (P : Parent none) → Unmerged table n root before r P
        → Says table n (before ++ (skeleton_in (row_of P) r ++ behind P (width (row_of P) r)))
    go before r top u = u.says
    go before r (alone tok rest) u = u.says
    go before r (among k others later rest) u =
        let single = as_alone k r (not_of k r (differs before r k others later rest u)) in
        rw (single.0, single.1) u.says

module _ {table : List ℕ} {n root : ℕ} where
  pub stays_other : (get_or table (record_words * root) 0 ≡ 5 → ⊥) → (get_or table (record_words * root) 0 ≡ 6 → ⊥)
      → Merged table table n root n
  stays_other h g = stays (λ before r k others later rest u e. omega (arith, own_kind u, row_low k, row_high k))

  pub stays_whole : {at : ℕ} → Parented table n root at → at ≡ n → Merged table table n root n
  stays_whole p h = stays (λ before r k others later rest u e.
      omega (arith, parent_at u p, all_records u, length-append (concat_map skeleton later) (row_token k (others + 1) ∷ rest)))

  -- The token of a parent that is a row.
  row_there : {at : ℕ} (before : List Token) (r : Node) (k : Kind) (others : ℕ) (later : List Node) (rest : List Token)
      → Unmerged table n root before r (among k others later rest) → Parented table n root at
      → token_at table at ≡ row_token k (others + 1)
  row_there before r k others later rest u p =
      ap (token_at table) (parent_at u p) ∙ token_behind u (concat_map skeleton later) (row_token k (others + 1)) rest refl

  pub stays_apart : {at : ℕ} → Parented table n root at
      → (get_or table (record_words * at) 0 ≡ get_or table (record_words * root) 0 → ⊥) → Merged table table n root n
  stays_apart p h = stays (λ before r k others later rest u e.
      h (ap (λ t. t.kind) (row_there before r k others later rest u p) ∙ sym e ∙ sym (own_kind u)))

-- What is known where a part joins the row that is its parent.
pub record Joins (table : List ℕ) (n root at : ℕ) : Type 0 where
  pub parent : Parented table n root at
  pub inside : at < n
  pub same : get_or table (record_words * at) 0 ≡ get_or table (record_words * root) 0
  pub low : 5 ≤ get_or table (record_words * root) 0
  pub high : get_or table (record_words * root) 0 ≤ 6

module _ {table : List ℕ} {n root at : ℕ} (j : Joins table n root at) where
  -- The parent is a row of the part's kind, with its token at `at`.
  abbrev InRow : Parent none → Node → Type 0
  InRow top r = ⊥
  InRow (alone tok rest) r = ⊥
  InRow (among k others later rest) r = (kind_of r ≡ row_kind k) × (token_at table at ≡ row_token k (others + 1))

  in_row_lem : (before : List Token) (r : Node) (P : Parent none) → Unmerged table n root before r P → InRow P r
  in_row_lem before r top u =
      omega (arith, parent_at u j.parent, j.inside, all_records u)
  in_row_lem before r (alone tok rest) u =
      let there : token_at table at ≡ tok = ap (token_at table) (parent_at u j.parent) ∙ token_behind u [] tok rest refl in
      let kind : get_or table (record_words * at) 0 ≡ tok.kind = ap (λ t. t.kind) there in
      ⊎_elim (λ w. omega (arith, j.same, j.low)) (λ w. omega (arith, j.same, j.high)) u.sound.kind
  in_row_lem before r (among k others later rest) u =
      let there = row_there before r k others later rest u j.parent in
      (sym (own_kind u) ∙ sym j.same ∙ ap (λ t. t.kind) there, there)

  -- The items of both are one more than the row then has.
  pub both_items : {before : List Token} {r : Node} {P : Parent none} → Unmerged table n root before r P
      → get_or table (record_words * at + 3) 0 + get_or table (record_words * root + 3) 0 ≡ items_of P (width (row_of P) r) + 1
  both_items {before} {r} {P} u = go P u (in_row_lem before r P u)
    where
      go : (P : Parent none) → Unmerged table n root before r P → InRow P r
          → get_or table (record_words * at + 3) 0 + get_or table (record_words * root + 3) 0 ≡ items_of P (width (row_of P) r) + 1
      go top u h = absurd h
      go (alone tok rest) u h = absurd h
      go (among k others later rest) u h =
          omega (arith, ap (λ t. t.items) h.1, ap (λ t. t.items) (own_token u), row_items k r h.0)

  -- The parent is told its items, and the part's own record goes.
  module _ {first table' : List ℕ} {items : ℕ}
      (sum : items + 1 ≡ get_or table (record_words * at + 3) 0 + get_or table (record_words * root + 3) 0)
      (counts : Counted table first at items) (removes : Removed first table' n root 1) where
    moved : (before : List Token) (r : Node) (k : Kind) (others : ℕ) (later : List Node) (rest : List Token)
        → Unmerged table n root before r (among k others later rest) → kind_of r ≡ row_kind k
        → Says table' (n - 1) (before ++ (skeleton_in (some k) r ++ (concat_map skeleton later ++ (row_token k items ∷ rest))))
    moved before r k others later rest u e =
        let B : List Token = before ++ skeleton_in (some k) r in
        let own : Token = row_token k (length (parts k r)) in
        let L : List Token = concat_map skeleton later in
        let long : length B ≡ root
        = omega (
          arith,
          u.here,
          length-append before (skeleton_in (some k) r),
          ap length (row_own k r e),
          length-append (skeleton_in (some k) r) (own ∷ []),
        ) in
        let place : length (B ++ (own ∷ L)) ≡ at = omega (arith, parent_at u j.parent, length-append B (own ∷ L)) in
        let old : Token = row_token k (others + 1) in
        let tokens : before ++ (skeleton r ++ (L ++ (old ∷ rest))) ≡ B ++ (own ∷ L) ++ (old ∷ rest)
        = ap (λ l. before ++ (l ++ (L ++ (old ∷ rest)))) (row_own k r e) ∙ simp append_assoc in
        let told : Says first n (B ++ (own ∷ L) ++ (row_token k items ∷ rest))
        = counts.says n (B ++ (own ∷ L)) old rest place (rw tokens at u.says) in
        rw (append_assoc before) at (removes.says B (own ∷ []) (L ++ (row_token k items ∷ rest)) long refl
        (rw (append_assoc B) at told))

    pub joined : Merged table table' n root (n - 1)
    joined = record {
      by = λ before r P u. go before r P u (in_row_lem before r P u);
      above = removes.above
          ∙ above_more first table (record_words * (at + 1)) (record_words * n) (omega (arith, j.inside)) counts.above;
      fewer = omega arith;
    }
      where
        go : (before : List Token) (r : Node) (P : Parent none) → Unmerged table n root before r P → InRow P r
            → Says table' (n - 1) (before ++ (skeleton_in (row_of P) r ++ behind P (width (row_of P) r)))
        go before r top u h = absurd h
        go before r (alone tok rest) u h = absurd h
        go before r (among k others later rest) u h =
            let now-has : items ≡ others + length (parts k r) = omega (arith, both_items u, sum) in
            rw now-has at (moved before r k others later rest u h.0)
