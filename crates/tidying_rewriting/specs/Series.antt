-- A series of parts of a kind: its own token says how many there are. Without parts it is empty, and with one it is that part.
use Rattle.std.specs.Prelude.{◌≡◌, refl, List, [], ◌∷◌, ◌++◌, ℕ, zero, suc, ◌+◌, ◌-◌, length}
use Rattle.std.proofs.Common.{sym, ◌∙◌, append_assoc, append-nil, arith, length-append}
use Rattle.std.proofs.Math.Option.{Option, none, some}
use Rattle.meaning.specs.Node.{Node, Node.empty, Node.bset, Node.assert, Node.group, Node.seq, Node.alt, Node.many, Proper}
use Rattle.meaning.specs.Flat.{Kind, Kind.sequence, Kind.alternation, Not, parts, link, join, parts_link}
use Rattle.meaning.specs.Results.{concat_map}
use Rattle.table.specs.Table.{empty_kind}
use Rattle.meaning.specs.All.{All}
use Rattle.table.specs.Laws.{inner, count_all}
use Rattle.tidying_laws.specs.Laws.{on_parts}
use Rattle.tidying_laws.specs.Kept.{Ok, ok_two}
use Rattle.tidying_shapes.specs.Skeleton.{Token, token, row_token, skeleton_in, skeleton, row_parts, pair_own}
use Rattle.tidying_shapes.specs.Tokens.{Says}
use Rattle.tidying_shapes.specs.Edits.{Removed, Stamped, Counted}
use Rattle.tidying_shapes.proofs.Told.{skeleton_count}
use Rattle.tidying_rewriting.specs.Rewriting.{leaf_token}

-- As many tokens as records.
pub skeletons_count : (l : List Node) → All Proper l → length (concat_map skeleton l) ≡ count_all l
skeletons_count [] p = refl
skeletons_count (r ∷ l) p =
    omega (arith, length-append (skeleton r) (concat_map skeleton l), skeleton_count r p.0, skeletons_count l p.1)

pub skeletons_append : (l m : List Node) → concat_map skeleton (l ++ m) ≡ concat_map skeleton l ++ concat_map skeleton m
skeletons_append [] m = refl
skeletons_append (r ∷ l) m =
    rw (skeletons_append l m) (sym (append_assoc (skeleton r) (concat_map skeleton l) (concat_map skeleton m)))

-- A law on the parts of a kind fits only a series of them, and is told of the parts inside it.
pub record SeriesOf (k : Kind) (f : List Node → Option Node) (x y : Node) : Type 0 where
  pub says : token x ≡ row_token k (length (inner x))
  pub fits : f (inner x) ≡ some y
  pub all : inner x ≡ parts k x

ok_each : (P : Node → Type 0) (o : Option Node) → ((y : Node) → o ≡ some y → P y) → Ok P o
ok_each P none h = tt
ok_each P (some y) h = h y refl

pub series_of : (k : Kind) (f : List Node → Option Node) (x : Node) → Ok (SeriesOf k f x) (on_parts k f x)
unfolding parts inner
series_of k f empty = tt
series_of k f (bset s) = tt
series_of k f (assert a) = tt
series_of k f (group n r) = tt
series_of sequence f (alt r q) = tt
series_of alternation f (seq r q) = tt
series_of k f (many n e lazy r) = tt
series_of sequence f (seq r q) =
    let P : Node → Type 0 = SeriesOf sequence f (seq r q) in
    let l : List Node = r ∷ parts sequence q in
    ok_two P f l (λ h. ok_each P (f l) (λ y e. record { says = refl; fits = e; all = refl }))
series_of alternation f (alt r q) =
    let P : Node → Type 0 = SeriesOf alternation f (alt r q) in
    let l : List Node = r ∷ parts alternation q in
    ok_two P f l (λ h. ok_each P (f l) (λ y e. record { says = refl; fits = e; all = refl }))

-- The tokens of a series over those of its parts, by how many parts there are.
abbrev pub rejoined : Kind → ℕ → List Token → List Token
rejoined k zero ts = leaf_token empty_kind ∷ []
rejoined k (suc zero) ts = ts
rejoined k (suc (suc i)) ts = ts ++ (row_token k (suc (suc i)) ∷ [])

pub rejoined_join : (k : Kind) (l : List Node) → All (Not k) l
    → rejoined k (length l) (concat_map skeleton l) ≡ skeleton (join k l)
unfolding skeleton_in inner
rejoined_join k [] h = refl
rejoined_join k (r ∷ []) h = append-nil (skeleton r)
rejoined_join k (r ∷ q ∷ l) h = sym (pair_own k r (link k q l)
    ∙ rw (row_parts k (link k q l), parts_link k q l h.1.0 h.1.1))

-- The own record of a series whose records end at `top` is set to how many parts are left.
pub record Rejoins (table table' : List ℕ) (n top kept n' : ℕ) : Type 0 where
  pub by : (k : Kind) (old : ℕ) (l ts m : List Token) → length l + length ts ≡ top - 1 → (kept ≡ 0 → ts ≡ [])
      → Says table n (l ++ (ts ++ (row_token k old ∷ m))) → Says table' n' (l ++ (rejoined k kept ts ++ m))

module _ {table table' : List ℕ} {n top kept : ℕ} where
  rejoining : {n' : ℕ} → ((k : Kind) (old : ℕ) (l ts m : List Token) → length (l ++ ts) ≡ top - 1 → (kept ≡ 0 → ts ≡ [])
      → Says table n ((l ++ ts) ++ (row_token k old ∷ m)) → Says table' n' (l ++ (rejoined k kept ts ++ m)))
      → Rejoins table table' n top kept n'
  rejoining f = record { by = λ k old l ts m e z s. f k old l ts m (omega (arith, length-append l ts)) z (rw append_assoc s) }

  pub rejoins_none : kept ≡ 0 → Stamped table table' (top - 1) (leaf_token empty_kind) → Rejoins table table' n top kept n
  rejoins_none z e = rejoining (λ k old l ts m low none s.
      rw z (rw (none z, append-nil) at (e.says n (l ++ ts) (row_token k old) m low s)))

  pub rejoins_one : kept ≡ 1 → Removed table table' n (top - 1) 1 → Rejoins table table' n top kept (n - 1)
  rejoins_one z e = rejoining (λ k old l ts m low none s.
      rw (z, ← append_assoc) (e.says (l ++ ts) (row_token k old ∷ []) m low refl s))

  pub rejoins_more : (kept ≡ 0 → ⊥) → (kept ≡ 1 → ⊥) → Counted table table' (top - 1) kept → Rejoins table table' n top kept n
  rejoins_more z o e = rejoining (λ k old l ts m low none s.
      rw (more k ts kept z o, append_assoc) (rw append_assoc at (e.says n (l ++ ts) (row_token k old) m low s)))
    where
      more : (k : Kind) (ts : List Token) (i : ℕ) → (i ≡ 0 → ⊥) → (i ≡ 1 → ⊥) → rejoined k i ts ≡ ts ++ (row_token k i ∷ [])
      more k ts zero z o = absurd (z refl)
      more k ts (suc zero) z o = absurd (o refl)
      more k ts (suc (suc i)) z o = refl

-- Where parts are left that are not of the series' kind, they are joined.
pub record Rejoining (table : List ℕ) (n top kept : ℕ) (k : Kind) (parts : List Node) (l m : List Token) : Type 0 where
  pub old : ℕ
  pub says : Says table n (l ++ (concat_map skeleton parts ++ (row_token k old ∷ m)))
  pub here : length l + length (concat_map skeleton parts) ≡ top - 1
  pub counted : kept ≡ length parts
  pub apart : All (Not k) parts

pub joined : {table table' : List ℕ} {n top kept n' : ℕ} {k : Kind} {parts : List Node} {l m : List Token}
    → Rejoins table table' n top kept n' → Rejoining table n top kept k parts l m
    → Says table' n' (l ++ (skeleton (join k parts) ++ m))
joined {kept = kept} {k = k} {parts = parts} {l = l} {m = m} c g =
    rw (← rejoined_join k parts g.apart, ← g.counted)
    (c.by k g.old l (concat_map skeleton parts) m g.here (λ z. empty_tokens parts (sym g.counted ∙ z)) g.says)
  where
    empty_tokens : (ps : List Node) → length ps ≡ 0 → concat_map skeleton ps ≡ []
    empty_tokens [] e = refl
    empty_tokens (r ∷ ps) e = absurd (omega arith)
