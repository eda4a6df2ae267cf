-- A part at a place, and another put in its place: the tokens of the pattern before, and after what is put has merged.
use Rattle.std.specs.Prelude.{◌≡◌, List, [], ◌∷◌, ◌++◌, ℕ, suc, ◌+◌, ◌≤◌, length}
use Rattle.std.proofs.Common.{sym, ap, ap₂, subst, ◌∙◌, append_assoc, arith, length-append}
use Rattle.std.proofs.Math.Option.{none, some}
use Rattle.meaning.specs.Node.{Node, Proper}
use Rattle.meaning.specs.Flat.{parts}
use Rattle.meaning.specs.Results.{concat_map}
use Rattle.table.specs.Table.{record_count}
use Rattle.table.specs.Laws.{inner}
use Rattle.table.specs.Derived.{record_limit}
use Rattle.tidying_laws.specs.Tidier.{Place}
use Rattle.tidying_shapes.specs.Skeleton.{Token, token, row_token, skeleton_in, skeleton, width, inner_skeleton}
use Rattle.tidying_shapes.specs.Spots.{Parent, Parent.top, Parent.alone, Parent.among, row_of, behind, Spot}
use Rattle.tidying_shapes.specs.Placed.{Spots}
use Rattle.tidying_shapes.specs.Tokens.{Says}
use Rattle.tidying_shapes.proofs.Parse.{rebuilds, rebuilds_few}
use Rattle.tidying_shapes.proofs.Told.{skeleton_count}
use Rattle.tidying_shapes.specs.Merging.{items_of, Unmerged, Merged}

-- Each of the places, with its number.
pub spot_of : {r : Node} (n : ℕ) (first : List Place) (p : Place) (rest : List Place) → Spots none r n (first ++ (p ∷ rest))
    → Spot none r p (n + length first)
spot_of {r} n [] p rest h = subst (λ (i : ℕ). Spot none r p i) (omega arith) h.0
spot_of {r} n (q ∷ first) p rest h =
    subst (λ (i : ℕ). Spot none r p i) (omega arith) (spot_of (suc n) first p rest h.1)

module _ {r : Node} {p : Place} {i : ℕ} (s : Spot none r p i) where
  -- The tokens of the pattern: the part stands in it as it stands alone.
  pub spot_tokens : skeleton r ≡ concat_map skeleton s.earlier ++ (skeleton p.part ++ behind s.parent 1)
  spot_tokens = sym (ap skeleton s.back) ∙ s.put p.part
      ∙ ap₂ (λ l n. concat_map skeleton s.earlier ++ (l ++ behind s.parent n)) s.single.0 s.single.1

  -- So the part's own token is the one of its place's number.
  abbrev pub before_own : List Token
  before_own = concat_map skeleton s.earlier ++ concat_map skeleton (inner p.part)

  pub spot_own : skeleton r ≡ before_own ++ (token p.part ∷ behind s.parent 1)
  spot_own = spot_tokens ∙ ap (λ l. concat_map skeleton s.earlier ++ (l ++ behind s.parent 1)) (inner_skeleton p.part)
      ∙ simp append_assoc

  pub spot_number : length before_own ≡ i
  spot_number = omega (
    arith,
    s.number,
    length-append (concat_map skeleton s.earlier) (concat_map skeleton (inner p.part)),
    ap length (inner_skeleton p.part),
    length-append (concat_map skeleton (inner p.part)) (token p.part ∷ []),
  )

  -- The record of the parent then has no more items than there are records.
  pub spot_few : (y : Node) → Proper (p.put y)
      → items_of s.parent (width (row_of s.parent) y) ≤ record_count (p.put y)
  spot_few y proper = rw (sym (skeleton_count (p.put y) proper)) (go s.parent (s.put y))
    where
      go : (P : Parent none)
          → skeleton (p.put y) ≡ concat_map skeleton s.earlier ++ (skeleton_in (row_of P) y ++ behind P (width (row_of P) y))
          → items_of P (width (row_of P) y) ≤ length (skeleton (p.put y))
      go top e = omega arith
      go (alone tok rest) e = omega (
        arith,
        ap length (inner_skeleton (p.put y)),
        length-append (concat_map skeleton (inner (p.put y))) (token (p.put y) ∷ []),
      )
      go (among k others later rest) e =
          let own : Token = row_token k (others + length (parts k y)) in
          let first : List Token = concat_map skeleton s.earlier ++ (skeleton_in (some k) y ++ concat_map skeleton later) in
          let tokens : skeleton (p.put y) ≡ first ++ (own ∷ rest) = e ∙ simp append_assoc in
          let few : own.items ≤ 0 + length first
          = rebuilds_few first own rest [] (p.put y ∷ []) (rw tokens at (rebuilds (p.put y) proper)) in
          omega (arith, ap length tokens, length-append first (own ∷ rest))

  -- With the tokens of another part in the place of the part's, that part merges, and the tokens are those of what is put.
  module _ {table : List ℕ} {n root : ℕ} (y : Node) where
    pub spot_unmerged : Says table n (concat_map skeleton s.earlier ++ (skeleton y ++ behind s.parent 1))
        → length (concat_map skeleton s.earlier) + length (skeleton y) ≡ suc root
        → Proper (p.put y) → record_count (p.put y) ≤ record_limit
        → Unmerged table n root (concat_map skeleton s.earlier) y s.parent
    spot_unmerged says here proper small =
        record { says = says; sound = s.sound; here = here; few = omega (arith, spot_few y proper) }

    pub spot_merged : {table' : List ℕ} {n' : ℕ} → Unmerged table n root (concat_map skeleton s.earlier) y s.parent
        → Merged table table' n root n' → Says table' n' (skeleton (p.put y))
    spot_merged u h = rw (s.put y) (h.by (concat_map skeleton s.earlier) y s.parent u)
