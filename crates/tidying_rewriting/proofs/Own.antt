-- The tokens of a part are those of the parts inside it, and then its own: what edits of the own record do.
use Rattle.std.specs.Prelude.{◌≡◌, refl, List, [], ◌∷◌, ◌++◌, ℕ, suc, ◌+◌, ◌-◌, ◌*◌, ◌≤◌, length, get_or}
use Rattle.std.proofs.Common.{sym, ap, ◌∙◌, append_assoc, arith, length-append}
use Rattle.meaning.specs.Node.{Node, Node.empty}
use Rattle.meaning.specs.Results.{concat_map}
use Rattle.table.specs.Table.{record_words, record_count, empty_kind, records_word, least_word}
use Rattle.table.specs.Laws.{inner, last_of}
use Rattle.tidying_shapes.specs.Skeleton.{Token, token, skeleton_in, skeleton, inner_skeleton}
use Rattle.tidying_shapes.specs.Tokens.{Says}
use Rattle.tidying_shapes.specs.Edits.{Removed, Stamped}
use Rattle.tidying_shapes.proofs.Told.{skeleton_count}
use Rattle.tidying_rewriting.specs.Rewriting.{Placed, Fitting, SomeFitting, Rewrites, leaf_token, Shrinks, ok_some}
use Rattle.tidying_rewriting.specs.Rewriting.{within, own_word}
use Rattle.tidying_rewriting.specs.Quantifiers.{unquantified, unnested}
use Rattle.tidying_rewriting.proofs.Quantifiers.{left_empty, Inside, left_part, Nested, left_outer}

module _ {table : List ℕ} {n top : ℕ} {before : List ℕ} {x : Node} {l m : List Token}
    (p : Placed table n top before x l m) where
  abbrev inside : List Token
  inside = concat_map skeleton (inner x)

  pub inside_count : suc (length (concat_map skeleton (inner x))) ≡ record_count x
  inside_count =
      omega (arith, ap length (inner_skeleton x), length-append inside (token x ∷ []), skeleton_count x p.ends.proper)

  pub inside_here : length l + length (concat_map skeleton (inner x)) + 1 ≡ top
  inside_here = omega (arith, inside_count, skeleton_count x p.ends.proper, p.here)

  -- The word that says how many records it has, and that they are there.
  pub block : {w : ℕ} → w ≡ get_or table (record_words * (top - 1) + records_word) 0
      → (w ≡ record_count x) × (1 ≤ w) × (w ≤ top) × (top ≤ n) × (record_words * n ≤ length table)
  block {w} e =
      let all : w ≡ record_count x = e ∙ own_word p records_word (omega arith) in
      omega (arith, within p, inside_count, inside_here)

  -- The parts inside are said, and then its own token.
  pub own_said : Says table n (l ++ (concat_map skeleton (inner x) ++ (token x ∷ m)))
  own_said = rw append_assoc at (rw (inner_skeleton x) at p.says)

  -- Without the records below its own, which says something else then.
  pub shrunk : {table₁ table₂ : List ℕ} {kind : ℕ} (gone : ℕ) → gone ≡ record_count x - 1
      → Removed table table₁ n (top - 1 - gone) gone → Stamped table₁ table₂ (top - 1 - gone) (leaf_token kind)
      → Says table₂ (n - gone) (l ++ (leaf_token kind ∷ m))
  shrunk gone e r k =
      let few : length inside ≡ gone = omega (arith, inside_count) in
      let low : length l ≡ top - 1 - gone = omega (arith, inside_here) in
      k.says (n - gone) l (token x) m low (r.says l inside (token x ∷ m) low few own_said)

  -- Without its own record.
  pub opened : {table₁ : List ℕ} → Removed table table₁ n (top - 1) 1
      → Says table₁ (n - 1) (l ++ (concat_map skeleton (inner x) ++ m))
  opened r =
      let low : length (l ++ inside) ≡ top - 1 = omega (arith, inside_here, length-append l inside) in
      rw append_assoc at (r.says (l ++ inside) (token x ∷ []) m low refl (rw append_assoc own_said))

-- A quantifier has become empty, or its own record has gone, by its minimum.
pub never : {table table₁ : List ℕ} {n top n' w : ℕ} → w ≡ get_or table (record_words * (top - 1) + least_word) 0 → w ≡ 0
    → Shrinks table table₁ n top empty_kind n' → Rewrites unquantified table table₁ n top n'
unfolding skeleton_in inner
never e z s = record {
  by = λ before x y l m f.
      let least : get_or (last_of x) 0 0 ≡ 0 = sym (e ∙ own_word f.placed least_word (omega arith)) ∙ z in
      rw (ok_some (λ y. get_or (last_of x) 0 0 ≡ 0 → y ≡ empty) f.fits (left_empty x) least) (s.by before x l m f.placed);
}

pub once : {table table₁ : List ℕ} {n top w : ℕ} → w ≡ get_or table (record_words * (top - 1) + least_word) 0 → (w ≡ 0 → ⊥)
    → Removed table table₁ n (top - 1) 1 → Rewrites unquantified table table₁ n top (n - 1)
once e z r = record {
  by = λ before x y l m f.
      let least : get_or (last_of x) 0 0 ≡ 0 → ⊥ = λ h. z (e ∙ own_word f.placed least_word (omega arith) ∙ h) in
      rw (ok_some (Inside x) f.fits (left_part x) least) at (opened f.placed r);
}

-- The inner of two quantifiers has gone.
module _ {table : List ℕ} {n top : ℕ} {before : List ℕ} {x y : Node} {l m : List Token}
    (f : Fitting unnested table n top before x y l m) where
  two_there : Nested x y
  two_there = ok_some (Nested x) f.fits (left_outer x)

  two_here : length l + length two_there.part + 2 ≡ top
  two_here = omega (
    arith,
    f.placed.here,
    ap length two_there.whole,
    length-append two_there.part (two_there.gone ∷ two_there.outer ∷ []),
  )

  outer_said : {table₁ : List ℕ} → Removed table table₁ n (top - 2) 1 → Says table₁ (n - 1) (l ++ (skeleton y ++ m))
  outer_said r =
      let k = two_there in
      let low : length (l ++ k.part) ≡ top - 2 = omega (arith, two_here, length-append l k.part) in
      let said = rw k.whole at f.placed.says in
      rw k.left (rw append_assoc (rw append_assoc at (r.says (l ++ k.part) (k.gone ∷ []) (k.outer ∷ m) low refl
      (rw append_assoc (rw append_assoc at said)))))

pub outer_left : {table table₁ : List ℕ} {n top : ℕ} → Removed table table₁ n (top - 2) 1
    → Rewrites unnested table table₁ n top (n - 1)
outer_left r = record { by = λ before x y l m f. outer_said f r }

pub inner_there : {table : List ℕ} {n top : ℕ} → SomeFitting unnested table n top
    → (2 ≤ top) × (top ≤ n) × (record_words * n ≤ length table)
inner_there s = omega (arith, within s.fitting.placed, two_here s.fitting)
