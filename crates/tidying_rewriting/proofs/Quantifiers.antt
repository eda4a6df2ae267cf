-- T2 to T5, T9 and T10, laws for a quantifier: its own record goes, or the one of the quantifier inside it, or it becomes empty.
use Rattle.std.specs.Prelude.{◌≡◌, refl, Bool, true, false, cond, not, ◌&&◌, ◌||◌, List, [], ◌∷◌, ◌++◌, ℕ, get_or, eqb}
use Rattle.std.proofs.Common.{ap, ◌∙◌, append_assoc, append-nil, ne_eqb}
use Rattle.std.specs.Bool.{beq}
use Rattle.std.proofs.Math.Option.{Option, none, some}
use Rattle.meaning.specs.Tests.{and_true}
use Rattle.meaning.specs.Node.{Node, Node.empty, Node.many}
use Rattle.meaning.specs.Results.{concat_map}
use Rattle.table.specs.Laws.{inner, last_of}
use Rattle.tidying_laws.specs.Groups.{group_free}
use Rattle.tidying_laws.specs.Equal.{same_eq}
use Rattle.tidying_laws.specs.Quantified.{absorbed}
use Rattle.tidying_laws.specs.Laws.{when, on_many, counts, is_empty, t2, t3, t4, t5, t9, t10}
use Rattle.tidying_laws.specs.Kept.{Ok, ok_when, ok_else}
use Rattle.tidying_laws.proofs.Quantifiers.{counts_eq, tests, on_many_lem, on_assert_lem, both_greedy}
use Rattle.tidying_shapes.specs.Skeleton.{Token, token, skeleton_in, skeleton}
use Rattle.tidying_rewriting.specs.Rewriting.{Rule, Narrower}
use Rattle.tidying_rewriting.specs.Quantifiers.{unnested, unquantified}

abbrev Leaves : Node → Node → Type 0
Leaves x y = unquantified x ≡ some y

-- T2, T3, T4 and T10 take the quantifier away.
pub t2_leaves : Narrower t2 unquantified
t2_leaves = record {
  by = on_many_lem Leaves _ (λ n e lazy r. let P : Node → Type 0 = Leaves (many n e lazy r) in
      let left : ℕ → Option Node = λ k. some (cond (eqb k 0) empty r) in
      let count : (k : ℕ) → (counts n e k (some 0) && group_free r) ≡ true → n ≡ k
      = λ k t. (counts_eq n e k (some 0) (and_true (counts n e k (some 0)) (group_free r) t).0).0 in
      ok_else P (when (counts n e 1 (some 0) && group_free r) r) (when (counts n e 0 (some 0) && group_free r) empty)
      (ok_when P (counts n e 1 (some 0) && group_free r) r (λ t. ap left (count 1 t)))
      (ok_when P (counts n e 0 (some 0) && group_free r) empty (λ t. ap left (count 0 t))));
}

pub t3_leaves : Narrower t3 unquantified
t3_leaves = record {
  by = on_many_lem Leaves _ (λ n e lazy r. ok_when (Leaves (many n e lazy r)) (is_empty r) empty
      (λ t. ap (λ q. some (cond (eqb n 0) empty q)) (same_eq r empty t) ∙ either (eqb n 0)));
}
  where
    either : (b : Bool) → ◌≡◌ {A = Option Node} (some (cond b empty empty)) (some empty)
    either true = refl
    either false = refl

pub t4_leaves : Narrower t4 unquantified
t4_leaves = record {
  by = on_many_lem Leaves _ (λ n e lazy. on_assert_lem (λ r. Leaves (many n e lazy r)) _ (λ a. refl));
}

pub t10_leaves : Narrower t10 unquantified
t10_leaves = record {
  by = on_many_lem Leaves _ (λ n e lazy. on_many_lem (λ q. Leaves (many n e lazy q)) _ (λ m f inner r.
      ok_when (Leaves (many n e lazy (many m f inner r)))
      (counts n e 1 none && counts m f 0 none && not (lazy || inner) && group_free r) (many 0 none false r) (λ t.
      let (a, b, c, d, o, p) = tests n e 1 none m f 0 none (not (lazy || inner)) r t in
      rw (a, c, d, (both_greedy lazy inner o).1))));
}

-- T5 and T9 take the inner one away: the counts and the laziness of the result are the outer one's.
module _ (more : Option ℕ) (test : Bool → Bool → Bool) where
  abbrev nested : Rule
  nested = on_many (λ n e lazy. on_many (λ m f inner r.
      when (counts n e 0 more && counts m f 0 more && test inner lazy && group_free r) (many 0 more lazy r)))

  nested_leaves : Narrower nested unnested
  nested_leaves = record {
    by = on_many_lem (λ x y. unnested x ≡ some y) _ (λ n e lazy.
        on_many_lem (λ q y. unnested (many n e lazy q) ≡ some y) _ (λ m f inner r.
        ok_when (λ y. some (many n e lazy r) ≡ some y)
        (counts n e 0 more && counts m f 0 more && test inner lazy && group_free r) (many 0 more lazy r) (λ t.
        let (a, b, c, d, o, p) = tests n e 0 more m f 0 more (test inner lazy) r t in rw (a, b))));
  }

pub t5_leaves : Narrower t5 unnested
t5_leaves = nested_leaves none absorbed

pub t9_leaves : Narrower t9 unnested
t9_leaves = nested_leaves (some 1) (λ inner lazy. beq lazy inner)

-- With a minimum of 0 nothing is left, and else the parts inside the quantifier.
pub left_empty : (x : Node) → Ok (λ y. get_or (last_of x) 0 0 ≡ 0 → y ≡ empty) (unquantified x)
left_empty = on_many_lem (λ x y. get_or (last_of x) 0 0 ≡ 0 → y ≡ empty) _ (λ n e lazy r z. ap (λ k. cond (eqb k 0) empty r) z)

abbrev pub Inside : Node → Node → Type 0
Inside x y = (get_or (last_of x) 0 0 ≡ 0 → ⊥) → concat_map skeleton (inner x) ≡ skeleton y

pub left_part : (x : Node) → Ok (Inside x) (unquantified x)
unfolding inner
left_part = on_many_lem Inside _ (λ n e lazy r z. rw (ne_eqb n 0 z) (append-nil (skeleton r)))

-- Of a quantifier over another, the last token but one is that of the inner.
pub record Nested (x y : Node) : Type 0 where
  pub part : List Token
  pub gone : Token
  pub outer : Token
  pub whole : skeleton x ≡ part ++ (gone ∷ outer ∷ [])
  pub left : skeleton y ≡ part ++ (outer ∷ [])

pub left_outer : (x : Node) → Ok (Nested x) (unnested x)
unfolding skeleton_in inner
left_outer = on_many_lem Nested _ (λ n e lazy. on_many_lem (λ q. Nested (many n e lazy q)) _ (λ m f inner r. record {
  part = skeleton r;
  gone = token (many m f inner r);
  outer = token (many n e lazy r);
  whole = append_assoc (skeleton r) (token (many m f inner r) ∷ []) (token (many n e lazy r) ∷ []);
  left = refl;
}))
