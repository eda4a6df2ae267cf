-- What every law keeps: order, groups, flatness, well-formed sets; what it makes no greater: rows and charge; and less: weight.
use Rattle.std.specs.Prelude.{◌≡◌, refl, Bool, true, false, cond, List, [], ◌∷◌, ◌++◌, ℕ, ◌+◌, ◌≤◌, ◌<◌, length}
use Rattle.std.proofs.Common.{sym, ap, ◌∙◌, mul-le-mul_left, arith}
use Rattle.std.proofs.Math.Option.{Option, none, some, map}
use Rattle.meaning.specs.Node.{Node, Node.group, Node.many, Proper}
use Rattle.meaning.specs.Results.{or_else}
use Rattle.machine.specs.Layout.{size_of}
use Rattle.tidying_laws.specs.Groups.{groups, Positive}
use Rattle.tidying_laws.specs.Alike.{SameOrder, alike, order_refl, order_trans, order_sym, order_group, order_many}
use Rattle.meaning.specs.Flat.{Kind, pair, glue, adds_glue, spreads_glue, Flat, flat_spreads, proper_spreads}
use Rattle.tidying_laws.specs.Measures.{weight, weight_adds, rows_adds, groups_adds}
use Rattle.tidying_laws.specs.Tried.{order_pair, glue_pair}
use Rattle.tidying_laws.specs.Charge.{extra, charge, Light, light_left, light_right}
use Rattle.tidying_laws.specs.Laws.{when, two}

-- P holds of a result, if there is one.
abbrev pub Ok {ℓ κ} : {A : Type ℓ} → (A → Type κ) → Option A → Type κ
Ok P none = Unit
Ok P (some a) = P a

module _ {κ} {A : Type 0} (P : A → Type κ) where
  pub ok_test : (b : Bool) (o p : Option A) → (b ≡ true → Ok P o) → Ok P p → Ok P (cond b o p)
  ok_test true o p h g = h refl
  ok_test false o p h g = g

  pub ok_when : (b : Bool) (a : A) → (b ≡ true → P a) → Ok P (when b a)
  ok_when b a h = ok_test b (some a) none h tt

  pub ok_else : (o p : Option A) → Ok P o → Ok P p → Ok P (or_else o p)
  ok_else none p h g = g
  ok_else (some a) p h g = h

  pub ok_map : {Z : Type 0} (Q : Z → Type κ) (f : Z → A) → ((z : Z) → Q z → P (f z))
      → (o : Option Z) → Ok Q o → Ok P (map f o)
  ok_map Q f g none h = tt
  ok_map Q f g (some z) h = g z h

  pub ok_imp : (Q : A → Type κ) → ((a : A) → Q a → P a) → (o : Option A) → Ok Q o → Ok P o
  ok_imp Q g none h = tt
  ok_imp Q g (some a) h = g a h

  pub ok_two : (f : List Node → Option A) (l : List Node) → (2 ≤ length l → Ok P (f l)) → Ok P (two f l)
  ok_two f [] h = tt
  ok_two f (r ∷ []) h = tt
  ok_two f (r ∷ q ∷ l) h = h (omega arith)

-- What a law keeps of a pattern.
pub record Kept (r q : Node) : Type 1 where
  pub like : SameOrder r q
  pub numbers : groups r ≡ groups q
  pub flat : Flat r → Flat q
  pub proper : Proper r → Proper q
  pub fewer : size_of q ≤ size_of r
  pub less : weight q < weight r
  pub light : Light r q

-- What is kept of a part is kept of what it stands in: a group,
pub in_group : (k : ℕ) (r q : Node) → Kept r q → Kept (group k r) (group k q)
unfolding groups size_of weight charge extra
in_group k r q h = record {
  like = order_group k h.like;
  numbers = ap (λ l. k ∷ l) h.numbers;
  flat = h.flat;
  proper = λ g. (g.0, h.proper g.1);
  fewer = omega (arith, h.fewer);
  less = omega (arith, h.less);
  light = omega (arith, h.light.alone);
}

-- a sequence or an alternation, as a part
pub in_left : (k : Kind) (r q s : Node) → Kept r q → Kept (pair k r s) (glue k q s)
in_left k r q s h = record {
  like = order_trans (order_pair k h.like (order_refl s)) (order_sym (glue_pair k q s));
  numbers = (groups_adds k).both r s ∙ ap (λ l. l ++ groups s) h.numbers ∙ sym (adds_glue (groups_adds k) q s);
  flat = λ g. let (a, b) = (flat_spreads k).split r s g in spreads_glue (flat_spreads k) q s (h.flat a.1) b;
  proper = λ g. let (a, b) = (proper_spreads k).split r s g in spreads_glue (proper_spreads k) q s (h.proper a) b;
  fewer = omega (arith, h.fewer, (rows_adds k).both r s, adds_glue (rows_adds k) q s);
  less = omega (arith, h.less, (weight_adds k).both r s, adds_glue (weight_adds k) q s);
  light = light_left k r q s h.light;
}

-- or as its end,
pub in_right : (k : Kind) (r q s : Node) → Kept r q → Kept (pair k s r) (pair k s q)
in_right k r q s h = record {
  like = order_pair k (order_refl s) h.like;
  numbers = (groups_adds k).both s r ∙ ap (λ l. groups s ++ l) h.numbers ∙ sym ((groups_adds k).both s q);
  flat = λ g. let (a, b) = (flat_spreads k).split s r g in (flat_spreads k).both s q a (h.flat b);
  proper = λ g. let (a, b) = (proper_spreads k).split s r g in (proper_spreads k).both s q a (h.proper b);
  fewer = omega (arith, h.fewer, (rows_adds k).both s r, (rows_adds k).both s q);
  less = omega (arith, h.less, (weight_adds k).both s r, (weight_adds k).both s q);
  light = light_right k r q s h.light;
}

many_rows_lem : (n : ℕ) (e : Option ℕ) (lazy : Bool) (r q : Node) → size_of q ≤ size_of r
    → size_of (many n e lazy q) ≤ size_of (many n e lazy r)
unfolding size_of
many_rows_lem n none lazy r q h = let f : size_of q + 1 ≤ size_of r + 1 = omega arith in omega (arith, mul-le-mul_left n f)
many_rows_lem n (some e) lazy r q h =
    let f : size_of q + 1 ≤ size_of r + 1 = omega arith in
    let g : size_of q + 4 ≤ size_of r + 4 = omega arith in
    omega (arith, mul-le-mul_left n f, mul-le-mul_left e g)

-- and a quantifier.
pub in_many : (n : ℕ) (e : Option ℕ) (lazy : Bool) (r q : Node) → Positive (groups r) → Kept r q
    → Kept (many n e lazy r) (many n e lazy q)
unfolding groups weight charge extra
in_many n e lazy r q p h = record {
  like = order_many n e lazy (alike p h.numbers h.like);
  numbers = h.numbers;
  flat = h.flat;
  proper = λ g. (g.0, h.proper g.1);
  fewer = many_rows_lem n e lazy r q h.fewer;
  less = omega (arith, h.less);
  light = omega (arith, h.light.alone);
}
