-- The item that a `(` opens, by the bytes behind it. Assumes nothing.
use mathlib.Core.Path.{◌≡◌, refl, sym, ap, ◌∙◌}
use mathlib.Core.Bool.{Bool, true, false, cond, true≢false}
use mathlib.Core.List.{List}
use Prim.Native.Nat.{ℕ, zero, suc, ◌+◌, ◌-◌, ◌≤◌, ◌<◌}
use native.Mathlib.Numerals.{add-one}
use native.Mathlib.Omega.{arith}
use lib.Dec.{eqb}
use lib.ListN.{length}
use borrow.Author.Tests.{eq-eqb, ne_eqb, eqb-true, lt-leb, le-leb}
use Rattle.meaning.specs.Limits.{depth_limit, group_limit}
use Rattle.meaning.specs.Node.{Node, Node.group}
use Rattle.reading_atoms.specs.Chars.{byte_at, question, colon}
use Rattle.reading_atoms.specs.Places.{byte_within}
use Rattle.reading_items.specs.Reading.{Part, Part.part, Part.turned, Opening.capturing, Opening.plain}
use Rattle.reading_items.specs.Reading.{Opening.neither}
use Rattle.reading_items.specs.Reading.{is_look, opening_at}
use Rattle.reading_items.specs.Reading.{and_then, too_deep, opened, closed, item_by, item_at, alternatives_at}
use Rattle.reading_items.specs.Meets.{OpensAt, Opens, grouped}
use Rattle.reading_items.specs.Answers.{Opening.Inside, Opening.NotOpened}

-- A byte that makes `(?` a form that is left out is no `:`.
look_other : (b : ℕ) → is_look b ≡ true → eqb b colon ≡ false
look_other b e = go (eqb b colon) refl
  where
    go : (t : Bool) → eqb b colon ≡ t → t ≡ false
    go true f = absurd (true≢false (sym e ∙ ap is_look (eqb-true b colon f)))
    go false f = refl

-- A number above 0 stands for a group.
as_group : (g : ℕ) (r : Node) → grouped (g + 1) r ≡ group (g + 1) r
as_group g r = rw (add-one g)

then_same : (x : Part) {f f' : Node → ℕ → ℕ → Part} → ((r : Node) (at g : ℕ) → f r at g ≡ f' r at g) → and_then x f ≡ and_then x f'
then_same (part r at g) h = h r at g
then_same (turned number place) h = refl

module _ {s : List ℕ} {at depth groups : ℕ} (o : OpensAt s at depth groups) where
  deepest : item_at 0 s at groups ≡ too_deep at (opening_at s at)
  unfolding item_at item_by
  deepest = rw o.opens

  deeper : (d : ℕ) → item_at (suc d) s at groups ≡ opened s (alternatives_at d s) at groups (opening_at s at)
  unfolding item_at item_by
  deeper d = rw o.opens

  -- What holds at the deepest level and at each other holds at any.
  at_level : (x : Part) → item_at 0 s at groups ≡ x → ((d : ℕ) → item_at (suc d) s at groups ≡ x) → (d : ℕ)
      → item_at d s at groups ≡ x
  at_level x h k zero = h
  at_level x h k (suc d) = k d

  below : (x : Part) → (depth ≡ depth_limit → ⊥) → ((d : ℕ) → item_at (suc d) s at groups ≡ x)
      → item_at (depth_limit - depth) s at groups ≡ x
  below x h k = let e : depth_limit - depth ≡ suc (depth_limit - (depth + 1)) = omega (arith, o.deep) in
      rw e (k (depth_limit - (depth + 1)))

  too_deep_lem : depth ≡ depth_limit → too_deep at (opening_at s at) ≡ turned 13 at → Opens s at depth groups (NotOpened 13 at)
  too_deep_lem e f = record { by = (rw e (deepest ∙ f), omega arith) }

  -- Behind `(?`.
  module _ (q : byte_at s (at + 1) ≡ question) where
    pub left_out : is_look (byte_at s (at + 2)) ≡ true → Opens s at depth groups (NotOpened 5 at)
    unfolding opening_at
    left_out e =
        let opening : opening_at s at ≡ neither 5 at = rw (q, look_other (byte_at s (at + 2)) e, e) in
        record {
          by = (
            at_level (turned 5 at) (deepest ∙ ap (too_deep at) opening ∙ rw (eq-eqb at at refl))
                (λ d. deeper d ∙ ap (opened s (alternatives_at d s) at groups) opening) (depth_limit - depth),
            omega arith,
          );
        }

    pub question_deep : is_look (byte_at s (at + 2)) ≡ false → depth ≡ depth_limit → Opens s at depth groups (NotOpened 13 at)
    unfolding opening_at
    question_deep e f = too_deep_lem f (rw (q, e) (go (eqb (byte_at s (at + 2)) colon)))
      where
        go : (t : Bool) → too_deep at (cond t plain (neither 6 (at + 1))) ≡ turned 13 at
        go true = refl
        go false = rw (ne_eqb (at + 1) at (λ e. omega arith))

    pub no_form_lem : is_look (byte_at s (at + 2)) ≡ false → (depth ≡ depth_limit → ⊥) → (byte_at s (at + 2) ≡ colon → ⊥)
        → Opens s at depth groups (NotOpened 6 (at + 1))
    unfolding opening_at
    no_form_lem e f g =
        let opening : opening_at s at ≡ neither 6 (at + 1) = rw (q, ne_eqb (byte_at s (at + 2)) colon g, e) in
        record {
          by = (
            below (turned 6 (at + 1)) f
                (λ d. deeper d ∙ ap (opened s (alternatives_at d s) at groups) opening),
            omega arith,
          );
        }

    pub plain_opens : (depth ≡ depth_limit → ⊥) → byte_at s (at + 2) ≡ colon → Opens s at depth groups (Inside (at + 3) 0 groups)
    unfolding opening_at
    plain_opens f g =
        let opening : opening_at s at ≡ plain = rw (q, g) in
        let here : at + 2 < length s = byte_within s (at + 2) (λ e. omega (arith, g, e)) in
        record {
          by = (
            omega (arith, o.deep),
            omega arith,
            omega arith,
            o.few,
            λ d. deeper d ∙ ap (opened s (alternatives_at d s) at groups) opening,
          );
        }

  -- A group.
  module _ (q : byte_at s (at + 1) ≡ question → ⊥) where
    captures : opening_at s at ≡ capturing
    unfolding opening_at
    captures = rw (ne_eqb (byte_at s (at + 1)) question q)

    pub group_deep : depth ≡ depth_limit → Opens s at depth groups (NotOpened 13 at)
    group_deep f = too_deep_lem f (ap (too_deep at) captures)

    pub group_many : (depth ≡ depth_limit → ⊥) → group_limit ≤ groups → Opens s at depth groups (NotOpened 14 at)
    group_many f h = record {
      by = (
        below (turned 14 at) f (λ d. deeper d ∙ ap (opened s (alternatives_at d s) at groups) captures
            ∙ rw (le-leb group_limit groups h)),
        omega arith,
      );
    }

    pub group_opens : (depth ≡ depth_limit → ⊥) → groups < group_limit
        → Opens s at depth groups (Inside (at + 1) (groups + 1) (groups + 1))
    group_opens f h = record {
      by = (
        omega (arith, o.deep),
        omega arith,
        omega (arith, o.within),
        omega arith,
        λ d. deeper d ∙ ap (opened s (alternatives_at d s) at groups) captures ∙ rw (lt-leb group_limit groups h)
            (then_same (alternatives_at d s (at + 1) (groups + 1))
            (λ r end g'. ap (λ n. closed s n end g') (sym (as_group groups r)))),
      );
    }
