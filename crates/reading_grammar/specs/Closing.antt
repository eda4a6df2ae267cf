-- Where an item is due, what is open may be closed: so many `)` behind it, and the end, make a pattern of it.
use Rattle.std.specs.Prelude.{◌≡◌, false, List, [], ◌∷◌, ℕ, zero, suc, ◌+◌, ◌≤◌, ◌<◌}
use Rattle.std.proofs.Common.{ap, subst, inl, inr, arith}
use Rattle.meaning.specs.Limits.{depth_limit, group_limit}
use Rattle.meaning.specs.Node.{Node}
use Rattle.reading_atoms.specs.Chars.{no_byte, byte_at, question, open_paren, close_paren, bar, colon, is_quantifier}
use Rattle.reading_grammar.specs.Atoms.{Is}
use Rattle.reading_grammar.specs.Grammar.{Sort, Rule}
use Rattle.reading_grammar.specs.Alike.{Quiet}
use Rattle.reading_grammar.specs.Refusals.{Due, Due.start, Due.behind, Due.bars, Due.grouped, Due.plain}

module _ (s : List ℕ) where
  -- Alternatives that began at a place and go on at another: the first, or one behind a bar.
  data Level (d a0 g0 a g : ℕ) : Type 0 where
    first : {l : List Node} → Rule s Sort.sequence d a0 a g0 g l → Level d a0 g0 a g
    next : {b h : ℕ} {l m : List Node} → Rule s Sort.alternatives d a0 b g0 h l → Is s b bar
        → Rule s Sort.sequence d (b + 1) a h g m
        → Level d a0 g0 a g

  level_more : {d a0 g0 a g b h : ℕ} {r : Node} → Level d a0 g0 a g → Rule s Sort.item d a b g h (r ∷ []) → Level d a0 g0 b h
  level_more (first u) x = Level.first (Rule.more u x)
  level_more (next u c v) x = Level.next u c (Rule.more v x)

  abbrev Ends : ℕ → ℕ → ℕ → ℕ → ℕ → Type 0
  Ends d a0 g0 a g = (l : List Node) × Rule s Sort.alternatives d a0 a g0 g l

  level_ends : {d a0 g0 a g : ℕ} → Level d a0 g0 a g → Ends d a0 g0 a g
  level_ends (first u) = (_, Rule.first u)
  level_ends (next u c v) = (_, Rule.next u c v)

  -- What stands around alternatives that begin at a place.
  data Around : ℕ → ℕ → ℕ → Type 0 where
    all : Around depth_limit 0 0
    in_group : {d a0 g0 a g : ℕ} → Around (suc d) a0 g0 → Level (suc d) a0 g0 a g → Is s a open_paren → (Is s (a + 1) question → ⊥)
        → g < group_limit → Around d (a + 1) (g + 1)
    in_plain : {d a0 g0 a g : ℕ} → Around (suc d) a0 g0 → Level (suc d) a0 g0 a g → Is s a open_paren → Is s (a + 1) question
        → Is s (a + 2) colon → Around d (a + 3) g

  abbrev Stands : ℕ → ℕ → ℕ → Type 0
  Stands d a g = (a0 : ℕ) × (g0 : ℕ) × Around d a0 g0 × Level d a0 g0 a g

  stands : {d a g : ℕ} → Due s d a g → Stands d a g
  stands start = (0, 0, Around.all, Level.first Rule.nothing)
  stands (behind u t) = let (a0, g0, x, y) = stands u in (a0, g0, x, level_more y t)
  stands (bars u c) =
      let (a0, g0, x, y) = stands u in
      let (l, z) = level_ends y in
      (a0, g0, x, Level.next z c Rule.nothing)
  stands (grouped u at n k) =
      let (a0, g0, x, y) = stands u in
      (_, _, Around.in_group x y at n k, Level.first Rule.nothing)
  stands (plain u at q k) =
      let (a0, g0, x, y) = stands u in
      (_, _, Around.in_plain x y at q k, Level.first Rule.nothing)

  -- So many `)` from a place on, and then the end.
  pub record Closes (a n : ℕ) : Type 0 where
    pub shut : (i : ℕ) → i < n → Is s (a + i) close_paren
    pub end : Is s (a + n) no_byte

  closes_next : {a n : ℕ} → Closes a (suc n) → Closes (a + 1) n
  closes_next {a} {n} c = record {
    shut = λ i l. subst (λ (x : ℕ). Is s x close_paren) (omega arith) (c.shut (suc i) (omega arith));
    end = subst (λ (x : ℕ). Is s x no_byte) (omega arith) c.end;
  }

  closes_here : {a n : ℕ} → Closes a (suc n) → Is s a close_paren
  closes_here {a} {n} c = subst (λ (x : ℕ). Is s x close_paren) (omega arith) (c.shut 0 (omega arith))

  -- What stands there is quiet, and no quantifier.
  pub closes_quiet : (a n : ℕ) → Closes a n → Quiet (byte_at s a)
  closes_quiet a zero c = inr (inr (subst (λ (x : ℕ). Is s x no_byte) (omega arith) c.end))
  closes_quiet a (suc n) c = inl (closes_here c)

  pub closes_calm : (a n : ℕ) → Closes a n → is_quantifier (byte_at s a) ≡ false
  closes_calm a n c = go (closes_quiet a n c)
    where
      go : Quiet (byte_at s a) → is_quantifier (byte_at s a) ≡ false
      go (inl e) = ap is_quantifier e
      go (inr (inl e)) = ap is_quantifier e
      go (inr (inr e)) = ap is_quantifier e

  around_deep : {d a0 g0 : ℕ} → Around d a0 g0 → d ≤ depth_limit
  around_deep all = omega arith
  around_deep (in_group x y at n k) = omega (arith, around_deep x)
  around_deep (in_plain x y at q k) = omega (arith, around_deep x)

  -- A derivation of all bytes up to a place.
  abbrev pub Whole : ℕ → Type 0
  Whole a = (h : ℕ) × (l : List Node) × Rule s Sort.alternatives depth_limit 0 a 0 h l

  longer : (a n : ℕ) → Whole (a + 1 + n) → Whole (a + suc n)
  longer a n w = subst Whole (omega arith) w

  closing : {d a0 g0 a g : ℕ} (n : ℕ) → Around d a0 g0 → Level d a0 g0 a g → d + n ≡ depth_limit → Closes a n → Whole (a + n)
  closing {a = a} {g = g} n all y e c =
      let (l, t) = level_ends y in
      subst Whole (omega arith) (g, l, t)
  closing zero (in_group x z at q k) y e c = absurd (omega (arith, around_deep x))
  closing {a = a} (suc n) (in_group x z at q k) y e c =
      let (l, t) = level_ends y in
      longer a n (closing n x (level_more z (Rule.once (Rule.grouped at q k t (closes_here c))
      (closes_calm (a + 1) n (closes_next c)))) (omega arith) (closes_next c))
  closing zero (in_plain x z at q k) y e c = absurd (omega (arith, around_deep x))
  closing {a = a} (suc n) (in_plain x z at q k) y e c =
      let (l, t) = level_ends y in
      longer a n (closing n x (level_more z (Rule.once (Rule.plain at q k t (closes_here c))
      (closes_calm (a + 1) n (closes_next c)))) (omega arith) (closes_next c))

  pub due_closes : {d a g : ℕ} (n : ℕ) → Due s d a g → d + n ≡ depth_limit → Closes a n → Whole (a + n)
  due_closes n due e c =
      let (a0, g0, x, y) = stands due in
      closing n x y e c
