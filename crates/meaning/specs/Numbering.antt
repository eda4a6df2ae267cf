-- Groups that are numbered apart: a register that a pattern does not touch can be written before it or after it.
use Rattle.std.specs.Prelude.{◌≡◌, ◌⊎◌, ◌≢◌, Bool, cond, set}
use Rattle.std.proofs.Math.Path.{refl, ap, fun_ext}
use Rattle.std.proofs.Common.{sym, ◌∙◌, inl, inr, arith}
use Rattle.std.proofs.Math.Option.{Option, none, some}
use mathlib.Core.List.{List}
use Prim.Native.Nat.{ℕ, zero, suc, ◌+◌, ◌-◌, ◌≤◌, ◌<◌, max}
use Rattle.std.proofs.Math.Decide.{dec_lt}
use Rattle.std.proofs.lemmas.List.{set_comm}
use Rattle.meaning.specs.Text.{Input, Regs, State, opened, closed, wiped, cleared}
use Rattle.meaning.specs.Node.{Node, Node.empty, Node.bset, Node.assert, Node.group, Node.seq, Node.alt, Node.many, lower}
use Rattle.meaning.specs.Node.{lo, hi}
use Rattle.meaning.specs.Results.{or_else, or_else_none, first_some, choose, later, enter, leave, put, fresh, forced, turns}
use Rattle.meaning.specs.Results.{limit, results, first_append, first_concat_map, first_cond, first_stop, first_turns}

-- No group of r is group k, and no loop of r makes it empty.
abbrev pub Apart : ℕ → Node → Type 0
Apart k empty = Unit {0}
Apart k (bset s) = Unit {0}
Apart k (assert a) = Unit {0}
Apart k (group j r) = (j ≢ k) × Apart k r
Apart k (seq r s) = Apart k r × Apart k s
Apart k (alt r s) = Apart k r × Apart k s
Apart k (many n e lazy r) = ((k < lo r) ⊎ (hi r < k)) × Apart k r

-- Each group is apart from the groups inside it.
abbrev pub Numbered : Node → Type 0
Numbered empty = Unit {0}
Numbered (bset s) = Unit {0}
Numbered (assert a) = Unit {0}
Numbered (group k r) = Apart k r × Numbered r
Numbered (seq r s) = Numbered r × Numbered s
Numbered (alt r s) = Numbered r × Numbered s
Numbered (many n e lazy r) = Numbered r

-- Writes to different registers commute.
wiped_set : (n q j : ℕ) (v : Option ℕ) (ρ : Regs) → (j < q) ⊎ (q + n ≤ j) → wiped n q (set ρ j v) ≡ set (wiped n q ρ) j v
unfolding wiped
wiped_set zero q j v ρ h = refl
wiped_set (suc n) q j v ρ h = rw (set_comm ρ j q v none (other h)) (wiped_set n (suc q) j v (set ρ q none) (shift h))
  where
    other : (j < q) ⊎ (q + suc n ≤ j) → j ≢ q
    other (inl h) e = omega arith
    other (inr h) e = omega arith

    shift : (j < q) ⊎ (q + suc n ≤ j) → (j < suc q) ⊎ (suc q + n ≤ j)
    shift (inl h) = inl (omega arith)
    shift (inr h) = inr (omega arith)

cleared_opened : (l h k i : ℕ) (ρ : Regs) → (k < l) ⊎ (h < k) → cleared l h (opened k i ρ) ≡ opened k i (cleared l h ρ)
unfolding cleared opened
cleared_opened l h k i ρ d = let n : ℕ = suc h - l in wiped_set (n + n) (l + l) (k + k) (some i) ρ (side d (dec_lt k l))
  where
    side : (k < l) ⊎ (h < k) → Dec (k < l) → (k + k < l + l) ⊎ (l + l + (suc h - l + (suc h - l)) ≤ k + k)
    side d (yes e) = inl (omega arith)
    side (inl e) (no f) = absurd (f e)
    side (inr e) (no f) = inr (omega arith)

opened_opened : (j k i i' : ℕ) (ρ : Regs) → j ≢ k → opened j i (opened k i' ρ) ≡ opened k i' (opened j i ρ)
unfolding opened
opened_opened j k i i' ρ h = set_comm ρ (k + k) (j + j) (some i') (some i) (λ e. h (omega arith))

closed_opened : (j k i i' : ℕ) (ρ : Regs) → closed j i (opened k i' ρ) ≡ opened k i' (closed j i ρ)
unfolding opened closed
closed_opened j k i i' ρ = set_comm ρ (k + k) (suc (j + j)) (some i') (some i) (λ e. omega arith)

module _ (w : Input) (k i : ℕ) (B : Type 0) where
  -- f does not touch the start of group k.
  abbrev Spares : (State → List State) → Type 0
  Spares f = (c : State → Option B) (x : State) → first_some c (f (put k i x)) ≡ first_some (λ y. c (put k i y)) (f x)

  forced_spares : (f g : State → List State) → Spares f → Spares g → (n : ℕ) → Spares (forced f n g)
  unfolding forced
  forced_spares f g hf hg zero c x = hg c x
  forced_spares f g hf hg (suc n) c x =
      rw (
        first_concat_map c (forced f n g) (f (put k i x)),
        first_concat_map (λ y. c (put k i y)) (forced f n g) (f x),
        hf
            (λ y. first_some c (forced f n g y)) x,
      )
      (ap (λ d. first_some d (f x)) (fun_ext (λ y. forced_spares f g hf hg n c y)))

  turns_spares : (lazy : Bool) (f : State → List State) → Spares f → (n : ℕ) → Spares (turns lazy f n)
  turns_spares lazy f hf zero c x = first_stop c lazy f (put k i x) ∙ sym (first_stop (λ y. c (put k i y)) lazy f x)
  turns_spares lazy f hf (suc n) c x =
      rw (
        first_turns c lazy f n (put k i x),
        first_turns (λ y. c (put k i y)) lazy f n x,
        hf
            (λ y. cond (later x y) (first_some c (turns lazy f n y)) none) x,
      )
      (ap (λ d. choose or_else lazy (first_some d (f x)) (c (put k i x)))
      (fun_ext (λ y. ap (λ o. cond (later x y) o none) (turns_spares lazy f hf n c y))))

  body_spares : (r : Node) → (k < lo r) ⊎ (hi r < k) → Spares (results w r) → Spares (λ y. results w r (fresh r y))
  body_spares r a h c x = rw (cleared_opened (lo r) (hi r) k i x.regs a) (h c (fresh r x))

  pub spares : (r : Node) → Apart k r → Spares (results w r)
  unfolding results
  spares empty a c x = refl
  spares (bset s) a c x = simp first_cond
  spares (assert s) a c x = simp first_cond
  spares (group j r) a c x =
      simp (first_concat_map, or_else_none) (rw (opened_opened j k x.pos i x.regs a.0)
      (spares r a.1 (λ y. c (leave j y)) (enter j x)
      ∙ ap (λ d. first_some d (results w r (enter j x)))
      (fun_ext (λ y. ap (λ ρ. c (record { pos = y.pos; regs = ρ })) (closed_opened j k y.pos i y.regs)))))
  spares (seq r s) a c x =
      rw (
        first_concat_map c (results w s) (results w r (put k i x)),
        first_concat_map (λ y. c (put k i y)) (results w s) (results w r x),
        spares r a.0 (λ y. first_some c (results w s y)) x,
      )
      (ap (λ d. first_some d (results w r x)) (fun_ext (λ y. spares s a.1 c y)))
  spares (alt r s) a c x =
      rw (
        first_append c (results w r (put k i x)) (results w s (put k i x)),
        first_append (λ y. c (put k i y)) (results w r x) (results w s x),
        spares r a.0 c x,
        spares s a.1 c x,
      )
  spares (many n e lazy r) a c x =
      let f : State → List State = λ y. results w r (fresh r y) in
      let body : Spares f = body_spares r a.0 (spares r a.1) in
      forced_spares f (λ y. turns lazy f (limit w e y.pos) y) body
      (λ d y. turns_spares lazy f body (limit w e y.pos) d y) n c x

-- `Numbers a r b`: the groups of r are numbered from left to right, the first is a, and b is the next that is free.
abbrev pub Numbers : ℕ → Node → ℕ → Type 0
Numbers a empty b = a ≡ b
Numbers a (bset s) b = a ≡ b
Numbers a (assert t) b = a ≡ b
Numbers a (group k r) b = (k ≡ a) × Numbers (suc a) r b
Numbers a (seq r s) b = (m : ℕ) × Numbers a r m × Numbers m s b
Numbers a (alt r s) b = (m : ℕ) × Numbers a r m × Numbers m s b
Numbers a (many n e lazy r) b = Numbers a r b

-- Then they are the groups from `lo` to `hi`, or there are none.
abbrev pub Range : ℕ → ℕ → ℕ → ℕ → Type 0
Range a l h b = ((a < b) × (l ≡ a) × (suc h ≡ b)) ⊎ ((a ≡ b) × (l ≡ 1) × (h ≡ 0))

order : (a l h b : ℕ) → Range a l h b → a ≤ b
order a l h b (inl f) = omega arith
order a l h b (inr f) = omega arith

range_join : (a m b l h l' h' : ℕ) → 1 ≤ a → Range a l h m → Range m l' h' b → Range a (lower h l l') (max h h') b
range_join a m b l zero l' h' pos (inl f) g = absurd (omega arith)
range_join a m b l zero l' h' pos (inr f) (inl g) = inl (omega arith)
range_join a m b l zero l' h' pos (inr f) (inr g) = inr (omega arith)
range_join a m b l (suc h) l' h' pos (inl f) (inl g) = inl (omega arith)
range_join a m b l (suc h) l' h' pos (inl f) (inr g) = inl (omega arith)
range_join a m b l (suc h) l' h' pos (inr f) g = absurd (omega arith)

range_group : (a b k l h : ℕ) → k ≡ a → Range (suc a) l h b → Range a k (max k h) b
range_group a b k l h e (inl f) = inl (omega arith)
range_group a b k l h e (inr f) = inl (omega arith)

pub range : (r : Node) (a b : ℕ) → 1 ≤ a → Numbers a r b → Range a (lo r) (hi r) b
unfolding lo hi
range empty a b pos e = inr (e, refl, refl)
range (bset s) a b pos e = inr (e, refl, refl)
range (assert t) a b pos e = inr (e, refl, refl)
range (group k r) a b pos h = range_group a b k (lo r) (hi r) h.0 (range r (suc a) b (omega arith) h.1)
range (seq r s) a b pos h =
    let f : Range a (lo r) (hi r) h.0 = range r a h.0 pos h.1 in
    range_join a h.0 b (lo r) (hi r) (lo s) (hi s) pos f
    (range s h.0 b (omega (arith, order a (lo r) (hi r) h.0 f)) h.2)
range (alt r s) a b pos h =
    let f : Range a (lo r) (hi r) h.0 = range r a h.0 pos h.1 in
    range_join a h.0 b (lo r) (hi r) (lo s) (hi s) pos f
    (range s h.0 b (omega (arith, order a (lo r) (hi r) h.0 f)) h.2)
range (many n e lazy r) a b pos h = range r a b pos h

pub forwards : (r : Node) (a b : ℕ) → 1 ≤ a → Numbers a r b → a ≤ b
forwards r a b pos h = order a (lo r) (hi r) b (range r a b pos h)

-- They are apart from any group before them.
pub apart : (k : ℕ) (r : Node) (a b : ℕ) → 1 ≤ a → k < a → Numbers a r b → Apart k r
apart k empty a b pos l h = tt
apart k (bset s) a b pos l h = tt
apart k (assert t) a b pos l h = tt
apart k (group j r) a b pos l h = (λ e. omega (arith, h.0), apart k r (suc a) b (omega arith) (omega arith) h.1)
apart k (seq r s) a b pos l h =
    let f : a ≤ h.0 = forwards r a h.0 pos h.1 in
    (apart k r a h.0 pos l h.1, apart k s h.0 b (omega arith) (omega arith) h.2)
apart k (alt r s) a b pos l h =
    let f : a ≤ h.0 = forwards r a h.0 pos h.1 in
    (apart k r a h.0 pos l h.1, apart k s h.0 b (omega arith) (omega arith) h.2)
apart k (many n e lazy r) a b pos l h = (side (range r a b pos h) (dec_lt k 1), apart k r a b pos l h)
  where
    side : Range a (lo r) (hi r) b → Dec (k < 1) → (k < lo r) ⊎ (hi r < k)
    side (inl f) d = inl (omega arith)
    side (inr f) (yes d) = inl (omega arith)
    side (inr f) (no d) = inr (omega arith)

-- Groups that are numbered from left to right are numbered apart.
pub numbered : (r : Node) (a b : ℕ) → 1 ≤ a → Numbers a r b → Numbered r
numbered empty a b pos h = tt
numbered (bset s) a b pos h = tt
numbered (assert t) a b pos h = tt
numbered (group k r) a b pos h = (
  apart k r (suc a) b (omega arith) (omega (arith, h.0)) h.1,
  numbered r (suc a) b
      (omega arith) h.1,
)
numbered (seq r s) a b pos h =
    let f : a ≤ h.0 = forwards r a h.0 pos h.1 in
    (numbered r a h.0 pos h.1, numbered s h.0 b (omega arith) h.2)
numbered (alt r s) a b pos h =
    let f : a ≤ h.0 = forwards r a h.0 pos h.1 in
    (numbered r a h.0 pos h.1, numbered s h.0 b (omega arith) h.2)
numbered (many n e lazy r) a b pos h = numbered r a b pos h
