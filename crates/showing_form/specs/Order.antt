-- Groups of neighbours follow on: what is tested of parts in a row, by their lowest and highest groups, from the last one back.
use Rattle.std.specs.Prelude.{◌≡◌, refl, Bool, true, false, cond, ◌||◌, ◌&&◌, ◌⊎◌, List, [], ◌∷◌, ℕ, suc, ◌-◌, ◌≤◌, eqb}
use Rattle.std.proofs.Common.{sym, subst, inl, inr, arith, eqb-true, eq-eqb, ne_eqb}
use Rattle.std.proofs.Math.Bool.{or-true}
use Rattle.std.proofs.lemmas.Bool.{eqb-false}
use Rattle.meaning.specs.Node.{Node, Node.empty, Node.bset, Node.assert, Node.group, Node.seq, Node.alt, Node.many, lo, hi}
use Rattle.meaning.specs.Numbering.{Numbers, Range, range, forwards}
use Rattle.meaning.specs.Tests.{and_true}
use Rattle.meaning.specs.All.{All}
use Rattle.reading_items.specs.Parts.{NumbersIn}
use Rattle.showing_form.specs.Parts.{Good}

-- The lowest group of parts in a row, 0 if they have none.
abbrev pub next_of : List Node → ℕ
next_of [] = 0
next_of (r ∷ l) = cond (eqb (hi r) 0) (next_of l) (lo r)

-- A part's highest group stands right before the lowest of those behind it, where both have groups.
abbrev pub follows : ℕ → ℕ → Bool
follows high next = eqb high 0 || (eqb next 0 || eqb (next - 1) high)

abbrev pub in_order : List Node → Bool
in_order [] = true
in_order (r ∷ l) = follows (hi r) (next_of l) && in_order l

-- Where a part has no groups any number may be the next.
pub no_groups : (r : Node) (c d : ℕ) → 1 ≤ c → Numbers c r d → hi r ≡ 0 → (a : ℕ) → Numbers a r a
unfolding hi
no_groups empty c d pos h z a = refl
no_groups (bset s) c d pos h z a = refl
no_groups (assert t) c d pos h z a = refl
no_groups (group k r) c d pos h z a = absurd (omega (arith, h.0))
no_groups (seq r q) c d pos h z a =
    let on = forwards r c h.0 pos h.1 in
    (a, no_groups r c h.0 pos h.1 (omega arith) a, no_groups q h.0 d (omega arith) h.2 (omega arith) a)
no_groups (alt r q) c d pos h z a =
    let on = forwards r c h.0 pos h.1 in
    (a, no_groups r c h.0 pos h.1 (omega arith) a, no_groups q h.0 d (omega arith) h.2 (omega arith) a)
no_groups (many n e lazy r) c d pos h z a = no_groups r c d pos h z a

-- With groups it is numbered from its lowest up to its highest.
pub with_groups : (r : Node) (c d : ℕ) → 1 ≤ c → Numbers c r d → (hi r ≡ 0 → ⊥) → (lo r ≡ c) × (suc (hi r) ≡ d)
with_groups r c d pos h n = go (range r c d pos h)
  where
    go : Range c (lo r) (hi r) d → (lo r ≡ c) × (suc (hi r) ≡ d)
    go (inl f) = (omega arith, omega arith)
    go (inr f) = absurd (n (omega arith))

-- Parts that pass are numbered from left to right, from their lowest group on;
pub order_sound : (l : List Node) → All Good l → in_order l ≡ true → (a : ℕ) → 1 ≤ a → (next_of l ≡ 0) ⊎ (next_of l ≡ a)
    → (b : ℕ) × NumbersIn a l b
order_sound [] g o a pos n = (a, refl)
order_sound (r ∷ l) (g, gs) o a pos n =
    let (f, rest) = and_true (follows (hi r) (next_of l)) (in_order l) o in
    go (eqb (hi r) 0) refl f n (λ c p m. order_sound l gs rest c p m)
  where
    behind : (x : Bool) → eqb (next_of l) 0 ≡ x → (x || eqb (next_of l - 1) (hi r)) ≡ true
        → (next_of l ≡ 0) ⊎ (next_of l ≡ suc (hi r))
    behind true e f = inl (eqb-true (next_of l) 0 e)
    behind false e f =
        let z = eqb-false (next_of l) 0 e in let q = eqb-true (next_of l - 1) (hi r) f in inr (omega arith)

    go : (x : Bool) → eqb (hi r) 0 ≡ x → (x || (eqb (next_of l) 0 || eqb (next_of l - 1) (hi r))) ≡ true
        → (cond x (next_of l) (lo r) ≡ 0) ⊎ (cond x (next_of l) (lo r) ≡ a)
        → ((c : ℕ) → 1 ≤ c → (next_of l ≡ 0) ⊎ (next_of l ≡ c) → (b : ℕ) × NumbersIn c l b) → (b : ℕ) × NumbersIn a (r ∷ l) b
    go true e f n rest =
        let (b, k) = rest a pos n in
        (b, (a, no_groups r g.from g.to g.some g.numbers (eqb-true (hi r) 0 e) a, k))
    go false e f n rest =
        let (low, high) = with_groups r g.from g.to g.some g.numbers (eqb-false (hi r) 0 e) in
        let first : g.from ≡ a = starts n low in
        let (b, k) = rest (suc (hi r)) (omega arith) (behind (eqb (next_of l) 0) refl f) in
        (b, (suc (hi r), subst (λ (x : ℕ). Numbers x r (suc (hi r))) first (subst (Numbers g.from r) (sym high) g.numbers), k))
      where
        starts : (lo r ≡ 0) ⊎ (lo r ≡ a) → lo r ≡ g.from → g.from ≡ a
        starts (inl z) low = absurd (omega (arith, g.some))
        starts (inr z) low = omega arith

-- and parts that are so numbered pass.
pub order_complete : (l : List Node) (a b : ℕ) → 1 ≤ a → NumbersIn a l b
    → (in_order l ≡ true) × ((next_of l ≡ 0) ⊎ (next_of l ≡ a))
order_complete [] a b pos h = (refl, inl refl)
order_complete (r ∷ l) a b pos (m, u, v) =
    let on = forwards r a m pos u in
    let (o, n) = order_complete l m b (omega arith) v in
    go (range r a m pos u) o n
  where
    go : Range a (lo r) (hi r) m → in_order l ≡ true → (next_of l ≡ 0) ⊎ (next_of l ≡ m)
        → (in_order (r ∷ l) ≡ true) × ((next_of (r ∷ l) ≡ 0) ⊎ (next_of (r ∷ l) ≡ a))
    go (inl f) o (inl z) =
        let e : eqb (hi r) 0 ≡ false = ne_eqb (hi r) 0 (λ q. omega arith) in
        (rw (e, eq-eqb (next_of l) 0 z) o, inr (rw e (omega arith)))
    go (inl f) o (inr z) =
        let e : eqb (hi r) 0 ≡ false = ne_eqb (hi r) 0 (λ q. omega arith) in
        (rw (e, eq-eqb (next_of l - 1) (hi r) (omega arith), or-true) o, inr (rw e (omega arith)))
    go (inr f) o n =
        let e : eqb (hi r) 0 ≡ true = eq-eqb (hi r) 0 (omega arith) in
        (rw e o, rw e (last n))
      where
        last : (next_of l ≡ 0) ⊎ (next_of l ≡ m) → (next_of l ≡ 0) ⊎ (next_of l ≡ a)
        last (inl z) = inl z
        last (inr z) = inr (omega arith)
