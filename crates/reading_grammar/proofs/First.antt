-- Which refusal a pattern is turned away with: checks 1 to 3 first, in order; then the smallest place, then the smaller number.
use Rattle.std.specs.Prelude.{◌≡◌, refl, ◌⊎◌, List, ℕ, ◌≤◌, ◌<◌, length}
use Rattle.std.proofs.Common.{sym, ◌∙◌, inl, inr, arith}
use Rattle.std.proofs.Math.Decide.{dec_lt}
use Rattle.meaning.specs.Limits.{table_words, depth_limit}
use Rattle.meaning.specs.Node.{Node}
use Rattle.meaning.specs.Refusals as No
use Rattle.reading_items.specs.Reading.{alternatives_at, Reading, Reading.pattern, Reading.refused, whole, reading}
use Rattle.reading_grammar.specs.Checked.{Passed, Checking, checked, passed_none, check_number, one_place}
use Rattle.reading_grammar.proofs.Sound.{read_sound, Sound, sound}
use Rattle.reading_grammar.specs.Grammar.{Derives}
use Rattle.reading_grammar.proofs.Complete.{refused_not}
use Rattle.reading_grammar.specs.Refusals.{Checks, Checks.long, Checks.small, Checks.high, Refuses, Before, TurnedAway}
use Rattle.reading_grammar.proofs.Refused.{Told, refuses_told}

same_told : {n p m q : ℕ} → refused n p ≡ refused m q → (n ≡ m) × (p ≡ q)
same_told e = (cc, cc)

not_read : {n p g : ℕ} {r : Node} → refused n p ≡ pattern r g → ⊥
not_read e = let z : ◌≡◌ {A = ℕ} 0 1 = cc in omega arith

-- Where a refusal holds the bytes before begin some pattern: so all that hold of a pattern are at one place.
pub same_place : (s : List ℕ) (n p m q : ℕ) → Refuses s n p → Refuses s m q → p ≡ q
same_place s n p m q x y = (same_told (sym (refuses_told s x).says ∙ (refuses_told s y).says)).1

-- Of two refusals that come before one another both are the same.
same_before : (n p m q : ℕ) → Before n p m q → Before m q n p → (n ≡ m) × (p ≡ q)
same_before n p m q (inl h) (inl k) = absurd (omega arith)
same_before n p m q (inl h) (inr k) = absurd (omega arith)
same_before n p m q (inr h) (inl k) = absurd (omega arith)
same_before n p m q (inr h) (inr k) = (omega arith, omega arith)

module _ (s : List ℕ) (table : ℕ) where
  -- What a refusal that is read says: it holds by its definition, and it comes before any other that does.
  first_read : Passed s table → (n p : ℕ) → whole s (alternatives_at depth_limit s 0 0) ≡ refused n p
      → Refuses s n p × ((m q : ℕ) → Refuses s m q → Before n p m q)
  first_read h n p e = (rw e at (read_sound s h.short h.low), λ m q x. first m q (refuses_told s x))
    where
      first : (m q : ℕ) → Told s m q → Before n p m q
      first m q t =
          let (u, v) = same_told (sym t.says ∙ e) in
          inr (sym v, omega (arith, t.least))

  -- What is refused is turned away so.
  pub refused_first : (n p : ℕ) → reading s table ≡ refused n p → TurnedAway s table n p
  refused_first n p e = go (checked s table)
    where
      go : Checking s table (reading s table) → TurnedAway s table n p
      go (inl (n', p', h, e')) =
          let (u, v) = same_told (sym e' ∙ e) in
          rw (← u, ← v) (TurnedAway.checked h.check h.least)
      go (inr (h, e')) =
          let (x, y) = first_read h n p (sym e' ∙ e) in
          TurnedAway.read (passed_none s table h) x y

  -- What is turned away so is refused.
  pub first_refused : (n p : ℕ) → TurnedAway s table n p → reading s table ≡ refused n p
  first_refused n p t = go t (checked s table)
    where
      told : (h : Passed s table) → ((m q : ℕ) → Refuses s m q → Before n p m q) → Told s n p
          → whole s (alternatives_at depth_limit s 0 0) ≡ refused n p
      told h f x =
          let (u, v) = same_before n p x.first p (f x.first p (first_read h x.first p x.says).0)
          (inr (refl, x.least)) in
          rw u x.says

      go : TurnedAway s table n p → Checking s table (reading s table) → reading s table ≡ refused n p
      go (TurnedAway.checked c f) (inl (n', p', h, e)) =
          let u : n' ≡ n = omega (arith, f n' p' h.check, h.least n p c) in
          let v : p' ≡ p = one_place s table n p' p (rw u at h.check) c in
          rw (← u, ← v) e
      go (TurnedAway.checked c f) (inr (h, e)) = absurd (passed_none s table h n p c)
      go (TurnedAway.read none x f) (inl (n', p', h, e)) = absurd (none n' p' h.check)
      go (TurnedAway.read none x f) (inr (h, e)) = e ∙ told h f (refuses_told s x)

  -- So a pattern is turned away with one number at one place.
  pub one_refusal : (n p m q : ℕ) → TurnedAway s table n p → TurnedAway s table m q → (n ≡ m) × (p ≡ q)
  one_refusal n p m q t u = same_told (sym (first_refused n p t) ∙ first_refused m q u)

  -- The smallest place wins, then the smaller number.
  pub smallest_place : (n p : ℕ) → reading s table ≡ refused n p → No.bad_escape ≤ n → (m q : ℕ) → Refuses s m q → Before n p m q
  smallest_place n p e l m q x = go (refused_first n p e)
    where
      go : TurnedAway s table n p → Before n p m q
      go (TurnedAway.checked c f) = absurd (omega (arith, check_number s table c))
      go (TurnedAway.read none y f) = f m q x

  -- Where a pattern is read, no check stops it and nothing refuses it, at any place.
  pub read_none : (r : Node) (g : ℕ) → reading s table ≡ pattern r g
      → (n p : ℕ) → (Checks s table n p → ⊥) × (Refuses s n p → ⊥)
  read_none r g e n p = go (checked s table)
    where
      go : Checking s table (reading s table) → (Checks s table n p → ⊥) × (Refuses s n p → ⊥)
      go (inl (n', p', h, e')) = absurd (not_read (sym e' ∙ e))
      go (inr (h, e')) = (passed_none s table h n p, λ x. not_read (sym (refuses_told s x).says ∙ sym e' ∙ e))

  -- Every pattern derives a tree or is turned away.
  pub derives_or_turned : ((r : Node) × (g : ℕ) × Derives s r g) ⊎ ((n : ℕ) × (p : ℕ) × TurnedAway s table n p)
  derives_or_turned = go (reading s table) refl (sound s table)
    where
      go : (x : Reading) → reading s table ≡ x → Sound s table x
          → ((r : Node) × (g : ℕ) × Derives s r g) ⊎ ((n : ℕ) × (p : ℕ) × TurnedAway s table n p)
      go (pattern r g) e h = inl (r, g, h)
      go (refused n p) e h = inr (n, p, refused_first n p e)

  -- And what is turned away, but for a table without room, derives under no derivation within the limits.
  check_derives_not : {n p : ℕ} → Checks s table n p → (n ≡ No.small_table → ⊥) → (r : Node) (g : ℕ) → Derives s r g → ⊥
  check_derives_not (long l) f r g u = omega (arith, u.short)
  check_derives_not (small l) f r g u = f refl
  check_derives_not (high {a = a} l k b) f r g u = omega (arith, u.low a l)

  pub turned_derives_not : (n p : ℕ) → TurnedAway s table n p → (n ≡ No.small_table → ⊥) → (r : Node) (g : ℕ) → Derives s r g → ⊥
  turned_derives_not n p (TurnedAway.checked c h) f r g u = check_derives_not c f r g u
  turned_derives_not n p (TurnedAway.read none x h) f r g u =
      refused_not s table n p (first_refused n p (TurnedAway.read none x h)) (room (dec_lt table (table_words (length s)))) r g u
    where
      room : Dec (table < table_words (length s)) → table_words (length s) ≤ table
      room (yes l) = absurd (none No.small_table 0 (Checks.small l))
      room (no l) = omega arith
