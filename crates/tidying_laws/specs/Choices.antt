-- First successes over choices, and choices that make no difference.
use Rattle.std.specs.Prelude.{◌≡◌, refl, Bool, true, false, cond, ◌||◌, List, [], ◌∷◌}
use Rattle.std.proofs.Common.{ap}
use Rattle.std.proofs.lemmas.Bool.{false≢true}
use Rattle.std.proofs.Math.Option.{Option, none, some}
use Rattle.meaning.specs.Results.{or_else, or_else_none, or_else_assoc, first_some, concat_map, only, first_append}

module _ {A : Type 0} where
  -- A choice needs no second try: behind itself, behind itself and another, or behind another and itself.
  pub twice : (o p : Option A) → or_else o (or_else o p) ≡ or_else o p
  twice none p = refl
  twice (some a) p = refl

  pub back : (o p : Option A) → or_else (or_else o p) o ≡ or_else o p
  back none none = refl
  back none (some b) = refl
  back (some a) p = refl

  pub again : (o p : Option A) → or_else (or_else p o) o ≡ or_else p o
  again none none = refl
  again (some a) none = refl
  again o (some b) = refl

  -- What comes after two choices does not depend on their order.
  pub swap : (s r l m : Option A)
      → or_else (or_else r s) l ≡ or_else (or_else r s) m → or_else s (or_else r l) ≡ or_else s (or_else r m)
  swap none none l m e = e
  swap none (some b) l m e = refl
  swap (some a) r l m e = refl

  pub unswap : (s r l m : Option A)
      → or_else s (or_else r l) ≡ or_else s (or_else r m) → or_else (or_else r s) l ≡ or_else (or_else r s) m
  unswap none none l m e = e
  unswap (some a) none l m e = refl
  unswap s (some b) l m e = refl

-- A test in front of each choice is one in front of all.
pub guarded : {A B : Type 0} (b : Bool) (c : A → Option B) (l : List A)
    → first_some (λ x. cond b (c x) none) l ≡ cond b (first_some c l) none
guarded true c l = refl
guarded false c [] = refl
guarded false c (x ∷ l) = guarded false c l

-- A test before a choice is one before what the choice leads to.
pub first_only : {A B C : Type 0} (c : B → Option C) (f : A → List B) (b : Bool) (x : A)
    → first_some c (concat_map f (only b x)) ≡ cond b (first_some c (f x)) none
first_only c f true x = simp (first_append, or_else_none)
first_only c f false x = refl

-- Whether a test passes for one of a list.
abbrev pub any : {A : Type 0} → (A → Bool) → List A → Bool
any p [] = false
any p (x ∷ l) = p x || any p l

-- A choice that is equal to one that was tried adds no success.
module _ {A B : Type 0} (eq : A → A → Bool) (sound : (x y : A) → eq x y ≡ true → x ≡ y) (c : A → Option B) (x : A) where
  pub earlier : (seen : List A) → any (eq x) seen ≡ true → or_else (first_some c seen) (c x) ≡ first_some c seen
  earlier [] h = absurd (false≢true h)
  earlier (y ∷ seen) h = by (λ t. earlier seen t) (eq x y) refl h
    where
      by : (any (eq x) seen ≡ true → or_else (first_some c seen) (c x) ≡ first_some c seen) → (b : Bool) → eq x y ≡ b
          → (b || any (eq x) seen) ≡ true → or_else (first_some c (y ∷ seen)) (c x) ≡ first_some c (y ∷ seen)
      by ih true e t = rw (sound x y e) (back (c y) (first_some c seen))
      by ih false e t = rw (or_else_assoc (c y) (first_some c seen) (c x)) (ap (or_else (c y)) (ih t))
