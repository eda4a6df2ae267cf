-- The same order, said with lists: two patterns have it exactly if their results are the same but for later repeats.
use Rattle.std.specs.Prelude.{◌≡◌, Bool, ◌≤◌}
use Rattle.std.proofs.Math.Path.{refl, sym}
use Rattle.std.proofs.Common.{ap, ◌∙◌}
use Rattle.std.proofs.Math.Bool.{true, false, cond, or-true}
use Rattle.std.proofs.Math.Option.{Option, none, some, some-injective, none-ne-some, some-ne-none}
use mathlib.Core.List.{List, [], ◌∷◌}
use Rattle.std.proofs.Math.Decide.{ℕ_discrete}
use Rattle.meaning.specs.Text.{Input, State, size}
use Rattle.meaning.specs.Node.{Node}
use Rattle.meaning.specs.Results.{or_else, or_else_assoc, first_some, results}
use Rattle.tidying_laws.specs.Choices.{swap, unswap, any, earlier}
use Rattle.tidying_laws.specs.Void.{Fair}
use Rattle.tidying_laws.specs.Alike.{SameOrder}
use Rattle.tidying_laws.specs.Equal.{dec_list, dec_option, says, says_yes, yes_says}

-- A list without what it has had before, or what was seen.
unfoldable pub firsts : {A : Type 0} → (A → A → Bool) → List A → List A → List A
firsts eq seen [] = []
firsts eq seen (x ∷ l) = cond (any (eq x) seen) (firsts eq seen l) (x ∷ firsts eq (x ∷ seen) l)

-- Two lists have the same first success of a continuation, after what was seen.
abbrev After : {A B : Type 0} → (A → Option B) → List A → List A → List A → Type 0
After c seen l m = or_else (first_some c seen) (first_some c l) ≡ or_else (first_some c seen) (first_some c m)

module _ {A : Type 0} (eq : A → A → Bool) (sound : (x y : A) → eq x y ≡ true → x ≡ y) (self : (x : A) → eq x x ≡ true) where
  -- What was seen has no other success.
  skip : {B : Type 0} (c : A → Option B) (x : A) (seen : List A) (o : Option B)
      → any (eq x) seen ≡ true → or_else (first_some c seen) (or_else (c x) o) ≡ or_else (first_some c seen) o
  skip c x seen o h = sym (or_else_assoc (first_some c seen) (c x) o) ∙ ap (λ s. or_else s o) (earlier eq sound c x seen h)

  -- Without later repeats a list has the same first successes.
  keep : {B : Type 0} (c : A → Option B) (seen l : List A) → After c seen (firsts eq seen l) l
  unfolding firsts
  keep c seen [] = refl
  keep c seen (x ∷ l) = by (keep c seen l) (keep c (x ∷ seen) l) (any (eq x) seen) refl
    where
      by : After c seen (firsts eq seen l) l → After c (x ∷ seen) (firsts eq (x ∷ seen) l) l → (b : Bool) → any (eq x) seen ≡ b
          → After c seen (cond b (firsts eq seen l) (x ∷ firsts eq (x ∷ seen) l)) (x ∷ l)
      by h g true e = h ∙ sym (skip c x seen (first_some c l) e)
      by h g false e = swap (first_some c seen) (c x) (first_some c (firsts eq (x ∷ seen) l)) (first_some c l) g

  -- The success that was not seen before.
  abbrev unseen : List A → A → Option A
  unseen seen x = cond (any (eq x) seen) none (some x)

  all_seen : (s l : List A) → ((x : A) → any (eq x) l ≡ true → any (eq x) s ≡ true) → first_some (unseen s) l ≡ none
  all_seen s [] h = refl
  all_seen s (x ∷ l) h = rw (h x (rw (self x)), all_seen s l (λ y t. h y (rw t (or-true (eq y x)))))

  none_unseen : (seen : List A) → first_some (unseen seen) seen ≡ none
  none_unseen seen = all_seen seen seen (λ x t. t)

  -- The same for every continuation.
  abbrev Like : List A → List A → List A → Type 1
  Like seen l m = (B : Type 0) (c : A → Option B) → After c seen l m

  equal_nil : (seen m : List A) → Like seen [] m → [] ≡ firsts eq seen m
  unfolding firsts
  equal_nil seen [] h = refl
  equal_nil seen (y ∷ m) h = by (λ g. equal_nil seen m g) (any (eq y) seen) refl
    where
      by : (Like seen [] m → [] ≡ firsts eq seen m) → (b : Bool) → any (eq y) seen ≡ b
          → [] ≡ cond b (firsts eq seen m) (y ∷ firsts eq (y ∷ seen) m)
      by ih true e = ih (λ B c. h B c ∙ skip c y seen (first_some c m) e)
      by ih false e = absurd (none-ne-some y (rw (none_unseen seen, e) at (h A (unseen seen))))

  equal_cons : (seen : List A) (x : A) (l m : List A) → any (eq x) seen ≡ false → Like seen (x ∷ l) m
      → ((m : List A) → Like (x ∷ seen) l m → firsts eq (x ∷ seen) l ≡ firsts eq (x ∷ seen) m)
      → x ∷ firsts eq (x ∷ seen) l ≡ firsts eq seen m
  unfolding firsts
  equal_cons seen x l [] e h g = absurd (some-ne-none x (rw (none_unseen seen, e) at (h A (unseen seen))))
  equal_cons seen x l (y ∷ m) e h g = by (λ k. equal_cons seen x l m e k g) (any (eq y) seen) refl
    where
      by : (Like seen (x ∷ l) m → x ∷ firsts eq (x ∷ seen) l ≡ firsts eq seen m) → (b : Bool) → any (eq y) seen ≡ b
          → x ∷ firsts eq (x ∷ seen) l ≡ cond b (firsts eq seen m) (y ∷ firsts eq (y ∷ seen) m)
      by ih true f = ih (λ B c. h B c ∙ skip c y seen (first_some c m) f)
      by ih false f =
          let p : x ≡ y = some-injective x y (rw (none_unseen seen, e, f) at (h A (unseen seen))) in
          rw (← p) (ap (λ k. x ∷ k) (g m (λ B c.
          unswap (first_some c seen) (c x) (first_some c l) (first_some c m) (rw (← p) at (h B c)))))

  equal : (l seen m : List A) → Like seen l m → firsts eq seen l ≡ firsts eq seen m
  unfolding firsts
  equal [] seen m h = equal_nil seen m h
  equal (x ∷ l) seen m h = by (λ s m h. equal l s m h) (any (eq x) seen) refl
    where
      by : ((s m : List A) → Like s l m → firsts eq s l ≡ firsts eq s m) → (b : Bool) → any (eq x) seen ≡ b
          → cond b (firsts eq seen l) (x ∷ firsts eq (x ∷ seen) l) ≡ firsts eq seen m
      by ih true e = ih seen m (λ B c. sym (skip c x seen (first_some c l) e) ∙ h B c)
      by ih false e = equal_cons seen x l m e h (λ m g. ih (x ∷ seen) m g)

-- Whether two states are equal.
unfoldable pub dec_state : Discrete State
dec_state x y = both (ℕ_discrete x.pos y.pos) (dec_list dec_option x.regs y.regs)
  where
    both : Dec (x.pos ≡ y.pos) → Dec (x.regs ≡ y.regs) → Dec (x ≡ y)
    both (yes p) (yes q) = yes (λ i. record { pos = p i; regs = q i })
    both (yes p) (no f) = no (λ e. f (ap (λ (z : State). z.regs) e))
    both (no f) d = no (λ e. f (ap (λ (z : State). z.pos) e))

unfoldable pub same_state : State → State → Bool
same_state x y = says (dec_state x y)

sound : (x y : State) → same_state x y ≡ true → x ≡ y
unfolding same_state
sound x y = says_yes (dec_state x y)

self : (x : State) → same_state x x ≡ true
unfolding same_state
self x = yes_says (dec_state x x) refl

-- The results without later repeats.
unfoldable pub distinct_results : Input → Node → State → List State
distinct_results w r x = firsts same_state [] (results w r x)

-- Two patterns have the same order exactly if these lists are equal, on every text and from every state in it.
pub order_lists : (r q : Node) → SameOrder r q
    → (w : Input) → Fair w → (x : State) → x.pos ≤ size w → distinct_results w r x ≡ distinct_results w q x
unfolding distinct_results
order_lists r q h w fair x hx = equal same_state sound self (results w r x) [] (results w q x) (λ B c. h.order w fair B c x hx)

pub lists_order : (r q : Node)
    → ((w : Input) → Fair w → (x : State) → x.pos ≤ size w → distinct_results w r x ≡ distinct_results w q x) → SameOrder r q
unfolding distinct_results
lists_order r q h = record {
  order = λ w fair B c x hx.
      sym (keep same_state sound self c [] (results w r x)) ∙ ap (first_some c) (h w fair x hx)
      ∙ keep same_state sound self c [] (results w q x);
}
