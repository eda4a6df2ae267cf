-- What is carried out for the law of each number: the law itself, or a wider rule that several laws have in common.
use Rattle.std.specs.Prelude.{◌≡◌, refl, List, [], ◌∷◌, map, ℕ, zero, suc, get_or}
use Rattle.std.proofs.Common.{sym, subst}
use Rattle.tidying_laws.specs.Laws.{t1, t7, t8}
use Rattle.tidying_laws.specs.List.{laws}
use Rattle.tidying_laws.specs.ByNumber.{nothing, law_of, IsLaw}
use Rattle.tidying_laws.proofs.ByNumber.{is_law}
use Rattle.tidying_rewriting.specs.Rewriting.{Rule, SomeFitting, Rewrites, Narrower, narrower_same, some_wide}
use Rattle.tidying_rewriting.specs.Rewriting.{rewrites_narrow}
use Rattle.tidying_rewriting.proofs.Quantifiers.{t2_leaves, t3_leaves, t4_leaves, t5_leaves, t9_leaves, t10_leaves}
use Rattle.tidying_rewriting.proofs.Dropping.{t6_drops}
use Rattle.tidying_rewriting.specs.Carried.{Asked, Carries}

-- A law, and the rule that is carried out for it, which does all that the law does.
pub record Carrier : Type 0 where
  pub law : Rule
  pub wide : Rule
  pub narrow : Narrower law wide

abbrev pub by : {law wide : Rule} → Narrower law wide → Carrier
by {law} {wide} h = record { law = law; wide = wide; narrow = h }

pub itself : (law : Rule) → Narrower law law
itself law = narrower_same (λ x. refl)

-- T2, T3, T4 and T10 take a quantifier away, T5 and T9 the inner one of two, and T6 an alternative that equals an earlier one.
abbrev pub carriers : List Carrier
carriers =
    by (itself t1)
    ∷ by t2_leaves
    ∷ by t3_leaves
    ∷ by t4_leaves
    ∷ by t5_leaves
    ∷ by t6_drops
    ∷ by (itself t7)
    ∷ by (itself t8)
    ∷ by t9_leaves
    ∷ by t10_leaves
    ∷ []

unfoldable pub carried : ℕ → Rule
carried k = get_or (nothing ∷ map (λ c. c.wide) carriers) k nothing

-- The laws of the carriers are those of the list, in its order.
narrow : (k : ℕ) → Narrower (law_of k) (carried k)
unfolding law_of laws carried
narrow = go (by (itself nothing) ∷ carriers)
  where
    go : (l : List Carrier) (k : ℕ) → Narrower (get_or (map (λ c. c.law) l) k nothing) (get_or (map (λ c. c.wide) l) k nothing)
    go [] k = itself nothing
    go (c ∷ l) zero = c.narrow
    go (c ∷ l) (suc k) = go l k

-- So where a number is that of a law, what is carried out for it fits, and carries out the law.
module _ {table : List ℕ} {n top law : ℕ} (k : ℕ) (e : law ≡ k) (l : IsLaw k) where
  pub fits_carried : Asked law table n top → SomeFitting (carried k) table n top
  fits_carried asked = let s = asked (rw e l) in
      subst (λ (k : ℕ). SomeFitting (carried k) table n top) e (some_wide s ((narrow law).by s.node))

  pub carries : {table' : List ℕ} {n' : ℕ} → Rewrites (carried k) table table' n top n' → Carries law table table' n top n'
  carries {table'} {n'} r = record {
    by = subst (λ (k : ℕ). Rewrites (law_of k) table table' n top n') (sym e) (rewrites_narrow (narrow k) r);
    nothing_done = λ h. absurd (h (rw e l));
  }

-- And nothing is done for a number that no law has.
pub carries_none : {table : List ℕ} {n top law : ℕ} → (IsLaw law → ⊥) → Carries law table table n top n
carries_none {law = law} h = record {
  by = record { by = λ before x y l m f. absurd (h (is_law law x y f.fits)) };
  nothing_done = λ g. (refl, refl);
}
