-- Whether two patterns are equal.
use Rattle.std.specs.Prelude.{◌≡◌, refl, Bool, true, false, List, [], ◌∷◌, ℕ}
use Rattle.std.proofs.Math.Bool.{Bool-discrete}
use Rattle.std.proofs.lemmas.Bool.{false≢true}
use Rattle.std.proofs.Math.Option.{Option, none, some}
use Rattle.std.proofs.Common.{arith}
use Rattle.std.proofs.Math.Decide.{ℕ_discrete}
use Rattle.meaning.specs.Node.{Node, Node-discrete}

unfoldable pub dec_list : {A : Type 0} → Discrete A → Discrete (List A)
dec_list d [] [] = yes refl
dec_list d [] (y ∷ ys) = no (λ e. let z : ◌≡◌ {A = ℕ} 0 1 = cc in omega arith)
dec_list d (x ∷ xs) [] = no (λ e. let z : ◌≡◌ {A = ℕ} 0 1 = cc in omega arith)
dec_list {A} d (x ∷ xs) (y ∷ ys) = both (d x y) (dec_list d xs ys)
  where
    both : Dec (x ≡ y) → Dec (Path (List A) xs ys) → Dec (Path (List A) (x ∷ xs) (y ∷ ys))
    both (yes p) (yes q) = yes cc
    both (yes p) (no f) = no (λ e. f cc)
    both (no f) d = no (λ e. f cc)

unfoldable pub dec_option : Discrete (Option ℕ)
dec_option none none = yes refl
dec_option none (some y) = no (λ e. let z : ◌≡◌ {A = ℕ} 0 1 = cc in omega arith)
dec_option (some x) none = no (λ e. let z : ◌≡◌ {A = ℕ} 0 1 = cc in omega arith)
dec_option (some x) (some y) = one (ℕ_discrete x y)
  where
    one : Dec (x ≡ y) → Dec (Path (Option ℕ) (some x) (some y))
    one (yes p) = yes cc
    one (no f) = no (λ e. f cc)

-- What a decision says.
abbrev pub says : {A : Type 0} → Dec A → Bool
says (yes a) = true
says (no f) = false

pub says_yes : {A : Type 0} (d : Dec A) → says d ≡ true → A
says_yes (yes a) t = a
says_yes (no f) t = absurd (false≢true t)

pub yes_says : {A : Type 0} (d : Dec A) → A → says d ≡ true
yes_says (yes a) t = refl
yes_says (no f) t = absurd (f t)

dec_node : Discrete Node
dec_node = Node-discrete (dec_list ℕ_discrete) ℕ_discrete dec_option Bool-discrete

-- Whether two patterns are equal: equal parts are equal words.
unfoldable pub same : Node → Node → Bool
unfolding dec_node
same r q = says (dec_node r q)

pub same_eq : (r q : Node) → same r q ≡ true → r ≡ q
unfolding same
same_eq r q = says_yes (dec_node r q)

pub same_refl : (r : Node) → same r r ≡ true
unfolding same
same_refl r = yes_says (dec_node r r) refl
