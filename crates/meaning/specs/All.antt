-- What holds of every element of a list.
use Rattle.std.specs.Prelude.{List, [], ◌∷◌, ◌++◌, map}

-- P holds of every element.
abbrev pub All {ℓ κ} : {A : Type ℓ} → (A → Type κ) → List A → Type κ
All P [] = Unit
All P (x ∷ l) = P x × All P l

-- Of two lists one behind the other, both ways.
pub all_append {κ} : {A : Type 0} (P : A → Type κ) (l m : List A) → All P l → All P m → All P (l ++ m)
all_append P [] m h g = g
all_append P (x ∷ l) m h g = (h.0, all_append P l m h.1 g)

pub all_left {κ} : {A : Type 0} (P : A → Type κ) (l m : List A) → All P (l ++ m) → All P l
all_left P [] m h = tt
all_left P (x ∷ l) m h = (h.0, all_left P l m h.1)

pub all_right {κ} : {A : Type 0} (P : A → Type κ) (l m : List A) → All P (l ++ m) → All P m
all_right P [] m h = h
all_right P (x ∷ l) m h = all_right P l m h.1

-- Of what follows from it, and of what a function makes of it.
pub all_imp {κ μ} : {A : Type 0} (P : A → Type κ) (Q : A → Type μ) → ((x : A) → P x → Q x) → (l : List A) → All P l → All Q l
all_imp P Q f [] h = tt
all_imp P Q f (x ∷ l) h = (f x h.0, all_imp P Q f l h.1)

pub all_map {κ μ} : {A B : Type 0} (P : A → Type κ) (Q : B → Type μ) (f : A → B)
    → ((x : A) → P x → Q (f x)) → (l : List A) → All P l → All Q (map f l)
all_map P Q f g [] h = tt
all_map P Q f g (x ∷ l) h = (g x h.0, all_map P Q f g l h.1)
