-- Grounds for turning a call away, in their order, and which of them is told.
use Rattle.std.specs.Prelude.{◌≡◌, refl, Bool, true, false, cond, not, ◌||◌, ◌&&◌, ◌↔◌, List, [], ◌∷◌, ◌++◌, ℕ, suc, eqb}
use Rattle.std.proofs.Common.{sym, subst, arith, eqb-true, eq-eqb}
use Rattle.std.proofs.lemmas.Bool.{false≢true, eqb-false, not-true}
use Rattle.meaning.specs.Tests.{and_true, by_test}

-- A ground for turning a call away: its number, and whether it holds.
pub record Ground : Type 0 where
  pub number : ℕ
  pub holds : Bool

abbrev pub ground : ℕ → Bool → Ground
ground number holds = record { number = number; holds = holds }

-- Of grounds in their order the number of the first that holds; 0 if none does.
abbrev pub first_of : List Ground → ℕ
first_of [] = 0
first_of (one ∷ more) = cond one.holds one.number (first_of more)

-- None of the grounds holds.
abbrev pub NoneOf : List Ground → Type 0
NoneOf [] = Unit {0}
NoneOf (one ∷ more) = (one.holds ≡ false) × NoneOf more

-- The grounds before the one of a number, and whether that one holds. Behind all stands 0, which holds: nothing is told.
abbrev pub before : ℕ → List Ground → List Ground
before number [] = []
before number (one ∷ more) = cond (eqb number one.number) [] (one ∷ before number more)

abbrev pub holds_of : ℕ → List Ground → Bool
holds_of number [] = eqb number 0
holds_of number (one ∷ more) = cond (eqb number one.number) one.holds (holds_of number more)

-- What it is for a number to be told: its ground holds, and none before it does.
abbrev pub Tells : List Ground → ℕ → Type 0
Tells grounds number = NoneOf (before number grounds) × (holds_of number grounds ≡ true)

-- The numbers of grounds differ from one another and from 0.
abbrev pub apart : ℕ → List Ground → Bool
apart number [] = not (eqb 0 number)
apart number (one ∷ more) = not (eqb one.number number) && apart number more

abbrev pub numbered : List Ground → Bool
numbered [] = true
numbered (one ∷ more) = apart one.number more && numbered more

-- A number so told is the first that holds,
pub told : (number : ℕ) (grounds : List Ground) → Tells grounds number → number ≡ first_of grounds
told number [] t = eqb-true number 0 t.1
told number (one ∷ more) t = go (eqb number one.number) refl t (told number more)
  where
    go : (b : Bool) → eqb number one.number ≡ b
        → NoneOf (cond b [] (one ∷ before number more)) × (cond b one.holds (holds_of number more) ≡ true)
        → (Tells more number → number ≡ first_of more) → number ≡ first_of (one ∷ more)
    go true e t rest = rw t.1 (eqb-true number one.number e)
    go false e t rest = rw t.0.0 (rest (t.0.1, t.1))

-- and the first that holds is told.
other : (number : ℕ) (grounds : List Ground) → apart number grounds ≡ true → eqb (first_of grounds) number ≡ false
other number [] a = not-true (eqb 0 number) a
other number (one ∷ more) a =
    let both = and_true (not (eqb one.number number)) (apart number more) a in
    by_test (λ n. eqb n number ≡ false) one.holds (λ _. not-true (eqb one.number number) both.0)
    (λ _. other number more both.1)

pub first_told : (grounds : List Ground) → numbered grounds ≡ true → Tells grounds (first_of grounds)
first_told [] d = (tt, refl)
first_told (one ∷ more) d =
    let both = and_true (apart one.number more) (numbered more) d in
    let rest = first_told more both.1 in
    by_test (Tells (one ∷ more)) one.holds (λ h. rw (eq-eqb one.number one.number refl) (tt, h))
    (λ h. rw (other one.number more both.0) ((h, rest.0), rest.1))

-- So a number is told exactly if it is the first that holds.
pub exactly_told : (grounds : List Ground) → numbered grounds ≡ true → (number : ℕ)
    → (first_of grounds ≡ number) ↔ Tells grounds number
exactly_told grounds d number = (λ e. subst (Tells grounds) e (first_told grounds d), λ t. sym (told number grounds t))

-- Where nothing is told, no ground holds, whichever of those listed it is.
abbrev pub listed : ℕ → List Ground → Bool
listed number [] = false
listed number (one ∷ more) = not (eqb one.number 0) && (eqb number one.number || listed number more)

pub none_holds : (number : ℕ) (grounds : List Ground) → listed number grounds ≡ true → first_of grounds ≡ 0
    → holds_of number grounds ≡ false
none_holds number [] l z = absurd (false≢true l)
none_holds number (one ∷ more) l z =
    let both = and_true (not (eqb one.number 0)) (eqb number one.number || listed number more) l in
    go one.holds refl z (eqb number one.number) both.1
    (eqb-false one.number 0 (not-true (eqb one.number 0) both.0)) (none_holds number more)
  where
    go : (h : Bool) → one.holds ≡ h → cond h one.number (first_of more) ≡ 0 → (b : Bool)
        → (b || listed number more) ≡ true → (one.number ≡ 0 → ⊥)
        → (listed number more ≡ true → first_of more ≡ 0 → holds_of number more ≡ false)
        → cond b one.holds (holds_of number more) ≡ false
    go true e z b l nought rest = absurd (nought z)
    go false e z true l nought rest = e
    go false e z false l nought rest = rest l z

-- Grounds behind one that holds make no difference, and grounds of which none holds make none.
pub same_behind : (one : Ground) (more more' : List Ground) → (one.holds ≡ false → first_of more ≡ first_of more')
    → first_of (one ∷ more) ≡ first_of (one ∷ more')
same_behind one more more' h =
    by_test (λ n. n ≡ first_of (one ∷ more')) one.holds (λ t. rw t) (λ f. rw f (h f))

pub first_before : (a b : List Ground) (k : ℕ) → first_of a ≡ suc k → first_of (a ++ b) ≡ suc k
first_before [] b k e = absurd (omega arith)
first_before (one ∷ a) b k e = go one.holds e (first_before a b k)
  where
    go : (h : Bool) → cond h one.number (first_of a) ≡ suc k → (first_of a ≡ suc k → first_of (a ++ b) ≡ suc k)
        → cond h one.number (first_of (a ++ b)) ≡ suc k
    go true f rest = f
    go false f rest = rest f

pub none_before : (a b : List Ground) → NoneOf a → first_of (a ++ b) ≡ first_of b
none_before [] b n = refl
none_before (one ∷ a) b n = rw n.0 (none_before a b n.1)
