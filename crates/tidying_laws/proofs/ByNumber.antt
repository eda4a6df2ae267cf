-- The laws by their numbers, which count from 1 in the order of the list: no other number has a law.
use Rattle.std.specs.Prelude.{◌≡◌, refl, List, [], ◌∷◌, ℕ, zero, suc, ◌+◌, ◌<◌, ◌≤◌, length, get_or}
use Rattle.std.proofs.Common.{sym, ap, ◌∙◌, arith}
use Rattle.std.proofs.Math.Option.{some, none-ne-some}
use Rattle.std.proofs.Math.Decide.{dec_le}
use Rattle.std.proofs.Math.ListN.{get_or-eq_default}
use Rattle.meaning.specs.Node.{Node}
use Rattle.tidying_laws.specs.List.{laws}
use Rattle.tidying_laws.specs.Tidier.{lowest}
use Rattle.tidying_laws.proofs.Found.{first_nth}
use Rattle.tidying_laws.specs.ByNumber.{IsLaw, NoneOf, law_count, law_of, number_of, nothing}
use Rattle.tidying_laws.specs.declared.Law.{Law}
use Rattle.tidying_laws.specs.declared.TheConstants.Law.{ALL}

pub no_law : (k : ℕ) → (IsLaw k → ⊥) → law_of k ≡ nothing
unfolding law_of law_count
no_law zero h = refl
no_law (suc k) h = go (dec_le (suc k) (length laws))
  where
    go : Dec (suc k ≤ length laws) → law_of (suc k) ≡ nothing
    go (yes l) = absurd (h (omega arith, l))
    go (no l) = get_or-eq_default (nothing ∷ laws) nothing {n = suc k} (omega arith)

-- So a law that fits has a number.
pub is_law : (k : ℕ) (x y : Node) → law_of k x ≡ some y → IsLaw k
unfolding law_of
is_law zero x y e = absurd (none-ne-some y e)
is_law (suc k) x y e = (omega arith, go (dec_le (suc k) law_count))
  where
    go : Dec (suc k ≤ law_count) → suc k ≤ law_count
    go (yes h) = h
    go (no h) = absurd (none-ne-some y (sym (ap (λ f. f x) (no_law (suc k) (λ t. h t.1))) ∙ e))

-- The lowest law that fits is the law of its number.
pub law_at : (x y : Node) (k : ℕ) → lowest x ≡ some (k, y) → law_of k x ≡ some y
unfolding lowest law_of
law_at x y k e = (first_nth (λ f. f x) nothing laws k y e).2

pub none_of : (n k : ℕ) → NoneOf n k → (1 ≤ k) × (k ≤ n) → ⊥
none_of zero k h b = omega arith
none_of (suc n) k h b = none_of n k h.0 (b.0, let other = h.1 in omega arith)

-- The array has each law at the place of its number.
abbrev Counts : ℕ → List Law → Type 0
Counts n [] = Unit {0}
Counts n (x ∷ l) = (number_of x ≡ n) × Counts (suc n) l

counts_at : (n : ℕ) (l : List Law) (d : Law) → Counts n l → (i : ℕ) → i < length l → number_of (get_or l i d) ≡ i + n
counts_at n [] d h i g = absurd (omega arith)
counts_at n (x ∷ l) d h zero g = omega (arith, h.0)
counts_at n (x ∷ l) d h (suc i) g = omega (arith, counts_at (suc n) l d h.1 i (omega arith))

pub in_order : (d : Law) (i : ℕ) → i < length ALL → number_of (get_or ALL i d) ≡ i + 1
in_order d = counts_at 1 ALL d (refl, (refl, (refl, (refl, (refl, (refl, (refl, (refl, (refl, (refl, tt))))))))))
