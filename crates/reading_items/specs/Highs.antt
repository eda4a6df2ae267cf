-- The first byte above 7F, by the outline's definition and by the library's.
use Rattle.std.specs.Prelude.{◌≡◌, refl, Bool, true, false, cond, List, [], ◌∷◌, ℕ, ◌+◌, ◌<◌, ◌≤◌, length, ltb, Option, Some, None, MatchOption}
use Rattle.std.proofs.Common.{ap, arith, ltb-true, ltb-false}
use Rattle.std.specs.List.{position, position_or_len}
use Rattle.std.proofs.lemmas.List.Recursion.{is_position_or_len}
use Rattle.reading_items.specs.Reading.{first_high, high_go}

abbrev pub is_high : ℕ → Bool
is_high b = ltb 0x7F b

-- The place counted from one further on is one more.
shift : (s : List ℕ) (at : ℕ) → high_go s (at + 1) ≡ 1 + high_go s at
shift [] at = omega arith
shift (b ∷ s) at = go (is_high b) _ _ (shift s (at + 1))
  where
    go : (p : Bool) (m n : ℕ) → m ≡ 1 + n → cond p (at + 1) m ≡ 1 + cond p at n
    go true m n e = omega arith
    go false m n e = e

first : (s : List ℕ) → first_high s ≡ position_or_len is_high s
first s = is_position_or_len first_high is_high refl (λ b s. ap (cond (is_high b) 0) (shift s 0)) s

high_within : (s : List ℕ) → first_high s ≤ length s
high_within [] = omega arith
high_within (b ∷ s) = go (is_high b) (high_go s 1) (omega (arith, shift s 0, high_within s))
  where
    go : (p : Bool) (m : ℕ) → m ≤ length (b ∷ s) → cond p 0 m ≤ length (b ∷ s)
    go true m h = omega arith
    go false m h = h

-- The first byte above 7F as the library finds it.
abbrev pub high_in : List ℕ → Option ℕ
high_in s = position is_high s

-- It is the outline's first, and where there is none that is the pattern's length.
pub high_found : (s : List ℕ) → MatchOption (high_in s) (first_high s ≡ length s) (λ at. (at < length s) × (first_high s ≡ at))
high_found s = go (ltb (position_or_len is_high s) (length s)) refl
  where
    go : (p : Bool) → ltb (position_or_len is_high s) (length s) ≡ p
        → MatchOption (cond p (Some (position_or_len is_high s)) None) (first_high s ≡ length s)
        (λ at. (at < length s) × (first_high s ≡ at))
    go true e = (ltb-true _ _ e, first s)
    go false e = omega (arith, ltb-false _ _ e, first s, high_within s)
