-- The laws by their numbers, which count from 1 in the order of the list: no other number has a law.
-- The definitions stand here; proofs/ByNumber.antt has the theorems.
use Rattle.std.specs.Prelude.{◌≡◌, ℕ, zero, suc, ◌≤◌, length, Result, MatchResult}
use Rattle.std.proofs.Math.Option.{Option, none}
use Rattle.meaning.specs.Node.{Node}
use Rattle.tidying_laws.specs.List.{laws}
use Rattle.tidying_laws.specs.Found.{nth}
use Rattle.tidying_laws.specs.declared.Law.{Law}
use Rattle.tidying_laws.specs.declared.NoLaw.{NoLaw}
use Rattle.tidying_laws.specs.declared.Law.TheVariants.{T1, T2, T3, T4, T5, T6, T7, T8, T9, T10}

-- The law that fits nothing.
abbrev pub nothing : Node → Option Node
nothing r = none

-- How many laws there are, and the law of a number. Where no law has the number, that is the one that fits nothing.
unfoldable pub law_count : ℕ
law_count = length laws

unfoldable pub law_of : ℕ → Node → Option Node
law_of k = nth nothing laws k

abbrev pub IsLaw : ℕ → Type 0
IsLaw k = (1 ≤ k) × (k ≤ law_count)

-- A number that is none of 1 to n, as the last arm of a match knows it, is not from 1 to n.
abbrev pub NoneOf : ℕ → ℕ → Type 0
NoneOf zero k = Unit {0}
NoneOf (suc n) k = NoneOf n k × (k ≡ suc n → ⊥)

-- The number of a law.
abbrev pub number_of : Law → ℕ
number_of T1 = 1
number_of T2 = 2
number_of T3 = 3
number_of T4 = 4
number_of T5 = 5
number_of T6 = 6
number_of T7 = 7
number_of T8 = 8
number_of T9 = 9
number_of T10 = 10

-- The law of a number, or that it is the number of none.
abbrev pub Numbered : ℕ → Result Law NoLaw → Type 0
Numbered number r = MatchResult r (λ law. number_of law ≡ number) (λ e. (e.0 ≡ number) × (IsLaw number → ⊥))
