-- The search for a law: what its first place and lowest law are, when it finds none, and that places are records.
-- The definitions stand here; proofs/Found.antt has the theorems.
use Rattle.std.specs.Prelude.{◌≡◌, List, ◌∷◌, ◌++◌, ℕ, ◌+◌, ◌-◌, length, get_or, drop}
use Rattle.std.proofs.Math.Option.{Option, none, some}
use Rattle.meaning.specs.Node.{Node}
use Rattle.tidying_laws.specs.List.{laws}
use Rattle.tidying_laws.specs.Tidier.{places, first_at}
use Rattle.meaning.specs.All.{All}

-- What stands at the number found, and that nothing before it succeeds.
pub record First {A B : Type 0} (c : A → Option B) (n : ℕ) (l : List A) (i : ℕ) (b : B) : Type 0 where
  pub front : List A
  pub here : A
  pub back : List A
  pub split : l ≡ front ++ here ∷ back
  pub number : n + length front ≡ i
  pub none_before : All (λ x. c x ≡ none) front
  pub success : c here ≡ some b

-- The element of a number, counted from 1; d where there is none. The first success is that of the element of its number.
abbrev pub nth : {A : Type 0} → A → List A → ℕ → A
nth d l k = get_or (d ∷ l) k d

-- A search from the element of a number on: one that does not succeed is passed, one that does is found, and past all is none.
abbrev pub first_from : {A B : Type 0} → (A → Option B) → List A → ℕ → Option (ℕ × B)
first_from c l k = first_at c k (drop (k - 1) l)

-- No law of the list fits any part of a pattern.
abbrev pub Done : Node → Type 0
Done r = All (λ p. All (λ f. f p.part ≡ none) laws) (places none r)
