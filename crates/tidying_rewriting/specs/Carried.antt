-- What is carried out for the law of each number: the law itself, or a wider rule that several laws have in common.
-- The definitions stand here; proofs/Carried.antt has the theorems.
use Rattle.std.specs.Prelude.{◌≡◌, List, ℕ}
use Rattle.tidying_laws.specs.ByNumber.{law_of, IsLaw}
use Rattle.tidying_rewriting.specs.Rewriting.{SomeFitting, Rewrites}

-- What is asked, if a law has the number: that it fits.
abbrev pub Asked : ℕ → List ℕ → ℕ → ℕ → Type 0
Asked law table n top = IsLaw law → SomeFitting (law_of law) table n top

-- What is done: the law of the number is carried out; and if no law has it, nothing.
pub record Carries (law : ℕ) (table table' : List ℕ) (n top n' : ℕ) : Type 0 where
  pub by : Rewrites (law_of law) table table' n top n'
  pub nothing_done : (IsLaw law → ⊥) → (table' ≡ table) × (n' ≡ n)
