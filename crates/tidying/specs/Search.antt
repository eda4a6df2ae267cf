-- The search for a law: over the parts, and at each over the laws, until the first place at which one fits.
use Rattle.std.specs.Prelude.{Option as MayBe, Some, None, ◌≡◌, Bool, true, false, List, ℕ, ◌+◌, ◌<◌, ◌≤◌, length, get_or}
use Rattle.std.proofs.Math.Path.{refl, sym}
use Rattle.std.proofs.Common.{ap, subst, ◌∙◌, arith}
use Rattle.std.proofs.lemmas.Bool.{false≢true}
use Rattle.std.proofs.Math.Option.{Option, none, some, map}
use Rattle.meaning.specs.Node.{Node, Node.empty}
use Rattle.table.specs.Table.{records}
use Rattle.table.specs.Stands.{Stands, SomePart}
use Rattle.tidying_laws.specs.List.{laws}
use Rattle.tidying_laws.specs.Tidier.{Place, itself, places, lowest, found}
use Rattle.tidying_laws.specs.Found.{first_from}
use Rattle.tidying_laws.proofs.Found.{from_next, from_here, from_end}
use Rattle.tidying_laws.proofs.ByNumber.{in_order}
use Rattle.tidying_laws.specs.ByNumber.{nothing, law_count, law_of, number_of, IsLaw}
use Rattle.tidying_fitting.specs.Fitting.{is_some, fits}
use Rattle.tidying_fitting.specs.Parts.{Tells}
use Rattle.tidying.specs.Standing.{Whole, place_at, IsPlace, place_count, place_ends}
use Rattle.tidying_laws.specs.declared.Law.{Law}
use Rattle.tidying_laws.specs.declared.TheConstants.Law.{ALL}
use Rattle.tidying.specs.declared.Found.{Found as Answer}

-- The outline's values for what is found: the first place's number and the lowest law there, both from 1; or nothing.
pub data Found : Type 0 where
  At : ℕ → ℕ → Found
  Nothing : Found

-- Those of the search's answer.
abbrev pub finding_of : MayBe Answer → Found
finding_of None = Nothing
finding_of (Some found) = At found.top (number_of found.law)

abbrev pub answer_of : Option (ℕ × (ℕ × Node)) → Found
answer_of none = Nothing
answer_of (some (i, (k, q))) = At i k

-- A pattern whose records are the first n of a table.
pub record Sought (table : List ℕ) (n : ℕ) (r : Node) : Type 0 where
  pub stands : Stands table n (records r)
  pub all : Whole r

pub record SomeSought (table : List ℕ) (n : ℕ) : Type 0 where
  pub node : Node
  pub sought : Sought table n node

-- What is answered, whatever the pattern is.
pub record Finds (answer : Found) (table : List ℕ) (n : ℕ) : Type 0 where
  pub by : (r : Node) → Sought table n r → answer ≡ answer_of (found r)

-- What a place gives: the lowest law that fits its part, and what the pattern becomes.
abbrev pub choice : Place → Option (ℕ × Node)
choice p = map (λ t. (t.0, p.put t.1)) (lowest p.part)

-- The search of the whole is the search from here on: no law fits an earlier part; no lower law fits this one.
pub record Before (table : List ℕ) (n top : ℕ) : Type 0 where
  pub by : (r : Node) → Sought table n r → found r ≡ first_from choice (places none r) top

pub record Lower (table : List ℕ) (n top law : ℕ) : Type 0 where
  pub by : (r : Node) → Sought table n r → let x = (place_at r top).part in lowest x ≡ first_from (λ f. f x) laws law

-- What is asked of a part to be tried.
pub some_part : {table : List ℕ} {n : ℕ} (top : ℕ) → IsPlace top n → SomeSought table n → SomePart table top
some_part top h s = record {
  before = _;
  part = (place_at s.node top).part;
  ends = place_ends s.node s.sought.all s.sought.stands top h;
}

-- A law that fits, or not.
fits_some : (o : Option Node) → is_some o ≡ true → (y : Node) × (o ≡ some y)
fits_some none h = absurd (false≢true h)
fits_some (some y) h = (y, refl)

fits_none : (o : Option Node) → is_some o ≡ false → o ≡ none
fits_none none h = refl
fits_none (some y) h = absurd (false≢true (sym h))

-- What the loops keep, and what they end with.
module _ {table : List ℕ} {n : ℕ} where
  pub before_start : Before table n 1
  unfolding found
  before_start = record { by = λ r s. refl }

  pub lower_start : {top : ℕ} → Lower table n top 1
  unfolding lowest
  lower_start = record { by = λ r s. refl }

  pub found_none : {top : ℕ} → n + 1 ≡ top → Before table n top → Finds Nothing table n
  found_none {top} e b = record {
    by = λ r s.
        sym (ap answer_of (b.by r s ∙ from_end choice (itself empty) (places none r) top
        (omega (arith, place_count r s.all s.stands))));
  }

  module _ {top : ℕ} (within : IsPlace top n) where
    placed : (r : Node) → Sought table n r → top ≤ length (places none r)
    placed r s = omega (arith, place_count r s.all s.stands)

    pub before_more : {law : ℕ} → law ≡ law_count + 1 → Lower table n top law → Before table n top → Before table n (top + 1)
    unfolding law_count
    before_more {law} e l b = record {
      by = λ r s.
          let p : Place = place_at r top in
          let all : lowest p.part ≡ none = l.by r s ∙ from_end (λ f. f p.part) nothing laws law e in
          b.by r s ∙ from_next choice (itself empty) (places none r) top within.0 (placed r s)
          (ap (map (λ t. (t.0, p.put t.1))) all);
    }

    module _ {law : ℕ} {b : Bool} (numbered : IsLaw law) (tells : Tells b table top (fits (law_of law)))
        (lower : Lower table n top law) where
      told : (r : Node) → Sought table n r → b ≡ fits (law_of law) (place_at r top).part
      told r s = tells.by _ (place_at r top).part (place_ends r s.all s.stands top within)

      pub lower_more : b ≡ false → Lower table n top (law + 1)
      unfolding law_count law_of
      lower_more e = record {
        by = λ r s.
            let x : Node = (place_at r top).part in
            lower.by r s ∙ from_next (λ f. f x) nothing laws law numbered.0 numbered.1
            (fits_none (law_of law x) (sym (told r s) ∙ e));
      }

      pub found_here : b ≡ true → Before table n top → Finds (At top law) table n
      unfolding law_count law_of
      found_here e before = record {
        by = λ r s.
            let p : Place = place_at r top in
            let (y, f) = fits_some (law_of law p.part) (sym (told r s) ∙ e) in
            let first : lowest p.part ≡ some (law, y)
            = lower.by r s ∙ from_here (λ f. f p.part) nothing laws law numbered.0 numbered.1 y f in
            sym (ap answer_of (before.by r s ∙ from_here choice (itself empty) (places none r) top within.0 (placed r s)
            (law, p.put y) (ap (map (λ t. (t.0, p.put t.1))) first)));
      }

    -- At the laws of the array, of which each has the number of its place.
    module _ {i : ℕ} (d : Law) {b : Bool} (h : i < length ALL)
        (tells : Tells b table top (fits (law_of (number_of (get_or ALL i d))))) (lower : Lower table n top (i + 1)) where
      is_law : IsLaw (number_of (get_or ALL i d))
      unfolding law_count laws
      is_law = (omega (arith, in_order d i h), omega (arith, in_order d i h))

      lower_law : Lower table n top (number_of (get_or ALL i d))
      lower_law = subst (λ (k : ℕ). Lower table n top k) (sym (in_order d i h)) lower

      pub lower_next : b ≡ false → Lower table n top (i + 1 + 1)
      lower_next e = subst (λ (k : ℕ). Lower table n top (k + 1)) (in_order d i h) (lower_more is_law tells lower_law e)

      pub found_law : b ≡ true → Before table n top → Finds (At top (number_of (get_or ALL i d))) table n
      found_law = found_here is_law tells lower_law
