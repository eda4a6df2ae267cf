-- What a `(` opens.
use Rattle.std.specs.Prelude.{◌≡◌, ◌⊎◌, true, false, List, ℕ, ◌+◌, eqb}
use Rattle.std.proofs.Math.Path.{refl}
use Rattle.std.proofs.Math.Logic.{inl, inr}
use borrow.Author.Tests.{eqb-true, eqb-false}
use Rattle.meaning.specs.Tests.{by_test}
use Rattle.meaning.specs.Refusals as No
use Rattle.reading_atoms.specs.Chars.{byte_at, question, colon}
use Rattle.reading_items.specs.Reading.{Opening, Opening.capturing, Opening.plain, Opening.neither, is_look, opening_at}
use Rattle.reading_grammar.specs.Atoms.{Is}

module _ (s : List ℕ) where
  -- What an opening says of the bytes.
  abbrev pub OpeningMeans : ℕ → Opening → Type 0
  OpeningMeans a capturing = Is s (a + 1) question → ⊥
  OpeningMeans a plain = Is s (a + 1) question × Is s (a + 2) colon
  OpeningMeans a (neither number place) =
      Is s (a + 1) question × (((number ≡ No.left_out) × (place ≡ a) × (is_look (byte_at s (a + 2)) ≡ true))
      ⊎ ((number ≡ No.no_atom) × (place ≡ a + 1) × (Is s (a + 2) colon → ⊥) × (is_look (byte_at s (a + 2)) ≡ false)))

  pub opening_sound : (a : ℕ) → OpeningMeans a (opening_at s a)
  unfolding opening_at
  opening_sound a =
      by_test (OpeningMeans a) (eqb (byte_at s (a + 1)) question)
      (λ e. let q : Is s (a + 1) question = eqb-true (byte_at s (a + 1)) question e in
      by_test (OpeningMeans a) (eqb (byte_at s (a + 2)) colon)
      (λ f. (q, eqb-true (byte_at s (a + 2)) colon f))
      (λ f. by_test (OpeningMeans a) (is_look (byte_at s (a + 2)))
      (λ x. (q, inl (refl, refl, x)))
      (λ x. (q, inr (refl, refl, (λ c. eqb-false (byte_at s (a + 2)) colon f c), x)))))
      (λ e x. eqb-false (byte_at s (a + 1)) question e x)
