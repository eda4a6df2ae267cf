-- A front that grows by several elements, and by four stores.
use Rattle.std.specs.Prelude.{◌≡◌, refl, List, [], ◌∷◌, ◌++◌, ℕ, suc, ◌+◌, ◌*◌, ◌≤◌, length, set}
use Rattle.std.proofs.Common.{sym, append-nil, append_assoc, add-one, arith}
use Rattle.std.proofs.lemmas.List.Edits.{sets}
use Rattle.wire.specs.Front.{Front, front_as, front_more}

module _ {A : Type 0} where
  -- A run of elements more.
  pub front_run : {d l x : List A} {n : ℕ} (vs : List A) → Front d l x n → n + length vs ≤ length d
      → Front d (sets l n vs) (x ++ vs) (n + length vs)
  front_run {x = x} [] f h = front_as f (sym (append-nil x)) (omega arith)
  front_run {d = d} {l = l} {x = x} {n = n} (v ∷ vs) f h =
      front_as (front_run {l = set l n v} vs (front_as (front_more f v (omega arith)) refl (add-one n)) (omega arith))
      (append_assoc x (v ∷ []) vs) (omega arith)

  -- Four more of a growing front.
  pub front_four : {d l l' : List A} {n : ℕ} (front : ℕ → List A) (vs : List A) → Front d l (front n) (4 * n) → length vs ≡ 4
      → 4 * (n + 1) ≤ length d → l' ≡ sets l (4 * n) vs → front n ++ vs ≡ front (n + 1)
      → Front d l' (front (n + 1)) (4 * (n + 1))
  front_four front vs f k h s e = rw s (front_as (front_run vs f (omega arith)) e (omega arith))

  -- Four stores one behind the other.
  pub stored_four : (l : List A) (at : ℕ) (a b c d : A)
      → set (set (set (set l at a) (at + 1) b) (at + 2) c) (at + 3) d ≡ sets l at (a ∷ b ∷ c ∷ d ∷ [])
  stored_four l at a b c d =
      let one : at + 1 ≡ suc at = omega arith in
      let two : at + 2 ≡ suc (suc at) = omega arith in
      let three : at + 3 ≡ suc (suc (suc at)) = omega arith in
      rw (one, two, three)
