-- A list that is filled from the front: what a load or a store leaves, and how it goes on.
use Rattle.std.specs.Prelude.{◌≡◌, refl, List, [], ◌∷◌, ◌++◌, ℕ, suc, ◌+◌, ◌≤◌, ◌<◌, length, get_or, take, drop, set}
use Rattle.std.proofs.Common.{sym, ap, ap₂, ◌∙◌, append-nil, append_assoc, add-one, arith, length-append, length-drop, drop-cons}
use Rattle.std.proofs.Math.Seq.{drop-length, append_snoc, take-append_seam, drop-append_seam}
use Rattle.std.proofs.lemmas.List.{set_at, drop-drop}

-- A list's first n elements are replaced, and the later ones are as they were.
pub record Front {A : Type 0} (before after front : List A) (n : ℕ) : Type 0 where
  pub all : after ≡ front ++ drop n before
  pub long : length front ≡ n
  pub inside : n ≤ length before

module _ {A : Type 0} where
  -- None is replaced.
  pub front_none : (d : List A) → Front d d [] 0
  front_none d = record { all = refl; long = refl; inside = omega arith }

  -- The front said another way.
  pub front_as : {d l x y : List A} {m n : ℕ} → Front d l x m → x ≡ y → m ≡ n → Front d l y n
  front_as f e p = rw (← e, ← p) f

  -- One element more.
  pub front_more : {d l x : List A} {n : ℕ} → Front d l x n → (v : A) → n < length d → Front d (set l n v) (x ++ v ∷ []) (n + 1)
  front_more {d} {l} {x} {n} f v h = record {
    all = ap (λ t. set t n v) (f.all ∙ ap (λ t. x ++ t) (drop-cons d n v h))
        ∙ set_at x (get_or d n v) (drop (suc n) d) v n f.long
        ∙ sym (append_snoc x v (drop (suc n) d)) ∙ ap (λ k. x ++ v ∷ [] ++ drop k d) (sym (add-one n));
    long = length-append x (v ∷ []) ∙ ap (λ k. k + 1) f.long;
    inside = omega arith;
  }

  -- The length is kept.
  pub front_length : {d l x : List A} {n : ℕ} → Front d l x n → length l ≡ length d
  front_length {d} {l} {x} {n} f =
      ap length f.all ∙ length-append x (drop n d) ∙ omega (arith, f.long, f.inside, length-drop n d)

  -- One more of a growing front.
  pub front_next : {d l : List A} {n : ℕ} (front : ℕ → List A) (v : A) → Front d l (front n) n → n < length l
      → front n ++ v ∷ [] ≡ front (n + 1) → Front d (set l n v) (front (n + 1)) (n + 1)
  front_next front v f h e = front_as (front_more f v (omega (arith, front_length f))) e refl

  -- What stands right behind the front is written over.
  pub front_part : {d l x y : List A} {n m k : ℕ} (vs : List A) → Front d l x n → k ≡ length vs → n + k ≡ m → m ≤ length d
      → x ++ vs ≡ y → Front d (take n l ++ (vs ++ drop k (drop n l))) y m
  front_part {d} {l} {x} {y} {n} {m} {k} vs f e p h s =
      let split = f.all ∙ ap (λ t. x ++ drop t d) (sym f.long) in
      let before : take n l ≡ x
      = ap (λ t. take t l) (sym f.long) ∙ ap (take (length x)) split ∙ take-append_seam x (drop (length x) d) in
      let behind : drop n l ≡ drop n d
      = ap (λ t. drop t l) (sym f.long) ∙ ap (drop (length x)) split ∙ drop-append_seam x (drop (length x) d)
      ∙ ap (λ t. drop t d) f.long in
      record {
        all = ap₂ (λ t r. t ++ (vs ++ drop k r)) before behind ∙ sym (append_assoc x vs (drop k (drop n d)))
            ∙ ap₂ ◌++◌ s (drop-drop k n d ∙ ap (λ t. drop t d) p);
        long = ap length (sym s) ∙ length-append x vs ∙ omega (arith, f.long);
        inside = h;
      }

  -- All are replaced.
  pub front_whole : {d l : List A} {n : ℕ} (front : ℕ → List A) → Front d l (front n) n → length l ≤ n → l ≡ front (length d)
  front_whole {d} {l} {n} front f h =
      let e : n ≡ length d = omega (arith, front_length f, f.inside) in
      f.all ∙ ap (λ k. front k ++ drop k d) e ∙ rw (drop-length d) (append-nil (front (length d)))

  -- Those behind the front are as they were.
  pub front_written : {d l x y : List A} {n : ℕ} → Front d l x n → x ≡ y → l ≡ y ++ drop (length y) d
  front_written {d} {l} {x} {y} {n} f e = rw (← e) (f.all ∙ ap (λ k. x ++ drop k d) (sym f.long))
