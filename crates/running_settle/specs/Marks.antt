-- The marks of a position: the keys that they stand for, and how many are left.
use Rattle.std.specs.Prelude.{◌≡◌, refl, Bool, true, false, ◌||◌, ◌&&◌, List, [], ◌∷◌, ℕ, zero, suc, ◌<◌, eqb, length, get_or, set}
use Rattle.std.proofs.Common.{sym, ap, ◌∙◌, subst, ⊎_elim, le_of_suc-le-suc, not-suc-le-zero, eq-or-lt_of_le, arith, eq-eqb, ne_eqb, eqb-true, get_or-set_same, get_or-set_other}
use Rattle.std.specs.Bool.{beq}
use Rattle.std.proofs.lemmas.Bool.{eqb-false}
use Rattle.machine.specs.Rows.{Key}
use Rattle.machine.specs.Steps.{among, same_key}
use Rattle.running_moves.specs.Keys.{key_of, row_of, flag_of}
use Rattle.running_threads.specs.Words.{unless, fresh}
use Rattle.running_threads.specs.Threads.{Seen}

-- ---- words that are no mark

unless_suc : (b : Bool) (n : ℕ) → suc (unless b n) ≡ unless b (suc n)
unless_suc true n = refl
unless_suc false n = refl

pub fresh_same : (s t : List ℕ) (mark n : ℕ) → ((i : ℕ) → i < n → get_or t i 0 ≡ get_or s i 0) → fresh t mark n ≡ fresh s mark n
unfolding fresh
fresh_same s t mark zero a = refl
fresh_same s t mark (suc n) a = rw (a n (omega arith), fresh_same s t mark n (λ i lt. a i (omega arith)))

pub fresh_all : (s : List ℕ) (mark n : ℕ) → ((i : ℕ) → i < n → get_or s i 0 ≡ mark → ⊥) → fresh s mark n ≡ n
unfolding fresh
fresh_all s mark zero a = refl
fresh_all s mark (suc n) a =
    rw (ne_eqb (get_or s n 0) mark (a n (omega arith)), fresh_all s mark n (λ i lt. a i (omega arith)))

-- one mark more leaves one word less
pub fresh_mark : (s : List ℕ) (mark n i : ℕ) → i < n → i < length s → (get_or s i 0 ≡ mark → ⊥)
    → suc (fresh (set s i mark) mark n) ≡ fresh s mark n
unfolding fresh
fresh_mark s mark zero i lt long ne = absurd (not-suc-le-zero lt)
fresh_mark s mark (suc n) i lt long ne =
    ⊎_elim
    (λ (e : i ≡ n).
    let a : eqb (get_or (set s i mark) n 0) mark ≡ true =
    eq-eqb _ _ (subst (λ (k : ℕ). get_or (set s i mark) k 0 ≡ mark) e (get_or-set_same s i mark 0 long)) in
    let b : eqb (get_or s n 0) mark ≡ false = ne_eqb _ _ (subst (λ (k : ℕ). get_or s k 0 ≡ mark → ⊥) e ne) in
    let f : fresh (set s i mark) mark n ≡ fresh s mark n =
    fresh_same s (set s i mark) mark n (λ k kl. get_or-set_other s i k mark 0 (λ z. omega arith)) in
    rw (a, b, f))
    (λ (h : i < n).
    let a : get_or (set s i mark) n 0 ≡ get_or s n 0 = get_or-set_other s i n mark 0 (λ e. omega arith) in
    rw a (unless_suc (eqb (get_or s n 0) mark) (fresh (set s i mark) mark n)
    ∙ ap (unless (eqb (get_or s n 0) mark)) (fresh_mark s mark n i h long ne)))
    (eq-or-lt_of_le (le_of_suc-le-suc lt))

-- ---- the keys that the marks say

same_key_lem : (k j : ℕ) → same_key (key_of k) (key_of j) ≡ eqb k j
same_key_lem k j = go (eqb (row_of k) (row_of j)) refl (eqb (flag_of k) 1) refl (eqb (flag_of j) 1) refl
  where
    go : (a : Bool) → eqb (row_of k) (row_of j) ≡ a → (f : Bool) → eqb (flag_of k) 1 ≡ f → (g : Bool) → eqb (flag_of j) 1 ≡ g
        → (a && beq f g) ≡ eqb k j
    go false e f ef g eg = sym (ne_eqb k j (λ z. eqb-false (row_of k) (row_of j) e (ap (λ (n : ℕ). row_of n) z)))
    go true e true ef true eg = sym (eq-eqb k j
        (omega (arith, eqb-true (row_of k) (row_of j) e, eqb-true (flag_of k) 1 ef, eqb-true (flag_of j) 1 eg)))
    go true e true ef false eg = sym (ne_eqb k j
        (λ z. eqb-false (flag_of j) 1 eg (ap (λ (n : ℕ). flag_of n) (sym z) ∙ eqb-true (flag_of k) 1 ef)))
    go true e false ef true eg = sym (ne_eqb k j
        (λ z. eqb-false (flag_of k) 1 ef (ap (λ (n : ℕ). flag_of n) z ∙ eqb-true (flag_of j) 1 eg)))
    go true e false ef false eg =
        let nk = eqb-false (flag_of k) 1 ef in
        let nj = eqb-false (flag_of j) 1 eg in
        sym (eq-eqb k j (omega (arith, eqb-true (row_of k) (row_of j) e)))

-- one mark more is one key more
module _ {s : List ℕ} {mark keys : ℕ} {ks : List Key} (key : ℕ) (long : key < length s) (a : Seen s mark keys ks) where
  mark_at_lem : (k : ℕ) → k < keys → (b : Bool) → eqb k key ≡ b
      → (eqb k key || among (key_of k) ks) ≡ eqb (get_or (set s key mark) k 0) mark
  mark_at_lem k kl true e =
      let g : get_or (set s key mark) k 0 ≡ mark =
      subst (λ (i : ℕ). get_or (set s key mark) i 0 ≡ mark) (sym (eqb-true k key e)) (get_or-set_same s key mark 0 long) in
      rw (e, eq-eqb _ _ g)
  mark_at_lem k kl false e =
      let g : get_or (set s key mark) k 0 ≡ get_or s k 0 = get_or-set_other s key k mark 0 (λ z. eqb-false k key e z) in
      rw (e, g) (a.tells k kl)

  pub seen_mark : Seen (set s key mark) mark keys (key_of key ∷ ks)
  seen_mark = record {
    tells = λ k kl. ap (λ (b : Bool). b || among (key_of k) ks) (same_key_lem k key)
        ∙ mark_at_lem k kl (eqb k key) refl;
  }

pub seen_same : {s t : List ℕ} {mark keys : ℕ} {ks : List Key} → Seen s mark keys ks
    → ((i : ℕ) → i < keys → get_or t i 0 ≡ get_or s i 0) → Seen t mark keys ks
seen_same {mark = mark} a same =
    record { tells = λ k kl. a.tells k kl ∙ ap (λ (v : ℕ). eqb v mark) (sym (same k kl)) }

-- at a new position none is executed
pub seen_none : {s : List ℕ} {mark keys : ℕ} → ((i : ℕ) → i < keys → get_or s i 0 ≡ mark → ⊥) → Seen s mark keys []
seen_none {s} {mark} h = record { tells = λ k kl. sym (ne_eqb (get_or s k 0) mark (h k kl)) }
