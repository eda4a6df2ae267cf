-- How far the results of a pattern lie, and that a loop needs no more turns than bytes are left.
use Rattle.std.specs.Prelude.{◌≡◌, Bool, true}
use Rattle.std.proofs.Math.Path.{refl, sym, ap}
use Rattle.std.proofs.Math.Bool.{false, cond}
use Rattle.std.proofs.Math.Option.{Option}
use mathlib.Core.List.{List, [], ◌∷◌, ◌++◌, append-nil}
use Prim.Native.Nat.{ℕ, zero, suc, ◌+◌, ◌≤◌, ◌<◌}
use Rattle.std.proofs.Common.{arith}
use Rattle.meaning.specs.All.{All, all_append}
use Rattle.meaning.specs.Tests.{lt_of, here, cond_cong, by_test}
use Rattle.meaning.specs.Text.{Input, State, size, fits, holds_at, fits_within}
use Rattle.meaning.specs.Node.{Node, Node.empty, Node.bset, Node.assert, Node.group, Node.seq, Node.alt, Node.many}
use Rattle.meaning.specs.Results.{first_some, concat_map, choose, later, moved, enter, leave, fresh, forced, turns, limit}
use Rattle.meaning.specs.Results.{results}

all_concat_map : {A B : Type 0} (P : A → Type 0) (Q : B → Type 0) (f : A → List B) (l : List A)
    → All P l → ((x : A) → P x → All Q (f x)) → All Q (concat_map f l)
all_concat_map P Q f [] h g = tt
all_concat_map P Q f (x ∷ l) h g = all_append Q (f x) (concat_map f l) (g x h.0) (all_concat_map P Q f l h.1 g)

all_cond : {A : Type 0} (P : A → Type 0) (b : Bool) (l : List A) → (b ≡ true → All P l) → All P (cond b l [])
all_cond P b l h = by_test (All P) b h (λ e. tt)

-- Two continuations, or two functions, that agree on a list.
pub first_cong : {A B : Type 0} (P : A → Type 0) (c d : A → Option B) (l : List A)
    → All P l → ((x : A) → P x → c x ≡ d x) → first_some c l ≡ first_some d l
first_cong P c d [] h e = refl
first_cong P c d (x ∷ l) h e = rw (e x h.0, first_cong P c d l h.1 e)

concat_map_cong : {A B : Type 0} (P : A → Type 0) (f g : A → List B) (l : List A)
    → All P l → ((x : A) → P x → f x ≡ g x) → concat_map f l ≡ concat_map g l
concat_map_cong P f g [] h e = refl
concat_map_cong P f g (x ∷ l) h e = rw (e x h.0, concat_map_cong P f g l h.1 e)

concat_map_nil : {A B : Type 0} (l : List A) → concat_map {A = A} {B = B} (λ x. []) l ≡ []
concat_map_nil [] = refl
concat_map_nil (x ∷ l) = concat_map_nil l

choose_nil : {A : Type 0} (lazy : Bool) (l : List A) → choose ◌++◌ lazy [] l ≡ l
choose_nil false l = refl
choose_nil true l = append-nil l

-- The second state lies at or after the first, in the text.
pub record Reach (w : Input) (x y : State) : Type 0 where
  pub start : x.pos ≤ y.pos
  pub stop : y.pos ≤ size w

module _ (w : Input) where
  -- All that f gives can be reached.
  abbrev pub Reaches : (State → List State) → Type 0
  Reaches f = (x : State) → x.pos ≤ size w → All (Reach w x) (f x)

  onward : (x y : State) → Reach w x y → (l : List State) → All (Reach w y) l → All (Reach w x) l
  onward x y h [] g = tt
  onward x y h (z ∷ l) g = (record { start = omega arith; stop = omega arith }, onward x y h l g.1)

  then : (f g : State → List State) → Reaches f → Reaches g → Reaches (λ x. concat_map g (f x))
  then f g hf hg x hx = all_concat_map (Reach w x) (Reach w x) g (f x) (hf x hx) (λ y h. onward x y h (g y) (hg y h.stop))

  forced_reach : (f g : State → List State) → Reaches f → Reaches g → (n : ℕ) → Reaches (forced f n g)
  unfolding forced
  forced_reach f g hf hg zero = hg
  forced_reach f g hf hg (suc n) = then f (forced f n g) hf (forced_reach f g hf hg n)

  choose_all : (P : State → Type 0) (lazy : Bool) (l m : List State) → All P l → All P m → All P (choose ◌++◌ lazy l m)
  choose_all P false l m h g = all_append P l m h g
  choose_all P true l m h g = all_append P m l g h

  pub turns_reach : (lazy : Bool) (f : State → List State) → Reaches f → (n : ℕ) → Reaches (turns lazy f n)
  unfolding turns
  turns_reach lazy f hf zero x hx = (record { start = omega arith; stop = hx }, tt)
  turns_reach lazy f hf (suc n) x hx =
      choose_all (Reach w x) lazy (concat_map (λ y. cond (later x y) (turns lazy f n y) []) (f x)) (x ∷ [])
      (all_concat_map (Reach w x) (Reach w x) (λ y. cond (later x y) (turns lazy f n y) []) (f x) (hf x hx)
      (λ y h. all_cond (Reach w x) (later x y) (turns lazy f n y)
      (λ t. onward x y h (turns lazy f n y) (turns_reach lazy f hf n y h.stop))))
      (record { start = omega arith; stop = hx }, tt)

  pub body_reach : (r : Node) → Reaches (results w r) → Reaches (λ y. results w r (fresh r y))
  body_reach r h x hx = onward x (fresh r x) (record { start = omega arith; stop = hx }) (results w r (fresh r x))
      (h (fresh r x) hx)

  pub reach : (r : Node) → Reaches (results w r)
  unfolding results
  reach empty x hx = (record { start = omega arith; stop = hx }, tt)
  reach (bset s) x hx = all_cond (Reach w x) (fits w s x.pos) (moved x ∷ [])
      (λ t. (record { start = omega arith; stop = fits_within w s x.pos t }, tt))
  reach (assert a) x hx = all_cond (Reach w x) (holds_at w a x.pos) (x ∷ [])
      (λ t. (record { start = omega arith; stop = hx }, tt))
  reach (group k r) x hx =
      let l : List State = results w r (enter k x) in
      let h : All (Reach w x) l = onward x (enter k x) (record { start = omega arith; stop = hx }) l (reach r (enter k x) hx) in
      all_concat_map (Reach w x) (Reach w x) (λ y. leave k y ∷ []) l h (λ y g. (record { start = g.start; stop = g.stop }, tt))
  reach (seq r s) x hx = then (results w r) (results w s) (reach r) (reach s) x hx
  reach (alt r s) x hx = all_append (Reach w x) (results w r x) (results w s x) (reach r x hx) (reach s x hx)
  reach (many n e lazy r) x hx =
      let f : State → List State = λ y. results w r (fresh r y) in
      let h : Reaches f = body_reach r (reach r) in
      forced_reach f (λ y. turns lazy f (limit w e y.pos) y) h (λ y hy. turns_reach lazy f h (limit w e y.pos) y hy) n x hx

  -- At the end of the text a loop has no turn.
  stops : (lazy : Bool) (f : State → List State) → Reaches f
      → (n : ℕ) (x : State) → x.pos ≤ size w → size w ≤ x.pos → turns lazy f n x ≡ x ∷ []
  unfolding turns
  stops lazy f hf zero x hx h = refl
  stops lazy f hf (suc n) x hx h =
      let e : concat_map (λ y. cond (later x y) (turns lazy f n y) []) (f x) ≡ concat_map (λ y. []) (f x)
      = concat_map_cong (Reach w x) (λ y. cond (later x y) (turns lazy f n y) []) (λ y. []) (f x) (hf x hx)
      (λ y g. rw (here false x.pos y.pos (omega arith))) in
      rw (e, concat_map_nil) (choose_nil lazy (x ∷ []))

  -- With as many turns as bytes are left, or more, a loop has the same results.
  pub enough : (lazy : Bool) (f : State → List State) → Reaches f
      → (n m : ℕ) (x : State) → x.pos ≤ size w → size w ≤ x.pos + n → size w ≤ x.pos + m → turns lazy f n x ≡ turns lazy f m x
  unfolding turns
  enough lazy f hf zero m x hx hn hm = sym (stops lazy f hf m x hx (omega arith))
  enough lazy f hf (suc n) zero x hx hn hm = stops lazy f hf (suc n) x hx (omega arith)
  enough lazy f hf (suc n) (suc m) x hx hn hm =
      ap (λ l. choose ◌++◌ lazy l (x ∷ []))
      (concat_map_cong (Reach w x) (λ y. cond (later x y) (turns lazy f n y) []) (λ y. cond (later x y) (turns lazy f m y) [])
      (f x) (hf x hx)
      (λ y g. cond_cong (later x y) [] (λ t.
      let lt : x.pos < y.pos = lt_of x.pos y.pos t in
      enough lazy f hf n m y g.stop (omega arith) (omega arith))))
