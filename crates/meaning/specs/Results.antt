-- The ways in which a pattern matches, in the order of preference.
use Rattle.std.specs.Prelude.{◌≡◌, refl, Bool, true, false, cond, List, [], ◌∷◌, ◌++◌, ℕ, zero, suc, ◌-◌, ltb}
use Rattle.std.proofs.Math.Option.{Option, none, some}
use Rattle.meaning.specs.Text.{Input, State, size, fits, holds_at, opened, closed, cleared}
use Rattle.meaning.specs.Node.{Node, Node.empty, Node.bset, Node.assert, Node.group, Node.seq, Node.alt, Node.many, lo, hi}

-- The first success, else the second.
abbrev pub or_else : {A : Type 0} → Option A → Option A → Option A
or_else none o = o
or_else (some a) o = some a

-- The first success of a continuation over a list.
abbrev pub first_some : {A B : Type 0} → (A → Option B) → List A → Option B
first_some c [] = none
first_some c (x ∷ l) = or_else (c x) (first_some c l)

-- What f gives for each element, joined.
abbrev pub concat_map : {A B : Type 0} → (A → List B) → List A → List B
concat_map f [] = []
concat_map f (x ∷ l) = f x ++ concat_map f l

-- One element if a test passes, else none.
abbrev pub only : {A : Type 0} → Bool → A → List A
only b x = cond b (x ∷ []) []

-- Two lists, or two answers, in the order that greed or laziness asks for.
abbrev pub choose : {A : Type 0} → (A → A → A) → Bool → A → A → A
choose join false more stop = join more stop
choose join true more stop = join stop more

-- Whether the second state lies further on in the text.
abbrev pub later : State → State → Bool
later x y = ltb x.pos y.pos

-- The states at which the parts of a pattern begin and end.
abbrev pub moved : State → State
moved x = record { pos = suc x.pos; regs = x.regs }

abbrev pub enter : ℕ → State → State
enter k x = record { pos = x.pos; regs = opened k x.pos x.regs }

abbrev pub leave : ℕ → State → State
leave k x = record { pos = x.pos; regs = closed k x.pos x.regs }

-- The start of group k is written, apart from the position.
abbrev pub put : ℕ → ℕ → State → State
put k i x = record { pos = x.pos; regs = opened k i x.regs }

-- The groups inside a part are made -1, as each turn begins.
abbrev pub fresh : Node → State → State
fresh r x = record { pos = x.pos; regs = cleared (lo r) (hi r) x.regs }

-- n turns of f, and then g.
unfoldable pub forced : (State → List State) → ℕ → (State → List State) → State → List State
forced f zero g x = g x
forced f (suc n) g x = concat_map (forced f n g) (f x)

-- At most n turns of f, each of which goes on in the text.
unfoldable pub turns : Bool → (State → List State) → ℕ → State → List State
turns lazy f zero x = x ∷ []
turns lazy f (suc n) x = choose ◌++◌ lazy (concat_map (λ y. cond (later x y) (turns lazy f n y) []) (f x)) (x ∷ [])

-- How many turns there can be: no more than bytes are left.
abbrev pub limit : Input → Option ℕ → ℕ → ℕ
limit w (some e) i = e
limit w none i = size w - i

-- The states that a pattern can lead to, the preferred first.
unfoldable pub results : Input → Node → State → List State
results w empty x = x ∷ []
results w (bset s) x = only (fits w s x.pos) (moved x)
results w (assert a) x = only (holds_at w a x.pos) x
results w (group k r) x = concat_map (λ y. leave k y ∷ []) (results w r (enter k x))
results w (seq r q) x = concat_map (results w q) (results w r x)
results w (alt r q) x = results w r x ++ results w q x
results w (many n e lazy r) x =
    let f : State → List State = λ y. results w r (fresh r y) in
    forced f n (λ y. turns lazy f (limit w e y.pos) y) x

-- How the first success goes through the ways of making a list.
pub or_else_none : {A : Type 0} (o : Option A) → or_else o none ≡ o
or_else_none none = refl
or_else_none (some a) = refl

pub or_else_assoc : {A : Type 0} (o p q : Option A) → or_else (or_else o p) q ≡ or_else o (or_else p q)
or_else_assoc none p q = refl
or_else_assoc (some a) p q = refl

module _ {A B : Type 0} (c : A → Option B) where
  pub first_append : (l m : List A) → first_some c (l ++ m) ≡ or_else (first_some c l) (first_some c m)
  first_append [] m = refl
  first_append (x ∷ l) m = rw (first_append l m, or_else_assoc)

  pub first_concat_map : {Z : Type 0} (f : Z → List A) (l : List Z)
      → first_some c (concat_map f l) ≡ first_some (λ z. first_some c (f z)) l
  first_concat_map f [] = refl
  first_concat_map f (z ∷ l) = rw (first_append, first_concat_map f l)

  pub first_cond : (b : Bool) (l : List A) → first_some c (cond b l []) ≡ cond b (first_some c l) none
  first_cond true l = refl
  first_cond false l = refl

-- The first success over no more turns, and over at most one more.
pub first_stop : {B : Type 0} (c : State → Option B) (lazy : Bool) (f : State → List State) (x : State)
    → first_some c (turns lazy f 0 x) ≡ c x
unfolding turns
first_stop c lazy f x = or_else_none (c x)

pub first_turns : {B : Type 0} (c : State → Option B) (lazy : Bool) (f : State → List State) (n : ℕ) (x : State)
    → first_some c (turns lazy f (suc n) x) ≡ choose or_else lazy
    (first_some (λ y. cond (later x y) (first_some c (turns lazy f n y)) none) (f x)) (c x)
unfolding turns
first_turns c false f n x = simp (first_append, first_concat_map, first_cond, or_else_none)
first_turns c true f n x = simp (first_concat_map, first_cond)
