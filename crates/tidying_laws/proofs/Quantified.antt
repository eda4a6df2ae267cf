-- The laws of a quantifier over a pattern with no group: T2, T3, T4, T5, T9, T10.
use Rattle.std.specs.Prelude.{◌≡◌, refl, Bool, true, false}
use Rattle.std.proofs.Math.Path.{sym, ap}
use Rattle.std.proofs.Common.{◌∙◌, arith}
use Rattle.std.proofs.Math.Bool.{cond}
use Rattle.std.proofs.lemmas.Bool.{false≢true}
use Rattle.std.proofs.Math.Option.{Option, none, some}
use mathlib.Core.List.{List, [], ◌∷◌}
use Prim.Native.Nat.{ℕ, zero, suc, ◌+◌, ◌-◌, ◌≤◌, ◌<◌}
use Rattle.meaning.specs.Tests.{ahead, here, lt_of, cond_cong}
use Rattle.meaning.specs.Text.{Input, State, size, holds_at}
use Rattle.meaning.specs.Node.{Node, Node.empty, Node.assert, Node.many, lo, hi}
use Rattle.meaning.specs.Results.{or_else, or_else_none, first_some, only, choose, later, fresh, forced, turns, limit}
use Rattle.meaning.specs.Results.{results, first_concat_map, first_cond, first_stop, first_turns}
use Rattle.meaning.specs.Reach.{Reach, Reaches, reach, body_reach, turns_reach, first_cong, enough}
use Rattle.tidying_laws.specs.Groups.{groups, group_free, free_groups, free_positive, free_fresh}
use Rattle.tidying_laws.specs.Alike.{Alike, alike, agree_turns}
use Rattle.tidying_laws.specs.Choices.{twice, back, again, first_only}
use Rattle.tidying_laws.specs.Quantified.{absorbed}

absorb : {A : Type 0} (inner outer : Bool) → absorbed inner outer ≡ true → (o p : Option A)
    → choose or_else inner o (choose or_else outer o p) ≡ choose or_else outer o p
absorb false false h o p = twice o p
absorb false true h o p = absurd (false≢true h)
absorb true false h o p = back o p
absorb true true h o p = again o p

choose_none : {A : Type 0} (lazy : Bool) (o : Option A) → choose or_else lazy o none ≡ o
choose_none false o = or_else_none o
choose_none true o = refl

-- Nothing lies after itself.
not_later : {A : Type 0} (x : State) (o p : A) → cond (later x x) o p ≡ p
not_later x o p = rw (here false x.pos x.pos (omega arith))

cond_twice : {A : Type 0} (b : Bool) (o p : A) → cond b (cond b o p) p ≡ cond b o p
cond_twice true o p = refl
cond_twice false o p = refl

module _ (w : Input) (f : State → List State) (hf : Reaches w f) where
  -- All the turns that the text has room for.
  abbrev star : Bool → State → List State
  star lazy x = turns lazy f (size w - x.pos) x

  room : (lazy : Bool) (n : ℕ) (x : State) → x.pos ≤ size w → size w ≤ x.pos + n → star lazy x ≡ turns lazy f n x
  room lazy n x hx hn = enough w lazy f hf (size w - x.pos) n x hx (omega arith) hn

  module _ (B : Type 0) (c : State → Option B) (inner outer : Bool) (ok : absorbed inner outer ≡ true) where
    -- A loop after a loop is one loop.
    after : (n : ℕ) (x : State) → x.pos ≤ size w → size w ≤ x.pos + n
        → first_some (λ z. first_some c (star outer z)) (turns inner f n x) ≡ first_some c (turns outer f n x)
    after zero x hx hn = rw (first_stop (λ z. first_some c (star outer z)) inner f x, room outer 0 x hx hn)
    after (suc n) x hx hn =
        let d : State → Option B = λ z. first_some c (star outer z) in
        let m : Option B = first_some (λ y. cond (later x y) (first_some c (turns outer f n y)) none) (f x) in
        let e : first_some (λ y. cond (later x y) (first_some d (turns inner f n y)) none) (f x) ≡ m
        = first_cong (Reach w x) _ _ (f x) (hf x hx) (λ y l. cond_cong (later x y) none (λ t.
        let lt : x.pos < y.pos = lt_of x.pos y.pos t in after n y l.stop (omega arith))) in
        rw (first_turns d inner f n x, e, room outer (suc n) x hx hn, first_turns c outer f n x) (absorb inner outer ok m (c x))

    -- A loop of loops is one loop.
    nested : (n : ℕ) (x : State) → x.pos ≤ size w → size w ≤ x.pos + n
        → first_some c (turns outer (star inner) n x) ≡ first_some c (turns outer f n x)
    nested zero x hx hn = first_stop c outer (star inner) x ∙ sym (first_stop c outer f x)
    nested (suc n) x hx hn =
        let d : State → Option B = λ z. first_some c (star outer z) in
        let p : State → Option B = λ z. cond (later x z) (d z) none in
        let e₁ : first_some (λ z. cond (later x z) (first_some c (turns outer (star inner) n z)) none) (star inner x)
        ≡ first_some p (star inner x)
        = first_cong (Reach w x) _ _ (star inner x) (turns_reach w inner f hf (size w - x.pos) x hx)
        (λ z l. cond_cong (later x z) none (λ t.
        let lt : x.pos < z.pos = lt_of x.pos z.pos t in
        nested n z l.stop (omega arith) ∙ rw (room outer n z l.stop (omega arith)))) in
        let e₂ : first_some (λ y. cond (later x y) (first_some p (turns inner f n y)) none) (f x)
        ≡ first_some (λ y. cond (later x y) (first_some c (turns outer f n y)) none) (f x)
        = first_cong (Reach w x) _ _ (f x) (hf x hx) (λ y l. cond_cong (later x y) none (λ t.
        let lt : x.pos < y.pos = lt_of x.pos y.pos t in
        first_cong (Reach w y) p d (turns inner f n y) (turns_reach w inner f hf n y l.stop)
        (λ z g. rw (ahead false x.pos z.pos (omega (arith, g.start)))) ∙ after n y l.stop (omega arith))) in
        rw (
          first_turns c outer (star inner) n x,
          first_turns c outer f n x,
          e₁,
          room inner (suc n) x hx hn,
          first_turns p inner f n x,
          e₂,
          not_later x (d x) none,
          choose_none,
        )

-- A pattern that stays where it is, if a test passes.
abbrev Stays : Node → Type 0
Stays r = (w : Input) → (t : State → Bool) × ((x : State) → results w r x ≡ only (t x) x)

module _ {B : Type 0} (c : State → Option B) (f : State → List State) (t : State → Bool)
    (e : (x : State) → f x ≡ only (t x) x) where
  idle : (b : Bool) (x : State) (d : State → Option B) → first_some (λ y. cond (later x y) (d y) none) (only b x) ≡ none
  idle true x d = rw (not_later x (d x) none)
  idle false x d = refl

  -- It makes no turn that counts,
  still : (lazy : Bool) (n : ℕ) (x : State) → first_some c (turns lazy f n x) ≡ c x
  still lazy zero x = first_stop c lazy f x
  still lazy (suc n) x =
      rw (first_turns c lazy f n x, e x, idle (t x) x (λ y. first_some c (turns lazy f n y))) (alone lazy (c x))
    where
      alone : (lazy : Bool) (o : Option B) → choose or_else lazy none o ≡ o
      alone false o = refl
      alone true o = or_else_none o

  -- and turns that must be made are as one.
  still_forced : (g : State → List State) → ((x : State) → first_some c (g x) ≡ c x)
      → (n : ℕ) (x : State) → first_some c (forced f (suc n) g x) ≡ cond (t x) (c x) none
  unfolding forced
  still_forced g h zero x = rw (e x, first_only c g (t x) x, h x)
  still_forced g h (suc n) x =
      rw (e x, first_only c (forced f (suc n) g) (t x) x, still_forced g h n x) (cond_twice (t x) (c x) none)

module _ (e : Option ℕ) (lazy : Bool) (r : Node) (h : group_free r ≡ true) (s : Stays r) where
  body : (w : Input) (x : State) → results w r (fresh r x) ≡ only ((s w).0 x) x
  body w x = rw (free_fresh r h x) ((s w).1 x)

  stays_none : Alike (many 0 e lazy r) empty
  unfolding groups results forced
  stays_none = alike (free_positive r h) (free_groups r h) (record {
    order = λ w fair B c x hx.
        still c (λ y. results w r (fresh r y)) (s w).0 (body w) lazy (limit w e x.pos) x ∙ sym (or_else_none (c x));
  })

  stays_some : (n : ℕ) → Alike (many (suc n) e lazy r) r
  unfolding groups results lo
  stays_some n = record {
    numbers = refl;
    low = refl;
    like = record {
      order = λ w fair B c x hx.
          let f : State → List State = λ y. results w r (fresh r y) in
          still_forced c f (s w).0 (body w) (λ y. turns lazy f (limit w e y.pos) y)
          (λ y. still c f (s w).0 (body w) lazy (limit w e y.pos) y) n x
          ∙ rw ((s w).1 x) (sym (first_cond c ((s w).0 x) (x ∷ []) ∙ ap (λ o. cond ((s w).0 x) o none) (or_else_none (c x))));
    };
  }

-- T2: r{1} is r, and r{0} is empty.
pub T2-one : (lazy : Bool) (r : Node) → group_free r ≡ true → Alike (many 1 (some 0) lazy r) r
unfolding groups results forced turns lo
T2-one lazy r h = record {
  numbers = refl;
  low = refl;
  like = record {
    order = λ w fair B c x hx.
        rw (first_concat_map, free_fresh r h x)
        (first_cong (Reach w x) _ c (results w r x) (reach w r x hx) (λ y l. or_else_none (c y)));
  };
}

pub T2-none : (lazy : Bool) (r : Node) → group_free r ≡ true → Alike (many 0 (some 0) lazy r) empty
unfolding groups results forced turns
T2-none lazy r h = alike (free_positive r h) (free_groups r h) (record { order = λ w fair B c x hx. refl })

-- T3: a quantified empty is empty.
pub T3 : (n : ℕ) (e : Option ℕ) (lazy : Bool) → Alike (many n e lazy empty) empty
unfolding group_free groups results
T3 zero e lazy = stays_none e lazy empty refl (λ w. (λ x. true, λ x. refl))
T3 (suc n) e lazy = stays_some e lazy empty refl (λ w. (λ x. true, λ x. refl)) n

-- T4: an assertion with a minimum of 0 is empty, and with one above that it is itself.
pub T4-none : (e : Option ℕ) (lazy : Bool) (a : ℕ) → Alike (many 0 e lazy (assert a)) empty
unfolding group_free groups results
T4-none e lazy a = stays_none e lazy (assert a) refl (λ w. (λ x. holds_at w a x.pos, λ x. refl))

pub T4-some : (n : ℕ) (e : Option ℕ) (lazy : Bool) (a : ℕ) → Alike (many (suc n) e lazy (assert a)) (assert a)
unfolding group_free groups results
T4-some n e lazy a = stays_some e lazy (assert a) refl (λ w. (λ x. holds_at w a x.pos, λ x. refl)) n

-- T5: a loop of loops is one loop, as lazy as the outer one, unless the inner one is greedy and the outer one lazy.
pub T5 : (inner outer : Bool) → absorbed inner outer ≡ true → (r : Node) → group_free r ≡ true
    → Alike (many 0 none outer (many 0 none inner r)) (many 0 none outer r)
unfolding groups results forced lo hi
T5 inner outer ok r h = record {
  numbers = refl;
  low = refl;
  like = record {
    order = λ w fair B c x hx.
        let f : State → List State = λ y. results w r (fresh r y) in
        let hf : Reaches w f = body_reach w r (reach w r) in
        agree_turns w (λ y. turns inner f (size w - y.pos) (fresh r y)) (star w f hf inner)
        (λ y hy. turns_reach w inner f hf (size w - y.pos) y hy) (λ B c y hy. rw (free_fresh r h y))
        outer (size w - x.pos) B c x hx
        ∙ nested w f hf B c inner outer ok (size w - x.pos) x hx (omega arith);
  };
}

-- T10: a greedy loop of greedy loops that turns at least once is one loop: a loop, and after it a loop of loops.
pub T10 : (r : Node) → group_free r ≡ true → Alike (many 1 none false (many 0 none false r)) (many 0 none false r)
unfolding groups results forced lo hi
T10 r h = record {
  numbers = refl;
  low = refl;
  like = record {
    order = λ w fair B c x hx.
        let f : State → List State = λ y. results w r (fresh r y) in
        let hf : Reaches w f = body_reach w r (reach w r) in
        let s : State → List State = star w f hf false in
        let hs : Reaches w s = λ y hy. turns_reach w false f hf (size w - y.pos) y hy in
        rw (first_concat_map, free_fresh r h x) (
        first_cong (Reach w x) _ (λ y. first_some c (star w f hf false y)) (s x) (hs x hx)
        (λ y l. agree_turns w (λ y. turns false f (size w - y.pos) (fresh r y)) s hs
        (λ B c z hz. rw (free_fresh r h z)) false (size w - y.pos) B c y l.stop
        ∙ nested w f hf B c false false refl (size w - y.pos) y l.stop (omega arith))
        ∙ after w f hf B c false false refl (size w - x.pos) x hx (omega arith));
  };
}

-- T9: an option of an option of the same laziness is that option.
pub T9 : (lazy : Bool) (r : Node) → group_free r ≡ true
    → Alike (many 0 (some 1) lazy (many 0 (some 1) lazy r)) (many 0 (some 1) lazy r)
unfolding groups results forced lo hi
T9 lazy r h = record {
  numbers = refl;
  low = refl;
  like = record {
    order = λ w fair B c x hx.
        let f : State → List State = λ y. results w r (fresh r y) in
        let hf : Reaches w f = body_reach w r (reach w r) in
        agree_turns w (λ y. turns lazy f 1 (fresh r y)) (turns lazy f 1) (turns_reach w lazy f hf 1)
        (λ B c y hy. rw (free_fresh r h y)) lazy 1 B c x hx ∙ optional c f x;
  };
}
  where
    optional : {B : Type 0} (c : State → Option B) (f : State → List State) (x : State)
        → first_some c (turns lazy (turns lazy f 1) 1 x) ≡ first_some c (turns lazy f 1 x)
    optional {B} c f x =
        let more : State → Option B = λ y. cond (later x y) (first_some c (turns lazy (turns lazy f 1) 0 y)) none in
        rw (first_turns c lazy (turns lazy f 1) 0 x, first_turns more lazy f 0 x, first_turns c lazy f 0 x)
        (simp (first_stop, cond_twice, not_later, choose_none))
