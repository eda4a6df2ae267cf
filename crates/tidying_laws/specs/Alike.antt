-- Alike patterns: the same groups, and the same first success over the order of results, whatever comes after.
use Rattle.std.specs.Prelude.{◌≡◌, refl, Bool, cond, List, [], ◌∷◌, ◌++◌}
use Rattle.std.proofs.Common.{sym, ap, ap₂, ◌∙◌}
use Rattle.std.proofs.Math.Option.{Option, none}
use Prim.Native.Nat.{ℕ, zero, suc, ◌≤◌}
use Rattle.meaning.specs.Text.{Input, State, size}
use Rattle.meaning.specs.Node.{Node, Node.group, Node.seq, Node.alt, Node.many, lo}
use Rattle.meaning.specs.Results.{or_else, first_some, concat_map, choose, later, enter, leave, fresh, forced, turns, limit}
use Rattle.meaning.specs.Results.{results, first_append, first_concat_map, first_stop, first_turns}
use Rattle.meaning.specs.Reach.{Reach, Reaches, reach, body_reach, first_cong}
use Rattle.tidying_laws.specs.Groups.{groups, same_high, same_low, Positive}
use Rattle.tidying_laws.specs.Void.{Fair}

module _ (w : Input) where
  -- Every continuation has the same first success over what f and g give, from every state in the text.
  abbrev pub Agree : (State → List State) → (State → List State) → Type 1
  Agree f g = (B : Type 0) (c : State → Option B) (x : State) → x.pos ≤ size w → first_some c (f x) ≡ first_some c (g x)

  module _ (f g : State → List State) (hg : Reaches w g) (h : Agree f g) where
    agree_then : (p q : State → List State) → Agree p q → Agree (λ x. concat_map p (f x)) (λ x. concat_map q (g x))
    agree_then p q e B c x hx =
        rw (first_concat_map c p (f x), first_concat_map c q (g x), h B (λ y. first_some c (p y)) x hx)
        (first_cong (Reach w x) _ _ (g x) (hg x hx) (λ y l. e B c y l.stop))

    pub agree_turns : (lazy : Bool) (n : ℕ) → Agree (turns lazy f n) (turns lazy g n)
    agree_turns lazy zero B c x hx = first_stop c lazy f x ∙ sym (first_stop c lazy g x)
    agree_turns lazy (suc n) B c x hx =
        let more : State → Option B = λ y. cond (later x y) (first_some c (turns lazy f n y)) none in
        rw (first_turns c lazy f n x, first_turns c lazy g n x, h B more x hx)
        (ap (λ o. choose or_else lazy o (c x)) (first_cong (Reach w x) _ _ (g x) (hg x hx)
        (λ y l. ap (λ o. cond (later x y) o none) (agree_turns lazy n B c y l.stop))))

    agree_forced : (p q : State → List State) → Agree p q → (n : ℕ) → Agree (forced f n p) (forced g n q)
    unfolding forced
    agree_forced p q e zero = e
    agree_forced p q e (suc n) = agree_then (forced f n p) (forced g n q) (agree_forced p q e n)

-- The same order: on every text, from every state in it, every continuation has the same first success over the results.
pub record SameOrder (r q : Node) : Type 1 where
  pub order : (w : Input) → Fair w → Agree w (results w r) (results w q)

pub order_refl : (r : Node) → SameOrder r r
order_refl r = record { order = λ w fair B c x hx. refl }

pub order_trans : {r q p : Node} → SameOrder r q → SameOrder q p → SameOrder r p
order_trans h g = record { order = λ w fair B c x hx. h.order w fair B c x hx ∙ g.order w fair B c x hx }

pub order_sym : {r q : Node} → SameOrder r q → SameOrder q r
order_sym h = record { order = λ w fair B c x hx. sym (h.order w fair B c x hx) }

-- Alike: the same groups, the same lowest of them (which a loop makes -1 from), and the same order.
pub record Alike (r q : Node) : Type 1 where
  pub numbers : groups r ≡ groups q
  pub low : lo r ≡ lo q
  pub like : SameOrder r q

-- Where no group is group 0 the same groups have the same lowest.
pub alike : {r q : Node} → Positive (groups r) → groups r ≡ groups q → SameOrder r q → Alike r q
alike {r} {q} p e h = record { numbers = e; low = same_low r q e p; like = h }

pub alike_refl : (r : Node) → Alike r r
alike_refl r = record { numbers = refl; low = refl; like = order_refl r }

pub alike_trans : {r q p : Node} → Alike r q → Alike q p → Alike r p
alike_trans h g = record {
  numbers = h.numbers ∙ g.numbers;
  low = h.low ∙ g.low;
  like = order_trans h.like g.like;
}

-- Each way of making a pattern from others keeps the order.
pub order_group : (k : ℕ) {r q : Node} → SameOrder r q → SameOrder (group k r) (group k q)
unfolding results
order_group k {r} {q} h = record {
  order = λ w fair B c x hx.
      let f : State → List State = λ y. leave k y ∷ [] in
      rw (first_concat_map c f (results w r (enter k x)), first_concat_map c f (results w q (enter k x)))
      (h.order w fair B (λ y. first_some c (f y)) (enter k x) hx);
}

pub order_seq : {r q r' q' : Node} → SameOrder r r' → SameOrder q q' → SameOrder (seq r q) (seq r' q')
unfolding results
order_seq {r} {q} {r'} {q'} h g = record {
  order = λ w fair.
      agree_then w (results w r) (results w r') (reach w r') (h.order w fair) (results w q) (results w q') (g.order w fair);
}

pub order_alt : {r q r' q' : Node} → SameOrder r r' → SameOrder q q' → SameOrder (alt r q) (alt r' q')
unfolding results
order_alt {r} {q} {r'} {q'} h g = record {
  order = λ w fair B c x hx.
      first_append c (results w r x) (results w q x) ∙ ap₂ or_else (h.order w fair B c x hx) (g.order w fair B c x hx)
      ∙ sym (first_append c (results w r' x) (results w q' x));
}

pub order_many : (n : ℕ) (e : Option ℕ) (lazy : Bool) {r q : Node} → Alike r q → SameOrder (many n e lazy r) (many n e lazy q)
unfolding results
order_many n e lazy {r} {q} h = record {
  order = λ w fair.
      let f : State → List State = λ y. results w r (fresh r y) in
      let g : State → List State = λ y. results w q (fresh q y) in
      let a : Agree w f g = λ B c x hx.
      rw (h.low, same_high r q h.numbers) (h.like.order w fair B c (fresh q x) hx) in
      let b : Reaches w g = body_reach w q (reach w q) in
      agree_forced w f g b a (λ y. turns lazy f (limit w e y.pos) y) (λ y. turns lazy g (limit w e y.pos) y)
      (λ B c x hx. agree_turns w f g b a lazy (limit w e x.pos) B c x hx) n;
}

-- Each keeps alike patterns alike.
pub alike_group : (k : ℕ) {r q : Node} → Alike r q → Alike (group k r) (group k q)
unfolding groups lo
alike_group k h = record { numbers = ap (λ l. k ∷ l) h.numbers; low = refl; like = order_group k h.like }

pub alike_seq : {r q r' q' : Node} → Alike r r' → Alike q q' → Alike (seq r q) (seq r' q')
unfolding groups lo
alike_seq {r} {q} {r'} {q'} h g = record {
  numbers = ap₂ ◌++◌ h.numbers g.numbers;
  low = rw (h.low, same_high r r' h.numbers, g.low);
  like = order_seq h.like g.like;
}

pub alike_alt : {r q r' q' : Node} → Alike r r' → Alike q q' → Alike (alt r q) (alt r' q')
unfolding groups lo
alike_alt {r} {q} {r'} {q'} h g = record {
  numbers = ap₂ ◌++◌ h.numbers g.numbers;
  low = rw (h.low, same_high r r' h.numbers, g.low);
  like = order_alt h.like g.like;
}

pub alike_many : (n : ℕ) (e : Option ℕ) (lazy : Bool) {r q : Node} → Alike r q → Alike (many n e lazy r) (many n e lazy q)
unfolding groups lo
alike_many n e lazy h = record { numbers = h.numbers; low = h.low; like = order_many n e lazy h }
