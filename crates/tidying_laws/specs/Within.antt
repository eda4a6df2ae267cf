-- Every part of a pattern, wherever it stands, is the part at one of the pattern's places.
use Rattle.std.proofs.Math.Option.{Option, none, some}
use Rattle.std.specs.Prelude.{List, [], ◌∷◌, ◌++◌, map}
use Rattle.meaning.specs.Node.{Node, Node.empty, Node.bset, Node.assert, Node.group, Node.seq, Node.alt, Node.many}
use Rattle.tidying_laws.specs.Around.{Around, Around.here, Around.in_group, Around.before, Around.after, Around.above}
use Rattle.tidying_laws.specs.Around.{Around.below}
use Rattle.tidying_laws.specs.Around.{Around.in_many, fill}
use Rattle.meaning.specs.Flat.{Kind, Kind.sequence, Kind.alternation, pair, Not, glue}
use Rattle.tidying_laws.specs.Tidier.{Place, itself, inside, whole, places}
use Rattle.meaning.specs.All.{All}

-- What stands inside a pattern is a part of it, unless it is the end of a sequence or an alternation and of that kind.
abbrev pub Stands : Option Kind → Around → Node → Type 0
Stands none here q = Unit {0}
Stands (some k) here q = Not k q
Stands t (in_group k a) q = Stands none a q
Stands t (before a r) q = Stands none a q
Stands t (after r a) q = Stands (some sequence) a q
Stands t (above a r) q = Stands none a q
Stands t (below r a) q = Stands (some alternation) a q
Stands t (in_many n e lazy a) q = Stands none a q

module _ {κ} (P : Node → Type κ) where
  -- P holds of the part at each place.
  abbrev Parts : List Place → Type κ
  Parts l = All (λ p. P p.part) l

  -- So it does at the places inside a part, and at those after them;
  nest : (f : Node → Node) (l m : List Place) → Parts (map (inside f) l ++ m) → Parts l × Parts m
  nest f [] m h = (tt, h)
  nest f (p ∷ l) m h = let (a, b) = nest f l m h.1 in ((h.0, a), b)

  -- at those of a sequence's or an alternation's first part, of what comes after it, and of the whole;
  series : (t : Option Kind) (k : Kind) (r q : Node) (l m : List Place)
      → Parts (map (inside (λ p. glue k p q)) l ++ (map (inside (pair k r)) m ++ whole t k (pair k r q)))
      → Parts l × Parts m × Parts (whole t k (pair k r q))
  series t k r q l m h =
      let (a, b) = nest (λ p. glue k p q) l (map (inside (pair k r)) m ++ whole t k (pair k r q)) h in
      let (c, d) = nest (pair k r) m (whole t k (pair k r q)) b in
      (a, c, d)

  -- and at the pattern itself.
  entire : (t : Option Kind) (k : Kind) (r q : Node) → Stands t here (pair k r q) → Parts (whole t k (pair k r q))
      → P (pair k r q)
  entire none k r q s h = h.0
  entire (some sequence) sequence r q s h = absurd s
  entire (some sequence) alternation r q s h = h.0
  entire (some alternation) sequence r q s h = h.0
  entire (some alternation) alternation r q s h = absurd s

  top : (t : Option Kind) (q : Node) → Stands t here q → Parts (places t q) → P q
  unfolding places
  top t empty s h = h.0
  top t (bset a) s h = h.0
  top t (assert a) s h = h.0
  top t (group k r) s h = (nest (group k) (places none r) (itself (group k r) ∷ []) h).1.0
  top t (seq r q) s h = entire t sequence r q s (series t sequence r q (places none r) (places (some sequence) q) h).2
  top t (alt r q) s h = entire t alternation r q s (series t alternation r q (places none r) (places (some alternation) q) h).2
  top t (many n e lazy r) s h = (nest (many n e lazy) (places none r) (itself (many n e lazy r) ∷ []) h).1.0

  -- What holds of the parts at all places holds of every part.
  pub everywhere : (t : Option Kind) (a : Around) (q : Node) → Stands t a q → Parts (places t (fill a q)) → P q
  unfolding places fill
  everywhere t here q s h = top t q s h
  everywhere t (in_group k a) q s h = let r : Node = fill a q in
      everywhere none a q s (nest (group k) (places none r) (itself (group k r) ∷ []) h).0
  everywhere t (before a p) q s h = let r : Node = fill a q in
      everywhere none a q s (series t sequence r p (places none r) (places (some sequence) p) h).0
  everywhere t (after p a) q s h = let r : Node = fill a q in
      everywhere (some sequence) a q s (series t sequence p r (places none p) (places (some sequence) r) h).1
  everywhere t (above a p) q s h = let r : Node = fill a q in
      everywhere none a q s (series t alternation r p (places none r) (places (some alternation) p) h).0
  everywhere t (below p a) q s h = let r : Node = fill a q in
      everywhere (some alternation) a q s (series t alternation p r (places none p) (places (some alternation) r) h).1
  everywhere t (in_many n e lazy a) q s h = let r : Node = fill a q in
      everywhere none a q s (nest (many n e lazy) (places none r) (itself (many n e lazy r) ∷ []) h).0
