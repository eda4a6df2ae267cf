-- A flat sequence is a list of items, and a flat alternation one of alternatives: the view that the laws speak of.
use Rattle.std.specs.Prelude.{◌≡◌, refl, List, [], ◌∷◌}
use Rattle.std.proofs.Common.{sym, ap, ◌∙◌}
use Rattle.meaning.specs.Node.{Node, Node.empty, Node.bset, Node.assert, Node.group, Node.seq, Node.alt, Node.many, Proper}
use Rattle.meaning.specs.All.{All}

-- The two kinds of pattern that have parts in a row: a sequence has items, an alternation alternatives.
pub data Kind : Type 0 where
  sequence alternation : Kind

-- A part, and then a pattern.
abbrev pub pair : Kind → Node → Node → Node
pair sequence r q = seq r q
pair alternation r q = alt r q

-- A pattern is not of a kind.
abbrev pub Not : Kind → Node → Type 0
Not k empty = Unit {0}
Not k (bset s) = Unit {0}
Not k (assert a) = Unit {0}
Not k (group n r) = Unit {0}
Not sequence (seq r q) = ⊥
Not alternation (seq r q) = Unit {0}
Not sequence (alt r q) = Unit {0}
Not alternation (alt r q) = ⊥
Not k (many n e lazy r) = Unit {0}

-- The items of a sequence, or the alternatives of an alternation; another pattern is its own only part.
unfoldable pub parts : Kind → Node → List Node
parts k empty = empty ∷ []
parts k (bset s) = bset s ∷ []
parts k (assert a) = assert a ∷ []
parts k (group n r) = group n r ∷ []
parts sequence (seq r q) = r ∷ parts sequence q
parts alternation (seq r q) = seq r q ∷ []
parts sequence (alt r q) = alt r q ∷ []
parts alternation (alt r q) = r ∷ parts alternation q
parts k (many n e lazy r) = many n e lazy r ∷ []

-- A part and more of them as one pattern.
abbrev pub link : Kind → Node → List Node → Node
link k r [] = r
link k r (q ∷ l) = pair k r (link k q l)

-- A list of parts as one pattern: a single part is that part, and none are empty.
abbrev pub join : Kind → List Node → Node
join k [] = empty
join k (r ∷ l) = link k r l

-- Both, by the name of the parts.
abbrev pub items : Node → List Node
items = parts sequence

abbrev pub alternatives : Node → List Node
alternatives = parts alternation

abbrev pub of_items : List Node → Node
of_items = join sequence

abbrev pub of_alternatives : List Node → Node
of_alternatives = join alternation

-- A list of parts in front of a pattern.
abbrev pub onto : Kind → List Node → Node → Node
onto k [] q = q
onto k (r ∷ l) q = pair k r (onto k l q)

-- A pattern in front of a pattern, its parts being parts of the whole.
abbrev pub glue : Kind → Node → Node → Node
glue k r q = onto k (parts k r) q

-- What holds of a pattern and its parts, from what holds of one part and what a part more keeps.
pub by_parts {ℓ} : (k : Kind) (P : Node → List Node → Type ℓ) → ((r : Node) → Not k r → P r (r ∷ []))
    → ((r q : Node) (l : List Node) → P q l → P (pair k r q) (r ∷ l)) → (r : Node) → P r (parts k r)
unfolding parts
by_parts k P one more empty = one empty tt
by_parts k P one more (bset s) = one (bset s) tt
by_parts k P one more (assert a) = one (assert a) tt
by_parts k P one more (group n r) = one (group n r) tt
by_parts sequence P one more (seq r q) = more r q (parts sequence q) (by_parts sequence P one more q)
by_parts alternation P one more (seq r q) = one (seq r q) tt
by_parts sequence P one more (alt r q) = one (alt r q) tt
by_parts alternation P one more (alt r q) = more r q (parts alternation q) (by_parts alternation P one more q)
by_parts k P one more (many n e lazy r) = one (many n e lazy r) tt

-- The parts of a pattern make it up.
pub join_parts : (k : Kind) (r : Node) → join k (parts k r) ≡ r
join_parts k r = (by_parts k (λ r l. (join k l ≡ r) × ((s : Node) → link k s l ≡ pair k s r)) (λ r h. (refl, λ s. refl))
    (λ r q l h. (h.1 r, λ s. ap (pair k s) (h.1 r))) r).0

-- What is not of a kind is its own only part, and a list of such parts is the list of the parts of what it makes up.
pub parts_alone : (k : Kind) (r : Node) → Not k r → parts k r ≡ r ∷ []
parts_alone k = by_parts k (λ r l. Not k r → l ≡ r ∷ []) (λ r h n. refl) (λ r q l e n. absurd (no_pair k r q n))
  where
    no_pair : (k : Kind) (r q : Node) → Not k (pair k r q) → ⊥
    no_pair sequence r q n = n
    no_pair alternation r q n = n

pub parts_link : (k : Kind) (r : Node) (l : List Node) → Not k r → All (Not k) l → parts k (link k r l) ≡ r ∷ l
unfolding parts
parts_link k r [] n h = parts_alone k r n
parts_link sequence r (q ∷ l) n h = ap (λ m. r ∷ m) (parts_link sequence q l h.0 h.1)
parts_link alternation r (q ∷ l) n h = ap (λ m. r ∷ m) (parts_link alternation q l h.0 h.1)

-- A measure of a list of parts, put together from that of each.
abbrev pub fold : {M : Type 0} → (M → M → M) → M → (Node → M) → List Node → M
fold op unit f [] = unit
fold op unit f (r ∷ l) = op (f r) (fold op unit f l)

-- A measure of patterns that is so put together over the parts of a kind.
pub record Adds (k : Kind) {M : Type 0} (op : M → M → M) (unit : M) (f : Node → M) : Type 0 where
  pub both : (r q : Node) → f (pair k r q) ≡ op (f r) (f q)
  pub right : (x : M) → op x unit ≡ x
  pub assoc : (x y z : M) → op (op x y) z ≡ op x (op y z)

-- The measure of parts in a row, of a pattern by its parts, and of a pattern in front of another.
module _ {k : Kind} {M : Type 0} {op : M → M → M} {unit : M} {f : Node → M} (h : Adds k op unit f) where
  pub adds_link : (r : Node) (l : List Node) → f (link k r l) ≡ op (f r) (fold op unit f l)
  adds_link r [] = sym (h.right (f r))
  adds_link r (q ∷ l) = h.both r (link k q l) ∙ ap (op (f r)) (adds_link q l)

  pub adds_parts : (r : Node) → fold op unit f (parts k r) ≡ f r
  adds_parts = by_parts k (λ r l. fold op unit f l ≡ f r) (λ r n. h.right (f r))
      (λ r q l e. ap (op (f r)) e ∙ sym (h.both r q))

  pub adds_glue : (r q : Node) → f (glue k r q) ≡ op (f r) (f q)
  adds_glue r q = by_parts k (λ r l. f (onto k l q) ≡ op (f r) (f q)) (λ r n. h.both r q)
      (λ r p l e. h.both r (onto k l q) ∙ ap (op (f r)) e ∙ sym (h.assoc (f r) (f p) (f q))
      ∙ ap (λ x. op x (f q)) (sym (h.both r p))) r

-- A property P of patterns that is a property Q of their parts.
pub record Spreads (k : Kind) (P Q : Node → Type 0) : Type 0 where
  pub part : (r : Node) → Not k r → P r → Q r
  pub whole : (r : Node) → Q r → P r
  pub split : (r q : Node) → P (pair k r q) → Q r × P q
  pub both : (r q : Node) → Q r → P q → P (pair k r q)

-- Parts in a row have it if each has; the parts of a pattern have it if that has; and so a pattern in front of another.
module _ {k : Kind} {P Q : Node → Type 0} (h : Spreads k P Q) where
  pub spreads_link : (r : Node) (l : List Node) → Q r → All Q l → P (link k r l)
  spreads_link r [] p g = h.whole r p
  spreads_link r (q ∷ l) p g = h.both r (link k q l) p (spreads_link q l g.0 g.1)

  pub spreads_parts : (r : Node) → P r → All Q (parts k r)
  spreads_parts = by_parts k (λ r l. P r → All Q l) (λ r n p. (h.part r n p, tt))
      (λ r q l e p. let (a, b) = h.split r q p in (a, e b))

  pub spreads_glue : (r q : Node) → P r → P q → P (glue k r q)
  spreads_glue r q p = by_parts k (λ r l. P r → P q → P (onto k l q)) (λ r n p g. h.both r q (h.part r n p) g)
      (λ r s l e p g. let (a, b) = h.split r s p in h.both r (onto k l q) a (e b g)) r p

-- No sequence is an item of a sequence, and no alternation an alternative of an alternation.
abbrev pub Flat : Node → Type 0
Flat empty = Unit {0}
Flat (bset s) = Unit {0}
Flat (assert a) = Unit {0}
Flat (group n r) = Flat r
Flat (seq r q) = Not sequence r × Flat r × Flat q
Flat (alt r q) = Not alternation r × Flat r × Flat q
Flat (many n e lazy r) = Flat r

-- What may be a part of a flat pattern.
abbrev pub Part : Kind → Node → Type 0
Part k r = Not k r × Flat r

-- A pattern is flat by its parts, and well-formed by its parts.
pub flat_spreads : (k : Kind) → Spreads k Flat (Part k)
flat_spreads k = record { part = λ r n h. (n, h); whole = λ r h. h.1; split = split k; both = both k }
  where
    split : (k : Kind) (r q : Node) → Flat (pair k r q) → Part k r × Flat q
    split sequence r q h = ((h.0, h.1), h.2)
    split alternation r q h = ((h.0, h.1), h.2)

    both : (k : Kind) (r q : Node) → Part k r → Flat q → Flat (pair k r q)
    both sequence r q h g = (h.0, h.1, g)
    both alternation r q h g = (h.0, h.1, g)

pub proper_spreads : (k : Kind) → Spreads k Proper Proper
proper_spreads k = record { part = λ r n h. h; whole = λ r h. h; split = split k; both = both k }
  where
    split : (k : Kind) (r q : Node) → Proper (pair k r q) → Proper r × Proper q
    split sequence r q h = h
    split alternation r q h = h

    both : (k : Kind) (r q : Node) → Proper r → Proper q → Proper (pair k r q)
    both sequence r q h g = (h, g)
    both alternation r q h g = (h, g)
