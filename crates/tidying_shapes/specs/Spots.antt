-- Where a part stands among the tokens of a pattern, and what the tokens are with another part in its place.
use Rattle.std.specs.Prelude.{◌≡◌, refl, ◌⊎◌, List, [], ◌∷◌, ◌++◌, ℕ, suc, ◌+◌, ◌≤◌, length}
use Rattle.std.proofs.Common.{sym, ap, ◌∙◌, append_assoc, append-nil, arith}
use Rattle.std.proofs.Math.Option.{Option, none, some}
use Rattle.meaning.specs.Node.{Node}
use Rattle.meaning.specs.Flat.{Kind, Kind.sequence, Kind.alternation, pair, Not, parts}
use Rattle.meaning.specs.Results.{concat_map}
use Rattle.tidying_laws.specs.Tidier.{Place, itself, inside}
use Rattle.tidying_shapes.specs.Skeleton.{Token, row_token, closing, skeleton_in, skeleton, width, lone, gives_in}
use Rattle.tidying_shapes.specs.Skeleton.{alone as in_row_lem}

-- What stands behind a part: nothing, for the whole pattern; the token of the group or the quantifier that it is in, and more;
-- the later parts of its row, the row's own token with so many other parts, and more; or the later parts of a row that goes on.
pub data Parent : Option Kind → Type 0 where
  top : Parent none
  alone : {t : Option Kind} → Token → List Token → Parent t
  among : {t : Option Kind} → Kind → ℕ → List Node → List Token → Parent t
  going : {k : Kind} → ℕ → List Node → Parent (some k)

-- The row that a part stands in.
abbrev pub row_of : {t : Option Kind} → Parent t → Option Kind
row_of top = none
row_of (alone tok rest) = none
row_of (among k others later rest) = some k
row_of (going {k = k} others later) = some k

-- The tokens behind a part that gives so many parts to its row.
abbrev pub behind : {t : Option Kind} → Parent t → ℕ → List Token
behind top m = []
behind (alone tok rest) m = tok ∷ rest
behind (among k others later rest) m = concat_map skeleton later ++ (row_token k (others + m) ∷ rest)
behind (going others later) m = concat_map skeleton later

-- How many parts the pattern then gives to a row that goes on, where it gave `other`.
abbrev pub gives : {t : Option Kind} → Parent t → ℕ → ℕ → ℕ
gives top m other = m
gives (alone tok rest) m other = other
gives (among k others later rest) m other = other
gives (going others later) m other = others + m

-- The whole pattern is what is put for it; deeper inside, the pattern keeps its kind.
abbrev pub Depth : {t : Option Kind} → Parent t → List Node → Node → Place → Type 0
Depth top earlier r p = (earlier ≡ []) × ((y : Node) → p.put y ≡ y)
Depth (alone tok rest) earlier r p = (k : Kind) → Not k r → (y : Node) → Not k (p.put y)
Depth (among k others later rest) earlier r p = (k : Kind) → Not k r → (y : Node) → Not k (p.put y)
Depth (going others later) earlier r p = Unit {0}

-- A part alone is the one item of what it is in, which is no row; in a row the later parts are among the others.
pub record Lone (tok : Token) : Type 0 where
  pub one : tok.items ≡ 1
  pub kind : (tok.kind ≡ 4) ⊎ (tok.kind ≡ 7)

abbrev pub Sound : {t : Option Kind} → Parent t → Type 0
Sound top = Unit {0}
Sound (alone tok rest) = Lone tok
Sound (among k others later rest) = length later ≤ others
Sound (going others later) = length later ≤ others

-- A part stands in a row as it stands alone: it is not of the row's kind.
abbrev pub AsAlone : Option Kind → Node → Type 0
AsAlone t r = (skeleton_in t r ≡ skeleton r) × (width t r ≡ 1)

pub as_alone : (t : Option Kind) (r : Node) → ((k : Kind) → Not k r) → AsAlone t r
as_alone none r h = (refl, refl)
as_alone (some k) r h = in_row_lem k r (h k)

-- A part at a place: the parts that end before it, what stands behind it, and what putting another there does.
pub record Spot (t : Option Kind) (r : Node) (p : Place) (i : ℕ) : Type 0 where
  pub earlier : List Node
  pub parent : Parent t
  pub put : (y : Node) → skeleton_in t (p.put y) ≡ concat_map skeleton earlier ++
      (skeleton_in (row_of parent) y ++ behind parent (width (row_of parent) y))
  pub sound : Sound parent
  pub single : AsAlone (row_of parent) p.part
  pub count : (y : Node) → width t (p.put y) ≡ gives parent (width (row_of parent) y) (width t r)
  pub depth : Depth parent earlier r p
  pub back : p.put p.part ≡ r
  pub number : length (concat_map skeleton earlier) + length (skeleton p.part) ≡ suc i

pub at_here : (t : Option Kind) (r : Node) (i : ℕ) → AsAlone t r → length (skeleton r) ≡ suc i → Spot t r (itself r) i
at_here none r i h e = record {
  earlier = [];
  parent = top;
  sound = tt;
  single = h;
  put = λ y. sym (append-nil (skeleton y));
  count = λ y. refl;
  depth = (refl, λ y. refl);
  back = refl;
  number = omega arith;
}
at_here (some k) r i h e = record {
  earlier = [];
  parent = going 0 [];
  sound = omega arith;
  single = h;
  put = λ y. sym (append-nil (skeleton_in (some k) y));
  count = λ y. omega arith;
  depth = tt;
  back = refl;
  number = omega arith;
}

pub lengthen : (before x b more : List Token) → (before ++ (x ++ b)) ++ more ≡ before ++ (x ++ (b ++ more))
lengthen before x b more = append_assoc before (x ++ b) more ∙ ap (λ l. before ++ l) (append_assoc x b more)

-- A part inside a group or a quantifier, whose token does not depend on it.
module _ (t : Option Kind) (wrap : Node → Node) (tok : Token)
    (own : (r : Node) → skeleton_in t (wrap r) ≡ skeleton r ++ (tok ∷ [])) (kindless : (k : Kind) (r : Node) → Not k (wrap r))
    (lone-token : Lone tok) where
  one : (r q : Node) → width t (wrap r) ≡ width t (wrap q)
  one r q = lone t (wrap r) (λ k. kindless k r) ∙ sym (lone t (wrap q) (λ k. kindless k q))

  pub wrapped : (r : Node) (p : Place) (i : ℕ) → Spot none r p i → Spot t (wrap r) (inside wrap p) i
  wrapped r p i s = go s.parent s.put s.sound s.single
    where
      go : (P : Parent none)
          → ((y : Node) → skeleton (p.put y) ≡ concat_map skeleton s.earlier ++
          (skeleton_in (row_of P) y ++ behind P (width (row_of P) y)))
          → Sound P → AsAlone (row_of P) p.part → Spot t (wrap r) (inside wrap p) i
      go top put ok h = record {
        sound = lone-token;
        single = h;
        earlier = s.earlier;
        parent = alone tok [];
        put = λ y. own (p.put y) ∙ ap (λ l. l ++ (tok ∷ [])) (put y)
            ∙ lengthen (concat_map skeleton s.earlier) (skeleton y) [] (tok ∷ []);
        count = λ y. one (p.put y) r;
        depth = λ k h y. kindless k (p.put y);
        back = ap wrap s.back;
        number = s.number;
      }
      go (alone a rest) put ok h = record {
        sound = ok;
        single = h;
        earlier = s.earlier;
        parent = alone a (rest ++ (tok ∷ []));
        put = λ y. own (p.put y) ∙ ap (λ l. l ++ (tok ∷ [])) (put y)
            ∙ lengthen (concat_map skeleton s.earlier) (skeleton y) (a ∷ rest) (tok ∷ []);
        count = λ y. one (p.put y) r;
        depth = λ k h y. kindless k (p.put y);
        back = ap wrap s.back;
        number = s.number;
      }
      go (among k others later rest) put ok h = record {
        sound = ok;
        single = h;
        earlier = s.earlier;
        parent = among k others later (rest ++ (tok ∷ []));
        put = λ y. own (p.put y) ∙ ap (λ l. l ++ (tok ∷ [])) (put y)
            ∙ lengthen (concat_map skeleton s.earlier) (skeleton_in (some k) y)
            (behind (among {t = t} k others later rest) (width (some k) y)) (tok ∷ [])
            ∙ ap (λ l. concat_map skeleton s.earlier ++ (skeleton_in (some k) y ++ l))
            (append_assoc (concat_map skeleton later) (row_token k (others + width (some k) y) ∷ rest) (tok ∷ []));
        count = λ y. one (p.put y) r;
        depth = λ j h y. kindless j (p.put y);
        back = ap wrap s.back;
        number = s.number;
      }

-- The parts of a row with others of the row behind, and the row's token unless it goes on.
abbrev pub in_row : (t : Option Kind) → Kind → ℕ → List Node → Parent t
in_row none k others later = among k others later []
in_row (some sequence) sequence others later = going others later
in_row (some sequence) alternation others later = among alternation others later []
in_row (some alternation) sequence others later = among sequence others later []
in_row (some alternation) alternation others later = going others later

in_row_row : (t : Option Kind) (k : Kind) (others : ℕ) (later : List Node) → row_of (in_row t k others later) ≡ some k
in_row_row none k others later = refl
in_row_row (some sequence) sequence others later = refl
in_row_row (some sequence) alternation others later = refl
in_row_row (some alternation) sequence others later = refl
in_row_row (some alternation) alternation others later = refl

in_row_behind : (t : Option Kind) (k : Kind) (others : ℕ) (later : List Node) (m : ℕ)
    → behind (in_row t k others later) m ≡ concat_map skeleton later ++ closing t k (others + m)
in_row_behind none k others later m = refl
in_row_behind (some sequence) sequence others later m = sym (append-nil _)
in_row_behind (some sequence) alternation others later m = refl
in_row_behind (some alternation) sequence others later m = refl
in_row_behind (some alternation) alternation others later m = sym (append-nil _)

in_row_gives : (t : Option Kind) (k : Kind) (others : ℕ) (later : List Node) (m : ℕ) (r q : Node)
    → gives (in_row t k others later) m (width t (pair k r q)) ≡ gives_in t k (others + m)
unfolding parts
in_row_gives none k others later m r q = refl
in_row_gives (some sequence) sequence others later m r q = refl
in_row_gives (some sequence) alternation others later m r q = refl
in_row_gives (some alternation) sequence others later m r q = refl
in_row_gives (some alternation) alternation others later m r q = refl

pub in_row_depth : (t : Option Kind) (k : Kind) (others : ℕ) (later : List Node) (earlier : List Node) (r : Node) (p : Place)
    → ((j : Kind) → Not j r → (y : Node) → Not j (p.put y)) → Depth (in_row t k others later) earlier r p
in_row_depth none k others later earlier r p h = h
in_row_depth (some sequence) sequence others later earlier r p h = tt
in_row_depth (some sequence) alternation others later earlier r p h = h
in_row_depth (some alternation) sequence others later earlier r p h = h
in_row_depth (some alternation) alternation others later earlier r p h = tt

pub in_row_sound : (t : Option Kind) (k : Kind) (others : ℕ) (later : List Node) → length later ≤ others
    → Sound (in_row t k others later)
in_row_sound none k others later h = h
in_row_sound (some sequence) sequence others later h = h
in_row_sound (some sequence) alternation others later h = h
in_row_sound (some alternation) sequence others later h = h
in_row_sound (some alternation) alternation others later h = h

-- What is put at a part of a row stands in the row, its parts among the others.
pub row_put : (t : Option Kind) (k : Kind) (others : ℕ) (later : List Node) (before : List Token) (y : Node) (l : List Token)
    → l ≡ before ++ (skeleton_in (some k) y ++ (concat_map skeleton later ++ closing t k (others + length (parts k y))))
    → (let P : Parent t = in_row t k others later in l ≡ before ++ (skeleton_in (row_of P) y ++ behind P (width (row_of P) y)))
row_put t k others later before y l e =
    rw (in_row_row t k others later, in_row_behind t k others later (length (parts k y))) e

pub row_single : (t : Option Kind) (k : Kind) (others : ℕ) (later : List Node) (r : Node) → AsAlone (some k) r
    → AsAlone (row_of (in_row t k others later)) r
row_single t k others later r h = rw (in_row_row t k others later) h

pub row_count : (t : Option Kind) (k : Kind) (others : ℕ) (later : List Node) (a q y : Node) (n : ℕ)
    → n ≡ gives_in t k (others + length (parts k y))
    → (let P : Parent t = in_row t k others later in n ≡ gives P (width (row_of P) y) (width t (pair k a q)))
row_count t k others later a q y n e =
    rw (in_row_row t k others later, in_row_gives t k others later (length (parts k y)) a q) e
