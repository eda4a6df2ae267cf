-- The order of results over lists: alternatives are tried one by one, and items run one after the other.
use Rattle.std.specs.Prelude.{◌≡◌, refl, List, [], ◌∷◌, ◌≤◌, length}
use Rattle.std.proofs.Common.{sym, append_assoc, arith}
use Rattle.std.proofs.Math.Option.{Option}
use Rattle.meaning.specs.Text.{Input, State, size}
use Rattle.meaning.specs.Node.{Node}
use Rattle.meaning.specs.Results.{or_else_none, first_some, results, first_append, first_concat_map}
use Rattle.meaning.specs.Reach.{Reach, reach, first_cong}
use Rattle.tidying_laws.specs.Alike.{SameOrder, order_refl, order_trans, order_seq, order_alt}
use Rattle.meaning.specs.Flat.{Kind, Kind.sequence, Kind.alternation, pair, link, join, onto, glue, by_parts}

-- Parts may be put together from the left or from the right.
pair_assoc : (k : Kind) (r q s : Node) → SameOrder (pair k r (pair k q s)) (pair k (pair k r q) s)
unfolding results
pair_assoc sequence r q s = record { order = λ w fair B c x hx. simp first_concat_map }
pair_assoc alternation r q s = record { order = λ w fair B c x hx. rw append_assoc }

pub order_pair : (k : Kind) {r q r' q' : Node} → SameOrder r r' → SameOrder q q' → SameOrder (pair k r q) (pair k r' q')
order_pair sequence h g = order_seq h g
order_pair alternation h g = order_alt h g

-- So a pattern whose parts are parts of the whole has the same order.
pub glue_pair : (k : Kind) (r q : Node) → SameOrder (glue k r q) (pair k r q)
glue_pair k r q = by_parts k (λ r l. SameOrder (onto k l q) (pair k r q)) (λ r h. order_refl (pair k r q))
    (λ r p l h. order_trans (order_pair k (order_refl r) h) (pair_assoc k r p q)) r

-- The first success over the results of a pattern, and over those of a list of alternatives.
abbrev pub tried : {B : Type 0} → Input → (State → Option B) → State → Node → Option B
tried w c x r = first_some c (results w r x)

abbrev pub tried_all : {B : Type 0} → Input → (State → Option B) → State → List Node → Option B
tried_all w c x l = first_some (tried w c x) l

pub tries : {B : Type 0} (w : Input) (c : State → Option B) (x : State) (l : List Node) → 1 ≤ length l
    → tried w c x (join alternation l) ≡ tried_all w c x l
unfolding results
tries w c x [] h = absurd (omega arith)
tries w c x (r ∷ l) h = go r l
  where
    go : (r : Node) (l : List Node) → tried w c x (link alternation r l) ≡ tried_all w c x (r ∷ l)
    go r [] = sym (or_else_none (tried w c x r))
    go r (q ∷ l) = rw (first_append c (results w r x) (results w (link alternation q l) x), go q l)

-- Items one after the other, and then what comes after.
abbrev pub runs : {B : Type 0} → Input → (State → Option B) → List Node → State → Option B
runs w c [] x = c x
runs w c (r ∷ l) x = first_some (runs w c l) (results w r x)

pub runs_join : {B : Type 0} (w : Input) (c : State → Option B) (l : List Node) (x : State) → x.pos ≤ size w
    → tried w c x (join sequence l) ≡ runs w c l x
unfolding results
runs_join w c [] x hx = or_else_none (c x)
runs_join w c (r ∷ l) x hx = go r l x hx
  where
    go : (r : Node) (l : List Node) (x : State) → x.pos ≤ size w → tried w c x (link sequence r l) ≡ runs w c (r ∷ l) x
    go r [] x hx = refl
    go r (q ∷ l) x hx = rw (first_concat_map c (results w (link sequence q l)) (results w r x))
        (first_cong (Reach w x) _ _ (results w r x) (reach w r x hx) (λ y h. go q l y h.stop))
