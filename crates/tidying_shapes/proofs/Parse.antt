-- Patterns are rebuilt from their tokens by a machine with a stack: a token takes the parts that it closes off the top, and puts
-- what they make there. So equal tokens are those of equal patterns.
use Rattle.std.specs.Prelude.{◌≡◌, refl, Bool, true, false, List, [], ◌∷◌, ◌++◌, ℕ, suc, ◌+◌, ◌-◌, ◌≤◌, eqb, length, take, drop}
use Rattle.std.proofs.Common.{sym, ap, ap₂, subst, ◌∙◌, append_assoc, append-nil, arith, length-append, take_at, drop_at, ne_eqb}
use Rattle.std.proofs.Math.Option.{Option, none, some}
use Rattle.meaning.specs.Node.{Node, Node.empty, Node.bset, Node.assert, Node.group, Node.seq, Node.alt, Node.many, Within}
use Rattle.meaning.specs.Node.{Proper}
use Rattle.meaning.specs.Flat.{Kind, Kind.sequence, Kind.alternation, pair, Not, parts, join_parts, parts_alone}
use Rattle.meaning.specs.Results.{concat_map}
use Rattle.meaning.specs.Limits.{no_maximum}
use Rattle.table.specs.Table.{maximum, bit_of}
use Rattle.meaning.specs.All.{All}
use Rattle.table.specs.Laws.{inner}
use Rattle.tidying_shapes.specs.Skeleton.{Token, token, row_token, closing, skeleton_in, skeleton, pair_in, row_token_lem}
use Rattle.tidying_shapes.specs.Parse.{build, extra_turns, parse}

-- A pattern is what its own token makes of the parts inside it.
built : (r : Node) → Proper r → build (token r) (inner r) ≡ r
unfolding build inner parts
built empty m = refl
built (bset s) m = refl
built (assert a) m = refl
built (group k r) m = refl
built (seq r q) m = join_parts sequence (seq r q)
built (alt r q) m = join_parts alternation (alt r q)
built (many n e lazy r) m = ap₂ (λ x b. many n x b r) (extra e m.0) (bit lazy)
  where
    extra : (e : Option ℕ) → Within n e → extra_turns n (maximum n e) ≡ e
    extra none m = refl
    extra (some e) m =
        let rest : n + e - n ≡ e = omega arith in
        rw (ne_eqb (n + e) no_maximum (λ q. omega arith), rest)

    bit : (b : Bool) → eqb (bit_of b) 1 ≡ b
    bit true = refl
    bit false = refl

-- A token that closes the parts on top of a stack: it is the own one of a pattern that has just those parts inside it.
pub record Closes (stack : List Node) (tok : Token) : Type 0 where
  pub below : List Node
  pub part : Node
  pub inside : stack ≡ below ++ inner part
  pub says : tok ≡ token part
  pub proper : Proper part

-- Tokens of which each closes the parts on top of the stack, and the stack in the end.
abbrev pub Rebuilds : List Node → List Token → List Node → Type 0
Rebuilds stack [] out = stack ≡ out
Rebuilds stack (tok ∷ ts) out = (c : Closes stack tok) × Rebuilds (c.below ++ (c.part ∷ [])) ts out

-- What such tokens rebuild is what the machine has in the end.
pub parsed : (ts : List Token) (stack out : List Node) → Rebuilds stack ts out → parse stack ts ≡ out
unfolding parse
parsed [] stack out e = e
parsed (tok ∷ ts) stack out (c, h) =
    let under : ℕ = length stack - tok.items in
    let low : length c.below ≡ under
    = omega (arith, ap length c.inside, length-append c.below (inner c.part), ap (λ t. t.items) c.says) in
    let first : take under stack ≡ c.below
    = ap (take under) c.inside ∙ take_at c.below (inner c.part) under low in
    let rest : drop under stack ≡ inner c.part
    = ap (drop under) c.inside ∙ drop_at c.below (inner c.part) under low in
    let whole : build tok (drop under stack) ≡ c.part = ap₂ build c.says rest ∙ built c.part c.proper in
    ap₂ (λ l r. parse (l ++ (r ∷ [])) ts) first whole ∙ parsed ts (c.below ++ (c.part ∷ [])) out h

-- What a pattern leaves on the stack: itself, or its parts where it goes on in a row of their kind.
abbrev parts_in : Option Kind → Node → List Node
parts_in none r = r ∷ []
parts_in (some k) r = parts k r

lone_parts : (t : Option Kind) (r : Node) → ((k : Kind) → Not k r) → parts_in t r ≡ r ∷ []
lone_parts none r h = refl
lone_parts (some k) r h = parts_alone k r (h k)

-- A token on the parts inside its pattern.
on_top : (stack : List Node) (r : Node) (tok : Token) (l : List Node) (rest : List Token) (out : List Node)
    → tok ≡ token r → l ≡ inner r → Proper r
    → Rebuilds (stack ++ (r ∷ [])) rest out → Rebuilds (stack ++ l) (tok ∷ rest) out
on_top stack r tok l rest out e f p h =
    (record { below = stack; part = r; inside = ap (λ x. stack ++ x) f; says = e; proper = p }, h)

inner_pair : (k : Kind) (a q : Node) → a ∷ parts k q ≡ inner (pair k a q)
unfolding inner
inner_pair sequence a q = refl
inner_pair alternation a q = refl

-- A row's token on its parts, unless the row goes on.
close_row : (t : Option Kind) (k : Kind) (a q : Node) (stack : List Node) (rest : List Token) (out : List Node)
    → Proper (pair k a q) → Rebuilds (stack ++ parts_in t (pair k a q)) rest out
    → Rebuilds (stack ++ (a ∷ parts k q)) (closing t k (suc (length (parts k q))) ++ rest) out
unfolding parts
close_row t k a q stack rest out p h = go t k p h
  where
    own : (k : Kind) → Proper (pair k a q) → Rebuilds (stack ++ (pair k a q ∷ [])) rest out
        → Rebuilds (stack ++ (a ∷ parts k q)) (row_token k (suc (length (parts k q))) ∷ rest) out
    own k p h =
        on_top stack (pair k a q) _ (a ∷ parts k q) rest out (sym (row_token_lem k a q)) (inner_pair k a q) p h

    go : (t : Option Kind) (k : Kind) → Proper (pair k a q) → Rebuilds (stack ++ parts_in t (pair k a q)) rest out
        → Rebuilds (stack ++ (a ∷ parts k q)) (closing t k (suc (length (parts k q))) ++ rest) out
    go none k p h = own k p h
    go (some sequence) sequence p h = h
    go (some sequence) alternation p h = own alternation p h
    go (some alternation) sequence p h = own sequence p h
    go (some alternation) alternation p h = h

-- The tokens of a pattern rebuild it.
abbrev Rebuilt : Option Kind → Node → Type 0
Rebuilt t r = (stack : List Node) (rest : List Token) (out : List Node) → Rebuilds (stack ++ parts_in t r) rest out
    → Rebuilds stack (skeleton_in t r ++ rest) out

rebuilt_pair : (t : Option Kind) (k : Kind) (a q : Node) → Proper (pair k a q) → Rebuilt none a → Rebuilt (some k) q
    → Rebuilt t (pair k a q)
rebuilt_pair t k a q p f g stack rest out h =
    let close : List Token = closing t k (suc (length (parts k q))) in
    let tokens : skeleton_in t (pair k a q) ++ rest ≡ skeleton a ++ (skeleton_in (some k) q ++ (close ++ rest))
    = ap (λ l. l ++ rest) (pair_in t k a q) ∙ append_assoc (skeleton a) (skeleton_in (some k) q ++ close) rest
    ∙ ap (λ l. skeleton a ++ l) (append_assoc (skeleton_in (some k) q) close rest) in
    rw tokens (f stack (skeleton_in (some k) q ++ (close ++ rest)) out
    (g (stack ++ (a ∷ [])) (close ++ rest) out (rw append_assoc (close_row t k a q stack rest out p h))))

rebuilt_leaf : (t : Option Kind) (r : Node) → ((k : Kind) → Not k r) → inner r ≡ [] → Proper r
    → skeleton_in t r ≡ token r ∷ [] → Rebuilt t r
rebuilt_leaf t r n bare p e stack rest out h =
    rw e (subst (λ (l : List Node). Rebuilds l (token r ∷ rest) out) (append-nil stack)
    (on_top stack r (token r) [] rest out refl (sym bare) p (rw (lone_parts t r n) at h)))

rebuilt_wrap : (t : Option Kind) (r q : Node) → ((k : Kind) → Not k r) → inner r ≡ q ∷ [] → Proper r
    → skeleton_in t r ≡ skeleton q ++ (token r ∷ []) → Rebuilt none q → Rebuilt t r
rebuilt_wrap t r q n one p e f stack rest out h =
    rw (e, append_assoc) (f stack (token r ∷ rest) out
    (on_top stack r (token r) (q ∷ []) rest out refl (sym one) p (rw (lone_parts t r n) at h)))

rebuilt : (t : Option Kind) (r : Node) → Proper r → Rebuilt t r
unfolding skeleton_in inner
rebuilt t empty p = rebuilt_leaf t empty (λ k. tt) refl p refl
rebuilt t (bset s) p = rebuilt_leaf t (bset s) (λ k. tt) refl p refl
rebuilt t (assert a) p = rebuilt_leaf t (assert a) (λ k. tt) refl p refl
rebuilt t (group k r) p = rebuilt_wrap t (group k r) r (λ k. tt) refl p refl (rebuilt none r p.1)
rebuilt t (seq a q) p = rebuilt_pair t sequence a q p (rebuilt none a p.0) (rebuilt (some sequence) q p.1)
rebuilt t (alt a q) p = rebuilt_pair t alternation a q p (rebuilt none a p.0) (rebuilt (some alternation) q p.1)
rebuilt t (many n e lazy r) p = rebuilt_wrap t (many n e lazy r) r (λ k. tt) refl p refl (rebuilt none r p.1)

-- The tokens of parts one after the other rebuild them.
pub rebuilds_all : (l : List Node) → All Proper l
    → (stack : List Node) (rest : List Token) (out : List Node) → Rebuilds (stack ++ l) rest out
    → Rebuilds stack (concat_map skeleton l ++ rest) out
rebuilds_all [] p stack rest out h = rw append-nil at h
rebuilds_all (r ∷ l) (p, ps) stack rest out h =
    rw append_assoc (rebuilt none r p stack (concat_map skeleton l ++ rest) out
    (rebuilds_all l ps (stack ++ (r ∷ [])) rest out (rw append_assoc h)))

pub rebuilds : (r : Node) → Proper r → Rebuilds [] (skeleton r) (r ∷ [])
rebuilds r p = rw append-nil at (rebuilt none r p [] [] (r ∷ []) refl)

-- So the machine has them on the stack, whatever tokens follow.
parse_append : (a b : List Token) (stack : List Node) → parse stack (a ++ b) ≡ parse (parse stack a) b
unfolding parse
parse_append [] b stack = refl
parse_append (tok ∷ a) b stack = parse_append a b _

pub parse_skeletons : (l : List Node) → All Proper l → (stack : List Node) (rest : List Token)
    → parse stack (concat_map skeleton l ++ rest) ≡ parse (stack ++ l) rest
parse_skeletons l p stack rest =
    parse_append (concat_map skeleton l) rest stack ∙ ap (λ s. parse s rest)
    (parsed (concat_map skeleton l) stack (stack ++ l) (rw append-nil at (rebuilds_all l p stack [] (stack ++ l) refl)))

-- Equal tokens are those of equal parts, and of one pattern.
pub skeletons_injective : (l k : List Node) → All Proper l → All Proper k
    → concat_map skeleton l ≡ concat_map skeleton k → l ≡ k
unfolding parse
skeletons_injective l k p p' e =
    sym (parse_skeletons l p [] []) ∙ ap (λ ts. parse [] (ts ++ [])) e ∙ parse_skeletons k p' [] []

pub skeleton_injective : (r q : Node) → Proper r → Proper q → skeleton r ≡ skeleton q → r ≡ q
skeleton_injective r q p p' e =
    let same : r ∷ [] ≡ q ∷ []
    = skeletons_injective (r ∷ []) (q ∷ []) (p, tt) (p', tt) (ap (λ ts. ts ++ []) e) in
    cc

-- A token has no more items than there are tokens before it.
pub rebuilds_few : (l : List Token) (tok : Token) (m : List Token) (stack out : List Node) → Rebuilds stack (l ++ (tok ∷ m)) out
    → tok.items ≤ length stack + length l
rebuilds_few [] tok m stack out (c, h) =
    omega (arith, ap length c.inside, length-append c.below (inner c.part), ap (λ t. t.items) c.says)
rebuilds_few (t ∷ l) tok m stack out (c, h) = omega (
  arith,
  ap length c.inside,
  length-append c.below (inner c.part),
  length-append c.below (c.part ∷ []),
  rebuilds_few l tok m (c.below ++ (c.part ∷ [])) out h,
)
