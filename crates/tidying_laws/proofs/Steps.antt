-- Every law keeps what it must, at every place; and so does a step of the tidier.
use Rattle.std.proofs.Math.Option.{Option, none, some}
use Rattle.std.specs.Prelude.{List, [], ◌∷◌, ◌++◌, map}
use Rattle.meaning.specs.Node.{Node, Node.empty, Node.bset, Node.assert, Node.group, Node.seq, Node.alt, Node.many}
use Rattle.tidying_laws.specs.Groups.{groups, Positive, positive_both}
use Rattle.meaning.specs.Flat.{Kind, Kind.sequence, Kind.alternation, pair, glue}
use Rattle.tidying_laws.specs.List.{laws}
use Rattle.tidying_laws.proofs.List.{each_law}
use Rattle.tidying_laws.specs.Tidier.{Place, itself, inside, whole, places, lowest, found, tidy_step}
use Rattle.tidying_laws.proofs.Found.{ok_first}
use Rattle.meaning.specs.All.{All, all_map, all_append, all_imp}
use Rattle.tidying_laws.specs.Kept.{Ok, ok_map}
use Rattle.tidying_laws.specs.Kept.{Kept, in_group, in_left, in_right, in_many}

-- Every law of the list keeps what it must.
laws_kept : All (λ f. (r : Node) → Ok (Kept r) (f r)) laws
laws_kept = each_law _ (λ l. l.kept)

lowest_kept : (r : Node) → Ok (λ t. Kept r t.1) (lowest r)
unfolding lowest
lowest_kept r = ok_first (Kept r) (λ f. f r) 1 laws (all_imp _ (λ f. Ok (Kept r) (f r)) (λ f h. h r) laws laws_kept)

-- What is kept of the part at a place is kept of the pattern.
abbrev Keeps : Node → Place → Type 1
Keeps r p = (q : Node) → Kept p.part q → Kept r (p.put q)

inside_keep : (r s : Node) (f : Node → Node) → ((q : Node) → Kept r q → Kept s (f q)) → (l : List Place)
    → All (Keeps r) l → All (Keeps s) (map (inside f) l)
inside_keep r s f h = all_map (Keeps r) (Keeps s) (inside f) (λ p k q e. h (p.put q) (k q e))

whole_keep : (t : Option Kind) (k : Kind) (r : Node) → All (Keeps r) (whole t k r)
whole_keep none k r = (λ q h. h, tt)
whole_keep (some sequence) sequence r = tt
whole_keep (some sequence) alternation r = (λ q h. h, tt)
whole_keep (some alternation) sequence r = (λ q h. h, tt)
whole_keep (some alternation) alternation r = tt

-- In a sequence or an alternation: the places of a part, those of what comes after it, and the whole.
pair_keep : (t : Option Kind) (k : Kind) (r q : Node) (l m : List Place) → All (Keeps r) l → All (Keeps q) m
    → All (Keeps (pair k r q)) (map (inside (λ p. glue k p q)) l ++ (map (inside (pair k r)) m ++ whole t k (pair k r q)))
pair_keep t k r q l m h g =
    let s : Node = pair k r q in
    all_append (Keeps s) (map (inside (λ p. glue k p q)) l) (map (inside (pair k r)) m ++ whole t k s)
    (inside_keep r s (λ p. glue k p q) (λ p e. in_left k r p q e) l h)
    (all_append (Keeps s) (map (inside (pair k r)) m) (whole t k s)
    (inside_keep q s (pair k r) (λ p e. in_right k q p r e) m g) (whole_keep t k s))

places_keep : (t : Option Kind) (r : Node) → Positive (groups r) → All (Keeps r) (places t r)
unfolding places groups
places_keep t empty p = (λ q h. h, tt)
places_keep t (bset s) p = (λ q h. h, tt)
places_keep t (assert a) p = (λ q h. h, tt)
places_keep t (group k r) p = let l : List Place = places none r in let s : Node = group k r in
    all_append (Keeps s) (map (inside (group k)) l) (itself s ∷ [])
    (inside_keep r s (group k) (λ q e. in_group k r q e) l (places_keep none r p.1)) (λ q h. h, tt)
places_keep t (seq r q) p = let (a, b) = positive_both (groups r) (groups q) p in
    pair_keep t sequence r q (places none r) (places (some sequence) q) (places_keep none r a) (places_keep (some sequence) q b)
places_keep t (alt r q) p = let (a, b) = positive_both (groups r) (groups q) p in
    pair_keep t alternation r q (places none r) (places (some alternation) q) (places_keep none r a)
    (places_keep (some alternation) q b)
places_keep t (many n e lazy r) p = let l : List Place = places none r in let s : Node = many n e lazy r in
    all_append (Keeps s) (map (inside (many n e lazy)) l) (itself s ∷ [])
    (inside_keep r s (many n e lazy) (λ q h. in_many n e lazy r q p h) l (places_keep none r p)) (λ q h. h, tt)

found_kept : (r : Node) → Positive (groups r) → Ok (λ t. Kept r t.1.1) (found r)
unfolding found
found_kept r p = ok_first (λ t. Kept r t.1) _ 1 (places none r)
    (all_imp (Keeps r) _ (λ o f. ok_map (λ t. Kept r t.1) (λ t. Kept o.part t.1) (λ t. (t.0, o.put t.1))
    (λ t h. f t.1 h) (lowest o.part) (lowest_kept o.part)) (places none r) (places_keep none r p))

-- A step of the tidier keeps what a law does.
pub step_kept : (r : Node) → Positive (groups r) → Ok (Kept r) (tidy_step r)
unfolding tidy_step
step_kept r p = ok_map (Kept r) (λ t. Kept r t.1.1) (λ t. t.1.1) (λ t h. h) (found r) (found_kept r p)
