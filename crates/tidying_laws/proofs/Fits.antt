-- A law fits wherever its words apply.
use Rattle.std.specs.Prelude.{◌≡◌, Bool, true, false, cond, ◌&&◌, List, [], ◌∷◌, ◌++◌, ℕ, ◌≤◌, length}
use Rattle.std.proofs.Common.{inl, inr, arith}
use Rattle.std.proofs.Math.Bool.{or-true}
use Rattle.std.proofs.Math.Option.{Option, none, some, map, IsSome}
use Rattle.sets.specs.Bits.{beq_refl}
use Rattle.meaning.specs.Node.{Node, Node.empty, Node.bset}
use Rattle.meaning.specs.Results.{or_else}
use Rattle.tidying_laws.specs.Choices.{any}
use Rattle.tidying_laws.specs.Groups.{group_free}
use Rattle.tidying_laws.specs.Void.{void, no_bytes}
use Rattle.tidying_laws.specs.Equal.{same, same_refl}
use Rattle.meaning.specs.Flat.{Kind, Kind.sequence, Kind.alternation, parts, items, of_items, of_alternatives}
use Rattle.tidying_laws.specs.Laws.{two, on_parts, on_alternatives, when, is_empty, is_void, filled, distinct, possible, impossible}
use Rattle.tidying_laws.specs.Laws.{first_set, run, shared_at, share}
use Rattle.tidying_laws.specs.Laws.{t1, t2, t3, t4, t5, t6, t7, t8, t9, t10}
use Rattle.tidying_laws.proofs.Lists.{any_has}
use Rattle.tidying_laws.specs.Words.{OnParts, EmptyItem, OnceOrNever, ManyEmpty, ManyAssertion, LoopOfLoops}
use Rattle.tidying_laws.specs.Words.{EqualAlternative, VoidAlternative, VoidItem, EmptySet, Leads, SameFirst}
use Rattle.tidying_laws.specs.Words.{OptionOfOption, LoopOnceOfLoops}

module _ {A : Type 0} where
  some_cond : (b : Bool) (o p : Option A) → IsSome o → IsSome p → IsSome (cond b o p)
  some_cond true o p h g = h
  some_cond false o p h g = g

  some_map : {B : Type 0} (f : A → B) (o : Option A) → IsSome o → IsSome (map f o)
  some_map f none h = h
  some_map f (some a) h = h

  some_first : (o p : Option A) → IsSome o → IsSome (or_else o p)
  some_first none p h = absurd h
  some_first (some a) p h = tt

  some_else : (o p : Option A) → IsSome p → IsSome (or_else o p)
  some_else none p h = h
  some_else (some a) p h = tt

-- A law on lists fits a pattern whose parts are such a list.
on_list : (k : Kind) (L : List Node → List Node → Type 0) (f : List Node → Option Node)
    → ((l m : List Node) → L l m → IsSome (f l)) → (r q : Node) → OnParts k L r q → IsSome (on_parts k f r)
on_list k L f h r q w = let (m, many, x, e) = w in from (parts k r) many (h (parts k r) m x)
  where
    from : (l : List Node) → 2 ≤ length l → IsSome (f l) → IsSome (two f l)
    from [] h s = absurd (omega arith)
    from (r ∷ []) h s = absurd (omega arith)
    from (r ∷ q ∷ l) h s = s

pub t1_fits : (r q : Node) → OnParts sequence EmptyItem r q → IsSome (t1 r)
t1_fits = on_list sequence EmptyItem (λ l. when (any is_empty l) (of_items (filled l))) (λ l m h. let (a, b, e, o) = h in
    rw (e, any_has is_empty a b empty (same_refl empty)) tt)

pub t2_fits : (r q : Node) → OnceOrNever r q → IsSome (t2 r)
t2_fits r q (inl h) = rw (h.1, h.2) tt
t2_fits r q (inr h) = rw (h.1.1, h.1.2) tt

pub t3_fits : (r q : Node) → ManyEmpty r q → IsSome (t3 r)
t3_fits r q h = rw (h.3, same_refl empty) tt

pub t4_fits : (r q : Node) → ManyAssertion r q → IsSome (t4 r)
t4_fits r q h = rw h.4 tt

pub t5_fits : (r q : Node) → LoopOfLoops r q → IsSome (t5 r)
t5_fits r q h = rw (h.3, h.4, h.5) tt

pub t9_fits : (r q : Node) → OptionOfOption r q → IsSome (t9 r)
t9_fits r q h = rw (h.2, h.3, beq_refl h.0) tt

pub t10_fits : (r q : Node) → LoopOnceOfLoops r q → IsSome (t10 r)
t10_fits r q h = rw (h.1, h.2) tt

-- An alternative that is equal to one that was seen, and to one before it.
later_fits : (seen b m : List Node) (r : Node) → group_free r ≡ true → any (same r) seen ≡ true
    → IsSome (distinct seen (b ++ r ∷ m))
unfolding distinct
later_fits seen [] m r p h = rw (p, h) tt
later_fits seen (q ∷ b) m r p h = let l : List Node = b ++ r ∷ m in
    some_cond (group_free q && any (same q) seen) (some l) (map (λ l. q ∷ l) (distinct (q ∷ seen) l)) tt
    (some_map (λ l. q ∷ l) (distinct (q ∷ seen) l) (later_fits (q ∷ seen) b m r p (rw h (or-true (same r q)))))

equal_fits : (seen a b m : List Node) (r : Node) → group_free r ≡ true → IsSome (distinct seen (a ++ r ∷ (b ++ r ∷ m)))
unfolding distinct
equal_fits seen [] b m r p = let l : List Node = b ++ r ∷ m in
    some_cond (group_free r && any (same r) seen) (some l) (map (λ l. r ∷ l) (distinct (r ∷ seen) l)) tt
    (some_map (λ l. r ∷ l) (distinct (r ∷ seen) l) (later_fits (r ∷ seen) b m r p (rw (same_refl r))))
equal_fits seen (q ∷ a) b m r p = let l : List Node = a ++ r ∷ (b ++ r ∷ m) in
    some_cond (group_free q && any (same q) seen) (some l) (map (λ l. q ∷ l) (distinct (q ∷ seen) l)) tt
    (some_map (λ l. q ∷ l) (distinct (q ∷ seen) l) (equal_fits (q ∷ seen) a b m r p))

pub t6_fits : (r q : Node) → OnParts alternation EqualAlternative r q → IsSome (t6 r)
t6_fits = on_list alternation EqualAlternative (λ l. map of_alternatives (distinct [] l)) (λ l m h. let (a, b, c, p, e, g, f) = h in
    rw e (some_map of_alternatives (distinct [] (a ++ p ∷ (b ++ p ∷ c))) (equal_fits [] a b c p g)))

void_fits : (a b : List Node) (s : List ℕ) → no_bytes s ≡ true → IsSome (possible (a ++ bset s ∷ b))
unfolding possible
void_fits [] b s h = rw h tt
void_fits (q ∷ a) b s h = let l : List Node = a ++ bset s ∷ b in
    some_cond (is_void q) (some l) (map (λ l. q ∷ l) (possible l)) tt
    (some_map (λ l. q ∷ l) (possible l) (void_fits a b s h))

pub t7_fits : (r q : Node) → EmptySet r q → IsSome (t7 r)
t7_fits r q (inl h) = some_first (on_alternatives possible r) (impossible r)
    (on_list alternation VoidAlternative (λ l. map of_alternatives (possible l)) (λ l m h. let (a, b, v, f) = h in let (s, e, n) = v in
    rw e (some_map of_alternatives (possible (a ++ bset s ∷ b)) (void_fits a b s n))) r q h)
t7_fits r q (inr h) = some_else (on_alternatives possible r) (impossible r)
    (on_list sequence VoidItem (λ l. when (group_free r && any is_void l) (bset void)) (λ l m g. let (a, b, v, f) = g in let (s, e, n) = v in
    rw (h.0, e, any_has is_void a b (bset s) n) tt) r q h.1)

-- T8 finds something to share where two adjacent alternatives begin with the same set, first of all at the first two.
pub adjacent_shared : (p q : Node) (b : List Node) (s : List ℕ) → Leads s p → Leads s q
    → IsSome (shared_at (first_set (items p)) (p ∷ q ∷ b))
unfolding run
adjacent_shared p q b s h g = rw (h.1, h.1, g.1, same_refl (bset s)) tt

pub share_fits : (a b : List Node) (p q : Node) (s : List ℕ) → Leads s p → Leads s q → IsSome (share (a ++ p ∷ q ∷ b))
unfolding share
share_fits [] b p q s h g = let t : List Node = p ∷ q ∷ b in
    some_first (shared_at (first_set (items p)) t) (map (λ m. p ∷ m) (share (q ∷ b))) (adjacent_shared p q b s h g)
share_fits (x ∷ a) b p q s h g = let t : List Node = a ++ p ∷ q ∷ b in
    some_else (shared_at (first_set (items x)) (x ∷ t)) (map (λ m. x ∷ m) (share t))
    (some_map (λ m. x ∷ m) (share t) (share_fits a b p q s h g))

pub t8_fits : (r q : Node) → OnParts alternation SameFirst r q → IsSome (t8 r)
t8_fits = on_list alternation SameFirst (λ l. map of_alternatives (share l)) (λ l m h.
    let (a, b, p, q, run, s, e, leads, left, stop, f) = h in
    rw e (some_map of_alternatives (share (a ++ p ∷ q ∷ (run ++ b))) (share_fits a (run ++ b) p q s leads.0 leads.1.0)))
