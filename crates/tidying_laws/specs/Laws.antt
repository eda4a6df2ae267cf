-- The tidier's laws T1 to T10: what each makes of a part that it fits. Definitions only.
use Rattle.std.specs.Prelude.{Bool, true, false, cond, not, ◌&&◌, ◌||◌, List, [], ◌∷◌, ℕ, eqb}
use Rattle.std.specs.Bool.{beq}
use Rattle.std.proofs.Math.Option.{Option, none, some, map}
use Rattle.meaning.specs.Node.{Node, Node.empty, Node.bset, Node.assert, Node.group, Node.seq, Node.alt, Node.many}
use Rattle.meaning.specs.Results.{or_else}
use Rattle.tidying_laws.specs.Choices.{any}
use Rattle.tidying_laws.specs.Groups.{group_free}
use Rattle.tidying_laws.specs.Void.{no_bytes, void}
use Rattle.tidying_laws.specs.Quantified.{absorbed}
use Rattle.tidying_laws.specs.Equal.{same}
use Rattle.meaning.specs.Flat.{Kind, Kind.sequence, Kind.alternation, parts, items, of_items, of_alternatives, glue}

-- A result where a test passes.
abbrev pub when : {A : Type 0} → Bool → A → Option A
when b a = cond b (some a) none

-- A law for the parts of a kind, where a pattern has two or more.
abbrev pub two : {A : Type 0} → (List Node → Option A) → List Node → Option A
two f [] = none
two f (r ∷ []) = none
two f (r ∷ q ∷ l) = f (r ∷ q ∷ l)

abbrev pub on_parts : Kind → (List Node → Option Node) → Node → Option Node
on_parts k f r = two f (parts k r)

-- A law that makes one list of alternatives into another.
abbrev pub on_alternatives : (List Node → Option (List Node)) → Node → Option Node
on_alternatives f = on_parts alternation (λ l. map of_alternatives (f l))

-- A law for a quantifier, and one for an assertion.
abbrev pub on_many : (ℕ → Option ℕ → Bool → Node → Option Node) → Node → Option Node
on_many f empty = none
on_many f (bset s) = none
on_many f (assert a) = none
on_many f (group k r) = none
on_many f (seq r q) = none
on_many f (alt r q) = none
on_many f (many n e lazy r) = f n e lazy r

abbrev pub on_assert : (ℕ → Option Node) → Node → Option Node
on_assert f empty = none
on_assert f (bset s) = none
on_assert f (assert a) = f a
on_assert f (group k r) = none
on_assert f (seq r q) = none
on_assert f (alt r q) = none
on_assert f (many n e lazy r) = none

-- Whether a quantifier's counts are these: the minimum, and what may be added to it.
abbrev pub same_more : Option ℕ → Option ℕ → Bool
same_more none none = true
same_more none (some e) = false
same_more (some e) none = false
same_more (some e) (some f) = eqb e f

abbrev pub counts : ℕ → Option ℕ → ℕ → Option ℕ → Bool
counts n e m f = eqb n m && same_more e f

-- T1: empty items leave a sequence.
abbrev pub is_empty : Node → Bool
is_empty r = same r empty

unfoldable pub filled : List Node → List Node
filled [] = []
filled (r ∷ l) = cond (is_empty r) (filled l) (r ∷ filled l)

abbrev pub t1 : Node → Option Node
t1 = on_parts sequence (λ l. when (any is_empty l) (of_items (filled l)))

-- T2: r{1} is r, and r{0} is empty.
abbrev pub t2 : Node → Option Node
t2 = on_many (λ n e lazy r.
    or_else (when (counts n e 1 (some 0) && group_free r) r) (when (counts n e 0 (some 0) && group_free r) empty))

-- T3: a quantified empty is empty.
abbrev pub t3 : Node → Option Node
t3 = on_many (λ n e lazy r. when (is_empty r) empty)

-- T4: an assertion with a minimum of 0 is empty, with one of 1 or more it is itself.
abbrev pub t4 : Node → Option Node
t4 = on_many (λ n e lazy. on_assert (λ a. some (cond (eqb n 0) empty (assert a))))

-- T5: (?:r*)* and (?:r*?)* are r*; (?:r*?)*? is r*?.
abbrev pub t5 : Node → Option Node
t5 = on_many (λ n e lazy. on_many (λ m f inner r.
    when (counts n e 0 none && counts m f 0 none && absorbed inner lazy && group_free r) (many 0 none lazy r)))

-- T6: the first alternative that is equal to an earlier one goes.
unfoldable pub distinct : List Node → List Node → Option (List Node)
distinct seen [] = none
distinct seen (r ∷ l) = cond (group_free r && any (same r) seen) (some l) (map (λ m. r ∷ m) (distinct (r ∷ seen) l))

abbrev pub t6 : Node → Option Node
t6 = on_alternatives (distinct [])

-- The byte set that a part is, unquantified; and whether it has no byte.
abbrev pub byte_set : Node → Option (List ℕ)
byte_set empty = none
byte_set (bset s) = some s
byte_set (assert a) = none
byte_set (group k r) = none
byte_set (seq r q) = none
byte_set (alt r q) = none
byte_set (many n e lazy r) = none

abbrev pub is_void : Node → Bool
is_void r = elim (byte_set r) [ none ↦ false | some s ↦ no_bytes s ]

-- T7: the first alternative that is an empty set goes; a sequence with no group that holds one becomes it.
unfoldable pub possible : List Node → Option (List Node)
possible [] = none
possible (r ∷ l) = cond (is_void r) (some l) (map (λ m. r ∷ m) (possible l))

abbrev pub impossible : Node → Option Node
impossible r = on_parts sequence (λ l. when (group_free r && any is_void l) (bset void)) r

abbrev pub t7 : Node → Option Node
t7 r = or_else (on_alternatives possible r) (impossible r)

-- T8. The byte set that is the first item of a pattern, and what is left of a pattern whose first item is s.
abbrev pub first_set : List Node → Option (List ℕ)
first_set [] = none
first_set (t ∷ l) = byte_set t

abbrev pub rest_of : List ℕ → List Node → Option Node
rest_of s [] = none
rest_of s (t ∷ l) = when (same t (bset s)) (of_items l)

-- The longest run, at the front of a list, of alternatives whose first item is s: what is left of each, and what comes after.
abbrev pub Run : Type 0
Run = List Node × List Node

abbrev pub extend : Option Node → Node → List Node → Run → Run
extend none r l t = ([], r ∷ l)
extend (some p) r l t = (p ∷ t.0, t.1)

unfoldable pub run : List ℕ → List Node → Run
run s [] = ([], [])
run s (r ∷ l) = extend (rest_of s (items r)) r l (run s l)

-- One alternation of what is left, which may be alternations.
unfoldable pub glues : Node → List Node → Node
glues p [] = p
glues p (q ∷ l) = glue alternation p (glues q l)

-- A run of two or more shares its first item; the leftmost one does.
abbrev pub shared : List ℕ → List Node → List Node → Option (List Node)
shared s [] m = none
shared s (p ∷ []) m = none
shared s (p ∷ q ∷ l) m = some (seq (bset s) (glues p (q ∷ l)) ∷ m)

abbrev pub shared_at : Option (List ℕ) → List Node → Option (List Node)
shared_at none l = none
shared_at (some s) l = shared s (run s l).0 (run s l).1

unfoldable pub share : List Node → Option (List Node)
share [] = none
share (r ∷ l) = or_else (shared_at (first_set (items r)) (r ∷ l)) (map (λ m. r ∷ m) (share l))

abbrev pub t8 : Node → Option Node
t8 = on_alternatives share

-- T9: (?:r?)? is r?; (?:r??)?? is r??.
abbrev pub t9 : Node → Option Node
t9 = on_many (λ n e lazy. on_many (λ m f inner r.
    when (counts n e 0 (some 1) && counts m f 0 (some 1) && beq lazy inner && group_free r) (many 0 (some 1) lazy r)))

-- T10: (?:r*)+ is r*, both greedy.
abbrev pub t10 : Node → Option Node
t10 = on_many (λ n e lazy. on_many (λ m f inner r.
    when (counts n e 1 none && counts m f 0 none && not (lazy || inner) && group_free r) (many 0 none false r)))
