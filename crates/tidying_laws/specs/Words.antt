-- The outline's words for each law: what a part becomes, r the part and q what it becomes. Where a law speaks of items or of
-- alternatives they are lists, l and m. Definitions only.
use Rattle.std.specs.Prelude.{◌≡◌, ◌⊎◌, Bool, true, false, List, [], ◌∷◌, ◌++◌, map, ℕ, ◌≤◌, length, drop}
use Rattle.std.proofs.Math.Option.{Option, none, some}
use Rattle.meaning.specs.Node.{Node, Node.empty, Node.bset, Node.assert, Node.seq, Node.many}
use Rattle.meaning.specs.Results.{concat_map}
use Rattle.meaning.specs.All.{All}
use Rattle.meaning.specs.Flat.{Kind, Kind.sequence, Kind.alternation, parts, join, items, alternatives, of_items, of_alternatives}
use Rattle.tidying_laws.specs.Groups.{group_free}
use Rattle.tidying_laws.specs.Void.{no_bytes, void}
use Rattle.tidying_laws.specs.Quantified.{absorbed}

-- A law on the items of a sequence, or on the alternatives of an alternation, of which there are two or more.
abbrev pub OnParts : Kind → (List Node → List Node → Type 0) → Node → Node → Type 0
OnParts k L r q = (m : List Node) × (2 ≤ length (parts k r)) × L (parts k r) m × (q ≡ join k m)

-- What is left of a list without its empty items: the other items, in order.
abbrev pub Others : List Node → List Node → Type 0
Others [] m = m ≡ []
Others (r ∷ l) m = ((r ≡ empty) × Others l m) ⊎ ((k : List Node) × (r ≡ empty → ⊥) × Others l k × (m ≡ r ∷ k))

-- T1: empty items leave a sequence.
abbrev pub EmptyItem : List Node → List Node → Type 0
EmptyItem l m = (a : List Node) × (b : List Node) × (l ≡ a ++ empty ∷ b) × Others l m

-- r is p{n}, and p has no group.
abbrev pub Times : ℕ → Node → Node → Type 0
Times n r p = (lazy : Bool) × (r ≡ many n (some 0) lazy p) × (group_free p ≡ true)

-- T2: p{1} is p; p{0} is empty.
abbrev pub OnceOrNever : Node → Node → Type 0
OnceOrNever r q = Times 1 r q ⊎ ((p : Node) × Times 0 r p × (q ≡ empty))

-- T3: a quantified empty is empty.
abbrev pub ManyEmpty : Node → Node → Type 0
ManyEmpty r q = (n : ℕ) × (e : Option ℕ) × (lazy : Bool) × (r ≡ many n e lazy empty) × (q ≡ empty)

-- T4: an assertion with min 0 is empty, with min 1 or more is itself.
abbrev pub EmptyOrItself : ℕ → ℕ → Node → Type 0
EmptyOrItself n a q = ((n ≡ 0) × (q ≡ empty)) ⊎ ((1 ≤ n) × (q ≡ assert a))

abbrev pub ManyAssertion : Node → Node → Type 0
ManyAssertion r q = (n : ℕ) × (e : Option ℕ) × (lazy : Bool) × (a : ℕ) × (r ≡ many n e lazy (assert a)) × EmptyOrItself n a q

-- T5: (?:p*)* and (?:p*?)* are p*; (?:p*?)*? is p*?.
abbrev pub LoopOfLoops : Node → Node → Type 0
LoopOfLoops r q = (inner : Bool) × (outer : Bool) × (p : Node) × (r ≡ many 0 none outer (many 0 none inner p))
    × (absorbed inner outer ≡ true) × (group_free p ≡ true) × (q ≡ many 0 none outer p)

-- T6: an alternative equal to an earlier one goes.
abbrev pub EqualAlternative : List Node → List Node → Type 0
EqualAlternative l m = (a : List Node) × (b : List Node) × (c : List Node) × (p : Node)
    × (l ≡ a ++ p ∷ (b ++ p ∷ c)) × (group_free p ≡ true) × (m ≡ a ++ p ∷ (b ++ c))

-- An empty set stands in a list, between a and b.
abbrev pub VoidIn : List Node → List Node → List Node → Type 0
VoidIn l a b = (s : List ℕ) × (l ≡ a ++ bset s ∷ b) × (no_bytes s ≡ true)

-- T7: an empty set goes from an alternation with another alternative; a group-free sequence holding it becomes it.
abbrev pub VoidAlternative : List Node → List Node → Type 0
VoidAlternative l m = (a : List Node) × (b : List Node) × VoidIn l a b × (m ≡ a ++ b)

abbrev pub VoidItem : List Node → List Node → Type 0
VoidItem l m = (a : List Node) × (b : List Node) × VoidIn l a b × (m ≡ bset void ∷ [])

abbrev pub EmptySet : Node → Node → Type 0
EmptySet r q = OnParts alternation VoidAlternative r q ⊎ ((group_free r ≡ true) × OnParts sequence VoidItem r q)

-- An alternative's first item is the byte set s, unquantified; and what is left of the alternative without its first item.
abbrev pub Leads : List ℕ → Node → Type 0
Leads s p = (k : List Node) × (items p ≡ bset s ∷ k)

abbrev pub rest : Node → Node
rest p = of_items (drop 1 (items p))

-- Two adjacent alternatives begin with the same set.
abbrev pub Adjacent : List Node → Type 0
Adjacent l = (a : List Node) × (b : List Node) × (p : Node) × (q : Node) × (s : List ℕ)
    × (l ≡ a ++ p ∷ q ∷ b) × Leads s p × Leads s q

-- Alternatives do not begin with the set s: there are none, or the first one does not.
abbrev pub Stops : List ℕ → List Node → Type 0
Stops s [] = Unit {0}
Stops s (p ∷ l) = Leads s p → ⊥

-- T8: the leftmost longest run of two or more adjacent alternatives whose first item is the same byte set shares it. Up to it no
-- two begin with the same set, what follows does not begin with its set, and alternations in the rests give their alternatives.
abbrev pub SameFirst : List Node → List Node → Type 0
SameFirst l m = (a : List Node) × (b : List Node) × (p : Node) × (q : Node) × (run : List Node) × (s : List ℕ)
    × (l ≡ a ++ p ∷ q ∷ (run ++ b)) × All (Leads s) (p ∷ q ∷ run) × (Adjacent (a ++ p ∷ []) → ⊥) × Stops s b
    × (m ≡ a ++ seq (bset s) (of_alternatives (concat_map alternatives (map rest (p ∷ q ∷ run)))) ∷ b)

-- T9: (?:p?)? is p?; (?:p??)?? is p??.
abbrev pub OptionOfOption : Node → Node → Type 0
OptionOfOption r q = (lazy : Bool) × (p : Node) × (r ≡ many 0 (some 1) lazy (many 0 (some 1) lazy p)) × (group_free p ≡ true)
    × (q ≡ many 0 (some 1) lazy p)

-- T10: (?:p*)+ is p*, both greedy.
abbrev pub LoopOnceOfLoops : Node → Node → Type 0
LoopOnceOfLoops r q = (p : Node) × (r ≡ many 1 none false (many 0 none false p)) × (group_free p ≡ true)
    × (q ≡ many 0 none false p)
