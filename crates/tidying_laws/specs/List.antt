-- The tidier's laws in the order of their numbers: what each makes, and the outline's words for it. proofs/List.antt has the same list
-- with the proofs of each law.
use Rattle.std.proofs.Math.Option.{Option}
use Rattle.std.specs.Prelude.{List, [], ◌∷◌, map}
use Rattle.meaning.specs.Node.{Node}
use Rattle.tidying_laws.specs.Laws.{t1, t2, t3, t4, t5, t6, t7, t8, t9, t10}
use Rattle.meaning.specs.Flat.{Kind.sequence, Kind.alternation}
use Rattle.tidying_laws.specs.Words.{OnParts, EmptyItem, OnceOrNever, ManyEmpty, ManyAssertion, LoopOfLoops}
use Rattle.tidying_laws.specs.Words.{EqualAlternative, EmptySet, SameFirst, OptionOfOption, LoopOnceOfLoops}

-- What each law makes; the words of each; and to which parts those apply: to such as become something.
unfoldable pub laws : List (Node → Option Node)
laws = t1 ∷ t2 ∷ t3 ∷ t4 ∷ t5 ∷ t6 ∷ t7 ∷ t8 ∷ t9 ∷ t10 ∷ []

unfoldable pub becomes : List (Node → Node → Type 0)
becomes =
    OnParts sequence EmptyItem
    ∷ OnceOrNever
    ∷ ManyEmpty
    ∷ ManyAssertion
    ∷ LoopOfLoops
    ∷ OnParts alternation EqualAlternative
    ∷ EmptySet
    ∷ OnParts alternation SameFirst
    ∷ OptionOfOption
    ∷ LoopOnceOfLoops
    ∷ []

unfoldable pub words : List (Node → Type 0)
unfolding becomes
words = map (λ W r. (q : Node) × W r q) becomes
