-- The tidier's laws as one list, in the order of their numbers, each with its proofs. What the tidier applies and what its promises
-- say is in specs/List.antt; `each_law` and `each_words` hold only while both files say the same laws in the same order.
use Rattle.std.proofs.Math.Option.{Option}
use Rattle.std.specs.Prelude.{List, [], ◌∷◌, map}
use Rattle.meaning.specs.Node.{Node}
use Rattle.tidying_laws.specs.List.{laws, becomes}
use Rattle.tidying_laws.specs.Laws.{t1, t2, t3, t4, t5, t6, t7, t8, t9, t10}
use Rattle.meaning.specs.Flat.{Kind.sequence, Kind.alternation}
use Rattle.tidying_laws.specs.Words.{OnParts, EmptyItem, OnceOrNever, ManyEmpty, ManyAssertion, LoopOfLoops}
use Rattle.tidying_laws.specs.Words.{EqualAlternative, EmptySet, SameFirst, OptionOfOption, LoopOnceOfLoops}
use Rattle.meaning.specs.All.{All}
use Rattle.tidying_laws.specs.Kept.{Ok, Kept}
use Rattle.tidying_laws.specs.Alternatives.{t6_kept}
use Rattle.tidying_laws.proofs.Shared.{t8_kept}
use Rattle.tidying_laws.specs.Items.{t1_kept, t7_kept}
use Rattle.tidying_laws.proofs.Quantifiers.{t2_kept, t3_kept, t4_kept, t5_kept, t9_kept, t10_kept}
use Rattle.tidying_laws.specs.Holds.{Holds}
use Rattle.tidying_laws.proofs.Holds.{t1_holds, t2_holds, t3_holds, t4_holds, t5_holds, t6_holds, t7_holds}
use Rattle.tidying_laws.proofs.Holds.{t8_holds, t9_holds, t10_holds}
use Rattle.tidying_laws.specs.Exact.{Exact}
use Rattle.tidying_laws.proofs.Exact.{t1_exact, t2_exact, t3_exact, t4_exact, t5_exact, t6_exact, t7_exact}
use Rattle.tidying_laws.proofs.Exact.{t8_exact, t9_exact, t10_exact}

-- A law: what it makes of a part, the outline's words for it, that it makes exactly that, that those hold, and what it keeps.
pub record Law : Type 1 where
  pub makes : Node → Option Node
  pub words : Node → Node → Type 0
  pub exact : Exact makes words
  pub holds : Holds words
  pub kept : (r : Node) → Ok (Kept r) (makes r)

abbrev pub law : (f : Node → Option Node) (W : Node → Node → Type 0) → Exact f W → Holds W
    → ((r : Node) → Ok (Kept r) (f r)) → Law
law f W e h k = record { makes = f; words = W; exact = e; holds = h; kept = k }

unfoldable pub list : List Law
list =
    law t1 (OnParts sequence EmptyItem) t1_exact t1_holds t1_kept
    ∷ law t2 OnceOrNever t2_exact t2_holds t2_kept
    ∷ law t3 ManyEmpty t3_exact t3_holds t3_kept
    ∷ law t4 ManyAssertion t4_exact t4_holds t4_kept
    ∷ law t5 LoopOfLoops t5_exact t5_holds t5_kept
    ∷ law t6 (OnParts alternation EqualAlternative) t6_exact t6_holds t6_kept
    ∷ law t7 EmptySet t7_exact t7_holds t7_kept
    ∷ law t8 (OnParts alternation SameFirst) t8_exact t8_holds t8_kept
    ∷ law t9 OptionOfOption t9_exact t9_holds t9_kept
    ∷ law t10 LoopOnceOfLoops t10_exact t10_holds t10_kept
    ∷ []

-- What every law is or keeps holds of what each makes, and of the words of each.
each {ι κ} : {A : Type ι} (f : Law → A) (P : A → Type κ) → ((l : Law) → P (f l)) → (l : List Law) → All P (map f l)
each f P h [] = tt
each f P h (x ∷ l) = (h x, each f P h l)

pub each_law {κ} : (P : (Node → Option Node) → Type κ) → ((l : Law) → P l.makes) → All P laws
unfolding laws list
each_law P h = each (λ l. l.makes) P h list

pub each_words {κ} : (P : (Node → Node → Type 0) → Type κ) → ((l : Law) → P l.words) → All P becomes
unfolding becomes list
each_words P h = each (λ l. l.words) P h list
