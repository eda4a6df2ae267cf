-- Each law inside any surrounding pattern: what a part becomes is alike there, and the standard's algorithm answers the same.
use Rattle.std.specs.Prelude.{◌≡◌}
use Rattle.std.proofs.Common.{subst, arith}
use Rattle.std.proofs.Math.Option.{some}
use Rattle.meaning.specs.Node.{Node}
use Rattle.meaning.specs.All.{All}
use Rattle.tidying_laws.specs.Groups.{groups, Positive, positive, positive_both}
use Rattle.tidying_laws.specs.Alike.{Alike}
use Rattle.tidying_laws.specs.Around.{Around, Around.here, Around.in_group, Around.before, Around.after, Around.above}
use Rattle.tidying_laws.specs.Around.{Around.below, Around.in_many, fill, anywhere, same_match, same_search}
use Rattle.tidying_laws.specs.Kept.{Ok}
use Rattle.tidying_laws.specs.List.{laws, becomes}
use Rattle.tidying_laws.proofs.List.{Law, each_law, each_words}
use Rattle.tidying_laws.specs.Anywhere.{SameAnywhere}

-- By the words of a law a part becomes one that is alike, inside any surrounding pattern;
pub laws_alike : All (λ W. (r q : Node) → W r q → Positive (groups r) → (a : Around) → Alike (fill a r) (fill a q)) becomes
laws_alike = each_words _ (λ l r q h p a. anywhere a (l.holds r q h p))

-- No group of a part is group 0, if none of the whole is.
part_positive : (a : Around) (r : Node) → Positive (groups (fill a r)) → Positive (groups r)
unfolding fill groups
part_positive here r p = p
part_positive (in_group k a) r p = part_positive a r p.1
part_positive (before a q) r p = part_positive a r (positive_both (groups (fill a r)) (groups q) p).0
part_positive (after q a) r p = part_positive a r (positive_both (groups q) (groups (fill a r)) p).1
part_positive (above a q) r p = part_positive a r (positive_both (groups (fill a r)) (groups q) p).0
part_positive (below q a) r p = part_positive a r (positive_both (groups q) (groups (fill a r)) p).1
part_positive (in_many n e lazy a) r p = part_positive a r p

same_there : (l : Law) (r q : Node) → l.words r q → SameAnywhere r q
same_there l r q h a n k w fair g i b =
    let p : Positive (groups r) = part_positive a r (positive (fill a r) 1 n (omega arith) k) in
    let s : Alike (fill a r) (fill a q) = anywhere a (l.holds r q h p) in
    (same_match s n k w fair g i b, same_search s n k w fair g i b)

pub laws_anywhere : All (λ W. (r q : Node) → W r q → SameAnywhere r q) becomes
laws_anywhere = each_words _ same_there

-- So it does with what a law makes of a part.
pub made_anywhere : All (λ f. (r q : Node) → f r ≡ some q → SameAnywhere r q) laws
made_anywhere = each_law _ (λ l r q e. same_there l r q (subst (Ok (l.words r)) e (l.exact.only r)))
