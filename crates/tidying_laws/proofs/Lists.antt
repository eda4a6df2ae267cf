-- The laws that speak of items and of alternatives, on lists of them: T1, T6, T7, T8.
use Rattle.std.specs.Prelude.{◌≡◌, Bool, true, List, [], ◌∷◌, ◌++◌, map, ◌≤◌, length}
use Rattle.std.proofs.Common.{sym, subst, ◌∙◌, arith}
use Rattle.std.proofs.Math.Bool.{or-true}
use Rattle.meaning.specs.Node.{Node, Node.bset}
use Rattle.tidying_laws.specs.Choices.{any}
use Rattle.tidying_laws.specs.Groups.{groups, Positive, group_free, free_groups, free_positive}
use Rattle.tidying_laws.specs.Alike.{Alike, alike}
use Rattle.tidying_laws.specs.Equal.{same, same_refl}
use Rattle.meaning.specs.Flat.{Kind, Kind.sequence, Kind.alternation, join, of_items, of_alternatives}
use Rattle.tidying_laws.specs.Measures.{groups_of, groups_join}
use Rattle.tidying_laws.specs.Laws.{is_void}
use Rattle.tidying_laws.specs.Words.{EmptyItem, EqualAlternative, VoidAlternative, VoidItem, SameFirst, rest}
use Rattle.tidying_laws.specs.Alternatives.{Trimmed, trimmed_order, one_more, past, several_more, equal_gone, void_gone}
use Rattle.tidying_laws.proofs.Runs.{glues_join}
use Rattle.tidying_laws.proofs.Shared.{leads_share, shares_trimmed}
use Rattle.tidying_laws.specs.Items.{Filled, runs_order, others_filled, dead, dead_order}

-- What a law makes of a list of two or more parts is alike.
abbrev pub AlikeOn : Kind → (List Node → List Node → Type 0) → Type 1
AlikeOn k L = (l m : List Node) → 2 ≤ length l → L l m → Positive (groups_of l) → Alike (join k l) (join k m)

positive_join : (k : Kind) (l : List Node) → Positive (groups_of l) → Positive (groups (join k l))
positive_join k l h = subst Positive (sym (groups_join k l)) h

same_groups : (k : Kind) (l m : List Node) → groups_of l ≡ groups_of m → groups (join k l) ≡ groups (join k m)
same_groups k l m e = groups_join k l ∙ e ∙ sym (groups_join k m)

-- T1: empty items leave a sequence.
pub T1 : AlikeOn sequence EmptyItem
T1 l m two h p = let f : Filled l m = others_filled l m h.3 in
    alike (positive_join sequence l p) (same_groups sequence l m f.numbers) (runs_order l m f.like)

trimmed_alike : (l m : List Node) → 2 ≤ length l → Positive (groups_of l) → Trimmed [] l m
    → Alike (of_alternatives l) (of_alternatives m)
trimmed_alike l m two p t =
    alike (positive_join alternation l p) (same_groups alternation l m t.numbers)
    (trimmed_order l m (omega arith) (t.some_left two) t)

-- T6: an alternative equal to an earlier one goes.
pub T6 : AlikeOn alternation EqualAlternative
T6 l m two h p = let (a, b, c, r, e, g, f) = h in let seen : List Node = past a [] in
    trimmed_alike l m two p (rw (e, f)
    (several_more a [] (r ∷ (b ++ r ∷ c)) (r ∷ (b ++ c)) (one_more seen (b ++ r ∷ c) (b ++ c) r
    (several_more b (r ∷ seen) (r ∷ c) c
    (equal_gone (past b (r ∷ seen)) c r g (still_seen r b (r ∷ seen) (rw (same_refl r))))))))
  where
    still_seen : (r : Node) (b seen : List Node) → any (same r) seen ≡ true → any (same r) (past b seen) ≡ true
    still_seen r [] seen e = e
    still_seen r (q ∷ b) seen e = still_seen r b (q ∷ seen) (rw e (or-true (same r q)))

-- T7: an empty set goes from an alternation with another alternative,
pub T7 : AlikeOn alternation VoidAlternative
T7 l m two h p = let (a, b, v, f) = h in let (s, e, n) = v in
    trimmed_alike l m two p (rw (e, f) (several_more a [] (bset s ∷ b) b (void_gone (past a []) b s n)))

-- and a sequence with no group that holds one becomes it.
pub any_has : (p : Node → Bool) (a b : List Node) (r : Node) → p r ≡ true → any p (a ++ r ∷ b) ≡ true
any_has p [] b r h = rw h
any_has p (q ∷ a) b r h = rw (any_has p a b r h) (or-true (p q))

pub T7-sequence : (l m : List Node) → VoidItem l m → group_free (of_items l) ≡ true → Alike (of_items l) (of_items m)
unfolding groups
T7-sequence l m h g = let (a, b, v, f) = h in let (s, e, n) = v in
    rw f (alike (free_positive (of_items l) g) (free_groups (of_items l) g)
    (dead_order l (dead l (rw e (any_has is_void a b (bset s) n)))))

-- T8: two or more adjacent alternatives whose first item is the same byte set share it.
pub T8 : AlikeOn alternation SameFirst
T8 l m two h t = let (a, b, p, q, run, s, e, leads, left, stop, f) = h in
    trimmed_alike l m two t (rw (e, f, ← glues_join (rest p) (map rest (q ∷ run)))
    (several_more a [] (p ∷ q ∷ (run ++ b)) _ (shares_trimmed (past a []) s (p ∷ q ∷ (run ++ b))
    (rest p) (rest q) (map rest run) b (leads_share s (p ∷ q ∷ run) b leads))))
