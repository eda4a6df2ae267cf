-- T6 and T7: the leftmost alternative that a law looks for goes from an alternation. T7 makes a sequence the empty set.
use Rattle.std.specs.Prelude.{◌≡◌, refl, ◌&&◌, List, [], ◌∷◌, ◌++◌, length}
use Rattle.std.proofs.Common.{sym, ap, subst, ◌∙◌, arith}
use Rattle.std.proofs.Math.Option.{Option, none, some, map, map-map, none-ne-some, some-injective}
use Rattle.meaning.specs.Node.{Node, Node.empty, Node.bset, Node.assert, Node.group, Node.seq, Node.alt, Node.many}
use Rattle.meaning.specs.Flat.{Kind.sequence, Kind.alternation, parts, join}
use Rattle.table.specs.Table.{sequence_kind}
use Rattle.table.specs.Laws.{inner, kind_of}
use Rattle.tidying_laws.specs.Choices.{any}
use Rattle.tidying_laws.specs.Groups.{group_free}
use Rattle.tidying_laws.specs.Void.{void}
use Rattle.tidying_laws.specs.Laws.{when, two, is_void, distinct, possible, t6, t7}
use Rattle.tidying_laws.specs.Kept.{Ok, ok_test, ok_map, ok_when, ok_else, ok_two}
use Rattle.tidying_fitting.specs.Places.{Split, behind, Test, leftmost}
use Rattle.tidying_fitting.specs.Wants.{wants, without, distinct_leftmost, possible_leftmost}
use Rattle.tidying_fitting.specs.declared.Want.{Want}
use Rattle.tidying_fitting.specs.declared.Want.TheVariants.{Equal, Void}
use Rattle.tidying_shapes.specs.Skeleton.{token, row_token}
use Rattle.tidying_rewriting.specs.Rewriting.{Narrower, ok_same, narrower_same, ok_some}
use Rattle.tidying_rewriting.specs.Series.{SeriesOf, series_of}
use Rattle.tidying_rewriting.specs.Dropping.{dropping, without_wanted}

-- T6 is that law, and so is T7 on an alternation.
two_same : (f g : List Node → Option Node) → ((l : List Node) → f l ≡ g l) → (l : List Node) → two f l ≡ two g l
two_same f g h [] = refl
two_same f g h (r ∷ []) = refl
two_same f g h (r ∷ q ∷ l) = h (r ∷ q ∷ l)

distinct_drops : (l : List Node) → map (join alternation) (distinct [] l) ≡ without_wanted Equal l
distinct_drops l =
    ap (map (join alternation)) (distinct_leftmost [] l)
    ∙ map-map (join alternation) without (leftmost (wants Equal) [] l)

possible_drops : (l : List Node) → map (join alternation) (possible l) ≡ without_wanted Void l
possible_drops l =
    ap (map (join alternation)) (possible_leftmost [] l)
    ∙ map-map (join alternation) without (leftmost (wants Void) [] l)

pub t6_drops : Narrower t6 (dropping Equal)
t6_drops =
    let f : List Node → Option Node = λ l. map (join alternation) (distinct [] l) in
    narrower_same (λ x. two_same f (without_wanted Equal) distinct_drops (parts alternation x))

pub void_alternation : (x : Node) → (kind_of x ≡ sequence_kind → ⊥) → Ok (λ y. dropping Void x ≡ some y) (t7 x)
unfolding parts
void_alternation empty h = tt
void_alternation (bset s) h = tt
void_alternation (assert a) h = tt
void_alternation (group k r) h = tt
void_alternation (seq r q) h = absurd (h refl)
void_alternation (alt r q) h =
    let P : Node → Type 0 = λ y. dropping Void (alt r q) ≡ some y in
    let l : List Node = r ∷ parts alternation q in
    let f : List Node → Option Node = λ l. map (join alternation) (possible l) in
    ok_else P (two f l) none (ok_same (two f l) (dropping Void (alt r q)) (two_same f (without_wanted Void) possible_drops l)) tt
void_alternation (many n e lazy r) h = tt

-- T7 makes a sequence the empty set.
pub void_sequence : (x : Node) → kind_of x ≡ sequence_kind → Ok (λ y. y ≡ bset void) (t7 x)
unfolding parts
void_sequence empty h = absurd (omega arith)
void_sequence (bset s) h = absurd (omega arith)
void_sequence (assert a) h = absurd (omega arith)
void_sequence (group k r) h = absurd (omega arith)
void_sequence (seq r q) h =
    let P : Node → Type 0 = λ y. y ≡ bset void in
    let f : List Node → Option Node = λ l. when (group_free (seq r q) && any is_void l) (bset void) in
    let l : List Node = r ∷ parts sequence q in
    ok_two P f l (λ g. ok_when P (group_free (seq r q) && any is_void l) (bset void) (λ t. refl))
void_sequence (alt r q) h = absurd (omega arith)
void_sequence (many n e lazy r) h = absurd (omega arith)

-- The alternative that goes, and those before and behind it.
leftmost_parts : (test : Test) (seen l : List Node) → Ok (λ s. l ≡ s.front ++ (s.part ∷ s.more)) (leftmost test seen l)
unfolding leftmost
leftmost_parts test seen [] = tt
leftmost_parts test seen (r ∷ l) =
    let P : Split → Type 0 = λ s. r ∷ l ≡ s.front ++ (s.part ∷ s.more) in
    let Q : Split → Type 0 = λ s. l ≡ s.front ++ (s.part ∷ s.more) in
    let later : Option Split = leftmost test (r ∷ seen) l in
    ok_test P (test seen r) (some (record { front = []; part = r; more = l })) (map (behind r) later) (λ t. refl)
    (ok_map P Q (behind r) (λ s e. ap (λ m. r ∷ m) e) later (leftmost_parts test (r ∷ seen) l))

pub record Drop (want : Want) (x y : Node) : Type 0 where
  pub at : Split
  pub found : leftmost (wants want) [] (inner x) ≡ some at
  pub split : inner x ≡ at.front ++ (at.part ∷ at.more)
  pub result : join alternation (without at) ≡ y
  pub says : token x ≡ row_token alternation (length (inner x))
  pub all : inner x ≡ parts alternation x

pub drop_of : (want : Want) (x y : Node) → dropping want x ≡ some y → Drop want x y
drop_of want x y e = go (leftmost (wants want) [] (inner x)) refl
  where
    Parts : Split → Type 0
    Parts s = inner x ≡ s.front ++ (s.part ∷ s.more)

    rest : Option Split → Option Node
    rest = map (λ s. join alternation (without s))

    series : SeriesOf alternation (without_wanted want) x y
    series = ok_some (SeriesOf alternation (without_wanted want) x) e (series_of alternation (without_wanted want) x)

    go : (o : Option Split) → leftmost (wants want) [] (inner x) ≡ o → Drop want x y
    go none f = absurd (none-ne-some y (sym (ap rest f) ∙ series.fits))
    go (some s) f = record {
      at = s;
      found = f;
      split = subst (λ (o : Option Split). Ok Parts o) f (leftmost_parts (wants want) [] (inner x));
      result = some-injective _ _ (sym (ap rest f) ∙ series.fits);
      says = series.says;
      all = series.all;
    }
