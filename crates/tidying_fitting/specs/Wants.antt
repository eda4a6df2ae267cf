-- T1, T6, T7 and T8 look for a part of a series: what each looks for, and that the law fits exactly if there is one.
use Rattle.std.specs.Prelude.{◌≡◌, refl, Bool, true, false, cond, ◌&&◌, ◌||◌, List, [], ◌∷◌, ◌++◌, ℕ, ◌-◌, eqb}
use Rattle.std.proofs.Common.{sym, ap, ◌∙◌}
use Rattle.std.proofs.Math.Bool.{or-false}
use Rattle.std.proofs.lemmas.Bool.{false≢true}
use Rattle.std.proofs.Math.Option.{Option, none, some, map, none-ne-some, some-injective}
use Rattle.meaning.specs.Node.{Node, Node.empty, Node.bset, Node.assert, Node.group, Node.seq, Node.alt, Node.many, hi, Proper}
use Rattle.meaning.specs.Flat.{Kind, Kind.sequence, Kind.alternation, parts, join, by_parts}
use Rattle.meaning.specs.Results.{or_else, or_else_none}
use Rattle.table.specs.Table.{record_count, sequence_kind, alternation_kind}
use Rattle.table.specs.Laws.{inner, kind_of}
use Rattle.tidying_laws.specs.Choices.{any}
use Rattle.tidying_laws.specs.Groups.{group_free, proper_positive}
use Rattle.tidying_laws.specs.Equal.{same, same_refl}
use Rattle.tidying_laws.specs.Void.{void}
use Rattle.tidying_laws.specs.Laws.{when, two, is_empty, filled, byte_set, is_void}
use Rattle.tidying_laws.specs.Laws.{first_set, rest_of, Run, extend, run, shared, shared_at}
use Rattle.tidying_laws.specs.Laws.{distinct, possible, share, t1, t6, t7, t8}
use Rattle.tidying_fitting.specs.Fitting.{is_some, fits}
use Rattle.tidying_fitting.specs.Words.{free_highest, when_some}
use Rattle.tidying_fitting.specs.Places.{Split, behind, Place, Test, leftmost, end_of}
use Rattle.tidying_fitting.specs.declared.Want.{Want}
use Rattle.tidying_fitting.specs.declared.Want.TheVariants.{Empty, Equal, Void, Alike}

-- T6: a part without groups that equals an earlier one.
abbrev pub repeats : Test
repeats seen r = any (same r) seen

abbrev pub goes : Test
goes seen r = group_free r && repeats seen r

-- T8: a part whose first item is the byte set that its left neighbour begins with.
abbrev pub begins_with : Option (List ℕ) → Node → Bool
begins_with none q = false
begins_with (some s) q = is_some (rest_of s (parts sequence q))

abbrev pub alike : Node → Node → Bool
alike p q = begins_with (first_set (parts sequence p)) q

abbrev pub follows : Test
follows [] r = false
follows (p ∷ seen) r = alike p r

-- What is looked for.
abbrev pub wants : Want → Test
wants Empty seen r = is_empty r
wants Equal seen r = goes seen r
wants Void seen r = is_void r
wants Alike seen r = follows seen r

-- Where the leftmost such part of the part that ends at `top` ends; and whether a part of a kind has one.
abbrev pub wanted_end : Want → ℕ → Node → Place
wanted_end want top r = end_of (top - record_count r) (leftmost (wants want) [] (inner r))

abbrev pub has_wanted : ℕ → Want → Node → Bool
has_wanted kind want r = eqb (kind_of r) kind && is_some (leftmost (wants want) [] (inner r))

-- A list without the part at which it is taken apart.
abbrev pub without : Split → List Node
without s = s.front ++ s.more

-- T6 and T7 take the leftmost such part away.
pub distinct_leftmost : (seen l : List Node) → distinct seen l ≡ map without (leftmost goes seen l)
unfolding distinct leftmost
distinct_leftmost seen [] = refl
distinct_leftmost seen (r ∷ l) = rw (distinct_leftmost (r ∷ seen) l) (go (goes seen r) (leftmost goes (r ∷ seen) l))
  where
    go : (b : Bool) (o : Option Split)
        → cond b (some l) (map (λ m. r ∷ m) (map without o))
        ≡ map without (cond b (some (record { front = []; part = r; more = l })) (map (behind r) o))
    go true o = refl
    go false none = refl
    go false (some s) = refl

pub possible_leftmost : (seen l : List Node) → possible l ≡ map without (leftmost (wants Void) seen l)
unfolding possible leftmost
possible_leftmost seen [] = refl
possible_leftmost seen (r ∷ l) = rw (possible_leftmost (r ∷ seen) l) (go (is_void r) (leftmost (wants Void) (r ∷ seen) l))
  where
    go : (b : Bool) (o : Option Split)
        → cond b (some l) (map (λ m. r ∷ m) (map without o))
        ≡ map without (cond b (some (record { front = []; part = r; more = l })) (map (behind r) o))
    go true o = refl
    go false none = refl
    go false (some s) = refl

-- There is a leftmost part that passes exactly if some part does.
map_some : {A B : Type 0} (f : A → B) (o : Option A) → is_some (map f o) ≡ is_some o
map_some f none = refl
map_some f (some a) = refl

pub leftmost_more : (test : Test) (seen : List Node) (r : Node) (l : List Node)
    → is_some (leftmost test seen (r ∷ l)) ≡ (test seen r || is_some (leftmost test (r ∷ seen) l))
unfolding leftmost
leftmost_more test seen r l = go (test seen r) (leftmost test (r ∷ seen) l)
  where
    go : (b : Bool) (o : Option Split)
        → is_some (cond b (some (record { front = []; part = r; more = l })) (map (behind r) o)) ≡ (b || is_some o)
    go true o = refl
    go false o = map_some (behind r) o

pub any_leftmost : (p : Node → Bool) (seen l : List Node) → any p l ≡ is_some (leftmost (λ s r. p r) seen l)
unfolding leftmost
any_leftmost p seen [] = refl
any_leftmost p seen (r ∷ l) = ap (λ b. p r || b) (any_leftmost p (r ∷ seen) l) ∙ sym (leftmost_more (λ s r. p r) seen r l)

-- T8 shares where two neighbours begin alike: a part begins with its own first set,
set_of_lem : (t : Node) (s : List ℕ) → byte_set t ≡ some s → t ≡ bset s
set_of_lem empty s e = absurd (none-ne-some s e)
set_of_lem (bset u) s e = ap bset (some-injective u s e)
set_of_lem (assert a) s e = absurd (none-ne-some s e)
set_of_lem (group k r) s e = absurd (none-ne-some s e)
set_of_lem (seq r q) s e = absurd (none-ne-some s e)
set_of_lem (alt r q) s e = absurd (none-ne-some s e)
set_of_lem (many n f lazy r) s e = absurd (none-ne-some s e)

pub begins_own : (l : List Node) (s : List ℕ) → first_set l ≡ some s → is_some (rest_of s l) ≡ true
begins_own [] s e = absurd (none-ne-some s e)
begins_own (t ∷ l) s e = rw (set_of_lem t s e, same_refl (bset s))

-- so that a run has two parts exactly if its second begins with it too.
run_two : (s : List ℕ) (o u : Option Node) (r q : Node) (l : List Node) (t : Run) → is_some o ≡ true
    → is_some (shared s (extend o r (q ∷ l) (extend u q l t)).0 (extend o r (q ∷ l) (extend u q l t)).1) ≡ is_some u
run_two s none u r q l t h = absurd (false≢true h)
run_two s (some p) none r q l t h = refl
run_two s (some p) (some p') r q l t h = refl

run_one : (s : List ℕ) (o : Option Node) (r : Node) → is_some (shared s (extend o r [] ([], [])).0
    (extend o r [] ([], [])).1) ≡ false
run_one s none r = refl
run_one s (some p) r = refl

shared_one : (o : Option (List ℕ)) (r : Node) → is_some (shared_at o (r ∷ [])) ≡ false
unfolding run
shared_one none r = refl
shared_one (some s) r = run_one s (rest_of s (parts sequence r)) r

shared_two : (o : Option (List ℕ)) (r q : Node) (l : List Node) → first_set (parts sequence r) ≡ o
    → is_some (shared_at o (r ∷ q ∷ l)) ≡ begins_with o q
unfolding run
shared_two none r q l e = refl
shared_two (some s) r q l e =
    run_two s (rest_of s (parts sequence r)) (rest_of s (parts sequence q)) r q l (run s l) (begins_own (parts sequence r) s e)

else_some : {A B : Type 0} (o : Option B) (f : A → B) (u : Option A) → is_some (or_else o (map f u)) ≡
    (is_some o || is_some u)
else_some none f u = map_some f u
else_some (some a) f u = refl

pub share_leftmost : (seen : List Node) (r : Node) (l : List Node) → is_some (share (r ∷ l)) ≡ is_some
    (leftmost follows (r ∷ seen) l)
unfolding share leftmost
share_leftmost seen r [] =
    else_some (shared_at (first_set (parts sequence r)) (r ∷ [])) (λ m. r ∷ m) none
    ∙ ap (λ b. b || false) (shared_one (first_set (parts sequence r)) r)
share_leftmost seen r (q ∷ l) =
    else_some (shared_at (first_set (parts sequence r)) (r ∷ q ∷ l)) (λ m. r ∷ m) (share (q ∷ l))
    ∙ rw (shared_two (first_set (parts sequence r)) r q l refl, share_leftmost (r ∷ seen) q l)
    (sym (leftmost_more follows (r ∷ seen) q l))

-- A series of a kind has two parts or more, so that a law for its parts looks at all of them.
two_parts : {A : Type 0} (k : Kind) (f : List Node → Option A) (r q : Node) → two f (r ∷ parts k q) ≡ f (r ∷ parts k q)
two_parts k f r q = by_parts k (λ q l. two f (r ∷ l) ≡ f (r ∷ l)) (λ q n. refl) (λ p q l e. refl) q

pub t1_wanted : (r : Node) → fits t1 r ≡ has_wanted sequence_kind Empty r
unfolding parts inner
t1_wanted empty = refl
t1_wanted (bset s) = refl
t1_wanted (assert a) = refl
t1_wanted (group k r) = refl
t1_wanted (seq r q) = let l : List Node = r ∷ parts sequence q in
    ap is_some (two_parts sequence (λ l. when (any is_empty l) (join sequence (filled l))) r q)
    ∙ when_some (any is_empty l) (join sequence (filled l)) ∙ any_leftmost is_empty [] l
t1_wanted (alt r q) = refl
t1_wanted (many n e lazy r) = refl

pub t6_wanted : (r : Node) → fits t6 r ≡ has_wanted alternation_kind Equal r
unfolding parts inner
t6_wanted empty = refl
t6_wanted (bset s) = refl
t6_wanted (assert a) = refl
t6_wanted (group k r) = refl
t6_wanted (seq r q) = refl
t6_wanted (alt r q) = let l : List Node = r ∷ parts alternation q in
    ap is_some (two_parts alternation (λ l. map (join alternation) (distinct [] l)) r q)
    ∙ map_some (join alternation) (distinct [] l) ∙ ap is_some (distinct_leftmost [] l) ∙ map_some without (leftmost goes [] l)
t6_wanted (many n e lazy r) = refl

pub t8_wanted : (r : Node) → fits t8 r ≡ has_wanted alternation_kind Alike r
unfolding parts inner
t8_wanted empty = refl
t8_wanted (bset s) = refl
t8_wanted (assert a) = refl
t8_wanted (group k r) = refl
t8_wanted (seq r q) = refl
t8_wanted (alt r q) = let l : List Node = parts alternation q in
    ap is_some (two_parts alternation (λ l. map (join alternation) (share l)) r q)
    ∙ map_some (join alternation) (share (r ∷ l)) ∙ share_leftmost [] r l ∙ sym (leftmost_more follows [] r l)
t8_wanted (many n e lazy r) = refl

and_comm : (a b : Bool) → (a && b) ≡ (b && a)
and_comm true true = refl
and_comm true false = refl
and_comm false true = refl
and_comm false false = refl

pub t7_wanted : (r : Node) → Proper r
    → fits t7 r ≡ (has_wanted alternation_kind Void r || (has_wanted sequence_kind Void r && eqb (hi r) 0))
unfolding parts inner
t7_wanted empty h = refl
t7_wanted (bset s) h = refl
t7_wanted (assert a) h = refl
t7_wanted (group k r) h = refl
t7_wanted (seq r q) h = let l : List Node = r ∷ parts sequence q in
    ap is_some (two_parts sequence (λ l. when (group_free (seq r q) && any is_void l) (bset void)) r q)
    ∙ when_some (group_free (seq r q) && any is_void l) (bset void) ∙ and_comm (group_free (seq r q)) (any is_void l)
    ∙ rw (free_highest (seq r q) (proper_positive (seq r q) h), any_leftmost is_void [] l)
t7_wanted (alt r q) h = let l : List Node = r ∷ parts alternation q in
    ap (λ o. is_some (or_else o none)) (two_parts alternation (λ l. map (join alternation) (possible l)) r q)
    ∙ ap is_some (or_else_none (map (join alternation) (possible l))) ∙ map_some (join alternation) (possible l)
    ∙ ap is_some (possible_leftmost [] l) ∙ map_some without (leftmost (wants Void) [] l) ∙ sym
    (or-false (is_some (leftmost (wants Void) [] l)))
t7_wanted (many n e lazy r) h = refl
