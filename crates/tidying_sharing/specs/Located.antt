-- Where the run of an alternation that T8 fits stands in a table.
use Rattle.std.specs.Prelude.{Some, IsSome, ◌≡◌, refl, List, [], ◌∷◌, ◌++◌, ℕ, ◌+◌, ◌-◌, length}
use Rattle.std.proofs.Common.{sym, ap, subst, ◌∙◌, append_assoc, arith}
use Rattle.std.proofs.Math.Option.{some}
use Rattle.meaning.specs.Node.{Node}
use Rattle.meaning.specs.Results.{concat_map}
use Rattle.table.specs.Table.{record_count, records}
use Rattle.table.specs.Laws.{inner, count_all, count_append, inner_count}
use Rattle.tidying_laws.specs.Laws.{t8}
use Rattle.table.specs.Stands.{Ends, Series, SomePart}
use Rattle.table.specs.Roots.{among_ends}
use Rattle.table.specs.Roots.{inside}
use Rattle.tidying_fitting.specs.Parts.{Tells, room}
use Rattle.tidying_fitting.specs.Words.{start_of}
use Rattle.tidying_fitting.specs.Places.{Place, end_of}
use Rattle.tidying_fitting.specs.Wants.{wanted_end}
use Rattle.tidying_fitting.specs.declared.Want.TheVariants.{Alike}
use Rattle.tidying_sharing.specs.Runs.{Behind, SomeBehind, RunEnds}
use Rattle.tidying_sharing.specs.Shares.{Shares, shares_of, leads}

-- T8 fits the part whose records end at `top`.
pub record Sharing (table : List ℕ) (top : ℕ) (before : List ℕ) (x y : Node) : Type 0 where
  pub ends : Ends table top before x
  pub fits : t8 x ≡ some y

-- What is asked: that there is such a part.
pub record SomeSharing (table : List ℕ) (top : ℕ) : Type 0 where
  pub before : List ℕ
  pub node : Node
  pub result : Node
  pub sharing : Sharing table top before node result

-- What is answered: where the run starts and ends.
pub record Located (from stop : ℕ) (table : List ℕ) (top : ℕ) : Type 0 where
  pub start : (before : List ℕ) (x y : Node) (s : Sharing table top before x y)
      → from ≡ top - record_count x + count_all (shares_of x y s.fits).front
  pub end : (before : List ℕ) (x y : Node) (s : Sharing table top before x y)
      → stop ≡ from + count_all (leads (shares_of x y s.fits))

module _ {table : List ℕ} {top : ℕ} {before : List ℕ} {x y : Node} (s : Sharing table top before x y) where
  abbrev k : Shares x y
  k = shares_of x y s.fits

  series : Series table (top - 1) (length (inner x)) before (k.front ++ (k.first ∷ k.second ∷ k.more))
  series = subst (λ (l : List Node). Series table (top - 1) (length (inner x)) before l) k.split (inside s.ends)

  -- The records of the part are those of its alternatives, and its own.
  all : record_count x ≡ count_all k.front + (record_count k.first + (record_count k.second + count_all k.more)) + 1
  all = omega (arith, inner_count x, ap count_all k.split, count_append k.front (k.first ∷ k.second ∷ k.more))

  abbrev under : List ℕ
  under = before ++ concat_map records (k.front ++ (k.first ∷ []))

  second_ends : Ends table (top - 1 - count_all k.more) under k.second
  second_ends = among_ends (k.front ++ (k.first ∷ [])) k.second k.more
      (subst (λ (l : List Node). Series table (top - 1) (length (inner x)) before l)
      (sym (append_assoc k.front (k.first ∷ []) (k.second ∷ k.more))) series)

  first_ends : Ends table (top - 1 - count_all (k.second ∷ k.more)) (before ++ concat_map records k.front) k.first
  first_ends = among_ends k.front k.first (k.second ∷ k.more) series

  -- There is a second alternative of the run, and this is where it ends.
  pub some_second : {found : Place} → Tells found table top (wanted_end Alike top) → IsSome found
  some_second t = rw (t.by before x s.ends, k.found)

  module _ {second : ℕ} (t : Tells (Some second) table top (wanted_end Alike top)) where
    second_at : top - 1 - count_all k.more ≡ second
    second_at =
        let found : Some second
        ≡ Some (top - record_count x + count_all (k.front ++ (k.first ∷ [])) + record_count k.second)
        = t.by before x s.ends ∙ ap (end_of (top - record_count x)) k.found in
        let told : second ≡ top - record_count x + count_all (k.front ++ (k.first ∷ [])) + record_count k.second = cc in
        omega (arith, all, count_append k.front (k.first ∷ []), (room s.ends).few)

    pub second_there : SomePart table second
    second_there = record {
      before = under;
      part = k.second;
      ends = subst (λ (i : ℕ). Ends table i under k.second) second_at second_ends;
    }

    module _ {first : ℕ} (u : Tells first table second (start_of second)) where
      first_at_lem : top - 1 - count_all (k.second ∷ k.more) ≡ first
      unfolding second_there
      first_at_lem =
          let told : first ≡ second - record_count k.second = u.by _ k.second second_there.ends in
          omega (arith, all, second_at, (room s.ends).few)

      pub first_there : SomePart table first
      first_there = record {
        before = before ++ concat_map records k.front;
        part = k.first;
        ends = subst (λ (i : ℕ). Ends table i (before ++ concat_map records k.front) k.first) first_at_lem first_ends;
      }

      the_behind : Behind table (top - 1) first before k.front k.first (k.second ∷ k.more)
      the_behind = record {
        series = record { stands = series.stands; counted = refl; proper = series.proper };
        here = omega (arith, all, first_at_lem, (room s.ends).few);
      }

      pub behind_there : SomeBehind table (top - 1) first
      behind_there = record {
        before = before;
        front = k.front;
        node = k.first;
        more = k.second ∷ k.more;
        behind = the_behind;
      }

      module _ {from : ℕ} (v : Tells from table first (start_of first)) where
        started : from ≡ first - record_count k.first
        unfolding first_there
        started = v.by _ k.first first_there.ends

        located_start : from ≡ top - record_count x + count_all k.front
        located_start = omega (arith, started, all, first_at_lem, (room s.ends).few)

        located_end : {stop : ℕ} → RunEnds stop table (top - 1) first → stop ≡ from + count_all (leads k)
        located_end e =
            let ended = e.by before k.front k.first (k.second ∷ k.more) the_behind in
            omega (arith, started, all, first_at_lem, (room s.ends).few)

-- So it is found.
pub located : {table : List ℕ} {top second first from stop : ℕ} → Tells (Some second) table top (wanted_end Alike top)
    → Tells first table second (start_of second) → Tells from table first (start_of first) → RunEnds stop table (top - 1) first
    → Located from stop table top
located t u v e = record {
  start = λ before x y s. located_start s t u v;
  end = λ before x y s. located_end s t u v e;
}
