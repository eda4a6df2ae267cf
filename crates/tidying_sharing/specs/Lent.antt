-- T8 on one alternative among others: the table is lent from its first record on, so that what is before stays.
use Rattle.std.specs.Prelude.{◌≡◌, refl, List, ◌++◌, ℕ, ◌+◌, ◌-◌, ◌*◌, ◌≤◌, length, take, drop}
use Rattle.std.proofs.Common.{sym, subst, arith, length-append, length-take, length-drop, take_all}
use Rattle.meaning.specs.Node.{Node}
use Rattle.meaning.specs.Flat.{Kind.alternation, parts}
use Rattle.table.specs.Table.{record_words}
use Rattle.tidying_shapes.specs.Skeleton.{Token, skeleton}
use Rattle.tidying_shapes.specs.Tokens.{Says}
use Rattle.tidying_shapes.specs.Laws.{says_length, says_rest, says_same}
use Rattle.tidying_rewriting.specs.Frames.{lent, returned, framed, kept_below}
use Rattle.tidying_sharing.specs.Leads.{Lead}
use Rattle.tidying_sharing.specs.Trims.{trimmed, Trimming, SomeTrimming, some_trimming, Trims}

-- An alternative that begins with a set: its records are those from `at` to `end`.
pub record TrimmingAt (table : List ℕ) (n at end : ℕ) (s : List ℕ) (a r : Node) (l m : List Token) : Type 0 where
  pub lead : Lead s a r
  pub says : Says table n (l ++ (skeleton a ++ m))
  pub start : length l ≡ at
  pub stop : length l + length (skeleton a) ≡ end

-- What is asked: that there is such an alternative. Its records are there.
pub record SomeTrimmingAt (table : List ℕ) (n at end : ℕ) : Type 0 where
  pub set : List ℕ
  pub node : Node
  pub rest : Node
  pub left : List Token
  pub right : List Token
  pub trimming : TrimmingAt table n at end set node rest left right
  pub order : at ≤ end
  pub few : end ≤ n
  pub room : record_words * n ≤ length table

-- What is done, whatever it is: what is left of it is said in its place, and the words before are as they were.
pub record TrimsAt (table table' : List ℕ) (n at end n' width : ℕ) : Type 0 where
  pub by : (s : List ℕ) (a r : Node) (l m : List Token) → TrimmingAt table n at end s a r l m
      → Says table' n' (l ++ (trimmed r ++ m)) × (width ≡ length (parts alternation r))
  pub below : take (record_words * at) table' ≡ take (record_words * at) table

-- The part that is lent says the tokens from there on.
lent_says : {table : List ℕ} {n : ℕ} (at : ℕ) (l k : List Token) → length l ≡ at → Says table n (l ++ k)
    → Says (lent table at) (n - at) k
lent_says {table} {n} at l k e s =
    subst (λ (i : ℕ). Says (lent table i) (n - i) k) e (says_same (sym whole) refl (says_rest l k s))
  where
    base : ℕ
    base = record_words * length l

    whole : take (length table - base) (drop base table) ≡ drop base table
    whole = take_all (length table - base) (drop base table) (omega (arith, length-drop base table))

module _ {table : List ℕ} {n at end : ℕ} where
  pub some_trimming_at : {s : List ℕ} {a r : Node} {l m : List Token} → TrimmingAt table n at end s a r l m
      → SomeTrimmingAt table n at end
  some_trimming_at {s} {a} {r} {l} {m} t = record {
    set = s;
    node = a;
    rest = r;
    left = l;
    right = m;
    trimming = t;
    order = omega (arith, t.start, t.stop);
    few = omega (arith, t.stop, says_length t.says, length-append l (skeleton a ++ m), length-append (skeleton a) m);
    room = t.says.room;
  }

  -- The alternative is the first that is lent.
  lent_trimming : {s : List ℕ} {a r : Node} {l m : List Token} → TrimmingAt table n at end s a r l m
      → Trimming (lent table at) (n - at) (end - at) s a r m
  lent_trimming {a = a} {l = l} {m = m} t = record {
    lead = t.lead;
    says = lent_says at l (skeleton a ++ m) t.start t.says;
    counted = omega (arith, t.start, t.stop);
  }

  pub some_lent : SomeTrimmingAt table n at end → SomeTrimming (lent table at) (n - at) (end - at)
  some_lent s = some_trimming (lent_trimming s.trimming)

  -- What is left fits where it was.
  pub left_room : {part : List ℕ} {n' width : ℕ} → SomeTrimmingAt table n at end → length part ≡ length (lent table at)
      → Trims (lent table at) part (n - at) (end - at) n' width → record_words * (at + n') ≤ length table
  left_room s e t =
      let base : ℕ = record_words * at in
      let said = (t.by _ _ _ _ (lent_trimming s.trimming)).0 in
      omega (arith, said.room, length-take (length table - base) (drop base table), length-drop base table)

  pub trims_at : {part : List ℕ} {n' width : ℕ} → record_words * at ≤ length table
      → Trims (lent table at) part (n - at) (end - at) n' width → TrimsAt table (returned table at part) n at end (at + n') width
  trims_at {part} room t = record {
    by = λ s a r l m k.
        let left = t.by s a r m (lent_trimming k) in
        (framed at l (skeleton a ++ m) (trimmed r ++ m) k.start k.says (λ h. left.0), left.1);
    below = kept_below table part at room;
  }
