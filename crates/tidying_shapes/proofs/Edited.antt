-- What the edits of words do to the tokens. Assumes nothing.
use mathlib.Core.Path.{◌≡◌, refl, sym, ap, subst, ◌∙◌}
use mathlib.Core.List.{List, [], ◌∷◌, ◌++◌, append_assoc}
use Prim.Native.Nat.{ℕ, ◌+◌, ◌-◌, ◌*◌, ◌≤◌}
use native.Mathlib.Omega.{arith}
use lib.ListN.{length, get_or, take, drop, set, length-append, length-take, length-drop, length-set, take-append-drop}
use lib.Seq.{paste, drop-paste, length-paste, take_at, take-take, length-take-le, take-set-le, drop-set-lt}
use lib.Seq.{get_or-set_same, get_or-set_other}
use Rattle.sets.specs.Laws.{one_by_one}
use Rattle.table.specs.Table.{record_words}
use Rattle.tidying_shapes.specs.Skeleton.{Token, token_of}
use Rattle.tidying_shapes.specs.Tokens.{token_at, Says}
use Rattle.tidying_shapes.specs.Laws.{token_same, token_right, says_length, says_join, says_first, says_rest, says_only}
use Rattle.tidying_shapes.specs.Laws.{says_same}
use Rattle.tidying_shapes.specs.Laws.{says_more, says_at, says_next, above_more}
use Rattle.tidying_shapes.specs.Edits.{Removed, Inserted, Stamped, Counted, with_items}

-- The first words and words laid behind them say what both say.
laid : (table : List ℕ) (at : ℕ) {s : List ℕ} {m : ℕ} {l k : List Token} → record_words * at ≤ length table
    → Says (take (record_words * at) table) at l → Says s m k
    → Says (paste table (record_words * at) s (record_words * m)) (at + m) (l ++ k)
laid table at {s} {m} room first more =
    let whole : record_words * m ≤ length (take (record_words * m) s)
    = omega (arith, length-take (record_words * m) s, more.room) in
    let same : take (record_words * m) (take (record_words * m) s) ≡ take (record_words * m) s
    = take-take (record_words * m) (record_words * m) s (omega arith) in
    says_more (drop (record_words * at + record_words * m) table)
    (says_join (length-take-le (record_words * at) table room) first (says_only more whole same))

module _ {table : List ℕ} {n at : ℕ} where
  first_said : (l m : List Token) → length l ≡ at → Says table n (l ++ m) → Says (take (record_words * at) table) at l
  first_said l m p s = subst (λ (x : ℕ). Says (take (record_words * x) table) x l) p (says_first l m s)

  rest_said : (l m : List Token) → length l ≡ at → Says table n (l ++ m) → Says (drop (record_words * at) table) (n - at) m
  rest_said l m p s = subst (λ (x : ℕ). Says (drop (record_words * x) table) (n - x) m) p (says_rest l m s)

-- Records that go.
pub removed : {table table' : List ℕ} (n at count : ℕ) → at + count ≤ n → record_words * n ≤ length table
    → table' ≡ paste table (record_words * at) (drop (record_words * (at + count)) table) (record_words * (n - count - at))
    → Removed table table' n at count
removed {table} {table'} n at count few room e = record {
  says = λ l gone m p q s.
      let both : length (l ++ gone) ≡ at + count = omega (arith, length-append l gone) in
      let rest : Says (drop (record_words * (at + count)) table) (n - (at + count)) m
      = rest_said (l ++ gone) m both (rw append_assoc s) in
      let left : n - (at + count) ≡ n - count - at = omega arith in
      let all : at + (n - count - at) ≡ n - count = omega arith in
      says_same (sym e) all (laid table at (omega arith) (first_said l (gone ++ m) p s) (says_same refl left rest));
  above = above_more table' table (record_words * at + record_words * (n - count - at)) (record_words * n) (omega arith)
      (rw e (drop-paste table (record_words * at) (drop (record_words * (at + count)) table) (record_words * (n - count - at))
      (omega arith) (omega (arith, length-drop (record_words * (at + count)) table))));
}

-- Room for a record.
pub inserted : {table table' : List ℕ} (n at : ℕ) → at ≤ n → record_words * (n + 1) ≤ length table
    → table' ≡ paste table (record_words * (at + 1)) (drop (record_words * at) table) (record_words * (n - at))
    → Inserted table table' n at
inserted {table} {table'} n at few room e = record {
  room = token_at table at;
  says = λ l m p s.
      let first : Says (take (record_words * (at + 1)) table) (at + 1) (l ++ (token_at table at ∷ []))
      = says_next table at (omega arith) (first_said l m p s) refl in
      let all : at + 1 + (n - at) ≡ n + 1 = omega arith in
      rw append_assoc at (says_same (sym e) all (laid table (at + 1) (omega arith) first (rest_said l m p s)));
  above = above_more table' table (record_words * (at + 1) + record_words * (n - at)) (record_words * (n + 1)) (omega arith)
      (rw e (drop-paste table (record_words * (at + 1)) (drop (record_words * at) table) (record_words * (n - at))
      (omega arith) (omega (arith, length-drop (record_words * at) table))));
}

-- One record that says something else.
changed : {table table' : List ℕ} {n at : ℕ} {tok : Token} (l : List Token) (old : Token) (m : List Token) → length l ≡ at
    → Says table n (l ++ (old ∷ m))
    → take (record_words * at) table' ≡ take (record_words * at) table
    → drop (record_words * (at + 1)) table' ≡ drop (record_words * (at + 1)) table
    → length table' ≡ length table → token_at table' at ≡ tok → Says table' n (l ++ (tok ∷ m))
changed {table} {table'} {n} {at} {tok} l old m p s under over long e =
    let count : length (l ++ (old ∷ [])) ≡ at + 1 = omega (arith, length-append l (old ∷ [])) in
    let regroup : l ++ (old ∷ []) ++ m ≡ l ++ (old ∷ m) = append_assoc l (old ∷ []) m in
    let some : at + 1 ≤ n = omega (arith, says_length s, length-append l (old ∷ m)) in
    let first : Says (take (record_words * at) table') at l = says_same (sym under) refl (first_said l (old ∷ m) p s) in
    let upto : Says (take (record_words * (at + 1)) table') (at + 1) (l ++ (tok ∷ []))
    = says_next table' at (omega (arith, s.room)) first e in
    let rest : Says (drop (record_words * (at + 1)) table') (n - (at + 1)) m
    = says_same (sym over) refl (rest_said (l ++ (old ∷ [])) m count (rw regroup s)) in
    let all : at + 1 + (n - (at + 1)) ≡ n = omega arith in
    rw append_assoc at (says_same (take-append-drop (record_words * (at + 1)) table') all
    (says_join (length-take-le (record_words * (at + 1)) table' (omega (arith, s.room))) upto rest))

pub stamped : {table table' last : List ℕ} (at kind operand items : ℕ) → record_words * (at + 1) ≤ length table → length last ≡ 8
    → table' ≡ paste table (record_words * at) (
    kind ∷ operand ∷ 0 ∷ items ∷ 0 ∷ 0 ∷ 0 ∷ 0 ∷ get_or last 0 0 ∷ get_or last 1 0 ∷ get_or last 2 0 ∷ get_or last 3 0 ∷ get_or last 4 0
    ∷ get_or last 5 0 ∷ get_or last 6 0 ∷ get_or last 7 0 ∷ []
    ) record_words
    → Stamped table table' at (token_of kind operand items last)
stamped {table} {table'} {last} at kind operand items room eight e = record {
  says = λ n l old m p s. changed l old m p s under over long here;
  above = over;
}
  where
    words : List ℕ
    words = kind ∷ operand ∷ 0 ∷ items ∷ 0 ∷ 0 ∷ 0 ∷ 0 ∷ get_or last 0 0 ∷ get_or last 1 0 ∷ get_or last 2 0 ∷ get_or last 3 0
        ∷ get_or last 4 0 ∷ get_or last 5 0 ∷ get_or last 6 0 ∷ get_or last 7 0 ∷ []

    base : length (take (record_words * at) table) ≡ record_words * at
    base = length-take-le (record_words * at) table (omega arith)

    rest : List ℕ
    rest = words ++ drop (record_words * at + record_words) table

    regroup : table' ≡ take (record_words * at) table ++ rest
    regroup = e ∙ append_assoc (take (record_words * at) table) words (drop (record_words * at + record_words) table)

    under : take (record_words * at) table' ≡ take (record_words * at) table
    under = rw regroup (take_at (take (record_words * at) table) rest (record_words * at) base)

    next : record_words * (at + 1) ≡ record_words * at + record_words
    next = omega arith

    over : drop (record_words * (at + 1)) table' ≡ drop (record_words * (at + 1)) table
    over = rw (e, next) (drop-paste table (record_words * at) words record_words (omega arith) (omega arith))

    long : length table' ≡ length table
    long = rw e (length-paste table (record_words * at) words record_words (omega arith) (omega arith))

    here : token_at table' at ≡ token_of kind operand items last
    here = rw regroup (token_right (take (record_words * at) table) rest at 0 at base (omega arith))
        ∙ token_same refl refl refl (one_by_one last eight)

-- One record that says another number of items.
pub counted : {table table' : List ℕ} (at items : ℕ) → record_words * (at + 1) ≤ length table
    → table' ≡ set table (record_words * at + 3) items → Counted table table' at items
counted {table} {table'} at items room e = record {
  says = λ n l tok m p s. changed l tok m p s under over (rw e (length-set table (record_words * at + 3) items))
      (here ∙ ap (λ t. with_items t items) (subst (λ (x : ℕ). token_at table x ≡ tok) p (says_at l tok m s)));
  above = over;
}
  where
    under : take (record_words * at) table' ≡ take (record_words * at) table
    under = rw e (take-set-le (record_words * at) table (record_words * at + 3) items (omega arith))

    over : drop (record_words * (at + 1)) table' ≡ drop (record_words * (at + 1)) table
    over = rw e (drop-set-lt (record_words * (at + 1)) table (record_words * at + 3) items (omega arith))

    other : (j : ℕ) → (j ≡ record_words * at + 3 → ⊥) → get_or table' j 0 ≡ get_or table j 0
    other j h = rw e (get_or-set_other table (record_words * at + 3) j items 0 h)

    last : drop (record_words * at + 8) table' ≡ drop (record_words * at + 8) table
    last = rw e (drop-set-lt (record_words * at + 8) table (record_words * at + 3) items (omega arith))

    here : token_at table' at ≡ with_items (token_at table at) items
    here = token_same (other (record_words * at) (λ q. omega arith)) (other (record_words * at + 1) (λ q. omega arith))
        (rw e (get_or-set_same table (record_words * at + 3) items 0 (omega arith))) (ap (take 8) last)
