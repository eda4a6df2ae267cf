-- T8: a set, an alternation and a sequence are put round some records.
use Rattle.std.specs.Prelude.{◌≡◌, refl, List, ◌∷◌, ◌++◌, ℕ, ◌+◌, length}
use Rattle.std.proofs.Common.{append_assoc, arith, length-append}
use Rattle.meaning.specs.Flat.{Kind.sequence, Kind.alternation}
use Rattle.table.specs.Table.{set_kind}
use Rattle.tidying_shapes.specs.Skeleton.{Token, row_token}
use Rattle.tidying_shapes.specs.Tokens.{Says}
use Rattle.tidying_shapes.specs.Laws.{says_same}
use Rattle.tidying_shapes.specs.Edits.{Inserted, Stamped}

abbrev pub set_token : List ℕ → Token
set_token set = record { kind = set_kind; operand = 0; items = 0; last = set }

pub record Wraps (table table' : List ℕ) (n start end parts : ℕ) (set : List ℕ) (n' : ℕ) : Type 0 where
  pub by : (l ts m : List Token) → length l ≡ start → length l + length ts ≡ end → Says table n (l ++ (ts ++ m))
      → Says table' n' (l ++ (set_token set ∷ (ts ++ (row_token alternation parts ∷ row_token sequence 2 ∷ m))))

-- Room for a record at a place, which says a token then.
put : {table table₁ table₂ : List ℕ} {n at : ℕ} {tok : Token} → Inserted table table₁ n at → Stamped table₁ table₂ at tok
    → (l m : List Token) → length l ≡ at → Says table n (l ++ m) → Says table₂ (n + 1) (l ++ (tok ∷ m))
put {n = n} i k l m e s = k.says (n + 1) l i.room m e (i.says l m e s)

pub wraps : {table a a' b b' c c' : List ℕ} {n start end parts : ℕ} {set : List ℕ}
    → Inserted table a n end → Stamped a a' end (row_token sequence 2)
    → Inserted a' b (n + 1) end → Stamped b b' end (row_token alternation parts)
    → Inserted b' c (n + 2) start → Stamped c c' start (set_token set) → Wraps table c' n start end parts set (n + 3)
wraps {a' = a'} {b' = b'} {c' = c'} {n} {start} {end} {parts} {set} i k i' k' i'' k'' = record {
  by = λ l ts m low high s.
      let at : length (l ++ ts) ≡ end = omega (arith, length-append l ts) in
      let owns : List Token = row_token alternation parts ∷ row_token sequence 2 ∷ m in
      let one : Says a' (n + 1) ((l ++ ts) ++ (row_token sequence 2 ∷ m)) = put i k (l ++ ts) m at (rw append_assoc s) in
      let two : Says b' (n + 1 + 1) ((l ++ ts) ++ owns) = put i' k' (l ++ ts) (row_token sequence 2 ∷ m) at one in
      let twice : n + 1 + 1 ≡ n + 2 = omega arith in
      let thrice : n + 2 + 1 ≡ n + 3 = omega arith in
      says_same refl thrice (put i'' k'' l (ts ++ owns) low (rw append_assoc at (says_same refl twice two)));
}
