-- A table is of the form exactly if `form_of` gives its tree; and there is one tree at most.
use Rattle.std.specs.Prelude.{◌≡◌, refl, ◌↔◌, List, [], ◌∷◌, get_or, take, replicate}
use Rattle.std.proofs.Common.{sym, subst, ◌∙◌, take_at, get_or-append-add, eq-eqb, ne_eqb}
use Rattle.std.proofs.Math.Path.{ap}
use Rattle.std.proofs.Math.Option.{Option, none, some}
use Prim.Native.Nat.{ℕ, zero, suc, ◌+◌, ◌-◌, ◌*◌, ◌≤◌, ◌<◌}
use native.Mathlib.Omega.{arith}
use Rattle.std.proofs.Math.Decide.{dec_lt}
use Rattle.std.proofs.Math.ListN.{length, length-append, length-replicate, get_or-eq_default}
use Rattle.std.proofs.lemmas.List.{get_or-replicate}
use Rattle.meaning.specs.Node.{Node, Node.empty, Node.bset, Node.assert, Node.group, Node.seq, Node.alt, Node.many}
use Rattle.table.specs.Table.{record_words, kind_word, word_of, record_count, records}
use Rattle.table.specs.Laws.{kind_of, long}
use Rattle.table.specs.Stands.{Stands}
use Rattle.table.specs.Roots.{root_kind}
use Rattle.tidying_shapes.specs.Tokens.{tokens_of}
use Rattle.tidying_shapes.specs.Skeleton.{skeleton}
use Rattle.tidying_shapes.specs.Parse.{first_part, parse}
use Rattle.tidying_shapes.proofs.Parse.{parsed, rebuilds}
use Rattle.tidying_shapes.proofs.Told.{stands_say}
use Rattle.tidying.specs.Held.{table_of}
use Rattle.tidying.specs.Standing.{Whole, place_ends, place_at}
use Rattle.showing_form.specs.Form.{OfForm, form?, used_from, used, candidate, chosen, form_of}

-- A kind is never 0.
pub some_kind : (r : Node) → 0 < kind_of r
some_kind empty = omega arith
some_kind (bset s) = omega arith
some_kind (assert a) = omega arith
some_kind (group k r) = omega arith
some_kind (seq r q) = omega arith
some_kind (alt r q) = omega arith
some_kind (many n e lazy r) = omega arith

module _ {table : List ℕ} {r : Node} (f : OfForm table r) where
  -- The records stand first in the table, and there is room for them.
  zeros : List ℕ
  zeros = replicate (length table - record_words * record_count r) 0

  enough : record_words * record_count r ≤ length table
  unfolding zeros
  enough = omega (
    arith,
    ap length f.words,
    length-append (records r) zeros,
    long r f.proper,
    length-replicate {A = ℕ} (length table - record_words * record_count r) 0,
  )

  pub form_stands : Stands table (record_count r) (records r)
  form_stands = record {
    below = ap (λ (t : List ℕ). take (record_words * record_count r) t) f.words
        ∙ take_at (records r) (replicate (length table - record_words * record_count r) 0) (record_words * record_count r) (long r f.proper);
    room = enough;
  }

  pub form_whole : Whole r
  form_whole = record { proper = f.proper; flat = f.flat }

  -- Each has a kind, and behind them stands 0.
  pub form_kind : (i : ℕ) → i < record_count r → get_or table (record_words * i + kind_word) 0 ≡ 0 → ⊥
  form_kind i h e =
      let kind = root_kind (place_ends r form_whole form_stands (suc i) (omega arith)) in
      let same : word_of table (suc i) kind_word ≡ get_or table (record_words * i + kind_word) 0
      = ap (λ (k : ℕ). get_or table (record_words * k + kind_word) 0) (omega arith) in
      omega (arith, some_kind (place_at r (suc i)).part)

  pub behind_zero : (i : ℕ) → record_words * record_count r ≤ i → get_or table i 0 ≡ 0
  behind_zero i h =
      let n : ℕ = length table - record_words * record_count r in
      let e : i ≡ length (records r) + (i - record_words * record_count r) = omega (arith, long r f.proper) in
      ap (λ (t : List ℕ). get_or t i 0) f.words ∙ ap (λ (k : ℕ). get_or (table_of r (length table)) k 0) e
      ∙ get_or-append-add (records r) (replicate n 0) (i - record_words * record_count r) 0 ∙ zero_in n (i - record_words * record_count r)
    where
      zero_in : (n j : ℕ) → ◌≡◌ {A = ℕ} (get_or (replicate n 0) j 0) 0
      zero_in n j = elim (dec_lt j n) [
        | yes l ↦ get_or-replicate n j 0 0 l
        | no l ↦ get_or-eq_default (replicate n 0) 0 (omega (arith, length-replicate {A = ℕ} n 0))
      ]

  -- So they are as many as are used, and rebuild the tree.
  pub used_go : (turns i : ℕ) → i ≤ record_count r → record_count r ≤ turns + i → used_from table turns i ≡ record_count r
  unfolding used_from
  used_go zero i h k = omega arith
  used_go (suc turns) i h k = elim (dec_lt i (record_count r)) [
    | yes l ↦ rw (ne_eqb (get_or table (record_words * i + kind_word) 0) 0 (form_kind i l)) (used_go turns (suc i) (omega arith) (omega arith))
    | no l ↦ rw (eq-eqb (get_or table (record_words * i + kind_word) 0) 0 (behind_zero (record_words * i + kind_word) (omega arith))) (omega arith)
  ]

  pub used_is : used table ≡ record_count r
  used_is = used_go (length table) 0 (omega arith) (omega (arith, enough))

  candidate_is : candidate table ≡ r
  candidate_is =
      ap (λ (n : ℕ). first_part (parse [] (tokens_of table n))) used_is
      ∙ ap (λ ts. first_part (parse [] ts)) (stands_say r f.proper form_stands).tokens
      ∙ ap first_part (parsed (skeleton r) [] (r ∷ []) (rebuilds r f.proper))

  pub form_some : form_of table ≡ some r
  unfolding form_of
  form_some = go (form? table (candidate table)) candidate_is
    where
      go : {q : Node} (d : Dec (OfForm table q)) → q ≡ r → chosen q d ≡ some r
      go {q} (yes h) e = ap some e
      go {q} (no n) e = absurd (n (subst (OfForm table) (sym e) f))

-- What is given is of the form.
pub some_form : (table : List ℕ) (r : Node) → form_of table ≡ some r → OfForm table r
unfolding form_of
some_form table r = go (candidate table) (form? table (candidate table))
  where
    go : (q : Node) (d : Dec (OfForm table q)) → chosen q d ≡ some r → OfForm table r
    go q (yes h) e = let same : q ≡ r = cc in subst (OfForm table) same h
    go q (no n) e = absurd (let z : ◌≡◌ {A = ℕ} 0 1 = cc in omega arith)

pub of_form : (table : List ℕ) (r : Node) → (form_of table ≡ some r) ↔ OfForm table r
of_form table r = (some_form table r, λ f. form_some f)

-- None is given exactly if there is no tree; and there is one at most.
pub no_form_lem : (table : List ℕ) → ((r : Node) → OfForm table r → ⊥) → form_of table ≡ none
no_form_lem table h = go (form_of table) refl
  where
    go : (o : Option Node) → form_of table ≡ o → o ≡ none
    go none e = refl
    go (some r) e = absurd (h r (some_form table r e))

pub one_form : {table : List ℕ} {r q : Node} → OfForm table r → OfForm table q → r ≡ q
one_form {table} {r} {q} f g = let e : ◌≡◌ {A = Option Node} (some r) (some q) = sym (form_some f) ∙ form_some g in cc
