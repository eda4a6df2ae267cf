-- What a pattern's rows are made of, by its kind: each law puts written pieces together, from the last one back.
use Rattle.std.specs.Prelude.{◌≡◌, Bool, true, false, cond, List, [], ◌∷◌, ◌++◌, length}
use Rattle.std.proofs.Math.Path.{refl, sym, ap}
use Rattle.std.proofs.Common.{ap₂, ◌∙◌, append_assoc, append-nil, suc-mul, zero-mul, add_assoc, arith}
use Rattle.std.proofs.Math.Option.{none, some}
use Prim.Native.Nat.{ℕ, zero, suc, ◌+◌, ◌-◌, ◌*◌, ◌<◌}
use Rattle.meaning.specs.Node.{Node, Node.empty, Node.bset, Node.assert, Node.group, Node.seq, Node.alt, Node.many}
use Rattle.meaning.specs.Flat.{Kind.sequence, Kind.alternation, parts, by_parts}
use Rattle.machine.specs.Rows.{Row, Row.jump, Row.fork, Row.opens, Row.closes}
use Rattle.machine.specs.Rows.{Row.begin, Row.end as ends}
use Rattle.machine.specs.Layout.{size_of, fork_of, times, past, past_turn, turns_rows, rows_of}
use Rattle.machine.specs.Laid.{past_size_of}
use Rattle.machine.specs.Words.{plain_words}
use Rattle.code_rows.specs.Emits.{Part, clear, fresh_size, fresh_rows, repeats_size, repeats_rows}
use Rattle.code_rows.specs.Emits.{turn_size, turn_of, turns_size, turns_of}
use Rattle.table.specs.Table.{word_of, items_word}
use Rattle.table.specs.Laws.{inner}
use Rattle.table.specs.Roots.{root_items}
use Rattle.code_words.specs.Wrote.{Room, Wrote}
use Rattle.code_rows.specs.Emits.{alternative_size, alternative_rows}
use Rattle.code_words.specs.Wrote.{wrote_as, wrote_none}
use Rattle.code_rows.specs.Cases.{Last, the_last, rest_of, IsPair}
use Rattle.code_rows.specs.Lines.{in_words, rows_then, total, line_rows}

-- Where a pass and a turn end.
pub past_fresh : (r : Node) (q : ℕ) → past r (suc q) ≡ q + fresh_size r
past_fresh r q = omega (arith, past_size_of r (suc q))

pub past_turn_lem : (r : Node) (q : ℕ) → past_turn (past r) q ≡ q + turn_size r
past_turn_lem r q = omega (arith, past_size_of r (suc (suc (suc q))))

times_add : (f : ℕ → ℕ) (d : ℕ) → ((q : ℕ) → f q ≡ q + d) → (n q : ℕ) → times f n q ≡ q + n * d
times_add f d h zero q = rw zero-mul (omega arith)
times_add f d h (suc n) q = rw (suc-mul, times_add f d h n (f q), h q) (omega arith)

module _ {code : List ℕ} {end : ℕ} where
  pub wrote_empty : Wrote code code end end (size_of empty) (in_words (rows_of empty end))
  unfolding size_of rows_of
  wrote_empty = wrote_none code end

  module _ {c₁ : List ℕ} {start : ℕ} where
    pub wrote_set : (s : List ℕ) → Wrote code c₁ start end 1 (2 ∷ 0 ∷ 0 ∷ 0 ∷ s)
        → Wrote code c₁ start end (size_of (bset s)) (in_words (rows_of (bset s) start))
    unfolding size_of rows_of
    wrote_set s w = wrote_as w refl (ap (λ l. 2 ∷ 0 ∷ 0 ∷ 0 ∷ l) (sym (append-nil s)))

    pub wrote_assertion : (a : ℕ) → Wrote code c₁ start end 1 (plain_words 10 a 0)
        → Wrote code c₁ start end (size_of (assert a)) (in_words (rows_of (assert a) start))
    unfolding size_of rows_of
    wrote_assertion a w = w

  module _ {c₁ c₂ : List ℕ} (r : Node) (room : Room code end) where
    pub wrote_fresh : {start first : ℕ} → Wrote code c₁ first end (size_of r) (in_words (rows_of r first))
        → Wrote c₁ c₂ start first 1 (in_words (clear r ∷ []))
        → Wrote code c₂ start end (fresh_size r) (in_words (fresh_rows r start))
    wrote_fresh {start} {first} w₁ w₂ =
        let e : first ≡ suc start = omega (arith, w₂.counts) in
        wrote_as (rows_then (clear r ∷ []) (rows_of r first) room w₁ w₂) (omega arith)
        (ap (λ q. in_words (clear r ∷ rows_of r q)) e)

    module _ {c₃ : List ℕ} where
      pub wrote_group : (k : ℕ) {start first inside : ℕ} → Wrote code c₁ inside end 1 (plain_words 6 k 0)
          → Wrote c₁ c₂ first inside (size_of r) (in_words (rows_of r first)) → Wrote c₂ c₃ start first 1 (plain_words 5 k 0)
          → Wrote code c₃ start end (size_of (group k r)) (in_words (rows_of (group k r) start))
      unfolding size_of rows_of
      wrote_group k {start} {first} {inside} w₁ w₂ w₃ =
          let e : first ≡ suc start = omega (arith, w₃.counts) in
          let w : Wrote code c₂ first end (size_of r + 1) (in_words (rows_of r first ++ (closes k ∷ [])))
          = rows_then (rows_of r first) (closes k ∷ []) room w₁ w₂ in
          wrote_as (rows_then (opens k ∷ []) (rows_of r first ++ (closes k ∷ [])) room w w₃) (omega arith)
          (ap (λ q. in_words (opens k ∷ (rows_of r q ++ (closes k ∷ [])))) e)

      pub wrote_alternative : (out : ℕ) {start body behind : ℕ} → Wrote code c₁ behind end 1 (plain_words 3 out 0)
          → Wrote c₁ c₂ body behind (size_of r) (in_words (rows_of r body)) → Wrote c₂ c₃ start body 1 (plain_words 4 body end)
          → Wrote code c₃ start end (alternative_size r) (in_words (alternative_rows out r start))
      wrote_alternative out {start} {body} {behind} w₁ w₂ w₃ =
          let e : body ≡ suc start = omega (arith, w₃.counts) in
          let e' : end ≡ suc (past r (suc start))
          = omega (arith, w₁.counts, w₂.counts, w₃.counts, past_size_of r (suc start)) in
          let w : Wrote code c₂ body end (size_of r + 1) (in_words (rows_of r body ++ (jump out ∷ [])))
          = rows_then (rows_of r body) (jump out ∷ []) room w₁ w₂ in
          wrote_as (rows_then (fork body end ∷ []) (rows_of r body ++ (jump out ∷ [])) room w w₃) (omega arith)
          (ap₂ (λ q k. in_words (fork q k ∷ (rows_of r q ++ (jump out ∷ [])))) e e')

      -- A Fork between its next row, `first`, and row `out`: lazy, it names the way out first.
      pub wrote_turn : {c₄ : List ℕ} (lazy : Bool) (out back : ℕ) {start first body last : ℕ}
          → Wrote code c₁ last end 1 (plain_words 9 back 0)
          → Wrote c₁ c₂ body last (fresh_size r) (in_words (fresh_rows r body)) → Wrote c₂ c₃ first body 1 (plain_words 8 0 0)
          → Wrote c₃ c₄ start first 1 (cond lazy (plain_words 4 out first) (plain_words 4 first out))
          → Wrote code c₄ start end (turn_size r) (in_words (turn_of lazy out back r start))
      wrote_turn {c₄} lazy out back {start} {first} {body} {last} w₁ w₂ w₃ w₄ =
          let e : first ≡ suc start = omega (arith, w₄.counts) in
          let e' : body ≡ suc (suc start) = omega (arith, w₄.counts, w₃.counts) in
          let tail : List Row = fresh_rows r body ++ (ends back ∷ []) in
          let w : Wrote code c₂ body end (fresh_size r + 1) (in_words tail)
          = rows_then (fresh_rows r body) (ends back ∷ []) room w₁ w₂ in
          let w' : Wrote code c₃ first end (1 + (fresh_size r + 1)) (in_words (begin ∷ tail))
          = rows_then (begin ∷ []) tail room w w₃ in
          let f : Wrote c₃ c₄ start first 1 (in_words (fork_of lazy start out ∷ [])) = wrote_as w₄ refl (forks lazy e) in
          wrote_as (rows_then (fork_of lazy start out ∷ []) (begin ∷ tail) room w' f) (omega arith)
          (ap (λ q. in_words (fork_of lazy start out ∷ begin ∷ (fresh_rows r q ++ (ends back ∷ [])))) e')
        where
          forks : (lazy : Bool) {first start : ℕ} → first ≡ suc start
              → cond lazy (plain_words 4 out first) (plain_words 4 first out) ≡ in_words (fork_of lazy start out ∷ [])
          forks true e = ap (λ q. plain_words 4 out q) e
          forks false e = ap (λ q. plain_words 4 q out) e

    -- A quantifier: the turns that can be left out, and before them those that must be.
    pub wrote_bounded : (n extra : ℕ) (lazy : Bool) {start first : ℕ}
        → Wrote code c₁ first end (turns_size extra r) (in_words (turns_of lazy end extra r first))
        → Wrote c₁ c₂ start first (repeats_size n r) (in_words (repeats_rows n r start))
        → Wrote code c₂ start end (size_of (many n (some extra) lazy r)) (in_words (rows_of (many n (some extra) lazy r) start))
    unfolding size_of rows_of
    wrote_bounded n extra lazy {start} {first} w₁ w₂ =
        let e : first ≡ times (λ p. past r (suc p)) n start
        = sym (times_add (λ p. past r (suc p)) (fresh_size r) (past_fresh r) n start ∙ w₂.counts) in
        let e' : end ≡ times (past_turn (past r)) extra first
        = sym (times_add (past_turn (past r)) (turn_size r) (past_turn_lem r) extra first ∙ w₁.counts) in
        wrote_as (rows_then (repeats_rows n r start) (turns_of lazy end extra r first) room w₁ w₂) refl
        (ap (λ k. in_words (repeats_rows n r start ++ turns_of lazy k extra r first)) e'
        ∙ ap (λ q. in_words (repeats_rows n r start ++ turns_rows lazy (clear r) (rows_of r) (past r) (some extra) q)) e)

    pub wrote_endless : (n : ℕ) (lazy : Bool) (back : ℕ) {start first : ℕ} → back + turn_size r ≡ end
        → Wrote code c₁ first end (turn_size r) (in_words (turn_of lazy end back r first))
        → Wrote c₁ c₂ start first (repeats_size n r) (in_words (repeats_rows n r start))
        → Wrote code c₂ start end (size_of (many n none lazy r)) (in_words (rows_of (many n none lazy r) start))
    unfolding size_of rows_of
    wrote_endless n lazy back {start} {first} b w₁ w₂ =
        let e : first ≡ times (λ p. past r (suc p)) n start
        = sym (times_add (λ p. past r (suc p)) (fresh_size r) (past_fresh r) n start ∙ w₂.counts) in
        let e' : end ≡ past_turn (past r) first = sym (past_turn_lem r first ∙ w₁.counts) in
        let e'' : back ≡ first = omega (arith, w₁.counts) in
        wrote_as (rows_then (repeats_rows n r start) (turn_of lazy end back r first) room w₁ w₂) refl
        (ap₂ (λ k b. in_words (repeats_rows n r start ++ turn_of lazy k b r first)) e' e''
        ∙ ap (λ q. in_words (repeats_rows n r start ++ turns_rows lazy (clear r) (rows_of r) (past r) none q)) e)

-- A sequence: the rows of its items.
row_items : (r : Node)
    → (total size_of (parts sequence r) ≡ size_of r) × ((q : ℕ) → line_rows size_of rows_of (parts sequence r) q ≡ rows_of r q)
unfolding size_of rows_of
row_items = by_parts sequence (λ r l. (total size_of l ≡ size_of r) × ((q : ℕ) → line_rows size_of rows_of l q ≡ rows_of r q))
    (λ r h. (omega arith, λ q. append-nil (rows_of r q)))
    (λ r q l h. (
      omega (arith, h.0),
      λ p. ap (λ x. rows_of r p ++ x) (h.1 (p + size_of r) ∙ ap (rows_of q) (sym (past_size_of r p))),
    ))

pub items_all : {r : Node} → IsPair sequence r
    → (total size_of (inner r) ≡ size_of r) × ((q : ℕ) → line_rows size_of rows_of (inner r) q ≡ rows_of r q)
unfolding inner parts
items_all {r} i = rw i.is (row_items (seq i.left i.right))

pub wrote_sequence : {code c₁ : List ℕ} {start end : ℕ} {r : Node} → IsPair sequence r
    → Wrote code c₁ start end (total size_of (inner r)) (in_words (line_rows size_of rows_of (inner r) start))
    → Wrote code c₁ start end (size_of r) (in_words (rows_of r start))
wrote_sequence {start = start} i w = wrote_as w (items_all i).0 (ap in_words ((items_all i).1 start))

-- An alternation: its alternatives, of which all but the last have a Fork and a Jump.
abbrev alternatives_size : List Node → ℕ
alternatives_size [] = 0
alternatives_size (r ∷ []) = size_of r
alternatives_size (r ∷ s ∷ l) = alternative_size r + alternatives_size (s ∷ l)

abbrev alternatives_rows : ℕ → List Node → ℕ → List Row
alternatives_rows out [] q = []
alternatives_rows out (r ∷ []) q = rows_of r q
alternatives_rows out (r ∷ s ∷ l) q = alternative_rows out r q ++ alternatives_rows out (s ∷ l) (q + alternative_size r)

record Alternatives (r : Node) (l : List Node) : Type 0 where
  some : 0 < length l
  sizes : alternatives_size l ≡ size_of r
  rows : (q : ℕ) → alternatives_rows (past r q) l q ≡ rows_of r q

alternatives_more : (r q : Node) (l : List Node) → Alternatives q l → Alternatives (alt r q) (r ∷ l)
unfolding size_of rows_of past
alternatives_more r q [] a = absurd (omega (arith, a.some))
alternatives_more r q (s ∷ l) a = record {
  some = omega arith;
  sizes = omega (arith, a.sizes);
  rows = λ p.
      let m : ℕ = suc (past r (suc p)) in
      let e : p + alternative_size r ≡ m = omega (arith, past_size_of r (suc p)) in
      let k : ℕ = past q m in
      ap (λ j. alternative_rows k r p ++ alternatives_rows k (s ∷ l) j) e ∙ ap (λ x. alternative_rows k r p ++ x) (a.rows m)
      ∙ ap (λ x. fork (suc p) m ∷ x) (append_assoc (rows_of r (suc p)) (jump k ∷ []) (rows_of q m));
}

row_alternatives : (r : Node) → Alternatives r (parts alternation r)
row_alternatives =
    by_parts alternation Alternatives (λ r h. record { some = omega arith; sizes = refl; rows = λ q. refl }) alternatives_more

alternatives_all : {r : Node} → IsPair alternation r → Alternatives r (inner r)
unfolding inner parts
alternatives_all {r} i = rw i.is (row_alternatives (alt i.left i.right))

-- The last alternative apart from those before it.
module _ (out : ℕ) (x : Node) where
  last_size : (l : List Node) → alternatives_size (l ++ (x ∷ [])) ≡ total alternative_size l + size_of x
  last_size [] = omega arith
  last_size (r ∷ []) = omega arith
  last_size (r ∷ s ∷ l) = omega (arith, last_size (s ∷ l))

  abbrev Apart : List Node → Type 0
  Apart l = (q : ℕ) → alternatives_rows out (l ++ (x ∷ [])) q
      ≡ line_rows alternative_size (alternative_rows out) l q ++ rows_of x (q + total alternative_size l)

  one_apart : (r : Node) (l : List Node) → Apart l → (q : ℕ)
      → alternative_rows out r q ++ alternatives_rows out (l ++ (x ∷ [])) (q + alternative_size r)
      ≡ line_rows alternative_size (alternative_rows out) (r ∷ l) q ++ rows_of x (q + total alternative_size (r ∷ l))
  one_apart r l h q =
      let first : List Row = alternative_rows out r q in
      let m : ℕ = q + alternative_size r in
      let rest : List Row = line_rows alternative_size (alternative_rows out) l m in
      ap (λ y. first ++ y) (h m) ∙ sym (append_assoc first rest (rows_of x (m + total alternative_size l)))
      ∙ ap (λ k. (first ++ rest) ++ rows_of x k) (add_assoc q (alternative_size r) (total alternative_size l))

  last_rows : (l : List Node) → Apart l
  last_rows [] q = let e : q ≡ q + 0 = omega arith in ap (rows_of x) e
  last_rows (r ∷ []) q = one_apart r [] (last_rows []) q
  last_rows (r ∷ s ∷ l) q = one_apart r (s ∷ l) (last_rows (s ∷ l)) q

module _ {table : List ℕ} {top : ℕ} {r : Node} (p : Part table top r) (i : IsPair alternation r) where
  pub some_alternative : 0 < word_of table top items_word
  some_alternative = omega (arith, root_items p.ends, (alternatives_all i).some)

  abbrev pub last_alternative : Last table (top - 1) (word_of table top items_word) (inner r)
  last_alternative = the_last (rest_of p) some_alternative

  pub alternation_size : total alternative_size last_alternative.front + size_of last_alternative.node ≡ size_of r
  alternation_size =
      sym (last_size 0 last_alternative.node last_alternative.front)
      ∙ ap alternatives_size (sym last_alternative.are) ∙ (alternatives_all i).sizes

  pub wrote_alternation : {code c₁ c₂ : List ℕ} {start middle end : ℕ} → Room code end
      → Wrote code c₁ middle end (size_of last_alternative.node) (in_words (rows_of last_alternative.node middle))
      → Wrote c₁ c₂ start middle (total alternative_size last_alternative.front)
      (in_words (line_rows alternative_size (alternative_rows end) last_alternative.front start))
      → Wrote code c₂ start end (size_of r) (in_words (rows_of r start))
  wrote_alternation {code} {c₁} {c₂} {start} {middle} {end} room w₁ w₂ =
      let l = last_alternative in
      let e : end ≡ past r start = omega (arith, w₁.counts, w₂.counts, alternation_size, past_size_of r start) in
      let front : List Row = line_rows alternative_size (alternative_rows end) l.front start in
      wrote_as (rows_then front (rows_of l.node middle) room w₁ w₂) alternation_size
      (ap (λ m. in_words (front ++ rows_of l.node m)) (sym w₂.counts)
      ∙ ap in_words (sym (last_rows end l.node l.front start))
      ∙ ap₂ (λ k m. in_words (alternatives_rows k m start)) e (sym l.are) ∙ ap in_words ((alternatives_all i).rows start))
