-- From the words of a part's own record to what is told of the part. Assumes nothing.
use mathlib.Core.Path.{◌≡◌, refl, sym, ap, ◌∙◌}
use mathlib.Core.Bool.{Bool, true, false, not, ◌&&◌, ◌||◌, false≢true}
use mathlib.Core.List.{List, [], append-nil}
use Prim.Native.Nat.{ℕ, ◌+◌, ◌-◌, ◌*◌, ◌≤◌, ◌<◌}
use native.Mathlib.Omega.{arith}
use lib.ListN.{length, take, drop}
use lib.Dec.{eqb}
use borrow.Author.Tests.{eqb-true, ne_eqb}
use Rattle.meaning.specs.Tests.{and_true}
use Rattle.meaning.specs.Node.{Node, Node.empty, Node.bset, Node.assert, Node.group, Node.seq, Node.alt, Node.many, hi, Proper}
use Rattle.table.specs.Table.{quantifier_kind}
use Rattle.table.specs.Table.{kind_word, records_word, items_word, highest_word, set_word, least_word, most_word, lazy_word}
use Rattle.table.specs.Table.{record_words, word_of}
use Rattle.meaning.specs.Limits.{set_words}
use Rattle.table.specs.Laws.{inner, kind_of, last_of}
use Rattle.table.specs.Roots.{root_set, root_word, last_ends, inside}
use Rattle.table.specs.Stands.{Ends, SomePart}
use Rattle.tidying_fitting.specs.Parts.{Tells, room}
use Rattle.meaning.specs.Limits.{no_maximum}
use Rattle.tidying_laws.specs.Laws.{t10}
use Rattle.tidying_fitting.specs.Fitting.{fits}
use Rattle.tidying_fitting.specs.Words.{flag_of, own_of, start_of, on_part, ranged, nested_in, is_nested}
use Rattle.tidying_fitting.specs.Words.{lazy_words, lazy_flags, both_zero, absorbs, t10_words}
use Rattle.tidying_fitting.specs.declared.Record.{Record}

module _ {table : List ℕ} {top : ℕ} where
  -- There is a record to read, in the table.
  pub asked : SomePart table top → (0 < top) × (record_words * top ≤ length table)
  asked s = omega (arith, (room s.ends).some, (room s.ends).few, (room s.ends).held)

  -- What the words that were read say, whatever the part is.
  pub own_told : {k n i h l m z : ℕ} → k ≡ word_of table top kind_word → n ≡ word_of table top records_word
      → i ≡ word_of table top items_word → h ≡ word_of table top highest_word
      → l ≡ word_of table top least_word → m ≡ word_of table top most_word → z ≡ word_of table top lazy_word
      → Tells (record { kind = k; records = n; items = i; highest = h; least = l; most = m; lazy = z }) table top own_of
  own_told {k} {n} {i} {h} {l} {m} {z} e₀ e₂ e₃ e₆ e₈ e₉ e₁₀ = record {
    by = λ before r p.
        let read = root_word p in
        let f₀ = e₀ ∙ read kind_word (omega arith) in
        let f₂ = e₂ ∙ read records_word (omega arith) in
        let f₃ = e₃ ∙ read items_word (omega arith) in
        let f₆ = e₆ ∙ read highest_word (omega arith) in
        let f₈ = e₈ ∙ read least_word (omega arith) in
        let f₉ = e₉ ∙ read most_word (omega arith) in
        let f₁₀ = e₁₀ ∙ read lazy_word (omega arith) in
        cc;
  }

  pub last_told : {last : List ℕ} → last ≡ take set_words (drop (record_words * (top - 1) + set_word) table)
      → Tells last table top last_of
  last_told e = record { by = λ before r p. e ∙ root_set p }

  -- A test of the record is one of the part.
  pub by_record : (f : Record → Bool) (g : Node → Bool) → ((r : Node) → Proper r → f (own_of r) ≡ g r) → {o : Record} → Tells o
      table top own_of
      → {b : Bool} → b ≡ f o → Tells b table top g
  by_record f g h t e = record { by = λ before r p. e ∙ ap f (t.by before r p) ∙ h r p.proper }

  -- The part starts as many records below as it has.
  pub start_told : {o : Record} {n : ℕ} → Tells o table top own_of → n ≡ top - o.records → Tells n table top (start_of top)
  start_told t e = record { by = λ before r p. e ∙ ap (λ d. top - d.records) (t.by before r p) }

  pub few_told : {o : Record} → Tells o table top own_of → SomePart table top → o.records ≤ top
  few_told t s = rw (t.by s.before s.part s.ends) (room s.ends).few

  -- A test that is another one.
  pub by_test : {b : Bool} (f g : Node → Bool) → ((r : Node) → f r ≡ g r) → Tells b table top f → Tells b table top g
  by_test f g h t = record { by = λ before r p. t.by before r p ∙ h r }

-- A quantifier stands on its part.
record Quantifier (table : List ℕ) (top : ℕ) (before : List ℕ) (r : Node) : Type 0 where
  part : Node
  ends : Ends table (top - 1) before part
  on : (f : Node → Node → Bool) → on_part f r ≡ f r part

quantifier : {table : List ℕ} {top : ℕ} {before : List ℕ} {r : Node} → Ends table top before r → kind_of r ≡ quantifier_kind
    → Quantifier table top before r
unfolding inner
quantifier {table} {top} {before} {r} p e = go r e p
  where
    go : (r : Node) → kind_of r ≡ quantifier_kind → Ends table top before r → Quantifier table top before r
    go empty e p = absurd (omega arith)
    go (bset s) e p = absurd (omega arith)
    go (assert a) e p = absurd (omega arith)
    go (group k r) e p = absurd (omega arith)
    go (seq r q) e p = absurd (omega arith)
    go (alt r q) e p = absurd (omega arith)
    go (many n e lazy q) h p = record { part = q; ends = rw append-nil at (last_ends [] q (inside p)); on = λ f. refl }

-- A part fails a test of a quantifier and its part if it fails whatever its part is.
never : (f : Node → Node → Bool) (r : Node) → ((q : Node) → f r q ≡ false) → false ≡ on_part f r
never f empty h = refl
never f (bset s) h = refl
never f (assert a) h = refl
never f (group k r) h = refl
never f (seq r q) h = refl
never f (alt r q) h = refl
never f (many n e lazy q) h = sym (h q)

passed : (f : Node → Node → Bool) (r : Node) → on_part f r ≡ true → kind_of r ≡ quantifier_kind
passed f empty h = absurd (false≢true h)
passed f (bset s) h = absurd (false≢true h)
passed f (assert a) h = absurd (false≢true h)
passed f (group k r) h = absurd (false≢true h)
passed f (seq r q) h = absurd (false≢true h)
passed f (alt r q) h = absurd (false≢true h)
passed f (many n e lazy q) h = refl

-- Whatever part ends at `top` is a quantifier.
pub record Quantified (table : List ℕ) (top : ℕ) : Type 0 where
  by : (before : List ℕ) (r : Node) → Ends table top before r → kind_of r ≡ quantifier_kind

module _ {table : List ℕ} {top : ℕ} where
  pub quantified_kind : {o : Record} → Tells o table top own_of → o.kind ≡ quantifier_kind → Quantified table top
  quantified_kind t e = record { by = λ before r p. sym (ap (λ d. d.kind) (t.by before r p)) ∙ e }

  pub quantified_ranged : {o : Record} (least most : ℕ) → Tells o table top own_of → ranged o least most ≡ true
      → Quantified table top
  quantified_ranged {o} least most t e =
      quantified_kind t (eqb-true o.kind quantifier_kind
      (and_true (eqb o.kind quantifier_kind) (eqb o.least least && eqb o.most most) e).0)

  pub quantified_passed : {b : Bool} (f : Node → Node → Bool) → Tells b table top (on_part f) → b ≡ true → Quantified table top
  quantified_passed f t e = record { by = λ before r p. passed f r (sym (t.by before r p) ∙ e) }

  -- So there is a part below its own record.
  pub part_asked : Quantified table top → SomePart table top → SomePart table (top - 1)
  part_asked h s =
      let q = quantifier s.ends (h.by s.before s.part s.ends) in
      record { before = s.before; part = q.part; ends = q.ends }

  -- Tests of a quantifier's record and its part's are tests of the two.
  pub on_quantifier : (f : Record → Record → Bool) → Quantified table top → {o i : Record} → Tells o table top own_of → Tells i
      table (top - 1) own_of
      → {b : Bool} → b ≡ f o i → Tells b table top (on_part (λ r q. f (own_of r) (own_of q)))
  on_quantifier f h {o} {i} t u e = record {
    by = λ before r p.
        let q = quantifier p (h.by before r p) in
        e ∙ ap (λ d. f d i) (t.by before r p) ∙ ap (f (own_of r)) (u.by before q.part q.ends) ∙ sym
        (q.on (λ r q. f (own_of r) (own_of q)));
  }

  pub off_ranged : {o : Record} (least most : ℕ) → Tells o table top own_of → ranged o least most ≡ false
      → Tells false table top (is_nested least most)
  off_ranged {o} least most t h = record {
    by = λ before r p.
        let no : ranged (own_of r) least most ≡ false = sym (ap (λ d. ranged d least most) (t.by before r p)) ∙ h in
        never (λ r q. nested_in least most (own_of r) (own_of q)) r
        (λ q. ap (λ b. b && (ranged (own_of q) 0 most && eqb (hi r) 0)) no);
  }

  -- Where the outer of two quantifiers is greedy, it absorbs the inner one.
  pub greedy_outer : Quantified table top → {o : Record} → Tells o table top own_of → {b : Bool} → b ≡ not (flag_of o.lazy)
      → b ≡ true → Tells b table top (lazy_flags absorbs)
  greedy_outer h t d e = record {
    by = λ before r p.
        let q = quantifier p (h.by before r p) in
        e ∙ sym (q.on (λ r q. absorbs (flag_of (own_of r).lazy) (flag_of (own_of q).lazy))
        ∙ ap (λ b. b || flag_of (own_of q.part).lazy) (sym (ap (λ d. not (flag_of d.lazy)) (t.by before r p)) ∙ sym d ∙ e));
  }

  -- A law that asks one test and then another.
  module _ (law first second : Node → Bool) (h : (r : Node) → Proper r → law r ≡ (first r && second r)) {b : Bool}
      (t : Tells b table top first) where
    pub first_fails : b ≡ false → Tells false table top law
    first_fails e = record { by = λ before r p. sym (h r p.proper ∙ ap (λ d. d && second r) (sym (t.by before r p) ∙ e)) }

    pub first_passes : b ≡ true → {d : Bool} → Tells d table top second → Tells d table top law
    first_passes e u = record {
      by = λ before r p. u.by before r p ∙ sym (h r p.proper ∙ ap (λ d. d && second r) (sym (t.by before r p) ∙ e));
    }

-- A quantifier at 1 or more of one at 0 or more, of which the outer is lazy: T10 takes only two greedy ones.
pub lazy_outer : {table : List ℕ} {top : ℕ} {n : Bool} {o i : Record} → Tells n table top (is_nested 1 no_maximum) → n ≡ true
    → Tells o table top own_of → Tells i table (top - 1) own_of → (o.lazy ≡ 0 → ⊥) → Tells false table top (fits t10)
lazy_outer {o = o} {i = i} n e t u h = first_passes (fits t10) (is_nested 1 no_maximum) (lazy_words both_zero) t10_words n e
    (on_quantifier (λ o i. both_zero o.lazy i.lazy) (quantified_passed (λ r q. nested_in 1 no_maximum (own_of r) (own_of q)) n e)
    t u (rw (ne_eqb _ _ h)))
