-- What is asked and answered where a part is written: whatever the part is whose records end there.
use Rattle.std.specs.Prelude.{◌≡◌, refl, Bool, true, false, cond, not, ◌&&◌, List, [], ◌∷◌, ◌++◌, ℕ, ◌+◌, ◌-◌, ◌*◌, ◌≤◌, ◌<◌, eqb, length, take, drop}
use Rattle.std.proofs.Common.{sym, ap, ap₂, subst, ◌∙◌, append-nil, append_assoc, arith, length-append, eq-eqb, ne_eqb}
use Rattle.meaning.specs.Limits.{last_assertion}
use Rattle.meaning.specs.Node.{Node, Node.empty, Node.bset, Node.assert, Node.group, Node.seq, Node.alt, Node.many, Proper}
use Rattle.meaning.specs.Results.{concat_map}
use Rattle.table.specs.Table.{record_words, kind_word, operand_word, items_word, records_word, set_word, word_of, records, assertion_kind, alternation_kind}
use Rattle.table.specs.Laws.{inner, kind_of, operand_of, last_of}
use Rattle.table.specs.Stands.{Ends, SomePart, Series}
use Rattle.table.specs.Roots.{some_records, few_records_lem, root_kind, root_operand, root_items, root_records, root_set, inside, some_last, last_ends, shorter}
use Rattle.reading_atoms.specs.Chars.{question, open_paren, close_paren, bar, colon}
use Rattle.showing_spelling.specs.Put.{Put, and_before, put_as, put_none}
use Rattle.showing.specs.Text.{around, text}
use Rattle.showing.specs.Rows.{wraps, is_none, item_text, bar_text, row_text, open_text, close_text, leaf_text, text_leaf, text_rows}

-- The last words of the record before record number `top`.
abbrev pub last_at : List ℕ → ℕ → List ℕ
last_at table top = take 8 (drop (record_words * (top - 1) + set_word) table)

pub record Writes (table : List ℕ) (top : ℕ) (out out' : List ℕ) (end r : ℕ) : Type 0 where
  pub by : (before : List ℕ) (q : Node) → Ends table top before q → Put out out' end (text q) r

-- The items passed, from the last one back.
pub record Passing (table : List ℕ) (top kind items : ℕ) (q : Node) (out out' : List ℕ) (end item left at : ℕ) : Type 0 where
  pub before : List ℕ
  pub front : List Node
  pub passed : List Node
  pub split : inner q ≡ front ++ passed
  pub series : Series table item left before front
  pub begun : is_none passed ≡ eqb left items
  pub total : length (inner q) ≡ items
  pub put : Put out out' end (row_text kind passed) at
  pub below : item < top

-- Before the first turn.
pub passing_none : {table : List ℕ} {top items : ℕ} {before : List ℕ} {q : Node} (kind : ℕ) (out : List ℕ) (end : ℕ)
    → Ends table top before q → items ≡ word_of table top items_word
    → Passing table top kind items q out out end (top - 1) items end
unfolding row_text
passing_none {table} {top} {items} {before} {q} kind out end e n =
    let total : length (inner q) ≡ items = sym (n ∙ root_items e) in
    record {
      before = before;
      front = inner q;
      passed = [];
      split = sym (append-nil (inner q));
      series = subst (λ (i : ℕ). Series table (top - 1) i before (inner q)) total (inside e);
      begun = sym (eq-eqb items items refl);
      total = total;
      put = put_none out end;
      below = omega (arith, some_records e, few_records_lem e);
    }

-- An item in a row, with what stands behind it.
wrapped : (w : Bool) (t x : List ℕ)
    → cond w (open_paren ∷ question ∷ colon ∷ []) [] ++ (t ++ (cond w (close_paren ∷ []) [] ++ x)) ≡ around w t ++ x
wrapped true t x = ap (λ (y : List ℕ). open_paren ∷ question ∷ colon ∷ y) (sym (append_assoc t (close_paren ∷ []) x))
wrapped false t x = refl

-- A turn: what is read of the last item that is left, and one item more passed.
pub record Turn (table : List ℕ) (top kind items : ℕ) (q : Node) (out out' : List ℕ) (end item left at : ℕ) : Type 0 where
  pub some : 0 < item
  pub room : record_words * item ≤ length table
  pub within : word_of table item records_word ≤ item
  pub there : SomePart table item
  pub below : item < top
  pub on : {a b c d : List ℕ} {i j k m : ℕ}
      → Put out' a at (cond (eqb kind alternation_kind && not (eqb left items)) (bar ∷ []) []) i
      → Put a b i (cond (wraps kind (word_of table item kind_word)) (close_paren ∷ []) []) j
      → Writes table item b c j k
      → Put c d k (cond (wraps kind (word_of table item kind_word)) (open_paren ∷ question ∷ colon ∷ []) []) m
      → Passing table top kind items q out d end (item - word_of table item records_word) (left - 1) m

pub passing_turn : {table : List ℕ} {top kind items : ℕ} {q : Node} {out out' : List ℕ} {end item left at : ℕ}
    → Passing table top kind items q out out' end item left at → 0 < left → Turn table top kind items q out out' end item left at
unfolding row_text
passing_turn {table} {top} {kind} {items} {q} {out} {out'} {end} {item} {left} {at} p h =
    let l = some_last p.front (omega (arith, p.series.counted)) in
    let s : Series table item left p.before (l.front ++ (l.last ∷ [])) = subst (Series table item left p.before) l.split p.series in
    let x = l.last in
    let e : Ends table item (p.before ++ concat_map records l.front) x = last_ends l.front x s in
    record {
      some = omega (arith, some_records e, few_records_lem e);
      room = e.stands.room;
      within = omega (arith, few_records_lem e, root_records e);
      there = record { before = p.before ++ concat_map records l.front; part = x; ends = e };
      below = p.below;
      on = λ u v w y. record {
        before = p.before;
        front = l.front;
        passed = x ∷ p.passed;
        split = p.split ∙ ap (λ (z : List Node). z ++ p.passed) l.split ∙ append_assoc l.front (x ∷ []) p.passed;
        series = subst (λ (k : ℕ). Series table (item - k) (left - 1) p.before l.front) (sym (root_records e)) (shorter l.front x s);
        begun = sym (ne_eqb (left - 1) items (λ z. omega (arith, p.total, ap length p.split, length-append p.front p.passed, p.series.counted)));
        total = p.total;
        put = put_as (and_before (and_before (and_before (and_before p.put u) v) (w.by (p.before ++ concat_map records l.front) x e)) y)
            (row_more x p.passed e);
        below = omega (arith, p.below);
      };
    }
  where
    row_more : (x : Node) (l : List Node) {before : List ℕ} → Ends table item before x
        → cond (wraps kind (word_of table item kind_word)) (open_paren ∷ question ∷ colon ∷ []) []
        ++ (text x ++ (cond (wraps kind (word_of table item kind_word)) (close_paren ∷ []) []
        ++ (cond (eqb kind alternation_kind && not (eqb left items)) (bar ∷ []) [] ++ row_text kind p.passed)))
        ≡ item_text kind x ++ (bar_text kind (is_none p.passed) ++ row_text kind p.passed)
    row_more x l e =
        ap (λ (k : ℕ). cond (wraps kind k) (open_paren ∷ question ∷ colon ∷ []) [] ++ (text x ++ (cond (wraps kind k) (close_paren ∷ []) []
        ++ (cond (eqb kind alternation_kind && not (eqb left items)) (bar ∷ []) [] ++ row_text kind p.passed)))) (root_kind e)
        ∙ wrapped (wraps kind (kind_of x)) (text x) (cond (eqb kind alternation_kind && not (eqb left items)) (bar ∷ []) [] ++ row_text kind p.passed)
        ∙ ap (λ (b : Bool). item_text kind x ++ (bar_text kind b ++ row_text kind p.passed)) (sym p.begun)

-- Behind the last turn.
pub passing_done : {table : List ℕ} {top kind items : ℕ} {before : List ℕ} {q : Node} {out out' : List ℕ} {end item left at : ℕ}
    → Ends table top before q → kind ≡ word_of table top kind_word → assertion_kind < kind
    → Passing table top kind items q out out' end item left at → left ≡ 0 → {a b : List ℕ} {m last : ℕ}
    → Put b out last (close_text kind (last_at table top)) end → Put out' a at (open_text kind) m → Put b a last (text q) m
passing_done {table} {top} {kind} {items} {before} {q} e k h p z c u =
    let all : inner q ≡ p.passed = go p.front p.split (sym p.series.counted ∙ z) in
    let kind_is : kind ≡ kind_of q = k ∙ root_kind e in
    put_as (and_before (and_before c p.put) u)
    (ap (λ (l : List Node). open_text kind ++ (row_text kind l ++ close_text kind (last_at table top))) (sym all)
    ∙ ap (λ (l : List ℕ). open_text kind ++ (row_text kind (inner q) ++ close_text kind l)) (root_set e)
    ∙ ap (λ (x : ℕ). open_text x ++ (row_text x (inner q) ++ close_text x (last_of q))) kind_is
    ∙ sym (text_rows q (subst (λ (x : ℕ). assertion_kind < x) kind_is h)))
  where
    go : (f : List Node) → inner q ≡ f ++ p.passed → length f ≡ 0 → inner q ≡ p.passed
    go [] s z = s
    go (r ∷ f) s z = absurd (omega arith)

-- A leaf.
pub leaf_done : {table : List ℕ} {top kind : ℕ} {before : List ℕ} {q : Node} {out out' : List ℕ} {end r : ℕ} → Ends table top before q
    → kind ≡ word_of table top kind_word → kind ≤ assertion_kind
    → Put out out' end (leaf_text kind (word_of table top operand_word) (last_at table top)) r → Put out out' end (text q) r
leaf_done {table} {top} {kind} {q = q} e k h p =
    let kind_is : kind ≡ kind_of q = k ∙ root_kind e in
    put_as p (ap₂ (λ (x y : ℕ). leaf_text x y (last_at table top)) kind_is (root_operand e)
    ∙ ap (leaf_text (kind_of q) (operand_of q)) (root_set e) ∙ sym (text_leaf q (subst (λ (x : ℕ). x ≤ assertion_kind) kind_is h)))

-- An assertion's operand is one of the four.
pub operand_low : {table : List ℕ} {top kind : ℕ} → SomePart table top → kind ≡ word_of table top kind_word → kind ≡ assertion_kind
    → word_of table top operand_word ≤ last_assertion
operand_low {table} {top} s k e = go s.part s.ends.proper (sym (root_kind s.ends) ∙ sym k ∙ e) (root_operand s.ends)
  where
    go : (q : Node) → Proper q → kind_of q ≡ assertion_kind → word_of table top operand_word ≡ operand_of q
        → word_of table top operand_word ≤ last_assertion
    go empty p k o = omega arith
    go (bset s) p k o = absurd (omega arith)
    go (assert a) p k o = omega arith
    go (group n r) p k o = absurd (omega arith)
    go (seq r x) p k o = absurd (omega arith)
    go (alt r x) p k o = absurd (omega arith)
    go (many n x lazy r) p k o = absurd (omega arith)
