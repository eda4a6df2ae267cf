-- What the functions that write rows ask of one another, from what they were asked and from what is written already.
use Rattle.std.specs.Prelude.{◌≡◌, refl, Bool, true, false, List, ℕ, ◌+◌, ◌-◌, ◌*◌, ◌≤◌, ◌<◌, eqb, length}
use Rattle.std.proofs.Common.{sym, subst, ◌∙◌, arith}
use Rattle.std.proofs.Math.Path.{ap}
use Rattle.std.proofs.Math.Option.{Option, none, some}
use Rattle.meaning.specs.Limits.{row_limit, no_maximum}
use Rattle.meaning.specs.Node.{Node, Node.bset, Node.assert, Node.many, Within}
use Rattle.machine.specs.Layout.{size_of, past, past_turn, rows_of}
use Rattle.table.specs.Table.{kind_word, size_word, least_word, most_word, lazy_word, quantifier_kind}
use Rattle.table.specs.Table.{record_words, word_of, maximum, bit_of}
use Rattle.table.specs.Roots.{root_size}
use Rattle.code_rows.specs.Emits.{Part, Asks, Lays, repeats_size, turn_size, turn_of, turns_size}
use Rattle.code_words.specs.Wrote.{Room, Wrote}
use Rattle.code_words.specs.Wrote.{room_before}
use Rattle.code_rows.specs.Cases.{part_some, IsGroup, IsMany, is_many}
use Rattle.code_rows.specs.Lines.{in_words}
use Rattle.code_rows.specs.Shapes.{past_turn_lem}

-- A word of a record that is there may be read.
pub word_there : {table : List ℕ} {top : ℕ} {r : Node} (j : ℕ) → j < record_words → Part table top r
    → (0 < top) × (j < record_words) × (record_words * top ≤ length table)
word_there j h p = ((part_some p).0, h, (part_some p).1)

module _ {table code : List ℕ} {top end : ℕ} where
  -- What needs fewer rows of the same part is asked of less.
  pub asks_less : (need need' : Node → ℕ) → ((r : Node) → need' r ≤ need r) → Asks need table top code end
      → Asks need' table top code end
  asks_less need need' less a = record {
    node = a.node;
    part = a.part;
    fits = omega (arith, a.fits, less a.node);
    room = a.room;
  }

-- There is a row before row `end`, or before rows that are written already.
pub row_first : {code : List ℕ} {end : ℕ} (size : ℕ) → size + 1 ≤ end → Room code end → (0 < end) × Room code end
row_first size h room = (omega arith, room)

pub row_next : {code code' : List ℕ} {start end size : ℕ} {words : List ℕ} → Wrote code code' start end size words
    → size + 1 ≤ end → Room code end
    → (0 < start) × Room code' start
row_next w h room = (omega (arith, w.counts), room_before w room)

-- A pattern that is another is written as it is.
pub wrote_of : {code code' : List ℕ} {start end : ℕ} {r q : Node} → r ≡ q
    → Wrote code code' start end (size_of q) (in_words (rows_of q start))
    → Wrote code code' start end (size_of r) (in_words (rows_of r start))
wrote_of {code} {code'} {start} {end} e w =
    subst (λ q. Wrote code code' start end (size_of q) (in_words (rows_of q start))) (sym e) w

-- A row that is a set's or an assertion's, and the size of a group.
pub one_set : {r : Node} {s : List ℕ} → r ≡ bset s → size_of r ≡ 1
unfolding size_of
one_set e = ap size_of e

pub one_assertion : {r : Node} {a : ℕ} → r ≡ assert a → size_of r ≡ 1
unfolding size_of
one_assertion e = ap size_of e

pub group_size : {table : List ℕ} {top : ℕ} {r : Node} (i : IsGroup table top r) → size_of r ≡ size_of i.inside + 2
unfolding size_of
group_size i = ap size_of i.is

-- A quantifier, by the three words of its record.
pub record Quantifier (table : List ℕ) (top n : ℕ) (extra : Option ℕ) (lazy : Bool) (r : Node) : Type 0 where
  pub inside : Node
  pub is : r ≡ many n extra lazy inside
  pub part : Part table (top - 1) inside

bit_back : (b : Bool) → b ≡ eqb (bit_of b) 1
bit_back true = refl
bit_back false = refl

module _ {table : List ℕ} {top n m b : ℕ}
    (en : n ≡ word_of table top least_word) (em : m ≡ word_of table top most_word) (eb : b ≡ word_of table top lazy_word) where
  named : {r : Node} {extra : Option ℕ} (i : IsMany table top r) → i.extra ≡ extra → Quantifier table top n extra (eqb b 1) r
  named {extra = extra} i e =
      let lazy : i.lazy ≡ eqb b 1 = bit_back i.lazy ∙ ap (λ w. eqb w 1) (sym (eb ∙ i.bit)) in
      let is : many (word_of table top least_word) i.extra i.lazy i.inside ≡ many n extra (eqb b 1) i.inside
      = let back = sym en in λ j. many (back j) (e j) (lazy j) i.inside in
      record { inside = i.inside; is = i.is ∙ is; part = i.part }

  pub is_endless : (r : Node) → Part table top r → word_of table top kind_word ≡ quantifier_kind → m ≡ no_maximum
      → Quantifier table top n none (eqb b 1) r
  is_endless r p k h = let i = is_many r p k in named i (go i.extra i.most i.within)
    where
      go : (x : Option ℕ) → word_of table top most_word ≡ maximum (word_of table top least_word) x
          → Within (word_of table top least_word) x → x ≡ none
      go none e c = refl
      go (some x) e c = absurd (omega arith)

  pub is_bounded : (r : Node) → Part table top r → word_of table top kind_word ≡ quantifier_kind → (m ≡ no_maximum → ⊥)
      → (n ≤ m) × Quantifier table top n (some (m - n)) (eqb b 1) r
  is_bounded r p k h = let i = is_many r p k in let (l, e) = go i.extra i.most in (l, named i e)
    where
      go : (x : Option ℕ) → word_of table top most_word ≡ maximum (word_of table top least_word) x → (n ≤ m) × (x ≡ some (m - n))
      go none e = absurd (h (em ∙ e))
      go (some x) e = (omega arith, ap some (omega arith))

module _ {table : List ℕ} {top n : ℕ} {lazy : Bool} {r : Node} where
  pub endless_size : (i : Quantifier table top n none lazy r) → size_of r ≡ repeats_size n i.inside + turn_size i.inside
  unfolding size_of
  endless_size i = ap size_of i.is

  pub bounded_size : {extra : ℕ} (i : Quantifier table top n (some extra) lazy r)
      → size_of r ≡ repeats_size n i.inside + turns_size extra i.inside
  unfolding size_of
  bounded_size i = ap size_of i.is

-- A size below the cap is the size's word.
pub size_word_lem : {table : List ℕ} {top w : ℕ} {r : Node} → Part table top r → w ≡ word_of table top size_word → size_of r ≤ row_limit
    → w ≡ size_of r
size_word_lem p e h = e ∙ root_size p.ends ∙ omega arith

-- A turn that goes on at its own end goes on at the next.
pub turn_on : {table : List ℕ} {top : ℕ} {code code' : List ℕ} {start end : ℕ} (lazy : Bool) (out : ℕ)
    → Lays turn_size (turn_of lazy out end) table top code code' start end
    → Lays turn_size (λ r q. turn_of lazy out (past_turn (past r) q) r q) table top code code' start end
turn_on {code = code} {code' = code'} {start = start} {end = end} lazy out l = record {
  by = λ r p h.
      let w = l.by r p h in
      let e : end ≡ past_turn (past r) start = sym (past_turn_lem r start ∙ w.counts) in
      subst (λ k. Wrote code code' start end (turn_size r) (in_words (turn_of lazy out k r start))) e w;
}
