-- What stands in a table where a pattern's records end: the words of its own record, and the parts inside it, from the last
-- one back.
use Rattle.std.specs.Prelude.{◌≡◌, refl, Bool, List, [], ◌∷◌, ◌++◌, ℕ, ◌+◌, ◌-◌, ◌*◌, ◌≤◌, ◌<◌, length, take, drop}
use Rattle.std.proofs.Common.{sym, subst, ◌∙◌, arith}
use Rattle.std.proofs.Math.Path.{ap}
use Rattle.std.proofs.Math.Option.{Option}
use Rattle.std.proofs.Math.ListN.{get_or}
use Rattle.meaning.specs.Limits.{set_words}
use Rattle.meaning.specs.Node.{Node, Node.empty, Node.bset, Node.assert, Node.group, Node.many, Within}
use Rattle.meaning.specs.Node.{Proper}
use Rattle.meaning.specs.Flat.{Kind, Kind.sequence, Kind.alternation, pair}
use Rattle.table.specs.Table.{empty_kind, set_kind, assertion_kind, group_kind, sequence_kind, alternation_kind, quantifier_kind}
use Rattle.table.specs.Table.{kind_word, operand_word, records_word, items_word, set_word, least_word, most_word, lazy_word}
use Rattle.table.specs.Table.{record_words, word_of, maximum, bit_of}
use Rattle.table.specs.Laws.{inner, operand_of, last_of, of_kind}
use Rattle.table.specs.Laws.{Kinded, Kinded.nothing, Kinded.set, Kinded.assertion, Kinded.grouped, Kinded.items, Kinded.choices}
use Rattle.table.specs.Laws.{Kinded.quantified}
use Rattle.table.specs.Stands.{Series}
use Rattle.table.specs.Roots.{some_records, few_records_lem, root_kind, root_operand, root_records, root_items, root_last, inside}
use Rattle.table.specs.Roots.{root_set, some_last, last_ends, shorter}
use Rattle.code_rows.specs.Emits.{Part}

-- The words of a part's own record, and the series of the parts inside it.
module _ {table : List ℕ} {top : ℕ} {r : Node} (p : Part table top r) where
  pub part_some : (0 < top) × (record_words * top ≤ length table)
  part_some = (omega (arith, some_records p.ends, few_records_lem p.ends), p.ends.stands.room)

  pub records_low : word_of table top records_word ≤ top
  records_low = omega (arith, root_records p.ends, few_records_lem p.ends)

-- A series of parts ends at `top`, as many as are left.
pub record Rest (table : List ℕ) (top left : ℕ) (l : List Node) : Type 0 where
  pub before : List ℕ
  pub series : Series table top left before l

-- The parts inside a pattern end before its own record.
pub rest_of : {table : List ℕ} {top : ℕ} {r : Node} → Part table top r
    → Rest table (top - 1) (word_of table top items_word) (inner r)
rest_of p = record { before = p.before; series = rw (root_items p.ends) (inside p.ends) }

-- The last of a series, and those before it.
pub record Last (table : List ℕ) (top left : ℕ) (l : List Node) : Type 0 where
  pub front : List Node
  pub node : Node
  pub are : l ≡ front ++ (node ∷ [])
  pub part : Part table top node
  pub rest : Rest table (top - word_of table top records_word) (left - 1) front

pub the_last : {table : List ℕ} {top left : ℕ} {l : List Node} → Rest table top left l → 0 < left → Last table top left l
the_last {table} {top} {left} {l} s h =
    let k = some_last l (omega (arith, s.series.counted)) in
    let series : Series table top left s.before (k.front ++ (k.last ∷ [])) = rw k.split at s.series in
    let part : Part table top k.last = record { before = _; ends = last_ends k.front k.last series } in
    record {
      front = k.front;
      node = k.last;
      are = k.split;
      part = part;
      rest = record { before = s.before; series = rw (root_records part.ends) (shorter k.front k.last series) };
    }

-- The one part inside a pattern.
only : {table : List ℕ} {top left : ℕ} (r : Node) → Rest table top left (r ∷ []) → Part table top r
only r s = record { before = _; ends = last_ends [] r s.series }

-- A pattern, by the kind of its own record.
pub record IsGroup (table : List ℕ) (top : ℕ) (r : Node) : Type 0 where
  pub inside : Node
  pub is : r ≡ group (word_of table top operand_word) inside
  pub part : Part table (top - 1) inside

pub record IsMany (table : List ℕ) (top : ℕ) (r : Node) : Type 0 where
  pub extra : Option ℕ
  pub lazy : Bool
  pub inside : Node
  pub is : r ≡ many (word_of table top least_word) extra lazy inside
  pub most : word_of table top most_word ≡ maximum (word_of table top least_word) extra
  pub bit : word_of table top lazy_word ≡ bit_of lazy
  pub within : Within (word_of table top least_word) extra
  pub part : Part table (top - 1) inside

pub record IsPair (k : Kind) (r : Node) : Type 0 where
  pub left : Node
  pub right : Node
  pub is : r ≡ pair k left right

module _ {table : List ℕ} {top : ℕ} where
  -- A part is what the kind of its own record says.
  kind_said : {k : ℕ} {r : Node} → Part table top r → word_of table top kind_word ≡ k → Kinded r k
  kind_said {r = r} p e = of_kind r (sym (root_kind p.ends) ∙ e)

  pub is_set : (r : Node) → Part table top r → word_of table top kind_word ≡ set_kind
      → r ≡ bset (take set_words (drop (record_words * (top - 1) + set_word) table))
  is_set r p e = go (kind_said p e)
    where
      go : Kinded r set_kind → r ≡ bset (take set_words (drop (record_words * (top - 1) + set_word) table))
      go (set s f) = f ∙ ap bset (sym (root_set p.ends ∙ ap last_of f))

  pub is_assertion : (r : Node) → Part table top r → word_of table top kind_word ≡ assertion_kind
      → r ≡ assert (word_of table top operand_word)
  is_assertion r p e = go (kind_said p e)
    where
      go : Kinded r assertion_kind → r ≡ assert (word_of table top operand_word)
      go (assertion a f) = f ∙ ap assert (sym (root_operand p.ends ∙ ap operand_of f))

  pub is_group : (r : Node) → Part table top r → word_of table top kind_word ≡ group_kind → IsGroup table top r
  unfolding inner
  is_group r p e = go (kind_said p e)
    where
      go : Kinded r group_kind → IsGroup table top r
      go (grouped k q f) = record {
        inside = q;
        is = f ∙ ap (λ k. group k q) (sym (root_operand p.ends ∙ ap operand_of f));
        part = only q (rw (ap inner f) at (rest_of p));
      }

  pub is_sequence : (r : Node) → Part table top r → word_of table top kind_word ≡ sequence_kind → IsPair sequence r
  is_sequence r p e = go (kind_said p e)
    where
      go : Kinded r sequence_kind → IsPair sequence r
      go (items a b f) = record { left = a; right = b; is = f }

  pub is_alternation : (r : Node) → Part table top r → word_of table top kind_word ≡ alternation_kind → IsPair alternation r
  is_alternation r p e = go (kind_said p e)
    where
      go : Kinded r alternation_kind → IsPair alternation r
      go (choices a b f) = record { left = a; right = b; is = f }

  pub is_many : (r : Node) → Part table top r → word_of table top kind_word ≡ quantifier_kind → IsMany table top r
  unfolding inner
  is_many r p e = go (kind_said p e)
    where
      last : (i : ℕ) → i < set_words → {q : Node} → r ≡ q → word_of table top (set_word + i) ≡ get_or (last_of q) i 0
      last i h f = root_last p.ends i h ∙ ap (λ x. get_or (last_of x) i 0) f

      go : Kinded r quantifier_kind → IsMany table top r
      go (quantified n x lazy q f) =
          let least : word_of table top least_word ≡ n = last 0 (omega arith) f in
          let proper : Proper (many n x lazy q) = subst Proper f p.ends.proper in
          record {
            extra = x;
            lazy = lazy;
            inside = q;
            is = f ∙ ap (λ n. many n x lazy q) (sym least);
            most = last 1 (omega arith) f ∙ ap (λ n. maximum n x) (sym least);
            bit = last 2 (omega arith) f;
            within = rw least proper.0;
            part = only q (rw (ap inner f) at (rest_of p));
          }

  pub is_empty : (r : Node) → Part table top r → word_of table top kind_word ≡ empty_kind → r ≡ empty
  is_empty r p e = go (kind_said p e)
    where
      go : Kinded r empty_kind → r ≡ empty
      go (nothing f) = f

  -- There is no other kind.
  pub no_other : {A : Type 0} (r : Node) → Part table top r → (word_of table top kind_word ≡ empty_kind → ⊥)
      → (word_of table top kind_word ≡ set_kind → ⊥) → (word_of table top kind_word ≡ assertion_kind → ⊥)
      → (word_of table top kind_word ≡ group_kind → ⊥) → (word_of table top kind_word ≡ sequence_kind → ⊥)
      → (word_of table top kind_word ≡ alternation_kind → ⊥) → (word_of table top kind_word ≡ quantifier_kind → ⊥) → A
  no_other r p h₁ h₂ h₃ h₄ h₅ h₆ h₇ = absurd (go (word_of table top kind_word) refl (kind_said p refl))
    where
      go : (w : ℕ) → word_of table top kind_word ≡ w → Kinded r w → ⊥
      go w e (nothing f) = h₁ e
      go w e (set s f) = h₂ e
      go w e (assertion a f) = h₃ e
      go w e (grouped k q f) = h₄ e
      go w e (items a b f) = h₅ e
      go w e (choices a b f) = h₆ e
      go w e (quantified n x lazy q f) = h₇ e
