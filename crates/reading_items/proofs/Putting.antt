-- The records that the readers put. Assumes nothing.
use mathlib.Core.Path.{◌≡◌, refl, sym}
use mathlib.Core.Bool.{Bool, true, false, cond, ◌||◌, true≢false}
use mathlib.Core.Option.{Option, none, some}
use mathlib.Core.List.{List, [], ◌∷◌, ◌++◌, append-nil}
use Prim.Native.Nat.{ℕ, zero, suc, ◌+◌, ◌-◌, ◌*◌, ◌≤◌}
use native.Mathlib.Omega.{arith}
use lib.Dec.{eqb}
use mir.Val.{bool_byte}
use lib.ListN.{length, take, get_or, replicate}
use borrow.Author.Tests.{eqb-true}
use Rattle.sets.specs.Sets.{Formed}
use Rattle.meaning.specs.Limits.{last_assertion, no_maximum}
use Rattle.meaning.specs.Node.{Node, Node.bset, Node.assert, Node.group, Node.many, Within, Proper}
use Rattle.table.specs.Table.{assertion_kind, set_kind, group_kind, quantifier_kind, no_set, record_words, maximum, bit_of}
use Rattle.table.specs.Table.{records}
use Rattle.table.specs.Laws.{inner, kind_of, operand_of, last_of}
use Rattle.table.specs.Stands.{Stands, Ends, SomePart, Series, Made, Putting, Puts}
use Rattle.std.specs.Prelude.{None, Some, Ok, Err}
use Rattle.meaning.specs.Refusing.{number_of}
use Rattle.meaning.specs.declared.refusals.Refused.{Refused}
use Rattle.reading_atoms.specs.Answers.{QuantifierIs}
use Rattle.reading_atoms.specs.Chars.{byte_at, star, plus, question, open_brace, is_quantifier}
use Rattle.reading_atoms.specs.Braces as braces
use Rattle.reading_atoms.specs.Braces.{quantifier_at}
use Rattle.reading_atoms.specs.Laws.{quantifier_repeated}
use Rattle.reading_atoms.specs.declared.braces.Repeat.{Repeat}
use Rattle.reading_items.specs.Reading.{Part.part}
use Rattle.reading_items.specs.Numbers.{miscounted_late}
use Rattle.reading_items.specs.Meets.{Behind, Room, Meets, Quantifies, grouped, Groups}
use Rattle.reading_items.specs.Answers.{Got.GotPart, Got.GotRefused}

-- A record that closes the parts of a pattern is that pattern's own.
pub made : {table : List ℕ} {top items : ℕ} {before : List ℕ} (r : Node) → Series table top items before (inner r) → Proper r
    → Made table top (kind_of r) (operand_of r) items (get_or (last_of r) 0 0) (get_or (last_of r) 1 0) before r
made r series p =
    record { series = series; same_kind = refl; same_operand = refl; same_least = refl; same_most = refl; proper = p }

pub putting : {table : List ℕ} {top items : ℕ} {before : List ℕ} (r : Node) → Series table top items before (inner r) → Proper r
    → length (last_of r) ≡ 8 → Room table top → Putting table top (kind_of r) (operand_of r) items (last_of r)
putting {before = before} r series p eight room = record {
  some = record { before = before; node = r; made = made r series p; low = room.low };
  eight = eight;
  room = room.words;
}

-- A part of its own stands on what stood below the top; one that holds a part stands on that part.
pub series_none : {table : List ℕ} {top : ℕ} → Room table top → Series table top 0 (take (record_words * top) table) []
series_none {table} {top} room = record {
  stands = record { below = sym (append-nil (take (record_words * top) table)); room = omega (arith, room.words) };
  counted = refl;
  proper = tt;
}

pub series_one : {table : List ℕ} {top : ℕ} {before : List ℕ} {r : Node} → Ends table top before r
    → Series table top 1 before (r ∷ [])
series_one {r = r} ends = record {
  stands = rw (append-nil (records r)) ends.stands;
  counted = refl;
  proper = (ends.proper, tt);
}

-- Behind a part there is room for one record more.
pub behind_room : {s table : List ℕ} {at top : ℕ} → Behind s table at top → Room table top
behind_room b = record { low = omega (arith, b.room, b.short); words = omega (arith, b.room, b.words) }

-- ---- an assertion, and a byte set
pub assert_putting : {table : List ℕ} {top : ℕ} (a : ℕ) → Room table top → a ≤ last_assertion
    → Putting table top assertion_kind a 0 no_set
unfolding inner
assert_putting a room h = putting (assert a) (series_none room) h refl room

pub assert_meets : {table table' : List ℕ} {top a : ℕ} (at g : ℕ) → Room table top → a ≤ last_assertion
    → Puts table table' top assertion_kind a 0 no_set
    → Meets (part (assert a) at g) (GotPart at (top + 1) g) (take (record_words * top) table) table'
unfolding inner
assert_meets {top = top} {a = a} at g room h p = record {
  by = (top + 1, refl, p.by _ (assert a) (made (assert a) (series_none room) h) refl);
}

pub set_putting : {table : List ℕ} {top : ℕ} {set : List ℕ} → Formed set → Room table top → Putting table top set_kind 0 0 set
unfolding inner
set_putting {set = set} formed room = putting (bset set) (series_none room) formed formed.eight room

pub set_stands : {table table' : List ℕ} {top : ℕ} {set : List ℕ} → Formed set → Room table top
    → Puts table table' top set_kind 0 0 set
    → Stands table' (top + 1) (take (record_words * top) table ++ records (bset set))
unfolding inner
set_stands {set = set} formed room p = p.by _ (bset set) (made (bset set) (series_none room) formed) refl

-- ---- a group
pub group_putting : {table : List ℕ} {top : ℕ} (k : ℕ) → (k ≡ 0 → ⊥) → Room table top → SomePart table top
    → Putting table top group_kind k 1 no_set
unfolding inner
group_putting k h room s =
    putting {before = s.before} (group k s.part) (series_one s.ends) (omega arith, s.ends.proper) refl room

as_group : (k : ℕ) (r : Node) → (k ≡ 0 → ⊥) → grouped k r ≡ group k r
as_group zero r h = absurd (h refl)
as_group (suc k) r h = refl

pub group_groups : {table table' : List ℕ} {top k : ℕ} → (k ≡ 0 → ⊥) → Room table top
    → Puts table table' top group_kind k 1 no_set
    → Groups k top (top + 1) table table'
unfolding inner
group_groups {k = k} h room p = record {
  by = λ before r ends.
      rw (as_group k r h) (p.by before (group k r) (made (group k r) (series_one ends) (omega arith, ends.proper)) refl);
  next = omega arith;
}

pub no_group : {table : List ℕ} {top k : ℕ} → k ≡ 0 → Groups k top top table table
no_group e = record { by = λ before r ends. rw e ends.stands; next = omega arith }

-- ---- a quantifier
abbrev extra_of : ℕ → ℕ → Option ℕ
extra_of min max = cond (eqb max no_maximum) none (some (max - min))

-- A laziness as the code's word.
bool_bit : (b : Bool) → bool_byte b ≡ bit_of b
bool_bit true = refl
bool_bit false = refl

maximum_is : (min max : ℕ) → min ≤ max → maximum min (extra_of min max) ≡ max
maximum_is min max h = go (eqb max no_maximum) refl
  where
    go : (t : Bool) → eqb max no_maximum ≡ t → maximum min (cond t none (some (max - min))) ≡ max
    go true e = sym (eqb-true max no_maximum e)
    go false e = omega arith

-- The last of five, where none of the four tests before it holds.
last_of_five : (a b c d e : braces.Quantifier) (k l m n : Bool) → (k || l || m || n) ≡ false
    → cond k a (cond l b (cond m c (cond n d e))) ≡ e
last_of_five a b c d e false false false false h = refl
last_of_five a b c d e false false false true h = absurd (true≢false h)
last_of_five a b c d e false false true n h = absurd (true≢false h)
last_of_five a b c d e false true m n h = absurd (true≢false h)
last_of_five a b c d e true l m n h = absurd (true≢false h)

module _ (s : List ℕ) (at : ℕ) where
  -- Where no quantifier begins there is none.
  no_quantifier : is_quantifier (byte_at s at) ≡ false → quantifier_at s at ≡ braces.Quantifier.once
  unfolding quantifier_at
  no_quantifier h =
      let b : ℕ = byte_at s at in
      last_of_five _ _ _ _ _ (eqb b star) (eqb b plus) (eqb b question) (eqb b open_brace) h

  pub once_quantifies : {g top : ℕ} {table : List ℕ} → QuantifierIs (Ok None) (quantifier_at s at)
      → Quantifies s at g top table table (GotPart at top g)
  once_quantifies {top = top} is = record {
    by = λ before r ends. rw (sym is.same) (record { by = (top, refl, ends.stands) });
  }

  pub none_quantifies : {g top : ℕ} {table : List ℕ} → is_quantifier (byte_at s at) ≡ false
      → Quantifies s at g top table table (GotPart at top g)
  none_quantifies h = once_quantifies (record { same = sym (no_quantifier h); ordered = tt })

  pub refused_quantifies : {g top : ℕ} {table : List ℕ} {e : Refused} → QuantifierIs (Err e) (quantifier_at s at)
      → Quantifies s at g top table table (GotRefused (number_of e.why) e.place)
  refused_quantifies {e = e} is = record {
    by = λ before r ends.
        let x : quantifier_at s at ≡ braces.Quantifier.miscounted (number_of e.why) e.place = sym is.same in
        rw x (record { by = (refl, miscounted_late s at x) });
  }

  module _ {q : Repeat} (is : QuantifierIs (Ok (Some q)) (quantifier_at s at)) where
    is_repeated : quantifier_at s at ≡ braces.Quantifier.repeated q.min (extra_of q.min q.max) q.lazy q.end
    is_repeated = sym is.same

    within : Within q.min (extra_of q.min q.max)
    within = (quantifier_repeated s at is_repeated).2

    pub many_putting : {table : List ℕ} {top : ℕ} → Room table top → SomePart table top
        → Putting table top quantifier_kind 0 1 (q.min ∷ q.max ∷ bool_byte q.lazy ∷ replicate 5 0)
    unfolding inner
    many_putting room p =
        rw (maximum_is q.min q.max is.ordered, ← bool_bit q.lazy) at
        (putting {before = p.before} (many q.min (extra_of q.min q.max) q.lazy p.part) (series_one p.ends)
        (within, p.ends.proper) refl room)

    pub many_quantifies : {g top : ℕ} {table table' : List ℕ} → Room table top
        → Puts table table' top quantifier_kind 0 1 (q.min ∷ q.max ∷ bool_byte q.lazy ∷ replicate 5 0)
        → Quantifies s at g top table table' (GotPart q.end (top + 1) g)
    unfolding inner
    many_quantifies {top = top} {table = table} {table' = table'} room puts = record {
      by = λ before r ends.
          let p : Puts table table' top quantifier_kind 0 1 (last_of (many q.min (extra_of q.min q.max) q.lazy r))
          = rw (maximum_is q.min q.max is.ordered, ← bool_bit q.lazy) puts in
          rw is_repeated (record {
            by = (
              top + 1,
              refl,
              p.by before (many q.min (extra_of q.min q.max) q.lazy r)
                  (made (many q.min (extra_of q.min q.max) q.lazy r) (series_one ends) (within, ends.proper)) refl,
            );
          });
    }
