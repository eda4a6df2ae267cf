-- Items that hold no other part, by their first byte. Assumes nothing.
use mathlib.Core.Path.{◌≡◌, refl, sym, ◌∙◌}
use mathlib.Core.Bool.{Bool, true, false, ◌||◌, true≢false}
use mathlib.Core.List.{List}
use Prim.Native.Nat.{ℕ, zero, suc, ◌+◌, ◌≤◌, ◌<◌}
use native.Mathlib.Omega.{arith}
use lib.Dec.{eqb}
use lib.ListN.{length, get_or}
use borrow.Author.Tests.{ne_eqb, eqb-true}
use Rattle.meaning.specs.Node.{Node.assert}
use Rattle.reading_atoms.specs.Chars.{byte_at, open_paren, open_bracket, close_bracket, open_brace, close_brace}
use Rattle.reading_atoms.specs.Chars.{backslash, dot, caret, dollar, star, plus, question, is_quantifier}
use Rattle.reading_atoms.specs.Places.{byte_there}
use Rattle.reading_atoms.specs.Classes.{class_at}
use Rattle.reading_atoms.specs.Escapes.{escape_at}
use Rattle.reading_items.specs.Reading.{Part, Part.part, Part.turned, Opening, set_item, class_part, escape_item, literal_set}
use Rattle.reading_items.specs.Reading.{dot_set}
use Rattle.reading_items.specs.Reading.{item_by, item_at}
use Rattle.reading_items.specs.Meets.{Fine, Behind, Room, Meets}
use Rattle.reading_items.specs.Answers.{Got, Got.GotRefused}

-- A reading that is known.
pub meet : {x : Part} {answer : Got} {before table' : List ℕ} (y : Part) → x ≡ y → Meets y answer before table'
    → Meets x answer before table'
meet y e h = rw e h

pub meet_no : {x : Part} {before table' : List ℕ} {number place : ℕ} → x ≡ turned number place → 3 < number
    → Meets x (GotRefused number place) before table'
meet_no e h = rw e (record { by = (refl, h) })

-- At a later place, with the same top, there is room too.
pub fine_on : {s table : List ℕ} {at g top : ℕ} (b : ℕ) → Fine s table at g top → at ≤ b → b ≤ length s → Fine s table b g top
fine_on b f h k = record {
  within = k;
  short = f.short;
  few = f.few;
  room = omega
      (arith, f.room);
  words = f.words;
  bytes = f.bytes;
}

pub fine_room : {s table : List ℕ} {at g top : ℕ} → Fine s table at g top → Room table top
fine_room f = record {
  low = omega (arith, f.room, f.within, f.short);
  words = omega (arith, f.room, f.within, f.words);
}

-- Behind a set that was put.
pub behind_set : {s table table' : List ℕ} {at g top : ℕ} → Fine s table at g top → length table' ≡ length table
    → Behind s table' at (top + 1)
behind_set f e = record {
  within = f.within;
  short = f.short;
  room = omega (arith, f.room, f.within);
  words = omega (arith, e, f.words);
  bytes = f.bytes;
}

-- ---- an item by its first byte, where it is no `(`
module _ (paren paren' : Opening → Part) (s : List ℕ) (at g : ℕ) where
  pub item_same : (byte_at s at ≡ open_paren → ⊥) → item_by paren s at g ≡ item_by paren' s at g
  unfolding item_by
  item_same f = rw (ne_eqb (byte_at s at) open_paren f)

pub item_single : (d : ℕ) (s : List ℕ) (at g : ℕ) → (byte_at s at ≡ open_paren → ⊥) → item_at d s at g ≡ item_at 0 s at g
unfolding item_at
item_single zero s at g f = refl
item_single (suc d) s at g f = item_same _ _ s at g f

module _ (s : List ℕ) (at g : ℕ) (h : at < length s) where
  here : (b : ℕ) → get_or s at 0 ≡ b → byte_at s at ≡ b
  here b e = byte_there s at h ∙ e

  pub class_item_lem : get_or s at 0 ≡ open_bracket → item_at 0 s at g ≡ class_part s g (class_at s at)
  unfolding item_at item_by
  class_item_lem e = rw (here open_bracket e)

  pub escape_item_lem : get_or s at 0 ≡ backslash → item_at 0 s at g ≡ escape_item s at g (escape_at false s at)
  unfolding item_at item_by
  escape_item_lem e = rw (here backslash e)

  pub dot_item : get_or s at 0 ≡ dot → item_at 0 s at g ≡ set_item s dot_set (at + 1) g
  unfolding item_at item_by
  dot_item e = rw (here dot e)

  pub caret_item : get_or s at 0 ≡ caret → item_at 0 s at g ≡ part (assert 0) (at + 1) g
  unfolding item_at item_by
  caret_item e = rw (here caret e)

  pub dollar_item : get_or s at 0 ≡ dollar → item_at 0 s at g ≡ part (assert 1) (at + 1) g
  unfolding item_at item_by
  dollar_item e = rw (here dollar e)

  pub stray_item : (b : ℕ) → is_quantifier b ≡ false → (eqb b close_bracket || eqb b close_brace) ≡ true → eqb b open_paren ≡ false
      → eqb b open_bracket ≡ false → eqb b backslash ≡ false → eqb b dot ≡ false → eqb b caret ≡ false → eqb b dollar ≡ false
      → get_or s at 0 ≡ b → item_at 0 s at g ≡ turned 12 at
  unfolding item_at item_by
  stray_item b q r a c d e f i j = rw (here b j, q, r, a, c, d, e, f, i)

  pub other_item : (b : ℕ) → get_or s at 0 ≡ b → is_quantifier b ≡ false → (b ≡ open_paren → ⊥) → (b ≡ open_bracket → ⊥)
      → (b ≡ backslash → ⊥)
      → (b ≡ dot → ⊥) → (b ≡ caret → ⊥) → (b ≡ dollar → ⊥) → (b ≡ close_bracket → ⊥) → (b ≡ close_brace → ⊥)
      → item_at 0 s at g ≡ set_item s (literal_set b) (at + 1) g
  unfolding item_at item_by
  other_item b e q p o c d f i x y =
      rw (
        here b e,
        q,
        ne_eqb b open_paren p,
        ne_eqb b open_bracket o,
        ne_eqb b backslash c,
        ne_eqb b dot d,
        ne_eqb b caret f,
        ne_eqb b dollar i,
        ne_eqb b close_bracket x,
        ne_eqb b close_brace y,
      )

-- A quantifier with no atom to repeat.
pub no_atom_lem : (s : List ℕ) (at g : ℕ) → at < length s → (b : ℕ) → get_or s at 0 ≡ b → is_quantifier b ≡ true
    → item_at 0 s at g ≡ turned 6 at
unfolding item_at item_by
no_atom_lem s at g h b e q = go (eqb b star) refl (eqb b plus) refl (eqb b question) refl (eqb b open_brace) refl q
  where
    go : (w : Bool) → eqb b star ≡ w → (x : Bool) → eqb b plus ≡ x → (y : Bool) → eqb b question ≡ y → (z : Bool)
        → eqb b open_brace ≡ z
        → (w || x || y || z) ≡ true → item_at 0 s at g ≡ turned 6 at
    go true i x j y k z l t = rw (here s at g h star (e ∙ eqb-true b star i))
    go false i true j y k z l t = rw (here s at g h plus (e ∙ eqb-true b plus j))
    go false i false j true k z l t = rw (here s at g h question (e ∙ eqb-true b question k))
    go false i false j false k true l t = rw (here s at g h open_brace (e ∙ eqb-true b open_brace l))
    go false i false j false k false l t = absurd (true≢false (sym t))
