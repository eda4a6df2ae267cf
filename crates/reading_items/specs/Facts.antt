-- What is read is flat, its groups are numbered by their opening parenthesis, its counts and depths are within the limits, and
-- it has at most two records for each byte and one more.
use Rattle.std.specs.Prelude.{◌≡◌, refl, Bool, true, false, List, ℕ, zero, suc, ◌+◌, ◌*◌, ◌≤◌, ◌<◌, ltb, length}
use Rattle.std.proofs.Common.{sym, ◌∙◌}
use Rattle.std.proofs.Math.ListN.{get_or-eq_default}
use borrow.Author.Tests.{eqb-true, eqb-false, leb-false, ltb-false, eq-eqb}
use Rattle.sets.specs.Sets.{Formed}
use Rattle.meaning.specs.Limits.{group_limit, last_assertion}
use Rattle.meaning.specs.Node.{Node, Node.empty, Node.bset, Node.assert, Node.group, Node.seq, Node.alt, Node.many, Within}
use Rattle.meaning.specs.Node.{Proper}
use Rattle.meaning.specs.Flat.{Kind, Kind.sequence, Kind.alternation, pair, Flat}
use Rattle.meaning.specs.Numbering.{Numbers}
use Rattle.table.specs.Table.{record_count}
use Rattle.reading_atoms.specs.Chars.{no_byte, byte_at, choose}
use Rattle.reading_items.specs.Parts.{Shared}
use Rattle.reading_items.specs.Reading.{Part, Part.part, Part.turned, and_then}

-- A proper pattern whose groups nest no deeper than d.
abbrev pub Fair : Node → ℕ → Type 0
Fair empty d = Unit {0}
Fair (bset s) d = Formed s
Fair (assert a) d = a ≤ last_assertion
Fair (group k r) zero = ⊥
Fair (group k r) (suc d) = (1 ≤ k) × Fair r d
Fair (seq r q) d = Fair r d × Fair q d
Fair (alt r q) d = Fair r d × Fair q d
Fair (many n e lazy r) d = Within n e × Fair r d

pub fair_more : (r : Node) (d : ℕ) → Fair r d → Fair r (suc d)
fair_more empty d h = tt
fair_more (bset s) d h = h
fair_more (assert a) d h = h
fair_more (group k r) zero h = absurd h
fair_more (group k r) (suc d) h = (h.0, fair_more r d h.1)
fair_more (seq r q) d h = (fair_more r d h.0, fair_more q d h.1)
fair_more (alt r q) d h = (fair_more r d h.0, fair_more q d h.1)
fair_more (many n e lazy r) d h = (h.0, fair_more r d h.1)

pub fair_proper : (r : Node) (d : ℕ) → Fair r d → Proper r
fair_proper empty d h = tt
fair_proper (bset s) d h = h
fair_proper (assert a) d h = h
fair_proper (group k r) zero h = absurd h
fair_proper (group k r) (suc d) h = (h.0, fair_proper r d h.1)
fair_proper (seq r q) d h = (fair_proper r d h.0, fair_proper q d h.1)
fair_proper (alt r q) d h = (fair_proper r d h.0, fair_proper q d h.1)
fair_proper (many n e lazy r) d h = (h.0, fair_proper r d h.1)

pub fair_shared : (d : ℕ) → Shared (λ r. Fair r d)
fair_shared d = record { both = both; each = each; nothing = tt }
  where
    both : (k : Kind) (r q : Node) → Fair r d → Fair q d → Fair (pair k r q) d
    both sequence r q h g = (h, g)
    both alternation r q h g = (h, g)

    each : (k : Kind) (r q : Node) → Fair (pair k r q) d → Fair r d × Fair q d
    each sequence r q h = h
    each alternation r q h = h

-- What every part that is read keeps, up to the place behind it and the groups so far.
pub record Kept (s : List ℕ) (d g : ℕ) (r : Node) (at' g' : ℕ) : Type 0 where
  pub within : at' ≤ length s
  pub flat : Flat r
  pub numbers : Numbers (suc g) r (suc g')
  pub fair : Fair r d
  pub few_groups : g' ≤ group_limit

-- An item takes a byte or more and has less than two records for each; a stretch, which is a sequence or alternatives, may have
-- one more.
pub record Item (s : List ℕ) (d at g : ℕ) (r : Node) (at' g' : ℕ) : Type 0 where
  pub kept : Kept s d g r at' g'
  pub on : at < at'
  pub few : record_count r + 2 * at + 1 ≤ 2 * at'

pub record Stretch (s : List ℕ) (d at g : ℕ) (r : Node) (at' g' : ℕ) : Type 0 where
  pub kept : Kept s d g r at' g'
  pub on : at ≤ at'
  pub few : record_count r + 2 * at ≤ 2 * at' + 1

-- What holds of a part, where one was read.
abbrev pub Ok : (Node → ℕ → ℕ → Type 0) → Part → Type 0
Ok P (part r at g) = P r at g
Ok P (turned number place) = Unit {0}

pub ok_then : (P Q : Node → ℕ → ℕ → Type 0) (p : Part) (f : Node → ℕ → ℕ → Part)
    → Ok P p → ((r : Node) (at g : ℕ) → P r at g → Ok Q (f r at g)) → Ok Q (and_then p f)
ok_then P Q (part r at g) f h k = k r at g h
ok_then P Q (turned number place) f h k = tt

pub ok_choose : (P : Node → ℕ → ℕ → Type 0) (b : Bool) (x y : Unit {0} → Part)
    → (b ≡ true → Ok P (x tt)) → (b ≡ false → Ok P (y tt)) → Ok P (choose b x y)
ok_choose P true x y h k = h refl
ok_choose P false x y h k = k refl

-- A place with a byte lies in the pattern.
pub byte_within : (s : List ℕ) (at b : ℕ) → byte_at s at ≡ b → (b ≡ no_byte → ⊥) → at < length s
byte_within s at b e h = go (ltb at (length s)) refl
  where
    go : (t : Bool) → ltb at (length s) ≡ t → at < length s
    go true f = borrow.Author.Tests.ltb-true at (length s) f
    go false f = absurd (h (sym e ∙ get_or-eq_default s no_byte {n = at} (ltb-false at (length s) f)))
