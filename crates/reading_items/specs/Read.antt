-- Whatever is read, of any bytes: flat, with groups numbered in order, and within the limits.
use Rattle.std.specs.Prelude.{◌≡◌, false, List, ℕ}
use Rattle.meaning.specs.Bytes.{Bytes}
use Rattle.meaning.specs.Node.{Node}
use Rattle.reading_atoms.specs.Laws.{escape_byte, escape_named, escape_assertion, class_holds, quantifier_repeated}
use Rattle.reading_items.specs.Kept.{AtomLaws, Read, reading_keeps}
use Rattle.reading_items.specs.Reading.{Reading.pattern, reading}

-- The readers of escapes, classes and quantifiers keep what they must.
pub atom_laws : {s : List ℕ} → Bytes s → AtomLaws s
atom_laws {s} bytes = record {
  escape_byte = λ at b e h q. let f = escape_byte false s at bytes q in (f.0, f.1);
  escape_named = λ at k h q. (escape_named false s at bytes q).1;
  escape_assertion = λ at a h q. escape_assertion false s at bytes q;
  class_set_lem = λ at set e h q. class_holds s at bytes q;
  quantifier = λ at min extra lazy e h q. quantifier_repeated s at q;
}

-- Whatever the table's size, what is read is so.
pub what_is_read : {s : List ℕ} (bytes : Bytes s) (table : ℕ) (r : Node) (g : ℕ) → reading s table ≡ pattern r g
    → Read s (atom_laws bytes) r g
what_is_read {s} bytes = reading_keeps s (atom_laws bytes)
