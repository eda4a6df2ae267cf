-- Any pattern made flat: alike, with the same groups and rows. So it does not matter how a reading nests parts.
use Rattle.std.specs.Prelude.{◌≡◌, refl}
use Rattle.std.proofs.Common.{sym, subst, ◌∙◌, arith}
use Rattle.std.proofs.Math.Option.{none, some}
use Rattle.meaning.specs.Node.{Node, Node.empty, Node.bset, Node.assert, Node.group, Node.seq, Node.alt, Node.many}
use Rattle.machine.specs.Layout.{size_of}
use Rattle.tidying_laws.specs.Groups.{groups, Positive, positive_both}
use Rattle.tidying_laws.specs.Alike.{order_sym, Alike, alike, alike_refl, alike_trans}
use Rattle.tidying_laws.specs.Alike.{alike_group, alike_seq, alike_alt, alike_many}
use Rattle.meaning.specs.Flat.{Kind, Kind.sequence, Kind.alternation, pair, glue, adds_glue, spreads_glue, Flat, flat_spreads}
use Rattle.tidying_laws.specs.Measures.{rows_adds, groups_adds}
use Rattle.tidying_laws.specs.Tried.{glue_pair}

unfoldable pub flatten : Node → Node
flatten empty = empty
flatten (bset s) = bset s
flatten (assert a) = assert a
flatten (group k r) = group k (flatten r)
flatten (seq r q) = glue sequence (flatten r) (flatten q)
flatten (alt r q) = glue alternation (flatten r) (flatten q)
flatten (many n e lazy r) = many n e lazy (flatten r)

pub flatten_flat : (r : Node) → Flat (flatten r)
unfolding flatten
flatten_flat empty = tt
flatten_flat (bset s) = tt
flatten_flat (assert a) = tt
flatten_flat (group k r) = flatten_flat r
flatten_flat (seq r q) = spreads_glue (flat_spreads sequence) (flatten r) (flatten q) (flatten_flat r) (flatten_flat q)
flatten_flat (alt r q) = spreads_glue (flat_spreads alternation) (flatten r) (flatten q) (flatten_flat r) (flatten_flat q)
flatten_flat (many n e lazy r) = flatten_flat r

pub flatten_rows : (r : Node) → size_of (flatten r) ≡ size_of r
unfolding flatten size_of
flatten_rows empty = refl
flatten_rows (bset s) = refl
flatten_rows (assert a) = refl
flatten_rows (group k r) = rw (flatten_rows r)
flatten_rows (seq r q) = omega (arith, adds_glue (rows_adds sequence) (flatten r) (flatten q), flatten_rows r, flatten_rows q)
flatten_rows (alt r q) = omega (arith, adds_glue (rows_adds alternation) (flatten r) (flatten q), flatten_rows r, flatten_rows q)
flatten_rows (many n none lazy r) = rw (flatten_rows r)
flatten_rows (many n (some e) lazy r) = rw (flatten_rows r)

glued : (k : Kind) {s : Node} (r q : Node) → Positive (groups s) → Alike s (pair k r q) → Alike s (glue k r q)
glued k r q p e =
    alike_trans e (alike (subst Positive e.numbers p) ((groups_adds k).both r q ∙ sym (adds_glue (groups_adds k) r q))
    (order_sym (glue_pair k r q)))

pub flatten_alike : (r : Node) → Positive (groups r) → Alike r (flatten r)
unfolding flatten groups
flatten_alike empty p = alike_refl empty
flatten_alike (bset s) p = alike_refl (bset s)
flatten_alike (assert a) p = alike_refl (assert a)
flatten_alike (group k r) p = alike_group k (flatten_alike r p.1)
flatten_alike (seq r q) p =
    let (a, b) = positive_both (groups r) (groups q) p in
    glued sequence (flatten r) (flatten q) p (alike_seq (flatten_alike r a) (flatten_alike q b))
flatten_alike (alt r q) p =
    let (a, b) = positive_both (groups r) (groups q) p in
    glued alternation (flatten r) (flatten q) p (alike_alt (flatten_alike r a) (flatten_alike q b))
flatten_alike (many n e lazy r) p = alike_many n e lazy (flatten_alike r p)
