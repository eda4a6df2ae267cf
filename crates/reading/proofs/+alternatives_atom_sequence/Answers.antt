use Prim.Native.Nat.{ℕ, suc, ◌+◌, ◌-◌, ◌*◌, ◌≤◌, ◌<◌}
use mathlib.Core.Path.{◌≡◌, refl, sym, ap, ◌∙◌}
use mathlib.Core.Bool.{false}
use native.Mathlib.Omega.{arith}
use lib.ListN.{length, take}
use Rattle.std.proofs.Common.{rules}
use Rattle.meaning.specs.Limits.{depth_limit, group_limit}
use Rattle.meaning.specs.Flat.{Kind.sequence, Kind.alternation}
use Rattle.table.specs.Table.{record_words}
use Rattle.reading_atoms.specs.Chars.{byte_at, bar, open_paren, ends_sequence}
use Rattle.reading_atoms.specs.Places.{byte_is, byte_other}
use borrow.Author.Tests.{not-true, not-false}
use Rattle.reading_items.specs.Reading.{and_then, closed, sequence_go, alternatives_go, item_at, sequence_at, alternatives_at}
use Rattle.reading_items.specs.Facts.{Item, Stretch}
use Rattle.reading_items.specs.Meets.{Fine, grouped}
use Rattle.reading_items.proofs.Singles.{meet, meet_no, item_single}
use Rattle.reading.proofs.Turns.{Got-part, met_part, met_no, item_read, sequence_read, alternatives_read, kept_proper, part_top, some_part, start, fine_here, More, more, turn, closable, joined_meets, at_bar, seq_end, seq_no, seq_more, alt_no, alt_end, alt_more}
use Rattle.reading.proofs.+alternatives_atom_sequence.Goals.{alternatives-After-splice-spliced, alternatives-Else-ne, alternatives-In_ok-read, atom-In_ok-opening, atom-In_ok-inside, sequence-After-splice-spliced, sequence-In_ok-read, sequence-In-loop-table}
use Rattle.reading.proofs.+alternatives_atom_sequence.Goals as goal

-- the sequence that was read, where `sequence` answered a part
alternatives-got : (t : ℕ) (c : alternatives-In_ok-read t) →
    Got-part (sequence_at (depth_limit - c.args.depth) c.args.s.now c.loop-read.read.at c.loop-read.read.groups) c.in_ok-read.read.at c.in_ok-read.read.top
    c.in_ok-read.read.groups
    (take (record_words * c.loop-read.read.top) c.loop-read.table) c.sequence.new.table
alternatives-got t c = met_part c.in_ok-read.ensures refl

alternatives_stretch : (t : ℕ) (c : alternatives-In_ok-read t) →
    Stretch c.args.s.now (depth_limit - c.args.depth) c.loop-read.read.at c.loop-read.read.groups (alternatives-got t c).node c.in_ok-read.read.at
    c.in_ok-read.read.groups
alternatives_stretch t c =
    sequence_read (fine_here c.requires.0
    c.loop-read.invariant)
    (depth_limit - c.args.depth)
    (alternatives-got t c).read

-- the parts that were gathered, with its own
alternatives-gathered : (t : ℕ) (c : alternatives-After-splice-spliced t)
    → More c.requires.0
    c.loop-read.invariant
    c.sequence.new.table
    (alternatives-got t (goal.at.alternatives-After-splice-spliced t c).In_ok-read).node c.splice-spliced.result
alternatives-gathered t c =
    let i = alternatives_stretch t (goal.at.alternatives-After-splice-spliced t c).In_ok-read in
    more c.requires.0
    c.loop-read.invariant (kept_proper i.kept)
    i.kept.flat
    (omega (
      arith,
      i.few,
      i.kept.within,
      c.loop-read.invariant.room,
    ))
    (alternatives-got t (goal.at.alternatives-After-splice-spliced t c).In_ok-read).stands c.splice-spliced.ensures

-- the `|` that the turn stopped at, where the loop goes on
alternatives-bar : (t : ℕ) (c : alternatives-Else-ne t)
    → byte_at c.args.s.now c.in_ok-read.read.at ≡ bar
alternatives-bar t c = sym c.byte_at.ensures ∙ byte_is c.byte_at.result bar (not-false _ (sym c.if-ne.ensures))

pub alternatives-loop-read-init : goal.alternatives-loop-read-init
alternatives-loop-read-init t c =
    start (alternatives_go c.args.s.now (sequence_at (depth_limit - c.args.depth) c.args.s.now)) alternation
    c.requires.0

pub alternatives-returns-in_err-read : goal.alternatives-returns-in_err-read
alternatives-returns-in_err-read t c =
    let e = met_no c.in_err-read.ensures refl in
    let h = meet_no {x = alternatives_at (depth_limit - c.args.depth) c.args.s.now c.args.from.at c.args.from.groups} {before = take (record_words * c.args.from.top) c.args.table.now} {table' = c.sequence.new.table} (c.loop-read.invariant.same ∙ alt_no c.args.s.now (sequence_at (depth_limit - c.args.depth) c.args.s.now) c.loop-read.invariant.items c.loop-read.read.at
    c.loop-read.read.groups c.loop-read.invariant.fuel e.0) e.1 in
    search (rules, h)

pub alternatives-splice-spliced-requires : goal.alternatives-splice-spliced-requires
alternatives-splice-spliced-requires t c = some_part (alternatives-got t c)
    (kept_proper (alternatives_stretch t c).kept)

pub alternatives-overflow_add-count : goal.alternatives-overflow_add-count
alternatives-overflow_add-count t c = omega (arith, (alternatives-gathered t (goal.at.alternatives-overflow_add-count t c).After-splice-spliced).small)

pub alternatives-loop-read-smaller : goal.alternatives-loop-read-smaller
alternatives-loop-read-smaller t c = omega (
  arith,
  (alternatives_stretch t
      (goal.at.alternatives-loop-read-smaller t c).In_ok-read).on,
  at_bar
      c.args.s.now c.in_ok-read.read.at (alternatives-bar t (goal.at.alternatives-loop-read-smaller t c).Else-ne),
)

pub alternatives-loop-read-preserved : goal.alternatives-loop-read-preserved
alternatives-loop-read-preserved t c =
    let g = alternatives-got t (goal.at.alternatives-loop-read-preserved t c).In_ok-read in
    let i = alternatives_stretch t (goal.at.alternatives-loop-read-preserved t c).In_ok-read in
    let here = at_bar c.args.s.now c.in_ok-read.read.at (alternatives-bar t (goal.at.alternatives-loop-read-preserved t c).Else-ne) in
    turn c.requires.0 c.loop-read.invariant (c.in_ok-read.read.at + 1)
    c.in_ok-read.read.groups
    (alternatives-gathered t (goal.at.alternatives-loop-read-preserved t c).After-splice-spliced)
    c.sequence.auto.table (omega (arith, i.on)) (omega arith)
    i.kept.few_groups (omega (arith, i.few, c.loop-read.invariant.room))
    (λ n. alt_more c.args.s.now (sequence_at (depth_limit - c.args.depth) c.args.s.now) c.loop-read.invariant.items c.loop-read.read.at c.loop-read.read.groups n
    (alternatives-bar t (goal.at.alternatives-loop-read-preserved t c).Else-ne) g.read)

pub alternatives-joined-requires : goal.alternatives-joined-requires
alternatives-joined-requires t c =
    let f = fine_here c.requires.0 c.loop-read.invariant in
    let i = alternatives_stretch t (goal.at.alternatives-joined-requires t c).In_ok-read in
    let m = alternatives-gathered t (goal.at.alternatives-joined-requires t c).After-splice-spliced in
    closable c.args.s.now alternation m.gathered f.short
    (omega (arith, m.grown, i.few, i.kept.within, f.room))
    (omega (
      arith,
      f.words,
      c.sequence.auto.table,
    ))

pub alternatives-returns : goal.alternatives-returns
alternatives-returns t c =
    joined_meets alternation
    c.in_ok-read.read.at
    c.in_ok-read.read.groups
    (c.loop-read.invariant.same ∙ alt_end c.args.s.now (sequence_at (depth_limit - c.args.depth) c.args.s.now) c.loop-read.invariant.items c.loop-read.read.at c.loop-read.read.groups
    c.loop-read.invariant.fuel
    (λ e. byte_other c.byte_at.result bar (not-true _ (sym c.if-ne.ensures)) (omega arith) (c.byte_at.ensures ∙ e))
    (alternatives-got t (goal.at.alternatives-returns t c).In_ok-read).read)
    (alternatives-gathered t (goal.at.alternatives-returns t c).After-splice-spliced).gathered
    c.joined.ensures

-- what it opens, and the item by that
atom-inside : (t : ℕ) (c : atom-In_ok-opening t) →
    (c.args.depth < depth_limit) × (c.args.from.at < c.in_ok-opening.opening.from) × (c.in_ok-opening.opening.from ≤ length c.args.s.now) × (c.in_ok-opening.opening.groups ≤ group_limit)
    × (item_at (depth_limit - c.args.depth) c.args.s.now c.args.from.at c.args.from.groups
    ≡ and_then (alternatives_at (depth_limit - (c.args.depth + 1)) c.args.s.now c.in_ok-opening.opening.from c.in_ok-opening.opening.groups)
    (λ r end g. closed c.args.s.now (grouped c.in_ok-opening.opening.group r) end g))
atom-inside t c =
    let o = c.in_ok-opening.ensures.by in
    let d : depth_limit - c.args.depth ≡ suc (depth_limit - (c.args.depth + 1)) = omega (arith, o.0) in
    (o.0, o.1, o.2, o.3, rw d (o.4 (depth_limit - (c.args.depth + 1))))

atom_fine : (t : ℕ) (c : atom-In_ok-opening t) →
    Fine c.args.s.now c.args.table.now c.in_ok-opening.opening.from c.in_ok-opening.opening.groups c.args.from.top
atom_fine t c =
    let i = atom-inside t c in
    record {
      within = i.2;
      short = c.requires.0.short;
      few = i.3;
      room = omega
          (arith, c.requires.0.room, i.1);
      words = c.requires.0.words;
      bytes = c.requires.0.bytes;
    }

-- the alternatives that were read inside
atom-got : (t : ℕ) (c : atom-In_ok-inside t) →
    Got-part (alternatives_at (depth_limit - (c.args.depth + 1)) c.args.s.now
    c.in_ok-opening.opening.from
    c.in_ok-opening.opening.groups)
    c.in_ok-inside.inside.at c.in_ok-inside.inside.top c.in_ok-inside.inside.groups (take (record_words * c.args.from.top) c.args.table.now)
    c.alternatives.new.table
atom-got t c = met_part c.in_ok-inside.ensures refl

atom-stretch : (t : ℕ) (c : atom-In_ok-inside t) →
    Stretch c.args.s.now (depth_limit - (c.args.depth + 1))
    c.in_ok-opening.opening.from
    c.in_ok-opening.opening.groups (atom-got t c).node
    c.in_ok-inside.inside.at c.in_ok-inside.inside.groups
atom-stretch t c = alternatives_read (atom_fine t (goal.at.atom-In_ok-inside t c).In_ok-opening)
    (depth_limit - (c.args.depth + 1)) (atom-got t c).read

pub atom-returns-then-ne : goal.atom-returns-then-ne
atom-returns-then-ne t c =
    meet (item_at 0 c.args.s.now c.args.from.at c.args.from.groups)
    (item_single (depth_limit - c.args.depth) c.args.s.now c.args.from.at c.args.from.groups
    (λ e. byte_other c.byte_at.result open_paren (not-true _ (sym c.if-ne.ensures)) (omega arith) (c.byte_at.ensures ∙ e))) c.single.ensures

pub atom-closed-requires : goal.atom-closed-requires
atom-closed-requires t c =
    let g = atom-got t (goal.at.atom-closed-requires t c).In_ok-inside in
    let i = atom-stretch t (goal.at.atom-closed-requires t c).In_ok-inside in
    let o = atom-inside t (goal.at.atom-closed-requires t c).In_ok-opening in
    let top = part_top c.args.table.now c.args.from.top g.node (omega (arith, c.requires.0.room, c.requires.0.within, c.requires.0.words)) (kept_proper i.kept)
    g.stands in
    let low : c.in_ok-inside.inside.top ≤ 2 * c.in_ok-inside.inside.at
    = omega (arith, top, i.few, o.1, c.requires.0.room) in (
      record {
        within = i.kept.within;
        short = c.requires.0.short;
        room = omega (arith, low, i.kept.within);
        words = omega (arith, c.requires.0.words, c.alternatives.auto.table);
        bytes = c.requires.0.bytes;
      },
      some_part g (kept_proper i.kept),
      low,
    )

pub atom-returns : goal.atom-returns
atom-returns t c =
    let g = atom-got t (goal.at.atom-returns t c).In_ok-inside in
    meet (closed c.args.s.now
    (grouped c.in_ok-opening.opening.group g.node) c.in_ok-inside.inside.at
    c.in_ok-inside.inside.groups)
    ((atom-inside t (goal.at.atom-returns t c).In_ok-opening).4
    ∙ ap (λ x. and_then x (λ r end g. closed c.args.s.now
    (grouped c.in_ok-opening.opening.group r) end g)) g.read)
    (c.closed.ensures.by (take (record_words * c.args.from.top) c.args.table.now) g.node
    (record { stands = g.stands; proper = kept_proper (atom-stretch t (goal.at.atom-returns t c).In_ok-inside).kept }))

-- in a turn the sequence does not end
sequence_on : (t : ℕ) (c : sequence-In-loop-table t)
    → ends_sequence (byte_at c.args.s.now c.loop-table.read.at) ≡ false
sequence_on t c = sym c.ends_sequence.ensures ∙ c.loop-table-test.true

-- the item that was read, where `atom` answered a part
sequence-got : (t : ℕ) (c : sequence-In_ok-read t) →
    Got-part (item_at (depth_limit - c.args.depth) c.args.s.now c.loop-table.read.at c.loop-table.read.groups) c.in_ok-read.read.at c.in_ok-read.read.top
    c.in_ok-read.read.groups
    (take (record_words * c.loop-table.read.top) c.loop-table.table) c.atom.new.table
sequence-got t c = met_part c.in_ok-read.ensures refl

sequence-item : (t : ℕ) (c : sequence-In_ok-read t) →
    Item c.args.s.now (depth_limit - c.args.depth) c.loop-table.read.at c.loop-table.read.groups (sequence-got t c).node c.in_ok-read.read.at
    c.in_ok-read.read.groups
sequence-item t c =
    item_read (fine_here c.requires.0
    c.loop-table.invariant)
    (depth_limit - c.args.depth)
    (sequence_on t (goal.at.sequence-In_ok-read t c).In-loop-table) (sequence-got t c).read

-- the parts that were gathered, with its own
sequence-gathered : (t : ℕ) (c : sequence-After-splice-spliced t)
    → More c.requires.0 c.loop-table.invariant
    c.atom.new.table
    (sequence-got t (goal.at.sequence-After-splice-spliced t c).In_ok-read).node c.splice-spliced.result
sequence-gathered t c =
    let i = sequence-item t (goal.at.sequence-After-splice-spliced t c).In_ok-read in
    more c.requires.0 c.loop-table.invariant
    (kept_proper i.kept) i.kept.flat
    (omega (
      arith,
      i.few,
      i.kept.within,
      c.loop-table.invariant.room,
    ))
    (sequence-got t (goal.at.sequence-After-splice-spliced t c).In_ok-read).stands c.splice-spliced.ensures

pub sequence-loop-table-init : goal.sequence-loop-table-init
sequence-loop-table-init t c =
    start (sequence_go c.args.s.now (item_at (depth_limit - c.args.depth) c.args.s.now)) sequence c.requires.0

pub sequence-returns-in_err-read : goal.sequence-returns-in_err-read
sequence-returns-in_err-read t c =
    let e = met_no c.in_err-read.ensures refl in
    let h = meet_no {x = sequence_at (depth_limit - c.args.depth) c.args.s.now c.args.from.at c.args.from.groups} {before = take (record_words * c.args.from.top) c.args.table.now} {table' = c.atom.new.table} (c.loop-table.invariant.same ∙ seq_no c.args.s.now (item_at (depth_limit - c.args.depth) c.args.s.now) c.loop-table.invariant.items c.loop-table.read.at c.loop-table.read.groups
    c.loop-table.invariant.fuel
    (sequence_on t (goal.at.sequence-returns-in_err-read t c).In-loop-table) e.0) e.1 in
    search (rules, h)

pub sequence-splice-spliced-requires : goal.sequence-splice-spliced-requires
sequence-splice-spliced-requires t c = some_part (sequence-got t c)
    (kept_proper (sequence-item t c).kept)

pub sequence-overflow_add-count : goal.sequence-overflow_add-count
sequence-overflow_add-count t c = omega (arith, (sequence-gathered t (goal.at.sequence-overflow_add-count t c).After-splice-spliced).small)

pub sequence-loop-table-smaller : goal.sequence-loop-table-smaller
sequence-loop-table-smaller t c = omega (
  arith,
  (sequence-item t (goal.at.sequence-loop-table-smaller t c).In_ok-read).on,
  (sequence-item t
      (goal.at.sequence-loop-table-smaller t c).In_ok-read).kept.within,
)

pub sequence-loop-table-preserved : goal.sequence-loop-table-preserved
sequence-loop-table-preserved t c =
    let g = sequence-got t (goal.at.sequence-loop-table-preserved t c).In_ok-read in
    let i = sequence-item t (goal.at.sequence-loop-table-preserved t c).In_ok-read in
    turn c.requires.0 c.loop-table.invariant c.in_ok-read.read.at
    c.in_ok-read.read.groups (sequence-gathered t (goal.at.sequence-loop-table-preserved t c).After-splice-spliced)
    c.atom.auto.table i.on
    i.kept.within
    i.kept.few_groups (omega (arith, i.few, c.loop-table.invariant.room))
    (λ n. seq_more c.args.s.now (item_at (depth_limit - c.args.depth) c.args.s.now) c.loop-table.invariant.items c.loop-table.read.at c.loop-table.read.groups n
    (sequence_on t (goal.at.sequence-loop-table-preserved t c).In-loop-table) g.read)

pub sequence-returns : goal.sequence-returns
sequence-returns t c =
    joined_meets sequence c.loop-table.read.at c.loop-table.read.groups
    (c.loop-table.invariant.same ∙ seq_end c.args.s.now (item_at (depth_limit - c.args.depth) c.args.s.now) c.loop-table.invariant.items c.loop-table.read.at c.loop-table.read.groups
    c.loop-table.invariant.fuel
    (sym c.ends_sequence.ensures
    ∙ c.loop-table-test.false)) c.loop-table.invariant.gathered
    c.joined.ensures
