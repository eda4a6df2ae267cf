use mathlib.Core.Path.{◌∙◌, ◌≡◌, refl, ap₂, sym, ap}
use Prim.Native.Nat.{◌+◌, ◌-◌, suc}
use Rattle.machine.specs.Layout.{size_of, past}
use Rattle.code_words.specs.Wrote.{room_before, wrote_as}
use Rattle.code_rows.specs.Cases.{part_some, records_low, is_alternation, is_group, is_set, is_assertion, is_empty, no_other, rest_of, is_sequence}
use Rattle.code_rows.specs.Lines.{lined_none, lined_asks, lined_low, lined_more, lined_done, looped_more, looped_done}
use Rattle.code_rows.specs.Shapes.{some_alternative, last_alternative, alternation_size, wrote_alternation, wrote_alternative, wrote_fresh, wrote_group, wrote_empty, wrote_set, wrote_assertion, wrote_bounded, wrote_endless, past_fresh, items_all, wrote_sequence, wrote_turn, past_turn_lem}
use Rattle.code_rows.specs.Asking.{word_there, row_first, row_next, wrote_of, group_size, one_set, one_assertion, is_endless, is_bounded, endless_size, bounded_size, size_word_lem, turn_on}
use native.Mathlib.Omega.{arith}
use Rattle.machine.specs.Kinds.{reset_kind, consume_kind, assert_kind}
use Rattle.machine.specs.Words.{plain_words}
use Rattle.code_rows.specs.Emits.{fresh_size, turn_size, fresh_rows}
use Rattle.table.specs.Roots.{root_groups}
use Rattle.meaning.specs.Node.{Node.group}
use mathlib.Core.List.{◌∷◌}
use lib.Dec.{eqb}
use mathlib.Core.Bool.{cond}
use Rattle.code_rows.proofs.+writing.Invariants.{one, next}
use Rattle.code_rows.proofs.+writing.Goals as goal

-- `alternation`: The last alternative is written, and of the others so many, from the last of them back.
pub alternation-word-items-requires : goal.alternation-word-items-requires
alternation-word-items-requires t c =
    word_there _ (omega arith) c.requires.0.part

pub alternation-overflow_sub-last : goal.alternation-overflow_sub-last
alternation-overflow_sub-last t c =
    omega (arith, part_some c.requires.0.part)

pub alternation-part-at-requires : goal.alternation-part-at-requires
alternation-part-at-requires t c =
    let i = is_alternation c.requires.0.node c.requires.0.part c.requires.1 in
    let l = last_alternative c.requires.0.part i in (
      omega (arith, c.decreases, part_some c.requires.0.part),
      record { node = l.node; part = l.part; fits = omega (arith, c.requires.0.fits, alternation_size c.requires.0.part i); room = c.requires.0.room },
    )

pub alternation-previous-item-requires : goal.alternation-previous-item-requires
alternation-previous-item-requires t c =
    let p = (last_alternative c.requires.0.part (is_alternation c.requires.0.node c.requires.0.part c.requires.1)).part in
    ((part_some p).0, (part_some p).1, records_low p)

pub alternation-loop-init : goal.alternation-loop-init
alternation-loop-init t c = (
  λ r p i h.
      let l = last_alternative p i in
      let w = c.part-at.ensures.by l.node l.part (omega (arith, alternation_size p i)) in
      rw (c.previous-item.ensures, c.word-items.ensures)
      (lined_none c.part-at.new.code c.part-at.result l.rest (omega (arith, some_alternative p i)) (omega (arith, alternation_size p i, w.counts))),
  omega (arith, c.previous-item.ensures, part_some c.requires.0.part),
)

pub alternation-alternative-at-requires : goal.alternation-alternative-at-requires
alternation-alternative-at-requires t c =
    let i = is_alternation c.requires.0.node c.requires.0.part c.requires.1 in
    let l = last_alternative c.requires.0.part i in
    let w = c.part-at.ensures.by l.node l.part (omega (arith, c.requires.0.fits, alternation_size c.requires.0.part i)) in (
      omega (arith, c.decreases, c.loop.invariant.1),
      lined_asks (c.loop.invariant.0 c.requires.0.node c.requires.0.part i c.requires.0.fits) c.loop-test.true (room_before w c.requires.0.room),
    )

pub alternation-previous-item-requires-in-loop : goal.alternation-previous-item-requires-in-loop
alternation-previous-item-requires-in-loop t c =
    let i = is_alternation c.requires.0.node c.requires.0.part c.requires.1 in
    lined_low (c.loop.invariant.0 c.requires.0.node c.requires.0.part i c.requires.0.fits) c.loop-test.true

pub alternation-loop-preserved : goal.alternation-loop-preserved
alternation-loop-preserved t c = (
  λ r p i h.
      let l = last_alternative p i in
      let w = c.part-at.ensures.by l.node l.part (omega (arith, alternation_size p i)) in
      rw c.previous-item-in-loop.ensures
      (lined_more (c.loop.invariant.0 r p i h) c.loop-test.true (room_before w c.requires.0.room) c.alternative-at.ensures),
  omega (arith, c.previous-item-in-loop.ensures, c.loop.invariant.1),
)

pub alternation-returns : goal.alternation-returns
alternation-returns t c =
    record {
      by = λ r p h.
          let i = is_alternation r p c.requires.1 in
          let l = last_alternative p i in
          let w = c.part-at.ensures.by l.node l.part (omega (arith, alternation_size p i)) in
          wrote_alternation p i c.requires.0.room w
          (lined_done (c.loop.invariant.0 r p i h) c.loop-test.false);
    }

-- `alternative`: Jump, the part and Fork are written one before the other.
pub alternative-returns : goal.alternative-returns
alternative-returns t c =
    record {
      by = λ r p h.
          wrote_alternative r c.requires.room c.args.out c.row_before-behind.ensures (c.part-body.ensures.by r p (omega (arith, c.row_before-behind.ensures.counts)))
          c.row_before.ensures;
    }

-- `fresh`: Reset is written before the part.
pub fresh-word-requires : goal.fresh-word-requires
fresh-word-requires t c =
    word_there _ (omega arith) c.requires.part

pub fresh-word-requires-2 : goal.fresh-word-requires-2
fresh-word-requires-2 t c =
    word_there _ (omega arith) c.requires.part

pub fresh-returns : goal.fresh-returns
fresh-returns t c =
    record {
      by = λ r p h.
          let words = ap₂ (plain_words reset_kind) (c.word.ensures ∙ (root_groups p.ends).0) (c.word-2.ensures ∙ (root_groups p.ends).1) in
          wrote_fresh r c.requires.room (c.part-first.ensures.by r p (omega arith)) (wrote_as c.row_before.ensures refl words);
    }

-- `group`: Close, the part and Open are written one before the other.
pub group-word-k-requires : goal.group-word-k-requires
group-word-k-requires t c =
    word_there _ (omega arith) c.requires.0.part

pub group-row_before-inside-requires : goal.group-row_before-inside-requires
group-row_before-inside-requires t c =
    row_first 0 (omega (arith, c.requires.0.fits, group_size (is_group c.requires.0.node c.requires.0.part c.requires.1))) c.requires.0.room

pub group-overflow_sub-top : goal.group-overflow_sub-top
group-overflow_sub-top t c =
    omega (arith, part_some c.requires.0.part)

pub group-part-first-requires : goal.group-part-first-requires
group-part-first-requires t c =
    let i = is_group c.requires.0.node c.requires.0.part c.requires.1 in (
      omega (arith, c.decreases, part_some c.requires.0.part),
      record {
        node = i.inside;
        part = i.part;
        fits = omega (arith, c.requires.0.fits, group_size i, c.row_before-inside.ensures.counts);
        room = room_before c.row_before-inside.ensures c.requires.0.room;
      },
    )

pub group-row_before-requires : goal.group-row_before-requires
group-row_before-requires t c =
    let i = is_group c.requires.0.node c.requires.0.part c.requires.1 in
    row_next (c.part-first.ensures.by i.inside i.part (omega (arith, c.requires.0.fits, group_size i, c.row_before-inside.ensures.counts)))
    (omega (arith, c.requires.0.fits, group_size i, c.row_before-inside.ensures.counts)) (room_before c.row_before-inside.ensures c.requires.0.room)

pub group-returns : goal.group-returns
group-returns t c =
    record {
      by = λ r p h.
          let i = is_group r p c.requires.1 in
          let w' = c.part-first.ensures.by i.inside i.part (omega (arith, group_size i, c.row_before-inside.ensures.counts)) in
          wrote_of (i.is ∙ ap (λ k. group k i.inside) (sym c.word-k.ensures))
          (wrote_group i.inside c.requires.0.room c.word-k.result c.row_before-inside.ensures w' c.row_before.ensures);
    }

-- `part`: The kind of the record says what the pattern is.
pub part-word-requires : goal.part-word-requires
part-word-requires t c =
    word_there _ (omega arith) c.requires.part

pub part-last_words-requires : goal.part-last_words-requires
part-last_words-requires t c =
    part_some c.requires.part

pub part-put_before-requires : goal.part-put_before-requires
part-put_before-requires t c =
    let e = one_set (is_set c.requires.node c.requires.part (sym c.word.ensures ∙ c.in-2.is)) in
    row_first 0 (omega (arith, c.requires.fits)) c.requires.room

pub part-word-requires-in-3 : goal.part-word-requires-in-3
part-word-requires-in-3 t c =
    word_there _ (omega arith) c.requires.part

pub part-row_before-requires : goal.part-row_before-requires
part-row_before-requires t c =
    let e = one_assertion (is_assertion c.requires.node c.requires.part (sym c.word.ensures ∙ c.in-3.is)) in
    row_first 0 (omega (arith, c.requires.fits)) c.requires.room

pub part-returns-in-2 : goal.part-returns-in-2
part-returns-in-2 t c =
    record {
      by = λ r p h.
          let words = c.consuming.ensures ∙ ap (λ l. consume_kind ∷ 0 ∷ 0 ∷ 0 ∷ l) c.last_words.ensures in
          wrote_of (is_set r p (sym c.word.ensures ∙ c.in-2.is)) (wrote_set _ (wrote_as c.put_before.ensures refl words));
    }

pub part-returns-in-3 : goal.part-returns-in-3
part-returns-in-3 t c =
    record {
      by = λ r p h.
          let words = ap (λ a. plain_words assert_kind a 0) c.word-in-3.ensures in
          wrote_of (is_assertion r p (sym c.word.ensures ∙ c.in-3.is))
          (wrote_assertion _ (wrote_as c.row_before.ensures refl words));
    }

pub part-returns-in-1 : goal.part-returns-in-1
part-returns-in-1 t c = record { by = λ r p h. wrote_of (is_empty r p (sym c.word.ensures ∙ c.in-1.is)) wrote_empty }

pub part-returns-in_default : goal.part-returns-in_default
part-returns-in_default t c =
    record {
      by = λ r p h. no_other r p (λ e. omega arith) (λ e. omega arith) (λ e. omega arith) (λ e. omega arith)
          (λ e. omega arith) (λ e. omega arith) (λ e. omega arith);
    }

-- `quantifier`: The turns that can be left out, and then those that must be, are written.
pub quantifier-word-least-requires : goal.quantifier-word-least-requires
quantifier-word-least-requires t c =
    word_there _ (omega arith) c.requires.0.part

pub quantifier-word-most-requires : goal.quantifier-word-most-requires
quantifier-word-most-requires t c =
    word_there _ (omega arith) c.requires.0.part

pub quantifier-word-lazy-requires : goal.quantifier-word-lazy-requires
quantifier-word-lazy-requires t c =
    word_there _ (omega arith) c.requires.0.part

pub quantifier-overflow_sub-inside : goal.quantifier-overflow_sub-inside
quantifier-overflow_sub-inside t c =
    omega (arith, part_some c.requires.0.part)

pub quantifier-word-size-requires : goal.quantifier-word-size-requires
quantifier-word-size-requires t c =
    let i = is_endless c.word-least.ensures c.word-most.ensures c.word-lazy.ensures c.requires.0.node c.requires.0.part
    c.requires.1 c.if-most-eq-NO_MAXIMUM.true in
    word_there _ (omega arith) i.part

pub quantifier-overflow_sub-back : goal.quantifier-overflow_sub-back
quantifier-overflow_sub-back t c =
    let i = is_endless c.word-least.ensures c.word-most.ensures c.word-lazy.ensures c.requires.0.node c.requires.0.part
    c.requires.1 c.if-most-eq-NO_MAXIMUM.true in
    let s : c.word-size.result ≡ size_of i.inside
    = size_word_lem i.part c.word-size.ensures (omega (arith, c.requires.0.fits, c.requires.0.room.few, endless_size i)) in
    omega (arith, s, c.requires.0.fits, endless_size i)

pub quantifier-turn-first-requires : goal.quantifier-turn-first-requires
quantifier-turn-first-requires t c =
    let i = is_endless c.word-least.ensures c.word-most.ensures c.word-lazy.ensures c.requires.0.node c.requires.0.part
    c.requires.1 c.if-most-eq-NO_MAXIMUM.true in (
      omega (arith, c.decreases, part_some c.requires.0.part),
      record { node = i.inside; part = i.part; fits = omega (arith, c.requires.0.fits, endless_size i); room = c.requires.0.room },
    )

pub quantifier-repeats-requires : goal.quantifier-repeats-requires
quantifier-repeats-requires t c =
    let i = is_endless c.word-least.ensures c.word-most.ensures c.word-lazy.ensures c.requires.0.node c.requires.0.part
    c.requires.1 c.if-most-eq-NO_MAXIMUM.true in
    let w = c.turn-first.ensures.by i.inside i.part (omega (arith, c.requires.0.fits, endless_size i)) in (
      omega (arith, c.decreases, part_some c.requires.0.part),
      record {
        node = i.inside;
        part = i.part;
        fits = omega (arith, c.requires.0.fits, endless_size i, w.counts);
        room = room_before w c.requires.0.room;
      },
    )

pub quantifier-returns-then-most-eq-NO_MAXIMUM : goal.quantifier-returns-then-most-eq-NO_MAXIMUM
quantifier-returns-then-most-eq-NO_MAXIMUM t c =
    record {
      by = λ r p h.
          let i = is_endless c.word-least.ensures c.word-most.ensures c.word-lazy.ensures r p c.requires.1 c.if-most-eq-NO_MAXIMUM.true in
          let s : c.word-size.result ≡ size_of i.inside
          = size_word_lem i.part c.word-size.ensures (omega (arith, c.requires.0.room.few, endless_size i)) in
          let w = c.turn-first.ensures.by i.inside i.part (omega (arith, endless_size i)) in
          let w' = c.repeats.ensures.by i.inside i.part (omega (arith, endless_size i, w.counts)) in
          wrote_of i.is (wrote_endless i.inside c.requires.0.room c.word-least.result (eqb c.word-lazy.result 1) (c.args.end - (c.word-size.result + 4))
          (omega (arith, s, endless_size i)) w w');
    }

pub quantifier-overflow_sub-most : goal.quantifier-overflow_sub-most
quantifier-overflow_sub-most t c =
    let (l, i) = is_bounded c.word-least.ensures c.word-most.ensures c.word-lazy.ensures c.requires.0.node c.requires.0.part
    c.requires.1 c.if-most-eq-NO_MAXIMUM.false in
    omega arith

pub quantifier-turns-first-requires : goal.quantifier-turns-first-requires
quantifier-turns-first-requires t c =
    let (l, i) = is_bounded c.word-least.ensures c.word-most.ensures c.word-lazy.ensures c.requires.0.node c.requires.0.part
    c.requires.1 c.if-most-eq-NO_MAXIMUM.false in (
      omega (arith, c.decreases, part_some c.requires.0.part),
      record { node = i.inside; part = i.part; fits = omega (arith, c.requires.0.fits, bounded_size i); room = c.requires.0.room },
    )

pub quantifier-repeats-requires-2 : goal.quantifier-repeats-requires-2
quantifier-repeats-requires-2 t c =
    let (l, i) = is_bounded c.word-least.ensures c.word-most.ensures c.word-lazy.ensures c.requires.0.node c.requires.0.part
    c.requires.1 c.if-most-eq-NO_MAXIMUM.false in
    let w = c.turns-first.ensures.by i.inside i.part (omega (arith, c.requires.0.fits, bounded_size i)) in (
      omega (arith, c.decreases, part_some c.requires.0.part),
      record {
        node = i.inside;
        part = i.part;
        fits = omega (arith, c.requires.0.fits, bounded_size i, w.counts);
        room = room_before w c.requires.0.room;
      },
    )

pub quantifier-returns : goal.quantifier-returns
quantifier-returns t c =
    record {
      by = λ r p h.
          let (l, i) = is_bounded c.word-least.ensures c.word-most.ensures c.word-lazy.ensures r p c.requires.1 c.if-most-eq-NO_MAXIMUM.false in
          let w = c.turns-first.ensures.by i.inside i.part (omega (arith, bounded_size i)) in
          let w' = c.repeats-2.ensures.by i.inside i.part (omega (arith, bounded_size i, w.counts)) in
          wrote_of i.is (wrote_bounded i.inside c.requires.0.room c.word-least.result (c.word-most.result - c.word-least.result) (eqb c.word-lazy.result 1) w w');
    }

-- `repeats`: So many passes are written, from the last one back.
pub repeats-loop-preserved : goal.repeats-loop-preserved
repeats-loop-preserved t c =
    looped_more fresh_size fresh_rows (λ r p. past r (suc p)) past_fresh c.loop.invariant c.loop-test.true
    c.requires.room c.fresh-at.ensures

pub repeats-returns : goal.repeats-returns
repeats-returns t c = looped_done fresh_size fresh_rows (λ r p. past r (suc p)) past_fresh c.loop.invariant c.loop-test.false

-- `sequence`: So many items are written, from the last one back.
pub sequence-word-items-requires : goal.sequence-word-items-requires
sequence-word-items-requires t c =
    word_there _ (omega arith) c.requires.0.part

pub sequence-overflow_sub-item : goal.sequence-overflow_sub-item
sequence-overflow_sub-item t c =
    omega (arith, part_some c.requires.0.part)

pub sequence-loop-init : goal.sequence-loop-init
sequence-loop-init t c = (
  λ r p h. rw c.word-items.ensures
      (lined_none c.args.code.now c.args.end (rest_of p) (omega arith)
      (omega (arith, (items_all (is_sequence r p c.requires.1)).0))),
  omega (arith, part_some c.requires.0.part),
)

pub sequence-part-at-requires : goal.sequence-part-at-requires
sequence-part-at-requires t c = (
  omega (arith, c.decreases, c.loop.invariant.1),
  lined_asks (c.loop.invariant.0 c.requires.0.node c.requires.0.part c.requires.0.fits) c.loop-test.true c.requires.0.room,
)

pub sequence-previous-item-requires : goal.sequence-previous-item-requires
sequence-previous-item-requires t c =
    lined_low (c.loop.invariant.0 c.requires.0.node c.requires.0.part c.requires.0.fits) c.loop-test.true

pub sequence-loop-preserved : goal.sequence-loop-preserved
sequence-loop-preserved t c = (
  λ r p h. rw c.previous-item.ensures
      (lined_more (c.loop.invariant.0 r p h) c.loop-test.true c.requires.0.room c.part-at.ensures),
  omega (arith, c.previous-item.ensures, c.loop.invariant.1),
)

pub sequence-returns : goal.sequence-returns
sequence-returns t c =
    record {
      by = λ r p h.
          wrote_sequence (is_sequence r p c.requires.1)
          (lined_done (c.loop.invariant.0 r p h) c.loop-test.false);
    }

-- `turn`: End, a fresh pass, Begin and Fork are written one before the other.
pub turn-returns-then-lazy : goal.turn-returns-then-lazy
turn-returns-then-lazy t c =
    record {
      by = λ r p h.
          let fork = ap (λ b. cond b (plain_words 4 c.args.out c.row_before-first.result) (plain_words 4 c.row_before-first.result c.args.out)) (sym c.if-lazy.true) in
          wrote_turn r c.requires.room c.args.lazy c.args.out c.args.back c.row_before-last.ensures
          (c.fresh-body.ensures.by r p (omega (arith, c.row_before-last.ensures.counts))) c.row_before-first.ensures
          (wrote_as c.row_before.ensures refl fork);
    }

pub turn-returns : goal.turn-returns
turn-returns t c =
    record {
      by = λ r p h.
          let fork = ap (λ b. cond b (plain_words 4 c.args.out c.row_before-first.result) (plain_words 4 c.row_before-first.result c.args.out)) (sym c.if-lazy.false) in
          wrote_turn r c.requires.room c.args.lazy c.args.out c.args.back c.row_before-last.ensures
          (c.fresh-body.ensures.by r p (omega (arith, c.row_before-last.ensures.counts))) c.row_before-first.ensures
          (wrote_as c.row_before-2.ensures refl fork);
    }

-- `turns`: So many turns are written, from the last one back.
pub turns-loop-preserved : goal.turns-loop-preserved
turns-loop-preserved t c =
    looped_more turn_size (one c.args.lazy c.args.end) next past_turn_lem c.loop.invariant c.loop-test.true
    c.requires.room (turn_on c.args.lazy c.args.end c.turn-at.ensures)

pub turns-returns : goal.turns-returns
turns-returns t c =
    looped_done turn_size (one c.args.lazy c.args.end) next past_turn_lem c.loop.invariant
    c.loop-test.false
