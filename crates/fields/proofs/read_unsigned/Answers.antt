-- Each return goes by the digits that were read, and by what stands behind them.
use Rattle.std.proofs.Common.{sym, ap, arith}
use Rattle.fields.specs.Laws.{small, no_digit, whole_read, no_point, fewer, more_behind, none_behind, all_read}
use Rattle.fields.specs.Views.{reading_by}
use Rattle.fields.proofs.read_unsigned.Goals.{then-all-s-via-then-all-s, then-all-s-via-else-all-s+then-all-whole}
use Rattle.fields.proofs.read_unsigned.Goals as goal

pub returns-then-whole-eq-DIGIT_LIMIT : goal.returns-then-whole-eq-DIGIT_LIMIT
returns-then-whole-eq-DIGIT_LIMIT c =
    ap reading_by (sym (no_digit c.args.s.now c.args.minus c.args.from c.digits_behind-whole.ensures c.if-whole-eq-DIGIT_LIMIT.true))

pub number_read-requires : goal.number_read-requires
number_read-requires c = (small _ _ (omega arith) c.digits_behind-whole.ensures.fair.bound, omega arith)

pub returns-then-whole-s : goal.returns-then-whole-s
returns-then-whole-s c =
    rw c.number_read.ensures
    (ap reading_by (sym (whole_read c.args.s.now c.args.minus c.args.from c.digits_behind-whole.ensures c.if-whole-eq-DIGIT_LIMIT.false c.if-whole-s.true)))

pub returns-then-s-whole-ne-POINT : goal.returns-then-s-whole-ne-POINT
returns-then-s-whole-ne-POINT c =
    ap reading_by (sym (no_point c.args.s.now c.args.minus c.args.from c.digits_behind-whole.ensures c.if-whole-eq-DIGIT_LIMIT.false c.if-whole-s.false
    c.if-s-whole-ne-POINT.true))

pub returns-then-all-s : goal.returns-then-all-s
returns-then-all-s c = ap reading_by (sym (elim c.then-all-s.branch [
  | then-all-s-via-then-all-s w ↦
      more_behind c.args.s.now c.args.minus c.args.from c.digits_behind-whole.ensures c.if-whole-eq-DIGIT_LIMIT.false c.if-whole-s.false
      c.if-s-whole-ne-POINT.false c.digits_behind-all.ensures w.if-all-s.true
  | then-all-s-via-else-all-s+then-all-whole w ↦
      none_behind c.args.s.now c.args.minus c.args.from c.digits_behind-whole.ensures c.if-whole-eq-DIGIT_LIMIT.false c.if-whole-s.false
      c.if-s-whole-ne-POINT.false c.digits_behind-all.ensures w.if-all-whole.true
]))

pub overflow_sub-whole : goal.overflow_sub-whole
overflow_sub-whole c =
    fewer c.args.s.now c.args.minus c.args.from c.digits_behind-whole.ensures c.if-whole-eq-DIGIT_LIMIT.false c.if-whole-s.false
    c.if-s-whole-ne-POINT.false c.digits_behind-all.ensures

pub number_read-requires-2 : goal.number_read-requires-2
number_read-requires-2 c =
    (small _ _ (omega arith) c.digits_behind-all.ensures.fair.bound, omega (arith, c.digits_behind-whole.ensures.fair.few))

pub returns : goal.returns
returns c =
    rw c.number_read-2.ensures
    (ap reading_by (sym (all_read c.args.s.now c.args.minus c.args.from c.digits_behind-whole.ensures c.if-whole-eq-DIGIT_LIMIT.false c.if-whole-s.false
    c.if-s-whole-ne-POINT.false c.digits_behind-all.ensures c.if-all-s.false c.if-all-whole.false)))
