use Rattle.std.proofs.Common.{sym, subst, Bool, arith}
use Rattle.showing_form.specs.Checked.{Used, no_parts, turned, whole_there, several, unfit, stray, fine}
use Rattle.showing_form.proofs.form.Goals as goal

pub loop-count-init : goal.loop-count-init
loop-count-init c = (no_parts c.args.table.now, omega arith, λ i h. absurd (omega arith))

pub closes-requires : goal.closes-requires
closes-requires c =
    let u = c.used.ensures.yes_is c.loop-count-test.true in
    (c.loop-count.invariant.0, u.1, c.loop-count.invariant.1)

pub returns-in_err-count-clause-exact : goal.returns-in_err-count-clause-exact
returns-in_err-count-clause-exact c =
    let u = c.used.ensures.yes_is c.loop-count-test.true in
    rw c.from_residual.ensures (turned c.loop-count.invariant.0 u.2 c.in_err-count.ensures.exact)

pub returns-then-count-ne1-clause-exact : goal.returns-then-count-ne1-clause-exact
returns-then-count-ne1-clause-exact c =
    let over = subst (λ (b : Bool). Used b c.args.table.now c.loop-count.top) c.loop-count-test.false c.used.ensures in
    several c.loop-count.invariant.0 c.loop-count.invariant.1 c.loop-count.invariant.2 over c.if-count-ne1.true

pub whole_fits-requires : goal.whole_fits-requires
whole_fits-requires c = whole_there c.loop-count.invariant.0 c.if-count-ne1.false

pub returns-then-not-whole_fits-clause-exact : goal.returns-then-not-whole_fits-clause-exact
returns-then-not-whole_fits-clause-exact c =
    let over = subst (λ (b : Bool). Used b c.args.table.now c.loop-count.top) c.loop-count-test.false c.used.ensures in
    unfit c.loop-count.invariant.0 c.loop-count.invariant.1 c.loop-count.invariant.2 over (sym c.if-not-whole_fits.ensures)

pub returns-then-not-zeros-clause-exact : goal.returns-then-not-zeros-clause-exact
returns-then-not-zeros-clause-exact c =
    let over = subst (λ (b : Bool). Used b c.args.table.now c.loop-count.top) c.loop-count-test.false c.used.ensures in
    stray c.loop-count.invariant.0 c.loop-count.invariant.1 c.loop-count.invariant.2 over c.if-not-zeros.ensures

pub returns-clause-exact : goal.returns-clause-exact
returns-clause-exact c =
    let over = subst (λ (b : Bool). Used b c.args.table.now c.loop-count.top) c.loop-count-test.false c.used.ensures in
    fine c.loop-count.invariant.0 c.loop-count.invariant.1 c.loop-count.invariant.2 over c.if-count-ne1.false
    (sym c.if-not-whole_fits.ensures) c.if-not-zeros.ensures

pub returns-clause-some : goal.returns-clause-some
returns-clause-some c = (whole_there c.loop-count.invariant.0 c.if-count-ne1.false).0
