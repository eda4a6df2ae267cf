use mathlib.Core.Path.{refl, ap, ◌∙◌}
use Prim.Native.Nat.{◌+◌}
use Rattle.std.proofs.Common.{rules}
use Rattle.sets.specs.Laws.{words_of}
use Rattle.reading_atoms.specs.Classes.{Class.holds}
use Rattle.reading_atoms.specs.Places.{bytes_of}
use Rattle.reading_atoms.specs.ClassLaws.{reading_none, reading_end, reading_closed, reading_broken}
use Rattle.reading_atoms.specs.ClassLaws.{reading_less, reading_more}
use Rattle.reading_atoms.proofs.classes.class_go.Goals as goal

pub loop-read-init : goal.loop-read-init
loop-read-init c = reading_none c.args.negated (words_of c.none.ensures) c.requires

pub returns-then-s-read-eq93 : goal.returns-then-s-read-eq93
returns-then-s-read-eq93 c =
    ap (λ set. holds set (c.loop-read.read.end + 1)) c.class_set.ensures
    ∙ reading_closed c.loop-read.invariant c.loop-read-test.true c.if-s-read-eq93.true

pub returns-in_err-read : goal.returns-in_err-read
returns-in_err-read c =
    let fine = bytes_of c.args.s.now c.type_inv.s in
    let h = reading_broken c.loop-read.invariant c.loop-read-test.true fine c.if-s-read-eq93.false c.in_err-read.ensures refl in
    search (rules, h)

pub loop-read-smaller : goal.loop-read-smaller
loop-read-smaller c =
    let fine = bytes_of c.args.s.now c.type_inv.s in
    reading_less c.loop-read.invariant c.loop-read-test.true fine c.if-s-read-eq93.false c.in_ok-read.ensures refl

pub loop-read-preserved : goal.loop-read-preserved
loop-read-preserved c =
    let fine = bytes_of c.args.s.now c.type_inv.s in
    reading_more c.loop-read.invariant c.loop-read-test.true fine c.if-s-read-eq93.false c.in_ok-read.ensures refl

pub returns : goal.returns
returns c = rw c.at.ensures (reading_end c.loop-read.invariant c.loop-read-test.false)
