use mathlib.Core.Path.{◌∙◌}
use native.Mathlib.Omega.{arith}
use lib.ListN.{length-set}
use Rattle.running.specs.Positions.{registers_fit, prepared}
use Rattle.running.proofs.prepare.Goals as goal

pub spread-requires-2 : goal.spread-requires-2
spread-requires-2 c =
    let fits = registers_fit c.requires.0 in
    simp length-set (omega arith)

pub spread-requires-3 : goal.spread-requires-3
spread-requires-3 c =
    let same = simp length-set at c.spread-2.auto.work in
    omega arith

pub shape_of-work : goal.shape_of-work
shape_of-work c =
    c.spread-3.auto.work ∙ simp length-set at c.spread-2.auto.work ∙ c.spread.auto.work

pub returns : goal.returns
returns c =
    prepared c.requires.0 c.requires.2 c.spread.auto.work c.spread.ensures c.spread-2.auto.work
    c.spread-2.ensures c.spread-3.auto.work c.spread-3.ensures
