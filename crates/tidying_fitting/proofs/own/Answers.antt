-- Each word is read from the part's own record.
use Rattle.tidying_fitting.proofs.Told.{asked, own_told}
use native.Mathlib.Omega.{arith}
use Rattle.tidying_fitting.proofs.own.Goals as goal

pub returns : goal.returns
returns c =
    own_told c.word.ensures
    c.word-2.ensures c.word-3.ensures
    c.word-4.ensures c.word-5.ensures c.word-6.ensures
    c.word-7.ensures

pub word-requires : goal.word-requires
word-requires c = omega (arith, asked c.requires)

pub word-requires-2 : goal.word-requires-2
word-requires-2 c = omega (arith, asked c.requires)

pub word-requires-3 : goal.word-requires-3
word-requires-3 c = omega (arith, asked c.requires)

pub word-requires-4 : goal.word-requires-4
word-requires-4 c = omega (arith, asked c.requires)

pub word-requires-5 : goal.word-requires-5
word-requires-5 c = omega (arith, asked c.requires)

pub word-requires-6 : goal.word-requires-6
word-requires-6 c = omega (arith, asked c.requires)

pub word-requires-7 : goal.word-requires-7
word-requires-7 c = omega (arith, asked c.requires)
