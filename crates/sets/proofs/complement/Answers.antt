use Prim.Native.Nat.{◌/◌, ◌%◌}
use native.Mathlib.Omega.{arith}
use lib.ListN.{get_or}
use borrow.Author.Rules.{rules}
use Rattle.sets.specs.Sets.{has, Formed}
use Rattle.sets.specs.Bits.{bit_not}
use Rattle.sets.specs.Laws.{words_more, words_hold, formed_of}
use Rattle.sets.proofs.complement.Goals as goal

pub loop-j-preserved : goal.loop-j-preserved
loop-j-preserved c = words_more c.loop-j.invariant (search rules)

pub returns : goal.returns
unfolding has
returns c =
    let f : Formed c.args.a = search (rules, formed_of) in
    words_hold c.loop-j.invariant (search rules) (λ i. omega arith)
    (λ x h. bit_not 32 (get_or c.args.a (x / 32) 0) (x % 32) (f.words (x / 32)) (omega arith))
