use Prim.Native.Nat.{◌/◌, ◌%◌}
use lib.ListN.{get_or}
use lib.Bits.{or_lt}
use borrow.Author.Rules.{rules}
use Rattle.sets.specs.Sets.{has, Formed}
use Rattle.sets.specs.Bits.{bit_or_lem}
use Rattle.sets.specs.Laws.{words_more, words_hold, formed_of}
use Rattle.sets.proofs.union.Goals as goal

pub loop-i-preserved : goal.loop-i-preserved
loop-i-preserved c = words_more c.loop-i.invariant (search rules)

pub returns : goal.returns
unfolding has
returns c =
    let fa : Formed c.args.a = search (rules, formed_of) in
    let fb : Formed c.args.b = search (rules, formed_of) in
    words_hold c.loop-i.invariant (search rules)
    (λ i. or_lt 32 (get_or c.args.a i 0) (get_or c.args.b i 0) (fa.words i) (fb.words i))
    (λ x h. bit_or_lem (get_or c.args.a (x / 32) 0) (get_or c.args.b (x / 32) 0) (x % 32))
