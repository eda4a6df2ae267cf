use Rattle.std.proofs.Common.{ap, ◌∙◌, ◌++◌, length, take, arith}
use Rattle.wire.specs.Wire.{bytes_of_word, stored}
use Rattle.wire.specs.Front.{front_part}
use Rattle.wire.specs.Words.{word_length}
use Rattle.wire.proofs.Passing.{stored_more}
use Rattle.wire.proofs.store.Goals as goal

pub loop-k-preserved : goal.loop-k-preserved
loop-k-preserved g c =
    let bits = g.T.Word.bits in
    let four = c.copy_from_slice.ensures.after ∙ c.to_bytes.ensures in
    front_part c.copy_from_slice.new.self c.loop-k.invariant (omega (arith, ap length four, word_length (bits c.index-words-k.result)))
    (omega arith) (omega arith)
    (ap (λ t. stored bits (take c.loop-k.k c.args.words.now) ++ t) (four ∙ ap (λ v. bytes_of_word (bits v)) c.index-words-k.is)
    ∙ stored_more bits c.args.words.now c.loop-k.k _ c.loop-k-test.true)
