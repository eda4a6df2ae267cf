use Rattle.std.proofs.Common.{ap, ◌∙◌, get_or, [], arith}
use Rattle.wire.specs.Wire.{word_of4, loaded}
use Rattle.wire.specs.Front.{front_next}
use Rattle.wire.proofs.Passing.{word_cut, loaded_more}
use Rattle.wire.proofs.load.Goals as goal

pub loop-i-preserved : goal.loop-i-preserved
loop-i-preserved g c =
    let cut = ap (λ t. word_of4 (get_or t c.loop-i.i []) 0) c.as_chunks.ensures.front ∙ word_cut c.args.bytes.now _ c.loop-i.i (omega arith) in
    front_next (loaded g.T.Word.of_bits c.args.bytes.now) _ c.loop-i.invariant (omega arith)
    (loaded_more g.T.Word.of_bits c.args.bytes.now c.loop-i.i (c.from_bytes.ensures ∙ ap g.T.Word.of_bits cut))
