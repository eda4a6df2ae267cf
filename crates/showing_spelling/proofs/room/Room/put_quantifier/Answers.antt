use Rattle.std.proofs.Common.{sym, append-nil}
use Rattle.showing_spelling.specs.Spelling.{counts_text, quantifier_text}
use Rattle.showing_spelling.specs.Wrote.{wrote_before, wrote_as}
use Rattle.showing_spelling.proofs.room.Room.put_quantifier.Goals.{then-lazy, else-lazy}
use Rattle.showing_spelling.proofs.room.Room.put_quantifier.Goals as goal

pub returns : goal.returns
unfolding quantifier_text
returns c =
    let text = counts_text c.args.least c.args.most in
    elim c.if-lazy.branch [
      | then-lazy w ↦
          let counts = rw w.self-is at c.put_counts.ensures in
          wrote_as (wrote_before w.put.ensures counts) (rw w.if-lazy.true)
      | else-lazy w ↦
          let counts = rw w.self-is at c.put_counts.ensures in
          wrote_as counts (rw w.if-lazy.false (sym (append-nil text)))
    ]
