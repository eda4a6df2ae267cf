-- The closing bracket, what stands in it, and what opens it.
use Rattle.std.proofs.Common.{sym, ap, Bool}
use Rattle.showing_spelling.specs.Spelling.{class_text}
use Rattle.showing_spelling.specs.Wrote.{wrote_before, wrote_as}
use Rattle.showing_spelling.proofs.room.Room.put_class.Goals.{then-negated, else-negated}
use Rattle.showing_spelling.proofs.room.Room.put_class.Goals as goal

pub returns : goal.returns
returns c =
    let inside = wrote_before c.put.ensures c.put_inside.ensures in
    elim c.if-negated.branch [
      | then-negated w ↦
          wrote_as (wrote_before (wrote_before inside w.put-then-negated.ensures) (rw w.self-is at c.put-2.ensures))
          (ap (λ (t : Bool). class_text t c.args.named c.args.set) (sym w.if-negated.true))
      | else-negated w ↦
          wrote_as (wrote_before inside (rw w.self-is at c.put-2.ensures))
          (ap (λ (t : Bool). class_text t c.args.named c.args.set) (sym w.if-negated.false))
    ]
