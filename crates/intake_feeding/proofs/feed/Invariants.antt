-- The first bytes of the piece are taken, one more in each turn.
use Rattle.std.proofs.Common.{◌≡◌}
use Rattle.intake_feeding.specs.Fed.{work_of, Untouched}
use Rattle.intake_feeding.specs.Laws.{Feeding}
use Rattle.intake_feeding.proofs.feed.Given as goal

abbrev pub invariant-loop-byte : goal.invariant-loop-byte
invariant-loop-byte l = record {
  feeding : Feeding (work_of l.initial.fed.phase l.kept l.initial.line l.initial.code) l.piece l.line l.code
      l.initial.out l.out l.fed;
  at : l.fed.taken ≡ l.byte-index;
  untouched : l.fed.taken ≡ 0 → Untouched l.initial.line l.line l.initial.table l.table l.initial.workspace l.workspace;
}
