-- In each turn some bytes of the piece are taken, and the work behind them is the work behind all so far.
use Rattle.std.proofs.Common.{length, ◌-◌}
use Rattle.intake.specs.Standing.{work_as, Onward}
use Rattle.intake.proofs.work_through.Given as goal

abbrev pub invariant-loop-from : goal.invariant-loop-from
invariant-loop-from g l =
    Onward (work_as l.initial.now l.initial.space.line l.initial.space.buffers.code) l.piece l.space.line l.space.buffers.code l.from l.now

abbrev pub decreases-loop-from : goal.decreases-loop-from
decreases-loop-from g l = length l.piece - l.from
