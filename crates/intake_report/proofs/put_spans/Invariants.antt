-- The first number, then a space and a number in each turn. Each number takes at most 12 bytes with its space.
use Rattle.std.proofs.Common.{◌+◌, ◌*◌, ◌≤◌, take}
use Rattle.intake_report.specs.Texts.{further}
use Rattle.intake_report.specs.Wrote.{Wrote}
use Rattle.intake_report.proofs.put_spans.Given as goal

abbrev pub invariant-loop-register : goal.invariant-loop-register
invariant-loop-register l = record {
  short : l.end + 1 ≤ l.at + 12 * (l.register-index + 1);
  written : Wrote l.initial.out l.out l.initial.end (further (take l.register-index l.rest)) l.end;
}
