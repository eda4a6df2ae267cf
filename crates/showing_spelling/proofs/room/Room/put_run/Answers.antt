-- By how many bytes there are.
use Rattle.std.proofs.Common.{◌≡◌, ◌+◌, true, sym, ap, ◌∙◌, ◌++◌, arith}
use Rattle.showing_spelling.specs.Spelling.{byte_text}
use Rattle.showing_spelling.specs.Wrote.{wrote_before, wrote_as, wrote_none}
use Rattle.showing_spelling.specs.Texts.{run_is_none, run_is_one, run_is_two, run_is_range}
use Rattle.showing_spelling.proofs.room.Room.put_run.Goals as goal

pub returns-then-last-first : goal.returns-then-last-first
returns-then-last-first c = wrote_as (wrote_none _) (sym (run_is_none c.args.first c.args.last c.if-last-first.true))

pub returns-in-1 : goal.returns-in-1
returns-in-1 c =
    let e : c.args.last ≡ c.args.first + 1 = omega arith in
    wrote_as c.put_byte.ensures (ap (byte_text true) (omega arith) ∙ sym (run_is_one c.args.first c.args.last e))

pub returns-in-2 : goal.returns-in-2
returns-in-2 c =
    let e : c.args.last ≡ c.args.first + 2 = omega arith in
    wrote_as (wrote_before c.put_byte.ensures c.put_byte-in-2.ensures)
    (ap (λ b. byte_text true c.args.first ++ byte_text true b) (omega arith) ∙ sym (run_is_two c.args.first c.args.last e))

pub returns-in_default : goal.returns-in_default
returns-in_default c =
    wrote_as (wrote_before (wrote_before c.put_byte.ensures c.put.ensures) c.put_byte-in_default.ensures)
    (sym (run_is_range c.args.first c.args.last c.if-last-first.false (λ e. omega arith) (λ e. omega arith)))
