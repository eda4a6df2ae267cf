-- A search with the program's registers and workspace, and the line for its answer.
use mathlib.Core.Path.{refl, ap, ◌∙◌}
use native.Mathlib.Omega.{arith}
use borrow.Author.Rules.{rules}
use Rattle.std.proofs.Common.{Ok}
use Rattle.millkettle.specs.Calls.Answers.{answer_of}
use Rattle.intake_report.specs.Texts.{refused_run}
use Rattle.intake_report.specs.Wrote.{wrote_as}
use Rattle.intake_lines.specs.Laws.{too_long, answer_line, few_numbers}
use Rattle.intake_lines.proofs.put_text_line.Goals as goal

pub returns-then-line-gt-LINE_LIMIT : goal.returns-then-line-gt-LINE_LIMIT
returns-then-line-gt-LINE_LIMIT c =
    wrote_as c.put_refused.ensures
    (ap refused_run (cc) ∙ too_long c.args.code.now c.args.line.now c.if-line-gt-LINE_LIMIT.true) refl

pub overflow_cast-groups : goal.overflow_cast-groups
overflow_cast-groups c =
    omega (
      arith,
      few_numbers c.if-line-gt-LINE_LIMIT.false refl (search rules) c.search.ensures _
          (ap answer_of (c.in-Ok-Found.is ∙ ap Ok c.in-Ok-Found.field-0-is)),
    )

pub overflow_add-groups : goal.overflow_add-groups
overflow_add-groups c =
    omega (
      arith,
      few_numbers c.if-line-gt-LINE_LIMIT.false refl (search rules) c.search.ensures _
          (ap answer_of (c.in-Ok-Found.is ∙ ap Ok c.in-Ok-Found.field-0-is)),
    )

pub overflow_mul-groups : goal.overflow_mul-groups
overflow_mul-groups c =
    omega (
      arith,
      few_numbers c.if-line-gt-LINE_LIMIT.false refl (search rules) c.search.ensures _
          (ap answer_of (c.in-Ok-Found.is ∙ ap Ok c.in-Ok-Found.field-0-is)),
    )

pub put_spans-requires : goal.put_spans-requires
put_spans-requires c =
    let few = few_numbers c.if-line-gt-LINE_LIMIT.false refl (search rules) c.search.ensures _
    (ap answer_of (c.in-Ok-Found.is ∙ ap Ok c.in-Ok-Found.field-0-is)) in
    (omega (arith, few, c.search.auto.registers), omega (arith, few, c.requires))

pub returns-in-Ok-Found : goal.returns-in-Ok-Found
returns-in-Ok-Found c =
    wrote_as c.put_spans.ensures
    (answer_line c.if-line-gt-LINE_LIMIT.false refl (search rules) c.search.ensures
    (ap answer_of (c.in-Ok-Found.is ∙ ap Ok c.in-Ok-Found.field-0-is))) refl

pub returns-in-Ok-Missing : goal.returns-in-Ok-Missing
returns-in-Ok-Missing c =
    wrote_as c.put_none.ensures
    (answer_line c.if-line-gt-LINE_LIMIT.false refl (search rules) c.search.ensures
    (ap answer_of (c.in-Ok-Missing.is ∙ ap Ok c.in-Ok-Missing.field-0-is))) refl

pub returns-in-Err : goal.returns-in-Err
returns-in-Err c =
    wrote_as c.put_refused-in-Err.ensures
    (ap refused_run c.number-in-Err.ensures
    ∙ answer_line c.if-line-gt-LINE_LIMIT.false refl (search rules) c.search.ensures (ap answer_of c.in-Err.is)) refl
