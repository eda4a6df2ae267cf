-- By the tests in their order.
use Rattle.std.proofs.Common.{◌≡◌, sym, ap, ◌∙◌, arith, ℕ, ◌+◌, ◌*◌, eqb, eqb-true, get_or, true≢false}
use borrow.Author.Tests.{not-true, not-false, eqb-false, leb-false}
use Rattle.std.proofs.lemmas.Bool.Decides.{nat_tests}
use Rattle.table.specs.Table.{record_words, kind_word}
use Rattle.showing_form.specs.Exact.{form_stands, form_kind}
use Rattle.showing_form.proofs.used.Goals.{then-top-lt-RECORD_LIMIT, else-top-lt-RECORD_LIMIT}
use Rattle.showing_form.proofs.used.Goals as goal

pub returns-then-top-table : goal.returns-then-top-table
returns-then-top-table c =
    let here = get_or c.args.table.now (record_words * c.args.top) 0 in
    let same : record_words * c.args.top + kind_word ≡ record_words * c.args.top = omega arith in
    record {
      yes_is = λ e. (
        grind (arith, nat_tests),
        grind (arith, nat_tests),
        λ z. eqb-false here 0 (not-true (eqb here 0) e) (sym (ap (λ (k : ℕ). get_or c.args.table.now k 0) same) ∙ z),
      );
      no_is = λ e n f h. form_kind f c.args.top h
          (ap (λ (k : ℕ). get_or c.args.table.now k 0) same ∙ eqb-true here 0 (not-false (eqb here 0) e));
    }

pub returns-else-top-table : goal.returns-else-top-table
returns-else-top-table c =
    elim c.if-top-lt-RECORD_LIMIT.branch [
      | then-top-lt-RECORD_LIMIT w ↦
          record {
            yes_is = λ e. absurd (true≢false (sym e ∙ c.if-top-table.false));
            no_is = λ e n f h.
                let short = leb-false _ _ (sym w.value-is ∙ c.if-top-table.false) in
                omega (arith, (form_stands f).room);
          }
      | else-top-lt-RECORD_LIMIT w ↦
          record {
            yes_is = λ e. absurd (true≢false (sym e ∙ c.if-top-table.false));
            no_is = λ e n f h. omega (arith, f.few);
          }
    ]
