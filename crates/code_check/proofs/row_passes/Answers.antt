-- Each kind: what the check asks of its row, and that the words are zero which the kind does not use.
use mathlib.Core.Path.{ap}
use mathlib.Core.Bool.{◌&&◌}
use Prim.Native.Nat.{◌+◌}
use lib.Dec.{leb, ltb}
use borrow.Author.Rules.{rules}
use Rattle.meaning.specs.Limits.{last_assertion}
use Rattle.machine.specs.Kinds.{first_word, second_word}
use Rattle.machine.specs.Words.{word_at, row_start, row_passes, row_in}
use Rattle.machine.specs.Rows.{Row.reset}
use Rattle.code_check.specs.Check.{row_checked, as_accept, as_jump, as_fork, as_consume, unlisted}
use Rattle.code_check.proofs.row_passes.Goals as goal

pub returns-in-1 : goal.returns-in-1
unfolding row_checked row_in
returns-in-1 c =
    rw c.in-1.is (as_accept c.args.code.now c.args.q c.rest_of-rest.result c.rest_of-rest.ensures)

pub returns-in-2 : goal.returns-in-2
unfolding row_checked row_in
returns-in-2 c =
    rw c.in-2.is (as_consume c.args.code.now c.args.q c.rest_of-rest.result c.rest_of-rest.ensures)

pub returns-in-3 : goal.returns-in-3
unfolding row_checked row_in
returns-in-3 c =
    rw c.in-3.is (ap (λ b. ltb (word_at c.args.code.now (row_start c.args.q + first_word)) c.args.n && b) (as_jump c.args.code.now c.args.q c.rest_of-rest.result c.rest_of-rest.ensures))

pub returns-in-4 : goal.returns-in-4
unfolding row_checked row_in
returns-in-4 c =
    rw c.in-4.is (ap (λ b. ltb (word_at c.args.code.now (row_start c.args.q + first_word)) c.args.n && ltb (word_at c.args.code.now (row_start c.args.q + second_word)) c.args.n && b) (as_fork c.args.code.now c.args.q c.rest_of-rest.result c.rest_of-rest.ensures))

pub returns-in-5 : goal.returns-in-5
unfolding row_checked row_in
returns-in-5 c =
    rw c.in-5.is (ap (λ b. leb (word_at c.args.code.now (row_start c.args.q + first_word)) c.args.g && b) (as_jump c.args.code.now c.args.q c.rest_of-rest.result c.rest_of-rest.ensures))

pub returns-in-6 : goal.returns-in-6
unfolding row_checked row_in
returns-in-6 c =
    rw c.in-6.is (ap (λ b. leb (word_at c.args.code.now (row_start c.args.q + first_word)) c.args.g && b) (as_jump c.args.code.now c.args.q c.rest_of-rest.result c.rest_of-rest.ensures))

pub returns-in-7 : goal.returns-in-7
unfolding row_checked row_in
returns-in-7 c =
    let passes = row_passes c.args.n c.args.g (reset (word_at c.args.code.now (row_start c.args.q + first_word)) (word_at c.args.code.now (row_start c.args.q + second_word))) in
    rw (c.in-7.is, c.reset_passes.ensures)
    (ap (λ b. passes && b) (as_fork c.args.code.now c.args.q c.rest_of-rest.result c.rest_of-rest.ensures))

pub returns-in-8 : goal.returns-in-8
unfolding row_checked row_in
returns-in-8 c =
    rw c.in-8.is (as_accept c.args.code.now c.args.q c.rest_of-rest.result c.rest_of-rest.ensures)

pub returns-in-9 : goal.returns-in-9
unfolding row_checked row_in
returns-in-9 c =
    rw c.in-9.is (ap (λ b. ltb (word_at c.args.code.now (row_start c.args.q + first_word)) c.args.n && b) (as_jump c.args.code.now c.args.q c.rest_of-rest.result c.rest_of-rest.ensures))

pub returns-in-10 : goal.returns-in-10
unfolding row_checked row_in
returns-in-10 c =
    rw c.in-10.is (ap (λ b. leb (word_at c.args.code.now (row_start c.args.q + first_word)) last_assertion && b) (as_jump c.args.code.now c.args.q c.rest_of-rest.result c.rest_of-rest.ensures))

pub returns-in_default : goal.returns-in_default
unfolding row_checked
returns-in_default c = rw (unlisted (word_at c.args.code.now (row_start c.args.q)) (search rules) (search rules) (search rules) (search rules) (search rules) (search rules) (search rules) (search rules) (search rules) (search rules))
