use mathlib.Core.Path.{◌≡◌, ap, ◌∙◌}
use Prim.Native.Nat.{◌+◌}
use native.Mathlib.Omega.{arith}
use lib.ListN.{get_or}
use Rattle.std.specs.List.{between}
use Rattle.std.proofs.lemmas.List.Edits.{get_or-between, length-between}
use Rattle.sets.specs.Sets.{below}
use Rattle.meaning.specs.Limits.{row_words}
use Rattle.machine.specs.Kinds.{fourth_word}
use Rattle.machine.specs.Words.{word_at}
use Rattle.code_check.specs.Check.{rest_words, rest_zero, rest_more}
use Rattle.code_check.proofs.rest_of.Goals as goal

pub loop-word-preserved : goal.loop-word-preserved
loop-word-preserved c =
    let code = c.args.code.now in
    let start = c.args.start in
    let i = c.loop-word.word-index in
    let long = length-between code (start + fourth_word) (start + row_words) c.requires in
    let word : get_or (between (start + fourth_word) (start + row_words) code) i 0 ≡ word_at code (start + (i + fourth_word))
    = get_or-between code (start + fourth_word) (start + row_words) i 0 (omega arith) ∙ ap (word_at code) (omega arith) in
    rw word (rest_more code start i c.loop-word.rest c.loop-word.invariant)

pub returns : goal.returns
returns c =
    let code = c.args.code.now in
    let start = c.args.start in
    let long = length-between code (start + fourth_word) (start + row_words) c.requires in
    let all : c.loop-word.word-index ≡ rest_words = omega arith in
    c.loop-word.invariant ∙ ap (λ n. below n (rest_zero code start)) all
