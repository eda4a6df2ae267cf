use mathlib.Core.Path.{sym, ◌∙◌}
use native.Mathlib.Omega.{arith}
use Rattle.reading_items.proofs.Joining.{part_within, part_within_items, splice_open, splice_whole}
use Rattle.reading_items.proofs.series.splice.Goals as goal

pub word-requires : goal.word-requires
word-requires c = part_within c.requires

pub overflow_sub-result : goal.overflow_sub-result
overflow_sub-result c = omega (arith, (part_within c.requires).0)

pub word-requires-then-word-kind : goal.word-requires-then-word-kind
word-requires-then-word-kind c = part_within_items c.requires

pub returns-then-word-kind : goal.returns-then-word-kind
returns-then-word-kind c = splice_open (sym c.word.ensures ∙ c.if-word-kind.true) c.word-then-word-kind.ensures

pub returns : goal.returns
returns c = splice_whole (λ e. c.if-word-kind.false (c.word.ensures ∙ e))
