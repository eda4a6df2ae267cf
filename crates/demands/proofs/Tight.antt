-- What the promises of a run say of code that was compiled, plain or tidied: at a position each row at most once and inner rows
-- once more, and where no Begin and no End stands outside the prefix each row at most once.
use Rattle.std.specs.Prelude.{◌≡◌, refl, ◌↔◌, Bool, true, List, [], ◌∷◌, ℕ, zero, suc, ◌+◌, ◌*◌, ◌-◌, ◌≤◌, ◌<◌, ℤ, length}
use Rattle.std.proofs.Common.{sym, ap, subst, ◌∙◌, arith}
use Rattle.std.proofs.Math.Path.{subst⁻¹}
use Rattle.meaning.specs.Bytes.{text_of}
use Rattle.meaning.specs.Node.{Node}
use Rattle.machine.specs.Rows.{row_count}
use Rattle.machine.specs.Steps.{count, seen, steps, begun, first_thread, move_of, run}
use Rattle.machine.specs.Layout.{program_of}
use Rattle.machine.specs.Laid.{program_stands}
use Rattle.machine.specs.Inner.{inner_rows, inner, Straight, RowsApart, fixed}
use Rattle.machine.proofs.Tight.{flag_of, tight_at_position, run_tight}
use Rattle.machine.proofs.Straight.{once, run_once, straight_pattern}
use Rattle.machine.proofs.Counted.{inner_rows_lem}
use Rattle.machine.proofs.Coded.{rows_in_length}
use Rattle.machine.specs.Words.{rows_said, decode}
use Rattle.machine.specs.Allowed.{within}
use Rattle.machine.specs.Replies.{Lent, lent_by, turned_away, run_of}
use Rattle.reading_grammar.specs.Grammar.{Derives}
use Rattle.reading_grammar.proofs.Sound.{Sound, sound}
use Rattle.compiler.specs.Compiling.{shaped, Compiles}
use Rattle.compiler.specs.Compiling.{Compilation.Rows}
use Rattle.engine.specs.Answers.{executed, Answered}
use Rattle.engine.specs.Answers.{Answer}
use Rattle.millkettle.specs.Compiled.{Coded, Compiled, compiled}
use Rattle.millkettle.specs.Laws.{Way, Way.matching, Way.searching, row_of, conditions}
use Rattle.demands.specs.Runs.{steps_of}
use Rattle.demands.proofs.Runs.{row_few, counted_rows, turned_rows, coded_as, rows_bytes}

-- Both ways begin at a row whose flag is set.
row_set : (way : Way) → flag_of (row_of way) ≡ true
row_set matching = refl
row_set searching = refl

-- Code that says the program of a pattern, and a run that is not turned away.
module _ (way : Way) {code : List ℕ} (text : List ℕ) (start : ℕ) (registers : List ℤ) (workspace : List ℕ) {n g : ℕ} {r : Node}
    (m : Coded code n g r) (e : turned_away n g (lent_by text start registers workspace) ≡ 0) where
  low : row_of way < row_count (program_of g r)
  low = omega (arith, row_few way, (program_stands g r).counts)

  inside : start ≤ length text
  inside = within n g (lent_by text start registers workspace) e

  rows_are : row_count (decode code) ≡ n
  rows_are = rows_in_length code (rows_said code) 0 ∙ m.rows_said_lem

  tight_rows : (k : ℕ) → length (seen (steps_of code text start (row_of way) k)) ≤ n + inner_rows (decode code)
  tight_rows k = omega (
    arith,
    rows_are,
    subst⁻¹ (λ p. length (seen (steps (move_of (text_of text) p.rows) k (begun start (first_thread p (row_of way) ∷ []))))
        ≤ row_count p + inner_rows p) m.says
        (tight_at_position g r (text_of text) (row_of way) start low (row_set way) inside k),
  )

  tight_count : count (run_of code text start (row_of way)) ≤ (n + inner_rows (decode code)) * (length text - start + 1)
  tight_count = subst (λ (z : ℕ). count (run_of code text start (row_of way)) ≤ (z + inner_rows (decode code)) *
      (length text - start + 1)) rows_are
      (subst⁻¹ (λ p. count (run (text_of text) p start (row_of way)) ≤ (row_count p + inner_rows p) * (length text - start + 1))
      m.says (run_tight g r (text_of text) (row_of way) start low (row_set way) inside))

  module _ (straight : Straight (decode code)) where
    is_straight : Straight (program_of g r)
    is_straight = subst Straight m.says straight

    once_rows : (k : ℕ) → RowsApart (seen (steps_of code text start (row_of way) k))
    once_rows k = subst⁻¹ (λ p. RowsApart
        (seen (steps (move_of (text_of text) p.rows) k (begun start (first_thread p (row_of way) ∷ []))))) m.says
        (once g r is_straight (text_of text) (row_of way) start low (row_set way) inside k)

    once_count : count (run_of code text start (row_of way)) ≤ n * (length text - start + 1)
    once_count = subst (λ (z : ℕ). count (run_of code text start (row_of way)) ≤ z * (length text - start + 1)) rows_are
        (subst⁻¹ (λ p. count (run (text_of text) p start (row_of way)) ≤ row_count p * (length text - start + 1))
        m.says (run_once g r is_straight (text_of text) (row_of way) start low (row_set way) inside))

-- What bounds the steps' count of a run bounds the count that is reported: one that is turned away reports 0.
reported : (way : Way) {code text : List ℕ} {start : ℕ} {registers registers' : List ℤ} {workspace workspace' : List ℕ}
    {n g : ℕ} {r : Node} {answer : Answer} → Coded code n g r
    → Answered code text start (row_of way) registers workspace answer registers' workspace' → (most : ℕ)
    → (turned_away n g (lent_by text start registers workspace) ≡ 0 → count (run_of code text start (row_of way)) ≤ most)
    → executed answer ≤ most
reported way {text = text} {start = start} {registers = registers} {workspace = workspace} {n = n} {g = g} {answer = answer}
    m a most h = go (turned_away n g lent) refl
  where
    lent : Lent
    lent = lent_by text start registers workspace

    go : (k : ℕ) → turned_away n g lent ≡ k → executed answer ≤ most
    go zero e = omega (arith, counted_rows a (conditions m lent ∙ e), h e)
    go (suc k) e = omega (arith, ap executed (turned_rows a k (conditions m lent ∙ e)).0)

-- The code that a call leaves says the program of what was read, plain or tidied.
left_coded : {tidying : Bool} {s table table' code code' : List ℕ} {n g : ℕ}
    → Compiles tidying s table table' code code' (Rows n g)
    → (node : Node) × Derives s node g × Coded code' n g (shaped tidying node)
left_coded {tidying} {s} {table} {code = code} {n = n} {g = g} c =
    let m : Compiled tidying s table code n g = compiled tidying s table code n g (rows_bytes c) (sym c.answers) in
    let derives : Derives s m.node g = subst (Sound s (length table)) m.is_read (sound s (length table)) in
    (m.node, derives, coded_as c.code_is m.is_coded)

module _ (way : Way) {tidying : Bool} {s text : List ℕ} {start : ℕ} {table table' code code' : List ℕ}
    {registers registers' : List ℤ} {workspace workspace' : List ℕ} {n g : ℕ} {answer : Answer}
    (c : Compiles tidying s table table' code code' (Rows n g))
    (a : Answered code' text start (row_of way) registers workspace answer registers' workspace') where
  pub compiled_tight : (turned_away n g (lent_by text start registers workspace) ≡ 0 → (m : ℕ)
      → length (seen (steps_of code' text start (row_of way) m)) ≤ n + inner_rows (decode code'))
      × (executed answer ≤ (n + inner_rows (decode code')) * (length text - start + 1))
  compiled_tight =
      let (node, derives, m) = left_coded c in
      (tight_rows way text start registers workspace m, reported way m a _ (tight_count way text start registers workspace m))

  pub compiled_once : Straight (decode code')
      → (turned_away n g (lent_by text start registers workspace) ≡ 0 → (m : ℕ)
      → RowsApart (seen (steps_of code' text start (row_of way) m)))
      × (executed answer ≤ n * (length text - start + 1))
  compiled_once straight =
      let (node, derives, m) = left_coded c in (
        λ e. once_rows way text start registers workspace m e straight,
        reported way m a _ (λ e. once_count way text start registers workspace m e straight),
      )

-- Which rows are inner, and which code has none outside the prefix, by the pattern that became rows.
pub compiled_inner : {tidying : Bool} {s table table' code code' : List ℕ} {n g : ℕ}
    → Compiles tidying s table table' code code' (Rows n g)
    → (node : Node) × Derives s node g × (inner_rows (decode code') ≡ inner (shaped tidying node))
    × (Straight (decode code') ↔ (fixed (shaped tidying node) ≡ true))
compiled_inner {tidying} {g = g} c =
    let (node, derives, m) = left_coded c in
    let r : Node = shaped tidying node in (
      node,
      derives,
      ap inner_rows m.says ∙ inner_rows_lem g r,
      subst⁻¹ (λ p. Straight p ↔ (fixed r ≡ true)) m.says (straight_pattern g r),
    )
