-- The bytes that the host's compiling leaves, run by the host's match or search: what is answered is what the standard finds.
use Rattle.std.specs.Prelude.{◌≡◌, refl, Bool, List, [], ◌++◌, ℕ, zero, suc, ◌*◌, ◌≤◌, length, take}
use Rattle.std.proofs.Common.{sym, ap, ap₂, ◌∙◌, arith, ltb-false, take_at}
use Rattle.std.proofs.Math.Bool.{or-false}
use Rattle.std.proofs.Math.Option.{Option}
use Rattle.meaning.specs.Text.{Regs}
use Rattle.meaning.specs.Bytes.{Bytes}
use Rattle.meaning.specs.Limits.{code_words}
use Rattle.meaning.specs.Refusals as No
use Rattle.meaning.specs.Grounds.{first_of, none_holds}
use Rattle.meaning.specs.Node.{Node}
use Rattle.machine.specs.Steps.{Machine, best, count}
use Rattle.machine.specs.Layout.{program_of}
use Rattle.machine.specs.Laid.{program_stands}
use Rattle.machine.specs.Words.{code_of}
use Rattle.machine.specs.Replies.{Lent, run_of, reply_to, spans}
use Rattle.running_moves.specs.Ready.{Ready, ready}
use Rattle.reading_grammar.specs.Grammar.{Derives}
use Rattle.compiler.specs.Compiling.{shaped}
use Rattle.compiler.specs.Compiling.{Compilation.Rows}
use Rattle.millkettle.specs.Compiled.{Coded}
use Rattle.millkettle.specs.Laws.{Way, row_of, standard_by, finds}
use Rattle.wire.specs.Wire.{bytes_of_words, bytes_of_ints, written}
use Rattle.wire.specs.Words.{bytes_length}
use Rattle.host.specs.Surface.{compiled_numbers, ran_numbers, all_words, lent_to, byte_grounds, CompilesBytes, RunsBytes}
use Rattle.host.specs.declared.Ran.{Ran}
use Rattle.demands.proofs.Runs.{coded_as, count_of_lem}
use Rattle.demands.specs.HostCodes.{Made}
use Rattle.demands.proofs.HostCodes.{code_made}
use Rattle.demands.specs.HostRuns.{number_is, registers_made, registers_stay}
use Rattle.demands.specs.HostWords.{code_fits, words_begin}
use Rattle.demands.specs.HostAnswers.{bytes_from, kept_grounds}

module _ (tidying : Bool) (way : Way) {s code code' kept text registers registers' : List ℕ} {start n g : ℕ} {r : Ran}
    (b : Bytes code) (bt : Bytes text) (br : Bytes registers)
    (h : CompilesBytes tidying s code (compiled_numbers (Rows n g)) code')
    (k : take (4 * code_words n) kept ≡ take (4 * code_words n) code')
    (a : RunsBytes (row_of way) kept text start registers r registers') where
  made : Made tidying s code code' n g
  made = code_made tidying s code b h refl

  abbrev q : Node
  q = shaped tidying made.node

  -- The bytes begin with those of the program's code, so that their words say the program.
  kept_coded : Coded (all_words kept) n g q
  kept_coded =
      let x : List ℕ = code_of (program_of g q) in
      let c : Coded (x ++ []) n g q = made.is_coded [] in
      let limits : Ready (x ++ []) = ready (x ++ []) c.passes in
      let fits = code_fits g q c.numbers c.proper
      (omega (arith, (program_stands g q).counts, c.rows_are, c.rows_said_lem, limits.most))
      (omega (arith, c.groups_said_lem, limits.groups)) in
      let begins : take (4 * length x) kept ≡ bytes_of_words x
      = ap (λ m. take (4 * m) kept) made.long ∙ k ∙ ap (take (4 * code_words n)) made.bytes_are
      ∙ take_at (bytes_of_words x) _ (4 * code_words n) (omega (arith, bytes_length x, made.long)) in
      let (rest, is) = words_begin x kept fits begins in
      coded_as {d = x ++ rest} is (made.is_coded rest)

  abbrev M : Machine
  M = run_of (all_words kept) text start (row_of way)

  abbrev lent : Lent
  lent = lent_to text start registers

  -- What turns the run away is in its size or in what is lent: its code passes.
  same_number : first_of (byte_grounds kept lent) ≡ first_of (kept_grounds kept n g lent)
  same_number = rw (kept_coded.passes, kept_coded.rows_said_lem, kept_coded.groups_said_lem, or-false)

  abbrev result : Option Regs
  result = standard_by way text g q start

  by_number : (x : ℕ) → first_of (kept_grounds kept n g lent) ≡ x
      → (r ≡ ran_numbers (reply_to x result r.count)) × (registers' ≡ bytes_from x g result registers)
  by_number (suc x) e =
      let is : r.number ≡ suc x = number_is kept text start registers a ∙ same_number ∙ e in (
        a.replies ∙ ap (λ m. ran_numbers (reply_to m (best M) (count M))) (same_number ∙ e),
        registers_stay kept text start registers a br (λ z. absurd (omega (arith, is, z))),
      )
  by_number zero e =
      let inside : start ≤ length text = ltb-false _ _ (none_holds No.start_beyond (kept_grounds kept n g lent) refl e) in
      let found : best M ≡ result = finds kept_coded text bt start way inside in
      let ran : r ≡ ran_numbers (reply_to 0 result (count M))
      = a.replies ∙ ap₂ (λ m o. ran_numbers (reply_to m o (count M))) (same_number ∙ e) found in
      let counts : r.count ≡ count M = ap (λ x. x.count) ran ∙ count_of_lem result (count M) in (
        ran ∙ ap (λ m. ran_numbers (reply_to 0 result m)) (sym counts),
        registers_made kept text start registers a br (number_is kept text start registers a ∙ same_number ∙ e)
            ∙ ap₂ (λ m o. written (bytes_of_ints (spans m o)) registers) kept_coded.groups_said_lem found,
      )

  -- The pattern derives, and what is answered and left is by the grounds and by what the standard finds on it.
  pub host_standard : (node : Node) × Derives s node g
      × (let number : ℕ = first_of (kept_grounds kept n g (lent_to text start registers)) in
      let found : Option Regs = standard_by way text g (shaped tidying node) start in
      (r ≡ ran_numbers (reply_to number found r.count)) × (registers' ≡ bytes_from number g found registers))
  host_standard = (made.node, made.is_derived, by_number (first_of (kept_grounds kept n g lent)) refl)
