-- What the intake program writes for a text line is what the standard's search finds on the pattern of the first line.
use Rattle.std.specs.Prelude.{◌≡◌, Bool, List, [], ◌∷◌, ◌++◌, eqb, pos, get_or, take, replicate}
use Rattle.std.proofs.Math.Path.{refl, sym, ap, ap₂}
use Rattle.std.proofs.Common.{subst, ◌∙◌, arith}
use Rattle.std.proofs.Math.Bool.{true, false}
use Rattle.std.proofs.Math.Option.{Option, none, some}
use Prim.Native.Nat.{ℕ, zero, suc, ◌≤◌, ◌<◌}
use borrow.Author.Tests.{le-leb, le-ltb, ltb-true, ltb-false}
use Rattle.std.proofs.Math.Dec.{ltb}
use Rattle.std.proofs.Math.ListN.{length}
use Rattle.std.proofs.lemmas.List.{length-replicate}
use Rattle.std.proofs.Math.Seq.{take_at}
use Rattle.meaning.specs.All.{All}
use Rattle.meaning.specs.Tests.{by_test}
use Rattle.meaning.specs.Text.{Regs, registers_of}
use Rattle.meaning.specs.Bytes.{Bytes, text_of}
use Rattle.meaning.specs.Limits.{text_limit, line_feed, table_size, code_size}
use Rattle.meaning.specs.Grounds.{first_of}
use Rattle.meaning.specs.Results.{concat_map}
use Rattle.meaning.specs.Node.{Node}
use Rattle.meaning.specs.Standard.{search_from}
use Rattle.machine.specs.Steps.{Machine, best, count, search_row}
use Rattle.machine.specs.Words.{groups_said, decode}
use Rattle.machine.proofs.Width.{spans_length}
use Rattle.machine.specs.Replies.{refusal, run_of, reply_to, reply, spans, registers_from, registers_after}
use Rattle.running_moves.specs.Ready.{Ready, ready}
use Rattle.reading_items.specs.Reading.{reading}
use Rattle.reading_grammar.specs.Grammar.{Derives}
use Rattle.reading_grammar.proofs.Sound.{Sound, sound}
use Rattle.compiler.specs.Compiling.{plain, answer_by, code_left}
use Rattle.compiler.specs.Compiling.{Compilation.Rows}
use Rattle.millkettle.specs.Compiled.{Coded, Compiled}
use Rattle.millkettle.specs.Compiled as Millkettle
use Rattle.millkettle.specs.Laws.{Way.searching, conditions, finds}
use Rattle.intake_report.specs.Texts.{spans_line, header_line}
use Rattle.intake_report.specs.Lines.{lines_of, on_first}
use Rattle.intake_lines.specs.Intake.{line_limit, register_count, compiled, code_from, pattern_line, reply_line, lent_for, numbers_for}
use Rattle.intake_lines.specs.Intake.{line_for, lines_for, output_for, intake_output}
use Rattle.intake_lines.specs.Laws.{too_long}
use Rattle.demands.proofs.Runs.{coded_as}
use Rattle.demands.specs.IntakeAnswers.{line_grounds, line_saying}

-- The lines of bytes are bytes.
byte_more : {line : List ℕ} (b : ℕ) → b < 256 → Bytes line → Bytes (b ∷ line)
byte_more {line} b h k = record { byte = go }
  where
    go : (i : ℕ) → get_or (b ∷ line) i 0 < 256
    go zero = h
    go (suc i) = k.byte i

no_bytes_lem : Bytes []
no_bytes_lem = record { byte = λ i. omega arith }

first_bytes : (b : ℕ) (lines : List (List ℕ)) → b < 256 → All Bytes lines → All Bytes (on_first b lines)
first_bytes b [] h k = (byte_more b h no_bytes_lem, tt)
first_bytes b (line ∷ lines) h k = (byte_more b h k.0, k.1)

lines_bytes : (input : List ℕ) → Bytes input → All Bytes (lines_of input)
unfolding lines_of
lines_bytes [] h = tt
lines_bytes (b ∷ l) h =
    let more : All Bytes (lines_of l) = lines_bytes l (record { byte = λ i. h.byte (suc i) }) in
    by_test (All Bytes) (eqb b line_feed) (λ e. (no_bytes_lem, more)) (λ e. first_bytes b (lines_of l) (h.byte 0) more)

-- Code that says the program of a pattern, and a line.
module _ {code : List ℕ} {n g : ℕ} {r : Node} (m : Coded code n g r) (line : List ℕ) (bytes : Bytes line) where
  abbrev result : Option Regs
  result = search_from (text_of line) g r 0

  abbrev M : Machine
  M = run_of code line 0 search_row

  found : best M ≡ result
  found = finds m line bytes 0 searching (omega arith)

  -- The line's numbers are those of what was found.
  numbers_are : refusal code (lent_for line) ≡ 0 → numbers_for code line ≡ spans g result
  unfolding registers_after
  numbers_are z =
      let all = ap (λ k. registers_from k (groups_said code) (best M) (replicate register_count (pos 0))) z in
      ap (take (registers_of (groups_said code))) all
      ∙ take_at (spans (groups_said code) (best M)) _ (registers_of (groups_said code))
      (spans_length (text_of line) (decode code) 0 search_row)
      ∙ ap₂ spans m.groups_said_lem found

  -- A line that is short enough is refused by its workspace alone.
  short_number : length line ≤ line_limit → refusal code (lent_for line) ≡ first_of (line_grounds n g line)
  short_number h =
      let limits : Ready code = ready code m.passes in
      let few : registers_of g ≤ register_count = omega (arith, m.groups_said_lem, limits.groups) in
      conditions m (lent_for line)
      ∙ rw (
        le-ltb line_limit (length line) h,
        le-ltb text_limit (length line) (omega arith),
        le-ltb (length line) 0 (omega arith),
        le-ltb register_count (registers_of g) few,
      )

  said : (k executed : ℕ) (o : Option Regs) → (k ≡ 0 → numbers_for code line ≡ spans g o)
      → reply_line (reply_to k o executed) (numbers_for code line) ≡ line_saying k o
  said zero executed none e = refl
  said zero executed (some ρ) e = ap spans_line (e refl)
  said (suc k) executed o e = refl

  pub line_standard : line_for code line ≡ line_saying (first_of (line_grounds n g line)) result
  unfolding line_for reply
  line_standard = go (ltb line_limit (length line)) refl
    where
      go : (t : Bool) → ltb line_limit (length line) ≡ t → line_for code line ≡ line_saying (first_of (line_grounds n g line)) result
      go true e = sym (too_long code line (ltb-true _ _ e)) ∙ rw e
      go false e =
          let h : length line ≤ line_limit = ltb-false _ _ e in
          let k : ℕ = first_of (line_grounds n g line) in
          rw (le-leb (length line) line_limit h)
          (ap₂ (λ k o. reply_line (reply_to k o (count M)) (numbers_for code line)) (short_number h) found
          ∙ said k (count M) result (λ z. numbers_are (short_number h ∙ z)))

each_line : {code : List ℕ} {n g : ℕ} {r : Node} → Coded code n g r → (lines : List (List ℕ)) → All Bytes lines
    → concat_map (line_for code) lines
    ≡ concat_map (λ line. line_saying (first_of (line_grounds n g line)) (search_from (text_of line) g r 0)) lines
each_line m [] h = refl
each_line m (line ∷ lines) h = ap₂ ◌++◌ (line_standard m line h.0) (each_line m lines h.1)

-- A pattern line that has rows: it derives, and the code that it leaves says its program.
pattern_coded : {pattern : List ℕ} {n g : ℕ} (table code : List ℕ) → length table ≡ table_size → length code ≡ code_size
    → Bytes pattern → compiled pattern ≡ Rows n g
    → (node : Node) × Derives pattern node g × Coded (code_from pattern code) n g node
pattern_coded {pattern} {n} {g} table code t l bytes e =
    let c : Compiled plain pattern table code n g
    = Millkettle.compiled plain pattern table code n g bytes
    (ap₂ (λ x y. answer_by plain (reading pattern x) y) t l ∙ e) in (
      c.node,
      subst (Sound pattern (length table)) c.is_read (sound pattern (length table)),
      coded_as (ap (λ x. code_left plain (reading pattern x) code) (sym t)) c.is_coded,
    )

-- The pattern derives, and each later line is answered by the grounds and by what the standard's search finds in it.
pub intake_standard : {input pattern : List ℕ} {lines : List (List ℕ)} {n g : ℕ} → Bytes input
    → lines_of input ≡ pattern ∷ lines → compiled pattern ≡ Rows n g
    → (node : Node) × Derives pattern node g
    × (intake_output input ≡ header_line n g
    ++ concat_map (λ line. line_saying (first_of (line_grounds n g line)) (search_from (text_of line) g node 0)) lines)
unfolding intake_output
intake_standard {input} {pattern} {lines} {n} {g} bytes e c =
    let all : All Bytes (pattern ∷ lines) = subst (All Bytes) e (lines_bytes input bytes) in
    let (node, derived, m) = pattern_coded (replicate table_size 0) (replicate code_size 0)
    (length-replicate {A = ℕ} table_size 0) (length-replicate {A = ℕ} code_size 0) all.0 c in (
      node,
      derived,
      ap output_for e ∙ ap (λ x. pattern_line x ++ lines_for x (code_from pattern (replicate code_size 0)) lines) c
          ∙ ap (λ l. header_line n g ++ l) (each_line m lines all.1),
    )
