-- The code's bytes after compiling: those of the program in front, or all as they were.
use Rattle.std.specs.Prelude.{◌≡◌, refl, Bool, List, ℕ, zero, suc, ◌≤◌, length}
use Rattle.std.proofs.Common.{ap, subst, ◌∙◌, arith, ltb-false}
use Rattle.meaning.specs.Bytes.{Bytes}
use Rattle.meaning.specs.Limits.{depth_limit, row_limit, code_words, table_size}
use Rattle.meaning.specs.Refusals as No
use Rattle.meaning.specs.Grounds.{none_holds}
use Rattle.meaning.specs.Node.{Node}
use Rattle.machine.specs.Layout.{program_of}
use Rattle.machine.specs.Laid.{program_stands}
use Rattle.machine.specs.Words.{code_of}
use Rattle.machine.proofs.Coded.{code_length, compiled_whole}
use Rattle.reading_items.specs.Facts.{fair_proper}
use Rattle.reading_items.specs.Read.{what_is_read}
use Rattle.reading_items.specs.Reading.{Reading, Reading.pattern, Reading.refused, reading}
use Rattle.reading_grammar.specs.Grammar.{Derives}
use Rattle.reading_grammar.proofs.Sound.{Sound, sound}
use Rattle.code_rows.specs.Emission.{rows_needed}
use Rattle.compiler.specs.Compiling.{shaped, program_grounds, unwritten, answer_for, code_for, answer_by, code_left}
use Rattle.compiler.proofs.Laws.{is_shaped}
use Rattle.millkettle.specs.Compiled.{coded}
use Rattle.wire.specs.Wire.{words_of, bytes_of_words, written}
use Rattle.wire.specs.Words.{words_length}
use Rattle.wire.proofs.Written.{words_over, words_same}
use Rattle.host.specs.Surface.{compiled_numbers, code_lent, CompilesBytes}
use Rattle.host.specs.declared.Compiled.{Compiled}
use Rattle.demands.proofs.Patterns.{derived_bytes}
use Rattle.demands.specs.HostPatterns.{refused_number}
use Rattle.demands.specs.HostCodes.{Made}

module _ (tidying : Bool) (s code : List ℕ) {code' : List ℕ} {r : Compiled} (b : Bytes code)
    (h : CompilesBytes tidying s code r code') where
  abbrev room : ℕ
  room = code_lent (length code)

  abbrev words : List ℕ
  words = words_of code room

  -- What becomes of the code, by what is answered: made if the number is 0, and as it was if not.
  abbrev Left : Compiled → List ℕ → Type 0
  Left x after = (x.number ≡ 0 → Made tidying s code after x.rows x.groups) × ((x.number ≡ 0 → ⊥) → after ≡ code)

  same : written (bytes_of_words words) code ≡ code
  same = words_same code room b.byte (omega arith)

  by_number : (node : Node) (g k : ℕ) → reading s table_size ≡ pattern node g → unwritten tidying node room ≡ k
      → Left (compiled_numbers (answer_for k (shaped tidying node) g))
      (written (bytes_of_words (code_for k (shaped tidying node) g words)) code)
  by_number node g (suc k) f u = (λ z. absurd (omega arith), λ z. same)
  by_number node g zero f u =
      let q : Node = shaped tidying node in
      let derived : Derives s node g = subst (Sound s table_size) f (sound s table_size) in
      let known = what_is_read (derived_bytes derived) table_size node g f in
      let p = is_shaped tidying node (suc g) known.numbers (fair_proper node depth_limit known.fair) in
      let few : rows_needed node ≤ row_limit
      = ltb-false _ _ (none_holds No.many_rows (program_grounds tidying node room) refl u) in
      let long : length (code_of (program_of g q)) ≡ code_words (rows_needed q)
      = code_length (program_of g q) (compiled_whole g q p.numbers p.proper)
      ∙ ap code_words (program_stands g q).counts in (
        λ z. record {
          node = node;
          is_read = f;
          is_derived = derived;
          rows_are = refl;
          long = long;
          bytes_are = words_over code room b.byte (omega arith) (code_of (program_of g q)) (code_words (rows_needed q)) long
              (ltb-false _ _ (none_holds No.short_code (program_grounds tidying node room) refl u));
          is_coded = λ rest. coded g q rest p.numbers p.proper known.few_groups (omega (arith, p.fewer));
        },
        λ z. absurd (z refl),
      )

  by_reading : (x : Reading) → reading s table_size ≡ x
      → Left (compiled_numbers (answer_by tidying x room)) (written (bytes_of_words (code_left tidying x words)) code)
  by_reading (pattern node g) f = rw (words_length code room) (by_number node g (unwritten tidying node room) f refl)
  by_reading (refused n place) f = (λ z. absurd (omega (arith, (refused_number s n place f).0)), λ z. same)

  left : Left r code'
  left = rw (h.answers, h.code_is) (by_reading (reading s table_size) refl)

  -- Not refused: the bytes of the program's code, and later bytes as they were.
  pub code_made : r.number ≡ 0 → Made tidying s code code' r.rows r.groups
  code_made = left.0

  -- Refused: all bytes as they were.
  pub code_stays : (r.number ≡ 0 → ⊥) → code' ≡ code
  code_stays = left.1
