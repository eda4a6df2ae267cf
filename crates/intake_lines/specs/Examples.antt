-- The outline's example, whole, and three more inputs, computed over the definition of the program's output.
use Rattle.std.specs.Prelude.{◌≡◌, refl, [], ◌++◌}
use Rattle.sets.specs.Sets.{bit, has, word_of, set_of, is_digit, is_word, is_dot}
use Rattle.meaning.specs.Quoted.{bytes}
use Rattle.meaning.specs.Text.{unset, fits, holds_at, opened, closed, cleared, wiped}
use Rattle.meaning.specs.Bytes.{asserts}
use Rattle.meaning.specs.Node.{lo, hi}
use Rattle.meaning.specs.Flat.{parts}
use Rattle.machine.specs.Steps.{run, steps}
use Rattle.machine.specs.Layout.{size_of, rows_of, past, any_byte}
use Rattle.machine.specs.Words.{code_of, row_in, rows_pass, code_clean, code_passes}
use Rattle.machine.specs.Replies.{refusal, reply, registers_after}
use Rattle.reading_atoms.specs.Escapes.{escape_at}
use Rattle.reading_atoms.specs.Classes.{class_atom, class_go, class_at}
use Rattle.reading_atoms.specs.Braces.{number_go, number_at, braces_at, quantifier_at}
use Rattle.reading_items.specs.Reading.{opening_at, item_by, item_at, sequence_go, alternatives_go, reading}
use Rattle.intake_report.specs.Texts.{lf, digits, decimal, shown_number, further, spaced, spans_line}
use Rattle.intake_report.specs.Texts.{header_line, refused_at, refused_run, none_line}
use Rattle.intake_report.specs.Lines.{lines_of}
use Rattle.intake_lines.specs.Intake.{line_for, intake_output}

-- For `a|ab` and lines `ab`, `c`; a group that took no part, in a last line without LF; a refused pattern; no pattern line.
outline_lines : (intake_output (bytes "a|ab" ++ lf ++ bytes "ab" ++ lf ++ bytes "c" ++ lf)
    ≡ bytes "rows 13 groups 0" ++ lf ++ bytes "0 1" ++ lf ++ bytes "none" ++ lf)
    × (intake_output (bytes "(?:(a)|b)*" ++ lf ++ bytes "ab") ≡ bytes "rows 18 groups 1" ++ lf ++ bytes "0 2 -1 -1" ++ lf)
    × (intake_output (bytes "a**" ++ lf ++ bytes "ab" ++ lf) ≡ bytes "refused 6 at 2" ++ lf)
    × (intake_output [] ≡ [])
unfolding intake_output line_for lines_of header_line refused_at refused_run none_line spans_line spaced further shown_number decimal
    digits reading alternatives_go sequence_go item_at item_by opening_at quantifier_at braces_at number_at number_go class_at class_go
    class_atom
    escape_at parts is_digit is_word is_dot size_of rows_of past any_byte set_of word_of has bit lo hi code_of
    refusal reply registers_after rows_pass code_passes code_clean row_in run steps unset fits holds_at asserts opened closed cleared
    wiped
outline_lines = (refl, refl, refl, refl)
