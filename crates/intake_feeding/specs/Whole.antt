-- However the input is cut into pieces, what is written for them is the program's output for the whole.
use Rattle.std.specs.Prelude.{◌≡◌, refl, Bool, true, false, cond, List, [], ◌∷◌, ◌++◌, ℕ, ◌≤◌, ◌<◌, eqb, leb, length, take, replicate}
use Rattle.std.proofs.Common.{sym, ap, ap₂, ◌∙◌, append-nil, append_assoc, arith, le-leb, leb-true, leb-false, lt-ltb, length-append, take_all, length-take-le}
use Rattle.std.proofs.lemmas.List.{take-append-le}
use Rattle.meaning.specs.Results.{concat_map}
use Rattle.reading_items.specs.Reading.{Reading.refused, reading}
use Rattle.compiler.specs.Compiling.{Compilation}
use Rattle.compiler.specs.Compiling.{Compilation.Rows, Compilation.Refused}
use Rattle.intake_report.specs.Lines.{lines_of, on_first}
use Rattle.intake_lines.specs.Intake.{line_limit}
use Rattle.meaning.specs.Limits.{pattern_limit, table_size, code_size, line_feed}
use Rattle.meaning.specs.Refusals as No
use Rattle.intake_lines.specs.Intake.{line_for, lines_for, compiled, code_from, pattern_line, output_for, intake_output}
use Rattle.intake_lines.specs.Ended.{phase_for, phase_then, code_then, text_then}
use Rattle.intake_lines.specs.Laws.{too_long}
use Rattle.intake_lines.specs.declared.Phase.{Phase}
use Rattle.intake_lines.specs.declared.Phase.TheVariants.{Pattern, Texts, Over}
use Rattle.intake_feeding.specs.Work.{Work, at_first, kept_limit, keep, line_text, next_line, written, work_behind}
use Rattle.intake_feeding.specs.Work.{last_text, written_for}
use Rattle.intake_feeding.specs.Pieces.{joined, in_pieces}

-- ---- what is kept of a line says as much as the line

-- What is kept of a line.
abbrev kept_of : List ℕ → List ℕ
kept_of line = take kept_limit line

-- A byte more of the line.
keep_more : (line : List ℕ) (byte : ℕ) → keep (kept_of line) byte ≡ kept_of (line ++ byte ∷ [])
keep_more line byte = by (leb kept_limit (length line)) refl
  where
    by : (t : Bool) → leb kept_limit (length line) ≡ t → keep (kept_of line) byte ≡ kept_of (line ++ byte ∷ [])
    by true e =
        let long : kept_limit ≤ length line = leb-true kept_limit (length line) e in
        rw (le-leb kept_limit (length (kept_of line)) (omega (arith, length-take-le kept_limit line long)))
        (sym (take-append-le kept_limit line (byte ∷ []) long))
    by false e =
        let short : length line < kept_limit = leb-false kept_limit (length line) e in
        let same : kept_of line ≡ line = take_all kept_limit line (omega arith) in
        rw (same, e)
        (sym (take_all kept_limit (line ++ byte ∷ []) (omega (arith, length-append line (byte ∷ [])))))

-- What holds of a line that is kept whole, and of any two that are too long, holds of a line and what is kept of it.
kept_same : {A : Type 0} (f : List ℕ → A) → ((a b : List ℕ) → line_limit < length a → line_limit < length b → f a ≡ f b)
    → (line : List ℕ) → f (kept_of line) ≡ f line
kept_same f long line = by (leb (length line) kept_limit) refl
  where
    by : (t : Bool) → leb (length line) kept_limit ≡ t → f (kept_of line) ≡ f line
    by true e = ap f (take_all kept_limit line (leb-true (length line) kept_limit e))
    by false e =
        let h : kept_limit < length line = leb-false (length line) kept_limit e in
        long (kept_of line) line (omega (arith, length-take-le kept_limit line (omega arith))) (omega arith)

-- A pattern line too long is refused, as any pattern over the limit is.
reading_long : (s : List ℕ) → line_limit < length s → reading s table_size ≡ refused No.long_pattern 0
unfolding reading
reading_long s h = rw (lt-ltb pattern_limit (length s) (omega arith))

reading_same : (line : List ℕ) → reading (kept_of line) table_size ≡ reading line table_size
reading_same = kept_same (λ s. reading s table_size) (λ a b h k. reading_long a h ∙ sym (reading_long b k))

text_same : (phase : Phase) (code line : List ℕ) → text_then phase code (kept_of line) ≡ text_then phase code line
text_same Pattern code line = rw (reading_same line)
text_same Texts code line = kept_same (line_for code) (λ a b h k. sym (too_long code a h) ∙ too_long code b k) line
text_same Over code line = refl

phase_same : (phase : Phase) (line : List ℕ) → phase_then phase (kept_of line) ≡ phase_then phase line
phase_same Pattern line = rw (reading_same line)
phase_same Texts line = refl
phase_same Over line = refl

code_same : (phase : Phase) (code line : List ℕ) → code_then phase code (kept_of line) ≡ code_then phase code line
code_same Pattern code line = rw (reading_same line)
code_same Texts code line = refl
code_same Over code line = refl

-- ---- line by line

-- What is written for the lines that are left.
abbrev output_from : Phase → List ℕ → List (List ℕ) → List ℕ
output_from phase code [] = []
output_from phase code (line ∷ lines) =
    text_then phase code line ++ output_from (phase_then phase line) (code_then phase code line) lines

from_over : (code : List ℕ) (lines : List (List ℕ)) → output_from Over code lines ≡ []
from_over code [] = refl
from_over code (line ∷ lines) = from_over code lines

from_texts : (code : List ℕ) (lines : List (List ℕ)) → output_from Texts code lines ≡ concat_map (line_for code) lines
from_texts code [] = refl
from_texts code (line ∷ lines) = ap (λ l. line_for code line ++ l) (from_texts code lines)

from_compiled : (c : Compilation) (code : List ℕ) (lines : List (List ℕ))
    → output_from (phase_for c) code lines ≡ lines_for c code lines
from_compiled (Rows rows groups) code lines = from_texts code lines
from_compiled (Refused number place) code lines = from_over code lines

-- Line by line the program's output comes out.
from_first : (lines : List (List ℕ)) → output_from Pattern (replicate code_size 0) lines ≡ output_for lines
from_first [] = refl
from_first (pattern ∷ lines) =
    ap (λ l. pattern_line (compiled pattern) ++ l)
    (from_compiled (compiled pattern) (code_from pattern (replicate code_size 0)) lines)

-- ---- byte by byte

-- Lines whose first begins with bytes that were read before.
abbrev begun_with : List ℕ → List (List ℕ) → List (List ℕ)
begun_with [] lines = lines
begun_with (byte ∷ l) [] = (byte ∷ l) ∷ []
begun_with (byte ∷ l) (line ∷ lines) = ((byte ∷ l) ++ line) ∷ lines

begun_ends : (p : List ℕ) (lines : List (List ℕ)) → begun_with p ([] ∷ lines) ≡ p ∷ lines
begun_ends [] lines = refl
begun_ends (byte ∷ p) lines = rw (append-nil p)

begun_more : (p : List ℕ) (byte : ℕ) (lines : List (List ℕ))
    → begun_with p (on_first byte lines) ≡ begun_with (p ++ byte ∷ []) lines
begun_more [] byte [] = refl
begun_more [] byte (line ∷ lines) = refl
begun_more (a ∷ p) byte [] = refl
begun_more (a ∷ p) byte (line ∷ lines) = rw (append_assoc p (byte ∷ []) line)

-- The present line began with some bytes, of which the first are kept.
abbrev work_with : Phase → List ℕ → List ℕ → Work
work_with phase code p = record { phase = phase; code = code; kept = kept_of p }

-- What is written for the rest of the input, its end included.
abbrev pub rest_of : Work → List ℕ → List ℕ
rest_of w input = written w input ++ last_text (work_behind w input)

at_end : (phase : Phase) (code p : List ℕ) → last_text (work_with phase code p) ≡ output_from phase code (begun_with p [])
at_end phase code [] = refl
at_end phase code (byte ∷ p) = text_same phase code (byte ∷ p) ∙ sym (append-nil _)

-- At LF the line ends, and the next begins with nothing.
line_ends : (phase : Phase) (code p l : List ℕ)
    → ((phase : Phase) (code : List ℕ) → rest_of (work_with phase code []) l ≡ output_from phase code (lines_of l))
    → line_text (work_with phase code p) ++ rest_of (next_line (work_with phase code p)) l
    ≡ output_from phase code (begun_with p ([] ∷ lines_of l))
line_ends phase code p l rest =
    ap₂ ◌++◌ (text_same phase code p)
    (rest (phase_then phase (kept_of p)) (code_then phase code (kept_of p))
    ∙ ap₂ (λ q c. output_from q c (lines_of l)) (phase_same phase p) (code_same phase code p))
    ∙ ap (output_from phase code) (sym (begun_ends p (lines_of l)))

whole_from : (phase : Phase) (code p input : List ℕ)
    → rest_of (work_with phase code p) input ≡ output_from phase code (begun_with p (lines_of input))
unfolding written work_behind lines_of
whole_from phase code p [] = at_end phase code p
whole_from phase code p (byte ∷ l) =
    by (λ q c. whole_from q c [] l) (whole_from phase code (p ++ byte ∷ []) l) (eqb byte line_feed)
  where
    next : Bool → Work
    next t = cond t (next_line (work_with phase code p)) (record { phase = phase; code = code; kept = keep (kept_of p) byte })

    by : ((phase : Phase) (code : List ℕ) → rest_of (work_with phase code []) l ≡ output_from phase code (lines_of l))
        → rest_of (work_with phase code (p ++ byte ∷ [])) l ≡ output_from phase code (begun_with (p ++ byte ∷ []) (lines_of l))
        → (t : Bool) → (cond t (line_text (work_with phase code p)) [] ++ written (next t) l) ++ last_text (work_behind (next t) l)
        ≡ output_from phase code (begun_with p (cond t ([] ∷ lines_of l) (on_first byte (lines_of l))))
    by behind more true = append_assoc (line_text (work_with phase code p)) _ _ ∙ line_ends phase code p l behind
    by behind more false =
        ap (λ k. rest_of (record { phase = phase; code = code; kept = k }) l) (keep_more p byte)
        ∙ more ∙ ap (output_from phase code) (sym (begun_more p byte (lines_of l)))

-- Whatever pieces the input comes in, what is written is the program's output for the input.
pub whole : (pieces : List (List ℕ)) → written_for at_first pieces ≡ intake_output (joined pieces)
unfolding intake_output
whole pieces = in_pieces at_first pieces ∙ whole_from Pattern (replicate code_size 0) [] (joined pieces)
    ∙ from_first (lines_of (joined pieces))

-- The work that is over writes nothing more: the program need not read on.
pub over_silent : (code kept l : List ℕ) → rest_of (record { phase = Over; code = code; kept = kept }) l ≡ []
unfolding written work_behind
over_silent code [] [] = refl
over_silent code (byte ∷ kept) [] = refl
over_silent code kept (byte ∷ l) = by (over_silent code [] l) (over_silent code (keep kept byte) l) (eqb byte line_feed)
  where
    next : Bool → Work
    next t =
        cond t (record { phase = Over; code = code; kept = [] })
        (record { phase = Over; code = code; kept = keep kept byte })

    by : rest_of (next true) l ≡ [] → rest_of (next false) l ≡ []
        → (t : Bool) → (cond t [] [] ++ written (next t) l) ++ last_text (work_behind (next t) l) ≡ []
    by ends more true = ends
    by ends more false = more
