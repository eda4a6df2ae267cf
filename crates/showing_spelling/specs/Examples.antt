-- Computed examples of spellings: the study's vectors, and both sides of each rule.
use Rattle.std.specs.Prelude.{◌≡◌, refl, true, false, not, ◌||◌, [], eqb}
use Rattle.sets.specs.Sets.{bit, has, set_of, word_of, same_bytes, is_digit, is_word, is_space, is_dot, in_escape}
use Rattle.meaning.specs.Limits.{no_maximum}
use Rattle.meaning.specs.Quoted.{bytes}
use Rattle.intake_report.specs.Texts.{decimal, digits}
use Rattle.reading_grammar.specs.Grammar.{special}
use Rattle.showing_spelling.specs.Spelling.{guarded, byte_text, run_text, runs_text, best_text, escape_of, lowest, plain_text}
use Rattle.showing_spelling.specs.Spelling.{set_text, counts_text, quantifier_text}

-- Bytes: a control letter, NUL with two hex digits, a special one, one that is special in a class only, 7F and FF.
pub spelled_bytes :
    (byte_text false 0x0A ≡ bytes "\\n") × (byte_text false 0 ≡ bytes "\\x00") × (byte_text false 0x2E ≡ bytes "\\.")
    × (byte_text true 0x2E ≡ bytes ".") × (byte_text false 0x2D ≡ bytes "-") × (byte_text true 0x2D ≡ bytes "\\-")
    × (byte_text false 0x7E ≡ bytes "~") × (byte_text false 0x7F ≡ bytes "\\x7F") × (byte_text true 0xFF ≡ bytes "\\xFF")
unfolding byte_text guarded special
spelled_bytes = (refl, refl, refl, refl, refl, refl, refl, refl, refl)

-- Runs: none, one, two and three bytes.
pub spelled_runs :
    (run_text 0x61 0x61 ≡ []) × (run_text 0x61 0x62 ≡ bytes "a") × (run_text 0x61 0x63 ≡ bytes "ab")
    × (run_text 0x61 0x64 ≡ bytes "a-c")
unfolding run_text byte_text guarded
spelled_runs = (refl, refl, refl, refl)

-- Sets: the dot, a set escape, one byte, names with the rest, what is lacking, all bytes and none.
pub spelled_sets :
    (set_text (set_of is_dot) ≡ bytes ".") × (set_text (set_of (in_escape 3)) ≡ bytes "\\W") × (set_text (set_of (eqb 0x24)) ≡ bytes "\\$")
    × (set_text (set_of (λ x. is_word x || eqb x 0x2E || eqb x 0x2D)) ≡ bytes "[\\w\\-.]")
    × (set_text (set_of (λ x. not (is_space x || eqb x 0x2C))) ≡ bytes "[^\\s,]") × (set_text (set_of (λ x. true)) ≡ bytes "[^]")
    × (set_text (set_of (λ x. false)) ≡ bytes "[]")
unfolding set_text plain_text best_text runs_text run_text byte_text guarded special escape_of lowest same_bytes set_of word_of has bit
    is_dot is_space is_word is_digit
spelled_sets = (refl, refl, refl, refl, refl, refl, refl)

-- Quantifiers: each form, lazy and not, and both sides of the shorthands.
pub spelled_counts :
    (quantifier_text 0 no_maximum false ≡ bytes "*") × (quantifier_text 1 no_maximum true ≡ bytes "+?")
    × (quantifier_text 0 1 true ≡ bytes "??") × (quantifier_text 2 no_maximum false ≡ bytes "{2,}")
    × (quantifier_text 1 1 false ≡ bytes "{1}") × (quantifier_text 0 0 false ≡ bytes "{0}")
    × (quantifier_text 0 2 false ≡ bytes "{0,2}") × (quantifier_text 10 1000 true ≡ bytes "{10,1000}?")
unfolding quantifier_text counts_text decimal digits
spelled_counts = (refl, refl, refl, refl, refl, refl, refl, refl)
