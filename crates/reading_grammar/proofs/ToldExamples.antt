-- Which refusal a pattern is turned away with, computed: the first of those that hold of it. And such a pattern derives nothing.
use Rattle.std.specs.Prelude.{◌≡◌, refl, Bool, true, false, ◌&&◌, List, [], ◌∷◌, ℕ, eqb, length}
use Rattle.std.proofs.lemmas.Bool.{false≢true}
use Prim.Native.String.{String}
use Rattle.std.proofs.Common.{arith, eqb-true}
use Rattle.sets.specs.Sets.{is_digit, is_word}
use Rattle.meaning.specs.Quoted.{bytes}
use Rattle.meaning.specs.Limits.{table_words}
use Rattle.meaning.specs.Tests.{and_true}
use Rattle.meaning.specs.All.{All}
use Rattle.meaning.specs.Node.{Node}
use Rattle.meaning.specs.Flat.{parts}
use Rattle.reading_atoms.specs.Escapes.{escape_at}
use Rattle.reading_atoms.specs.Classes.{class_atom, class_go, class_at}
use Rattle.reading_atoms.specs.Braces.{number_go, number_at, braces_at, quantifier_at}
use Rattle.reading_items.specs.Reading.{Reading, Reading.pattern, Reading.refused, opening_at, item_by, item_at, sequence_go}
use Rattle.reading_items.specs.Reading.{alternatives_go, reading}
use Rattle.reading_grammar.specs.Grammar.{Derives}
use Rattle.reading_grammar.proofs.Complete.{refused_not}
use Rattle.reading_grammar.specs.Refusals.{TurnedAway}
use Rattle.reading_grammar.proofs.First.{refused_first, one_refusal}

-- A pattern, a number and a place.
pub data Line : Type 0 where
  line : String → ℕ → ℕ → Line

abbrev says : Reading → ℕ → ℕ → Bool
says (pattern r g) n p = false
says (refused m q) n p = eqb m n && eqb q p

abbrev pub room : List ℕ → ℕ
room s = table_words (length s)

abbrev holds : Line → Bool
holds (line s n p) = says (reading (bytes s) (room (bytes s))) n p

abbrev all : List Line → Bool
all [] = true
all (l ∷ ls) = holds l && all ls

-- What is said of a line: the pattern is turned away so, and derives no tree.
abbrev pub Told : Line → Type 0
Told (line s n p) = TurnedAway (bytes s) (room (bytes s)) n p × ((r : Node) (g : ℕ) → Derives (bytes s) r g → ⊥)

said : (x : Reading) (n p : ℕ) → says x n p ≡ true → x ≡ refused n p
said (pattern r g) n p e = absurd (false≢true e)
said (refused m q) n p e =
    let (u, v) = and_true (eqb m n) (eqb q p) e in
    rw (eqb-true m n u, eqb-true q p v)

told : (l : List Line) → all l ≡ true → All Told l
told [] e = tt
told (line s n p ∷ ls) e =
    let (u, v) = and_true (holds (line s n p)) (all ls) e in
    let w : ℕ = room (bytes s) in
    let x : reading (bytes s) w ≡ refused n p = said (reading (bytes s) w) n p u in
    ((refused_first (bytes s) w n p x, refused_not (bytes s) w n p x (omega arith)), told ls v)

-- One for each number. Of some two hold at one place: 8 and 9 of `a{2000,1}`, 10 and 11 of `([`, and at level 33 5 and 13, and
-- 13 and 14.
abbrev pub lines : List Line
lines =
    line "\\q" 4 0
    ∷ line "[\\d-\\q]" 4 4
    ∷ line "\\1" 5 0
    ∷ line "(?=a)" 5 0
    ∷ line "a**" 6 2
    ∷ line "(?a)" 6 1
    ∷ line "a{,1}" 7 1
    ∷ line "a{2000,1}" 8 1
    ∷ line "a{3,2}" 9 1
    ∷ line "[b-a]" 10 1
    ∷ line "[\\d-a]" 10 1
    ∷ line "([" 10 2
    ∷ line "a)" 11 1
    ∷ line "(a" 11 2
    ∷ line "a}" 12 1
    ∷ line "(?:(?:(?:(?:(?:(?:(?:(?:(?:(?:(?:(?:(?:(?:(?:(?:(?:(?:(?:(?:(?:(?:(?:(?:(?:(?:(?:(?:(?:(?:(?:(?:(?:" 13 96
    ∷ line "(?:(?:(?:(?:(?:(?:(?:(?:(?:(?:(?:(?:(?:(?:(?:(?:(?:(?:(?:(?:(?:(?:(?:(?:(?:(?:(?:(?:(?:(?:(?:(?:(?=" 5 96
    ∷ line "(?:(?:(?:(?:(?:(?:(?:(?:(?:(?:(?:(?:(?:(?:(?:(?:(?:(?:(?:(?:(?:(?:(?:(?:(?:(?:(?:(?:(?:(?:(?:(?:(?a" 13 96
    ∷ line "((((((((((((((((?:(?:(?:(?:(?:(?:(?:(?:(?:(?:(?:(?:(?:(?:(?:(?:(?:(" 13 66
    ∷ line "((((((((((((((((((((((((((((((((" 14 31
    ∷ line "((((((((((((((((((((((((((((((((?:(" 13 34
    ∷ []

pub turned_away_lem : All Told lines
unfolding reading alternatives_go sequence_go item_at item_by opening_at quantifier_at braces_at number_at number_go class_at
    class_go class_atom escape_at parts is_digit is_word
turned_away_lem = told lines refl

-- 9 holds of `a{2000,1}` too, and is not told.
pub nine_not : TurnedAway (bytes "a{2000,1}") (room (bytes "a{2000,1}")) 9 1 → ⊥
unfolding reading alternatives_go sequence_go item_at item_by opening_at quantifier_at braces_at number_at number_go is_digit
nine_not t =
    let s : List ℕ = bytes "a{2000,1}" in
    let (e, p) = one_refusal s (room s) 9 1 8 1 t (refused_first s (room s) 8 1 refl) in
    omega arith

-- `a**` derives nothing.
pub a_star_star : (r : Node) (g : ℕ) → Derives (bytes "a**") r g → ⊥
unfolding reading alternatives_go sequence_go item_at item_by quantifier_at parts
a_star_star = refused_not (bytes "a**") (room (bytes "a**")) 6 2 refl (omega arith)
