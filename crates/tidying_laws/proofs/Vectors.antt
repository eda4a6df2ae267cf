-- The tidier on closed patterns. What each becomes is read off the outline.
use Rattle.std.specs.Prelude.{◌≡◌, refl, true, false, List, [], ◌∷◌, map}
use Rattle.std.proofs.Math.Option.{none, some}
use Rattle.meaning.specs.Node.{Node, Node.empty, Node.bset, Node.assert, Node.group, Node.seq, Node.alt, Node.many}
use Rattle.tidying_laws.specs.Void.{void}
use Rattle.tidying_laws.specs.Charge.{is_pair, records}
use Rattle.tidying_laws.specs.Refuted.{letter, a, b, star, option}
use Rattle.tidying_laws.specs.Tidier.{found, tidy}
use Rattle.tidying_laws.specs.Vectors.{computed}

abbrev c : Node
c = letter 0x8

abbrev d : Node
d = letter 0x10

abbrev x : Node
x = letter 0x1000000

-- ^
abbrev start : Node
start = assert 0

-- Patterns, and what they become.
abbrev table : List (Node × Node)
table =
    -- (?:)(?:), a(?:)b and (?:)a: T1
    (seq empty empty, empty)
    ∷ (seq a (seq empty b), seq a b)
    ∷ (seq empty a, a)
    -- a{1}? and a{0}: T2
    ∷ (many 1 (some 0) true a, a)
    ∷ (many 0 (some 0) false a, empty)
    -- (?:)+?: T3
    ∷ (many 1 none true empty, empty)
    -- (?:^)*x and (?:^){2,5}: T4
    ∷ (seq (star false start) x, x)
    ∷ (many 2 (some 3) false start, start)
    -- a{1}(?:){3}b: T2, T3, T1
    ∷ (seq (many 1 (some 0) false a) (seq (many 3 (some 0) false empty) b), seq a b)
    -- (?:a*)*, (?:a*?)* and (?:a*?)*?: T5
    ∷ (star false (star false a), star false a)
    ∷ (star false (star true a), star false a)
    ∷ (star true (star true a), star true a)
    -- (?:a*)*|b|b: T5, T6
    ∷ (alt (star false (star false a)) (alt b b), alt (star false a) b)
    -- |b|: the later of two equal alternatives goes
    ∷ (alt empty (alt b empty), alt empty b)
    -- []|[]: one is left
    ∷ (alt (bset void) (bset void), bset void)
    -- [](?:c)|d: T7 at the sequence, then at the alternation
    ∷ (alt (seq (bset void) c) d, d)
    -- []a|[](): the parts inside come first, so T7 before T8
    ∷ (alt (seq (bset void) a) (seq (bset void) (group 1 empty)), seq (bset void) (group 1 empty))
    -- a|abc|d: an alternative that is just the set leaves an empty one
    ∷ (alt a (alt (seq a (seq b c)) d), alt (seq a (alt empty (seq b c))) d)
    -- ab|ac|ad|b: the longest run
    ∷ (alt (seq a b) (alt (seq a c) (alt (seq a d) b)), alt (seq a (alt b (alt c d))) b)
    -- ab|b|c|cd|ca: one alternative is no run
    ∷ (alt (seq a b) (alt b (alt c (alt (seq c d) (seq c a)))), alt (seq a b) (alt b (seq c (alt empty (alt d a)))))
    -- ba|b||b: T6 comes before T8
    ∷ (alt (seq b a) (alt b (alt empty b)), alt (seq b (alt a empty)) empty)
    -- a|ab|c|c(d)|a: T6, T8, T8, whose rest may have a group
    ∷ (alt a (alt (seq a b) (alt c (alt (seq c (group 1 d)) a))), alt (seq a (alt empty b)) (seq c (alt empty (group 1 d))))
    -- a(?:b|c)|ad: alternatives that are left join their alternation
    ∷ (alt (seq a (alt b c)) (seq a d), seq a (alt b (alt c d)))
    -- abc|abd|ab: T8 outside, then inside
    ∷ (alt (seq a (seq b c)) (alt (seq a (seq b d)) (seq a b)), seq a (seq b (alt c (alt d empty))))
    -- (?:ab){1}c, c(?:ab){1} and (?:a|b){1}|c: parts join a parent of their kind
    ∷ (seq (many 1 (some 0) false (seq a b)) c, seq a (seq b c))
    ∷ (seq c (many 1 (some 0) false (seq a b)), seq c (seq a b))
    ∷ (alt (many 1 (some 0) false (alt a b)) c, alt a (alt b c))
    -- (?:ab|ac){1}|d: T8 inside, then T2
    ∷ (alt (many 1 (some 0) false (alt (seq a b) (seq a c))) d, alt (seq a (alt b c)) d)
    -- (?:a?)?, (?:a??)?? and (?:(?:a?)?)??: T9
    ∷ (option false (option false a), option false a)
    ∷ (option true (option true a), option true a)
    ∷ (option true (option false (option false a)), option true (option false a))
    -- (?:a*)+, (?:(?:a*)+)*: T10, and then T5; (?:(?:a*)+)+: T10 twice
    ∷ (many 1 none false (star false a), star false a)
    ∷ (star false (many 1 none false (star false a)), star false a)
    ∷ (many 1 none false (many 1 none false (star false a)), star false a)
    ∷ []

vectors : map (λ t. tidy t.0) table ≡ map (λ t. t.1) table
unfolding computed
vectors = refl

-- Patterns that no law fits.
abbrev tidied : List Node
tidied =
    -- (?:a?)??, (?:a??)? and (?:a*)*?
    option true (option false a)
    ∷ option false (option true a)
    ∷ star true (star false a)
    -- (?:a*?)+, (?:a*)+?, (?:a*?)+?, (?:a+)+, (?:a*){2,}, (?:a*){1,2} and (?:(a)*)+
    ∷ many 1 none false (star true a)
    ∷ many 1 none true (star false a)
    ∷ many 1 none true (star true a)
    ∷ many 1 none false (many 1 none false a)
    ∷ many 2 none false (star false a)
    ∷ many 1 (some 1) false (star false a)
    ∷ many 1 none false (star false (group 1 a))
    -- a?, a+, a{2} and []*
    ∷ option false a
    ∷ many 1 none false a
    ∷ many 2 (some 0) false a
    ∷ star false (bset void)
    -- (a){1}, (?:(a)*)*, (?:())* and [](c)|d
    ∷ many 1 (some 0) false (group 1 a)
    ∷ star false (star false (group 1 a))
    ∷ star false (group 1 empty)
    ∷ alt (seq (bset void) (group 1 c)) d
    -- (a)|(a), a{2}|a{2}?, a*b|a*c and ab|c|ad
    ∷ alt (group 1 a) (group 2 a)
    ∷ alt (many 2 (some 0) false a) (many 2 (some 0) true a)
    ∷ alt (seq (star false a) b) (seq (star false a) c)
    ∷ alt (seq a b) (alt c (seq a d))
    ∷ []

stay : map found tidied ≡ map (λ r. none) tidied
unfolding computed
stay = refl

-- The place and the law that a search ends at: of (?:a*)*|b|b the third part, by T5, and then the fifth, by T6;
-- of a|ab|c|cd the last, by T8 at its leftmost run.
steps : (found (alt (star false (star false a)) (alt b b)) ≡ some (3, (5, alt (star false a) (alt b b))))
    × (found (alt (star false a) (alt b b)) ≡ some (5, (6, alt (star false a) b)))
    × (found (alt a (alt (seq a b) (alt c (seq c d)))) ≡ some (9, (8, alt (seq a (alt empty b)) (alt c (seq c d)))))
unfolding computed
steps = (refl, refl, refl)

-- Only T8 can take more records: a|abc|d takes 7, and tidied 9.
more_records : (records (alt a (alt (seq a (seq b c)) d)) ≡ 7) × (records (alt (seq a (alt empty (seq b c))) d) ≡ 9)
unfolding records is_pair
more_records = (refl, refl)
