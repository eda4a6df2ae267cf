-- No byte of a text that is shown is above 7F.
use Rattle.std.specs.Prelude.{◌≡◌, refl, Bool, true, false, ◌&&◌, List, [], ◌∷◌, ◌++◌, ℕ, zero, suc, ◌+◌, ◌-◌, ◌/◌, ◌%◌, ◌≤◌, ◌<◌, eqb, leb, ltb, length, get_or}
use Rattle.std.proofs.Common.{arith, leb-true, ltb-true, leb-false, eqb-true}
use Rattle.sets.specs.Sets.{has, same_bytes, below}
use Rattle.sets.specs.Bits.{below_at}
use Rattle.meaning.specs.Quoted.{bytes}
use Rattle.meaning.specs.Tests.{and_true, by_test}
use Rattle.meaning.specs.All.{All, all_append}
use Rattle.meaning.specs.Limits.{last_assertion, no_maximum}
use Rattle.meaning.specs.Node.{Node, Node.empty, Node.bset, Node.assert, Node.group, Node.seq, Node.alt, Node.many, Proper}
use Rattle.table.specs.Table.{maximum}
use Rattle.intake_report.specs.Texts.{decimal, digit}
use Rattle.intake_report.specs.Laws.{decimal_one, decimal_more, decimal_ind}
use Rattle.reading_atoms.specs.Chars.{question, close_paren, close_bracket, close_brace, hyphen, bar}
use Rattle.reading_items.specs.Reading.{dot_set, literal_set}
use Rattle.reading_grammar.specs.Grammar.{special}
use Rattle.showing_spelling.specs.Spelling.{guarded, byte_text, run_text, runs_text, runs_of, lacking, escape_letter, escape_text, words_in, spaces_in}
use Rattle.showing_spelling.specs.Spelling.{named_text, inside_text, class_text, others, either_text, best_text, escape_of, lowest}
use Rattle.showing_spelling.specs.Spelling.{plain_text, set_text, assertion_text, most_text, counts_text, quantifier_text}
use Rattle.showing.specs.Text.{around, loose, bound, text}

-- Each byte is at most 7F.
abbrev pub Low : List ℕ → Type 0
Low t = All (λ b. b ≤ 0x7F) t

low_append : (t u : List ℕ) → Low t → Low u → Low (t ++ u)
low_append t u h k = all_append (λ b. b ≤ 0x7F) t u h k

-- At each place.
pub low_at : (t : List ℕ) → Low t → (i : ℕ) → i < length t → get_or t i 0 ≤ 0x7F
low_at [] h i l = absurd (omega arith)
low_at (b ∷ t) h zero l = h.0
low_at (b ∷ t) h (suc i) l = low_at t h.1 i (omega arith)

-- The bytes: 256 tests, computed.
all_low : List ℕ → Bool
all_low [] = true
all_low (b ∷ t) = leb b 0x7F && all_low t

low_of : (t : List ℕ) → all_low t ≡ true → Low t
unfolding all_low
low_of [] e = tt
low_of (b ∷ t) e = let (p, q) = and_true (leb b 0x7F) (all_low t) e in (leb-true b 0x7F p, low_of t q)

low_byte : Bool → ℕ → Bool
low_byte inClass b = all_low (byte_text inClass b)

low_bytes : (inClass : Bool) → below 256 (low_byte inClass) ≡ true
unfolding low_byte all_low byte_text guarded special
low_bytes true = refl
low_bytes false = refl

pub byte_low : (inClass : Bool) (b : ℕ) → b < 256 → Low (byte_text inClass b)
unfolding low_byte
byte_low inClass b h = low_of (byte_text inClass b) (below_at 256 (low_byte inClass) (low_bytes inClass) b h)

-- Runs, names and classes.
run_low : (first end : ℕ) → end ≤ 256 → Low (run_text first end)
unfolding run_text
run_low first end h =
    by_test Low (leb end first) (λ e. tt) (λ e.
    let l = leb-false end first e in
    by_test Low (eqb end (first + 1)) (λ e. byte_low true first (omega arith)) (λ e.
    by_test Low (eqb end (first + 2)) (λ e. let q = eqb-true end (first + 2) e in
    low_append (byte_text true first) (byte_text true (first + 1)) (byte_low true first (omega arith)) (byte_low true (first + 1) (omega arith)))
    (λ e. low_append (byte_text true first) (hyphen ∷ byte_text true (end - 1)) (byte_low true first (omega arith))
    (omega arith, byte_low true (end - 1) (omega arith)))))

runs_low : (test : ℕ → Bool) (n end : ℕ) → n ≤ 256 → end ≤ 256 → Low (runs_text test n end)
unfolding runs_text
runs_low test zero end h l = run_low zero end l
runs_low test (suc n) end h l =
    by_test Low (test n) (λ e. runs_low test n end (omega arith) l)
    (λ e. low_append (runs_text test n n) (run_text (suc n) end) (runs_low test n n (omega arith) (omega arith)) (run_low (suc n) end l))

letters : Low (bytes "dDwWsS")
unfolding all_low
letters = low_of (bytes "dDwWsS") refl

escape_low : (k : ℕ) → Low (escape_text k)
escape_low k = by_test Low (ltb k 6) (λ e. (omega arith, (letter k (ltb-true k 6 e), tt))) (λ e. tt)
  where
    letter : (k : ℕ) → k < 6 → escape_letter k ≤ 0x7F
    letter k h = low_at (bytes "dDwWsS") letters k h

named_low : (set : List ℕ) (w p : ℕ) → Low (named_text set w p)
named_low set w p =
    low_append (escape_text w ++ escape_text p) (runs_of (lacking (lacking set w) p))
    (low_append (escape_text w) (escape_text p) (escape_low w) (escape_low p))
    (runs_low (has (lacking (lacking set w) p)) 256 256 (omega arith) (omega arith))

closed_low : (named : Bool) (set : List ℕ) → Low (inside_text named set ++ close_bracket ∷ [])
closed_low true set = low_append (named_text set (words_in set) (spaces_in set)) (close_bracket ∷ [])
    (named_low set (words_in set) (spaces_in set)) (omega arith, tt)
closed_low false set = low_append (named_text set 6 6) (close_bracket ∷ []) (named_low set 6 6) (omega arith, tt)

class_low : (negated named : Bool) (set : List ℕ) → Low (class_text negated named set)
class_low true named set = (omega arith, (omega arith, closed_low named set))
class_low false named set = (omega arith, closed_low named set)

pub set_low : (set : List ℕ) → Low (set_text set)
unfolding set_text plain_text best_text
set_low set =
    let low : ℕ = lowest (has set) 256 256 in
    by_test Low (same_bytes set dot_set) (λ e. (omega arith, tt)) (λ e.
    by_test Low (ltb (escape_of set 6 0) 6) (λ e. escape_low (escape_of set 6 0)) (λ e.
    by_test Low (ltb low 256 && same_bytes set (literal_set low))
    (λ e. byte_low false low (ltb-true low 256 (and_true (ltb low 256) (same_bytes set (literal_set low)) e).0))
    (λ e. by_test Low (ltb (length (either_text true set)) (length (either_text false set))) (λ e. either true) (λ e. either false))))
  where
    either : (named : Bool) → Low (either_text named set)
    either named = by_test Low (ltb (length (class_text true named (others set))) (length (class_text false named set)))
        (λ e. class_low true named (others set)) (λ e. class_low false named set)

-- Counts.
decimal_low : (n : ℕ) → Low (decimal n)
decimal_low = decimal_ind (λ n. Low (decimal n)) (λ n h. rw (decimal_one n h) (omega arith, tt))
    (λ n h rest. rw (decimal_more n h) (low_append (decimal (n / 10)) (digit (n % 10)) rest (omega arith, tt)))

counts_low : (n m : ℕ) → Low (counts_text n m)
unfolding counts_text
counts_low n m =
    by_test Low (eqb n 0 && eqb m no_maximum) (λ e. (omega arith, tt)) (λ e.
    by_test Low (eqb n 1 && eqb m no_maximum) (λ e. (omega arith, tt)) (λ e.
    by_test Low (eqb n 0 && eqb m 1) (λ e. (omega arith, tt)) (λ e.
    (omega arith, low_append (decimal n ++ most_text n m) (close_brace ∷ []) (low_append (decimal n) (most_text n m) (decimal_low n) most) (omega arith, tt)))))
  where
    most : Low (most_text n m)
    most = by_test Low (eqb m n) (λ e. tt) (λ e. by_test Low (eqb m no_maximum) (λ e. (omega arith, tt)) (λ e. (omega arith, decimal_low m)))

quantifier_low : (n m : ℕ) (lazy : Bool) → Low (quantifier_text n m lazy)
unfolding quantifier_text
quantifier_low n m true = low_append (counts_text n m) (question ∷ []) (counts_low n m) (omega arith, tt)
quantifier_low n m false = low_append (counts_text n m) [] (counts_low n m) tt

assertion_low : (a : ℕ) → a ≤ last_assertion → Low (assertion_text a)
unfolding assertion_text
assertion_low zero h = (omega arith, tt)
assertion_low (suc zero) h = (omega arith, tt)
assertion_low (suc (suc zero)) h = (omega arith, (omega arith, tt))
assertion_low (suc (suc (suc zero))) h = (omega arith, (omega arith, tt))
assertion_low (suc (suc (suc (suc a)))) h = absurd (omega arith)

around_low : (b : Bool) (t : List ℕ) → Low t → Low (around b t)
around_low true t h = (omega arith, (omega arith, (omega arith, low_append t (close_paren ∷ []) h (omega arith, tt))))
around_low false t h = h

-- A tree.
pub text_low : (r : Node) → Proper r → Low (text r)
unfolding text
text_low empty p = tt
text_low (bset s) p = set_low s
text_low (assert a) p = assertion_low a p
text_low (group k r) p = (omega arith, low_append (text r) (close_paren ∷ []) (text_low r p.1) (omega arith, tt))
text_low (seq r q) p =
    low_append (around (loose r) (text r)) (around (loose q) (text q)) (around_low (loose r) (text r) (text_low r p.0))
    (around_low (loose q) (text q) (text_low q p.1))
text_low (alt r q) p = low_append (text r) (bar ∷ text q) (text_low r p.0) (omega arith, text_low q p.1)
text_low (many n e lazy r) p =
    low_append (around (bound r) (text r)) (quantifier_text n (maximum n e) lazy) (around_low (bound r) (text r) (text_low r p.1))
    (quantifier_low n (maximum n e) lazy)
