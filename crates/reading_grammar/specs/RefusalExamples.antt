-- Refusals by their definitions, each made by hand: no reader has a part in them. Then which of them is told, computed.
use Rattle.std.specs.Prelude.{◌≡◌, refl, true, false, List, [], ◌∷◌, ℕ, zero, suc, ◌+◌, ◌*◌, ◌≤◌, ◌<◌, replicate, get_or}
use Rattle.std.proofs.Common.{sym, subst, subst₂, ◌∙◌, inr, add-one, arith}
use Rattle.std.proofs.lemmas.Bool.{false≢true}
use Rattle.std.proofs.Math.Option.{Option, none, some}
use Rattle.std.proofs.lemmas.List.{length-replicate, get_or-replicate}
use Rattle.sets.specs.Sets.{is_digit, is_word}
use Rattle.meaning.specs.Quoted.{bytes}
use Rattle.meaning.specs.Limits.{depth_limit, group_limit}
use Rattle.meaning.specs.Node.{Node}
use Rattle.reading_atoms.specs.Chars.{no_byte, caret, question, open_paren, colon}
use Rattle.reading_grammar.specs.Atoms.{Is, Dash, Digits, Times, Quantified, Control, Named, EscapedByte, EscapedSet}
use Rattle.reading_grammar.specs.Atoms.{ByteAtom}
use Rattle.reading_grammar.specs.Atoms.{ClassItems}
use Rattle.reading_grammar.specs.Grammar.{special, Sort, Rule}
use Rattle.reading_grammar.specs.Forms.{digits_first}
use Rattle.reading_grammar.specs.Refusals.{Checks, Due, ClassOpens, ClassDue, Inside, End, BadRange, Listed, LeftOut}
use Rattle.reading_grammar.specs.Refusals.{WrongEscape}
use Rattle.reading_grammar.specs.Refusals.{Form, Above, AtomBefore, Refuses}
use Rattle.reading_grammar.specs.Examples.{literal, lone}

-- An atom of a class is due, and an atom stands before a place.
abbrev class_due : {s : List ℕ} {d g o a0 a : ℕ} {set : List ℕ} → Due s d o g → ClassOpens s o a0 → ClassItems s a0 a set
    → ClassDue s a
class_due {d = d} {g = g} {o = o} {a0 = a0} {set = set} due opens items =
    record { d = d; g = g; opening = o; first = a0; set = set; due = due; opens = opens; items = items }

atom_before : {s : List ℕ} {d a b g h : ℕ} {r : Node} → Due s d a g → Rule s Sort.atom d a b g h (r ∷ []) → AtomBefore s b
atom_before {d = d} {a = a} {g = g} {h = h} {r = r} due t =
    record { d = d; a = a; g = g; h = h; r = r; due = due; before = t }

-- 1 to 3: 2,049 bytes; 63 words for a pattern of one byte; the first of two bytes above 7F.
pub one : Checks (replicate 2049 0x61) 65600 1 0
one = Checks.long (omega (arith, length-replicate {A = ℕ} 2049 0x61))

pub two : Checks (bytes "a") 63 2 0
two = Checks.small (omega arith)

pub three : Checks (0x61 ∷ 0x80 ∷ 0xFF ∷ []) 128 3 1
three = Checks.high {a = 1} (omega arith) (omega arith) lower
  where
    lower : (i : ℕ) → i < 1 → get_or (0x61 ∷ 0x80 ∷ 0xFF ∷ []) i 0 ≤ 0x7F
    lower zero l = omega arith
    lower (suc i) l = absurd (omega arith)

-- 4: `\q` is neither listed nor one of 5.
q_listed : Listed (bytes "\\q") false 0 → ⊥
unfolding is_word
q_listed (Listed.byte (EscapedByte.control at h Control.feed)) = omega arith
q_listed (Listed.byte (EscapedByte.control at h Control.newline)) = omega arith
q_listed (Listed.byte (EscapedByte.control at h Control.return)) = omega arith
q_listed (Listed.byte (EscapedByte.control at h Control.tab)) = omega arith
q_listed (Listed.byte (EscapedByte.control at h Control.vertical)) = omega arith
q_listed (Listed.byte (EscapedByte.letter at h k e)) = omega arith
q_listed (Listed.byte (EscapedByte.hex at h k e k' e')) = omega arith
q_listed (Listed.byte (EscapedByte.nul at h e)) = omega arith
q_listed (Listed.byte (EscapedByte.backspace at i h)) = omega arith
q_listed (Listed.byte (EscapedByte.itself at h n w)) = false≢true (sym w ∙ subst (λ (b : ℕ). is_word b ≡ true) h refl)
q_listed (Listed.set (EscapedSet.named at h Named.digits)) = omega arith
q_listed (Listed.set (EscapedSet.named at h Named.no_digits)) = omega arith
q_listed (Listed.set (EscapedSet.named at h Named.words)) = omega arith
q_listed (Listed.set (EscapedSet.named at h Named.no_words)) = omega arith
q_listed (Listed.set (EscapedSet.named at h Named.spaces)) = omega arith
q_listed (Listed.set (EscapedSet.named at h Named.no_spaces)) = omega arith
q_listed (Listed.edge i h) = omega arith
q_listed (Listed.inner i h) = omega arith

q_left : LeftOut (bytes "\\q") false 0 → ⊥
unfolding is_digit
q_left (LeftOut.unicode h) = omega arith
q_left (LeftOut.number i e n) = false≢true e
q_left (LeftOut.name i h) = omega arith

pub four : Refuses (bytes "\\q") 4 0
four = Refuses.escape Due.start (WrongEscape.unknown refl q_listed q_left)

-- 5: a number outside a class; `\u` in one; a lookaround.
pub five : Refuses (bytes "\\1") 5 0
unfolding is_digit
five = Refuses.escape Due.start (WrongEscape.left_out refl (LeftOut.number refl refl (λ x. omega arith)))

pub five_in_class : Refuses (bytes "[\\u]") 5 1
five_in_class = Refuses.class_escape
    (class_due Due.start (ClassOpens.holding refl (λ (x : Is (bytes "[\\u]") 1 caret). omega arith)) ClassItems.nothing)
    (WrongEscape.left_out refl (LeftOut.unicode refl))

pub five_look : Refuses (bytes "(?=a)") 5 0
five_look = Refuses.look Due.start refl refl refl

-- 6: the second `*` of `a**` has no atom to repeat; a ? after ( .
pub six : Refuses (bytes "a**") 6 2
unfolding special
six = Refuses.nothing (Due.behind Due.start (Rule.repeated (literal 0 0x61 refl refl) once)) refl
  where
    once : Quantified (bytes "a**") 1 2 0 none false
    once = Quantified.greedy {b = 2} (Times.any refl) (λ x. omega arith)

pub six_group : Refuses (bytes "(?a)") 6 1
six_group = Refuses.odd_group Due.start refl refl (λ x. omega arith) refl

-- 7: `{,1}` is not one of the three forms.
pub seven : Refuses (bytes "a{,1}") 7 1
unfolding special is_digit
seven = Refuses.no_form (atom_before Due.start (literal 0 0x61 refl refl)) refl no_form_lem
  where
    no_form_lem : (e n : ℕ) (m : Option ℕ) → Form (bytes "a{,1}") 1 e n m → ⊥
    no_form_lem e n m (Form.exactly at t c) = false≢true (digits_first (bytes "a{,1}") t)
    no_form_lem e n m (Form.least at t c d) = false≢true (digits_first (bytes "a{,1}") t)
    no_form_lem e n m (Form.range at t k u d) = false≢true (digits_first (bytes "a{,1}") t)

-- 8 and 9: both hold of `{2000,1}`.
both_counts : Form (bytes "a{2000,1}") 1 9 2000 (some 1)
unfolding is_digit
both_counts = Form.range refl (Digits.more (Digits.more (Digits.more (Digits.digit refl) refl) refl) refl) refl
    (Digits.digit refl) refl

pub eight : Refuses (bytes "a{2000,1}") 8 1
unfolding special
eight = Refuses.above (atom_before Due.start (literal 0 0x61 refl refl)) both_counts (Above.least {n = 2000} (omega arith))

pub nine : Refuses (bytes "a{2000,1}") 9 1
unfolding special
nine = Refuses.disordered (atom_before Due.start (literal 0 0x61 refl refl)) both_counts (omega arith)

-- 10: a range reversed, at its first byte; a class unclosed. 11 holds of `([` too.
pub ten : Refuses (bytes "[b-a]") 10 1
ten = Refuses.bad_range
    (class_due Due.start (ClassOpens.holding refl (λ (x : Is (bytes "[b-a]") 1 caret). omega arith)) ClassItems.nothing)
    (End.byte first) dash (End.byte last) (BadRange.reversed {u = 0x62} {v = 0x61} (omega arith))
  where
    dash : Dash (bytes "[b-a]") 2
    dash = (refl, (λ x. omega arith), λ x. omega arith)

    first : ByteAtom (bytes "[b-a]") 1 2 0x62
    first = ByteAtom.plain {b = 0x62} refl (λ x. omega arith) (λ x. omega arith) (λ x. omega arith)

    last : ByteAtom (bytes "[b-a]") 3 4 0x61
    last = ByteAtom.plain {b = 0x61} refl (λ x. omega arith) (λ x. omega arith) (λ x. omega arith)

abbrev in_group : ClassDue (bytes "([") 2
in_group = class_due (Due.grouped Due.start refl (λ (x : Is (bytes "([") 1 question). omega arith) (omega arith))
    (ClassOpens.holding refl (λ (x : Is (bytes "([") 2 caret). omega arith)) ClassItems.nothing

pub ten_unclosed : Refuses (bytes "([") 10 2
ten_unclosed = Refuses.unclosed_class in_group refl

pub eleven_unclosed : Refuses (bytes "([") 11 2
eleven_unclosed = Refuses.unclosed (Inside.class in_group deeper) refl
  where
    deeper : 31 < depth_limit
    deeper = omega arith

-- 11: ) unmatched, ( unclosed.
pub eleven : Refuses (bytes "a)") 11 1
unfolding special
eleven = Refuses.unmatched (Due.behind Due.start (lone 0 0x61 refl refl refl)) refl

pub eleven_open : Refuses (bytes "(a") 11 2
unfolding special
eleven_open = Refuses.unclosed (Inside.item (Due.behind
    (Due.grouped Due.start refl (λ x. omega arith) (omega arith)) (lone 1 0x61 refl refl refl)) (omega arith)) refl

-- 12: a stray ] or }.
pub twelve : Refuses (bytes "a}") 12 1
unfolding special
twelve = Refuses.stray (Due.behind Due.start (lone 0 0x61 refl refl refl)) (inr refl)

-- 13: the 33rd of 33 times `(?:`.
abbrev opens : ℕ → List ℕ
opens zero = []
opens (suc n) = open_paren ∷ question ∷ colon ∷ opens n

opens_at : (n k a : ℕ) → k < n → a ≡ 3 * k
    → Is (opens n) a open_paren × Is (opens n) (suc a) question × Is (opens n) (suc (suc a)) colon
opens_at zero k a l e = absurd (omega arith)
opens_at (suc n) zero a l e = let z : a ≡ 0 = omega arith in rw z (refl, refl, refl)
opens_at (suc n) (suc k) a l e =
    let z : a ≡ suc (suc (suc (3 * k))) = omega arith in
    rw z (opens_at n k (3 * k) (omega arith) refl)

deep_due : (k d : ℕ) → d + k ≡ depth_limit → Due (opens 33) d (3 * k) 0
deep_due zero d e = subst (λ (x : ℕ). Due (opens 33) x 0 0) (omega arith) Due.start
deep_due (suc k) d e =
    let (at, q, c) = opens_at 33 k (3 * k) (omega arith) refl in
    let e₂ : suc (suc (3 * k)) ≡ 3 * k + 2 = omega arith in
    subst (λ (x : ℕ). Due (opens 33) d x 0) (omega arith)
    (Due.plain (deep_due k (suc d) (omega arith)) at (rw add-one q) (rw e₂ at c))

pub thirteen : Refuses (opens 33) 13 96
thirteen = Refuses.deep (deep_due 32 0 refl) refl

-- 14: the last of thirty-two times `(`.
full_due : (k d : ℕ) → d + k ≡ depth_limit → k ≤ group_limit → Due (replicate 32 open_paren) d k k
full_due zero d e l = subst (λ (x : ℕ). Due (replicate 32 open_paren) x 0 0) (omega arith) Due.start
full_due (suc k) d e l =
    subst₂ (λ (x y : ℕ). Due (replicate 32 open_paren) d x y) (omega arith) (omega arith)
    (Due.grouped (full_due k (suc d) (omega arith) (omega arith)) (get_or-replicate 32 k open_paren no_byte (omega arith))
    (λ x. let z : ◌≡◌ {A = ℕ} open_paren question = sym (get_or-replicate 32 (k + 1) open_paren no_byte (omega arith)) ∙ x in
    omega arith) (omega arith))

pub fourteen : Refuses (replicate 32 open_paren) 14 31
fourteen = Refuses.full (full_due 31 1 refl (omega arith)) refl (λ x. omega arith) (omega arith)
