-- The rewrites that look right and are not, each by a text on which the standard's algorithm tells the two apart.
use Rattle.std.specs.Prelude.{◌≡◌, refl, Bool, true, false, List, [], ◌∷◌, ℕ, zero, suc, ◌≤◌, ◌<◌, length, get_or}
use Rattle.std.proofs.Common.{sym, ◌∙◌, arith}
use Rattle.std.proofs.Math.Option.{Option, none, some}
use Rattle.sets.specs.Sets.{bit, has}
use Rattle.meaning.specs.Text.{Regs, unset, fits, holds_at, opened, closed, wiped, cleared}
use Rattle.meaning.specs.Node.{Node, Node.empty, Node.bset, Node.assert, Node.group, Node.seq, Node.alt, Node.many, lo, hi}
use Rattle.meaning.specs.All.{All}
use Rattle.meaning.specs.Numbering.{Numbers}
use Rattle.meaning.specs.Standard.{matcher, repeat_matcher, match_at}
use Rattle.meaning.specs.Bytes.{Bytes, asserts, text_of}
use Rattle.tidying_laws.specs.Void.{fair}
use Rattle.tidying_laws.specs.Alike.{Alike, alike_refl, alike_seq}
use Rattle.tidying_laws.specs.Around.{same_match}

-- A letter: its bit in word 3.
abbrev pub letter : ℕ → Node
letter word = bset (0 ∷ 0 ∷ 0 ∷ word ∷ 0 ∷ 0 ∷ 0 ∷ 0 ∷ [])

abbrev pub a : Node
a = letter 0x2

abbrev pub b : Node
b = letter 0x4

abbrev pub star : Bool → Node → Node
star lazy r = many 0 none lazy r

abbrev pub option : Bool → Node → Node
option lazy r = many 0 (some 1) lazy r

bytes : (text : List ℕ) → All (λ b. b < 256) text → Bytes text
bytes text h = record { byte = from text h }
  where
    from : (text : List ℕ) → All (λ b. b < 256) text → (i : ℕ) → get_or text i 0 < 256
    from [] h i = omega arith
    from (b ∷ text) h zero = h.0
    from (b ∷ text) h (suc i) = from text h.1 i

-- Patterns that match differently at a start are not alike.
differ : (r q : Node) (n : ℕ) → Numbers 1 r n → (text : List ℕ) → All (λ b. b < 256) text → (g i : ℕ) → i ≤ length text
    → (o p : Option Regs) → match_at (text_of text) g r i ≡ o → match_at (text_of text) g q i ≡ p → (o ≡ p → ⊥) → Alike r q → ⊥
differ r q n h text t g i l o p e f unequal k =
    unequal (sym e ∙ same_match k n h (text_of text) (fair (bytes text t) asserts) g i l ∙ f)

-- The case of the outline, on "aab": (?:a*)*?(ab|b) gives 0,3; 2,3 and a*?(ab|b) gives 0,3; 1,3.
abbrev aab : List ℕ
aab = 0x61 ∷ 0x61 ∷ 0x62 ∷ []

abbrev tail : Node → Node
tail r = seq r (group 1 (alt (seq a b) b))

pub loop_of_loops : match_at (text_of aab) 1 (tail (star true (star false a))) 0 ≡ some (some 0 ∷ some 3 ∷ some 2 ∷ some 3 ∷ [])
unfolding match_at matcher repeat_matcher fits has bit unset opened closed lo hi cleared wiped
loop_of_loops = refl

pub one_loop : match_at (text_of aab) 1 (tail (star true a)) 0 ≡ some (some 0 ∷ some 3 ∷ some 1 ∷ some 3 ∷ [])
unfolding match_at matcher repeat_matcher fits has bit unset opened closed lo hi cleared wiped
one_loop = refl

-- So (?:r*)*? is not r*?.
pub T5-not : Alike (star true (star false a)) (star true a) → ⊥
T5-not k =
    differ (tail (star true (star false a))) (tail (star true a)) 2 (1, refl, (refl, (2, (2, refl, refl), refl)))
    aab (omega arith) 1 0 (omega arith) _ _ loop_of_loops one_loop (λ e. let z : ◌≡◌ {A = ℕ} 2 1 = cc in omega arith)
    (alike_seq k (alike_refl (group 1 (alt (seq a b) b))))

-- Nor is (?:r*)+? that, by the same case: T10 asks that both are greedy. And (?:r*)+ is not r+: on "" it gives 0,0 and r+ gives
-- none.
pub T10-not-lazy : Alike (many 1 none true (star false a)) (star true a) → ⊥
unfolding match_at matcher repeat_matcher fits has bit unset opened closed lo hi cleared wiped
T10-not-lazy k =
    differ (tail (many 1 none true (star false a))) (tail (star true a)) 2 (1, refl, (refl, (2, (2, refl, refl), refl)))
    aab (omega arith) 1 0 (omega arith) (some (some 0 ∷ some 3 ∷ some 2 ∷ some 3 ∷ [])) _ refl one_loop
    (λ e. let z : ◌≡◌ {A = ℕ} 2 1 = cc in omega arith) (alike_seq k (alike_refl (group 1 (alt (seq a b) b))))

pub T10-not-once : Alike (many 1 none false (star false a)) (many 1 none false a) → ⊥
unfolding match_at matcher repeat_matcher fits has bit unset opened closed lo hi cleared wiped
T10-not-once = differ (many 1 none false (star false a)) (many 1 none false a) 1 refl [] tt 0 0 (omega arith)
    (some (some 0 ∷ some 0 ∷ [])) none refl refl (λ e. let z : ◌≡◌ {A = ℕ} 0 1 = cc in omega arith)

-- r? is not r: on "" it gives 0,0 and r gives none. It is not empty: on "a" it gives 0,1 and empty gives 0,0.
pub option_not : Alike (option false a) a → ⊥
unfolding match_at matcher repeat_matcher fits has bit unset opened closed lo hi cleared wiped
option_not = differ (option false a) a 1 refl [] tt 0 0 (omega arith) (some (some 0 ∷ some 0 ∷ [])) none refl refl
    (λ e. let z : ◌≡◌ {A = ℕ} 0 1 = cc in omega arith)

pub option_not_empty : Alike (option false a) empty → ⊥
unfolding match_at matcher repeat_matcher fits has bit unset opened closed lo hi cleared wiped
option_not_empty = differ (option false a) empty 1 refl (0x61 ∷ []) (omega arith) 0 0 (omega arith)
    (some (some 0 ∷ some 1 ∷ [])) (some (some 0 ∷ some 0 ∷ [])) refl refl (λ e. let z : ◌≡◌ {A = ℕ} 1 0 = cc in omega arith)

-- (?:^)* is not ^: at 1 in "a" it gives 1,1 and ^ gives none.
pub T4-not : Alike (star false (assert 0)) (assert 0) → ⊥
unfolding match_at matcher repeat_matcher fits holds_at asserts unset opened closed lo hi cleared wiped
T4-not = differ (star false (assert 0)) (assert 0) 1 refl (0x61 ∷ []) (omega arith) 0 1 (omega arith)
    (some (some 1 ∷ some 1 ∷ [])) none refl refl (λ e. let z : ◌≡◌ {A = ℕ} 0 1 = cc in omega arith)

-- Why no group inside a pattern is group 0: T1 would change what a loop makes -1.
pub group_zero : Alike (seq (group 0 a) empty) (group 0 a) → ⊥
unfolding lo hi
group_zero h = let z : ◌≡◌ {A = ℕ} 1 0 = h.low in omega arith
