-- Laws of the texts, by the tests that the code asks, and of a text that stands in a pattern.
use Rattle.std.specs.Prelude.{◌≡◌, refl, Bool, true, false, not, ◌||◌, ◌&&◌, List, [], ◌∷◌, ◌++◌, ℕ, zero, suc, ◌+◌, ◌-◌, ◌/◌}
use Rattle.std.specs.Prelude.{◌%◌, ◌≤◌, ◌<◌, eqb, ltb, cond, length, get_or}
use Rattle.std.proofs.Common.{sym, subst, ◌∙◌, add-zero, arith, length-append, get_or-append-add}
use Rattle.std.specs.Bool.{beq}
use Rattle.std.specs.List.{list_any}
use Rattle.std.proofs.Math.ListN.{get_or-append, get_or-eq_default}
use Rattle.sets.specs.Sets.{has, set_of, same_bytes, below, between, is_word, is_digit, is_space, in_escape}
use borrow.Author.Tests.{ltb-true, ltb-false, lt-ltb, le-ltb, le-leb, lt-leb, eq-eqb, ne_eqb}
use Rattle.sets.specs.Bits.{below_at, beq_eq}
use Rattle.meaning.specs.Quoted.{bytes}
use Rattle.reading_atoms.specs.Chars.{no_byte, backslash, dot, hyphen}
use Rattle.reading_atoms.specs.Places.{byte_there}
use Rattle.reading_grammar.specs.Atoms.{Is}
use Rattle.reading_grammar.specs.Grammar.{special}
use Rattle.reading_items.specs.Reading.{literal_set, dot_set}
use Rattle.showing_spelling.specs.Spelling.{guarded, control_letter, hex_digit, byte_text, run_text, runs_text, escape_text}
use Rattle.showing_spelling.specs.Spelling.{best_text, escape_of, lowest, plain_text, set_text}

-- A number up to another is that one or below it.
by_order : {P : Type 0} (a b : ℕ) → a ≤ b → (a ≡ b → P) → (a < b → P) → P
by_order {P} a b h same less = go (ltb a b) refl
  where
    go : (t : Bool) → ltb a b ≡ t → P
    go true e = less (ltb-true a b e)
    go false e = let l = ltb-false a b e in same (omega arith)

-- The bytes that stand behind `\`, outside a class and in one: 256 tests each, computed.
abbrev pub guarded_bytes : Bool → List ℕ
guarded_bytes true = bytes "\\]^-"
guarded_bytes false = bytes "^$\\.*+?()[]{}|"

right : Bool → ℕ → Bool
right inClass b = beq (list_any (λ x. eqb x b) (guarded_bytes inClass)) (guarded inClass b)

rights : (inClass : Bool) → below 256 (right inClass) ≡ true
unfolding right guarded special
rights true = refl
rights false = refl

pub guarded_lem : (inClass : Bool) (b : ℕ) → b < 256 → list_any (λ x. eqb x b) (guarded_bytes inClass) ≡ guarded inClass b
unfolding right
guarded_lem inClass b h = beq_eq _ _ (below_at 256 (right inClass) (rights inClass) b h)

-- A byte's spelling, by the tests.
module _ (inClass : Bool) (b : ℕ) where
  pub byte_control : between 0x09 0x0D b ≡ true → byte_text inClass b ≡ backslash ∷ control_letter b ∷ []
  unfolding byte_text
  byte_control e = rw e

  pub byte_guarded : between 0x09 0x0D b ≡ false → between 0x20 0x7E b ≡ true → guarded inClass b ≡ true
      → byte_text inClass b ≡ backslash ∷ b ∷ []
  unfolding byte_text
  byte_guarded e f g = rw (e, f, g)

  pub byte_plain : between 0x09 0x0D b ≡ false → between 0x20 0x7E b ≡ true → guarded inClass b ≡ false
      → byte_text inClass b ≡ b ∷ []
  unfolding byte_text
  byte_plain e f g = rw (e, f, g)

  pub byte_hexed : between 0x09 0x0D b ≡ false → between 0x20 0x7E b ≡ false
      → byte_text inClass b ≡ backslash ∷ 0x78 ∷ hex_digit (b / 16) ∷ hex_digit (b % 16) ∷ []
  unfolding byte_text
  byte_hexed e f = rw (e, f)

-- A run's, by how many bytes it has.
module _ (first end : ℕ) where
  pub run_is_none : end ≤ first → run_text first end ≡ []
  unfolding run_text
  run_is_none h = rw (le-leb end first h)

  pub run_is_one : end ≡ first + 1 → run_text first end ≡ byte_text true first
  unfolding run_text
  run_is_one e = rw (lt-leb end first (omega arith), eq-eqb end (first + 1) e)

  pub run_is_two : end ≡ first + 2 → run_text first end ≡ byte_text true first ++ byte_text true (first + 1)
  unfolding run_text
  run_is_two e = rw (lt-leb end first (omega arith), ne_eqb end (first + 1) (λ q. omega arith), eq-eqb end (first + 2) e)

  pub run_is_range : first < end → (end ≡ first + 1 → ⊥) → (end ≡ first + 2 → ⊥)
      → run_text first end ≡ byte_text true first ++ hyphen ∷ byte_text true (end - 1)
  unfolding run_text
  run_is_range h m n = rw (lt-leb end first h, ne_eqb end (first + 1) m, ne_eqb end (first + 2) n)

-- The runs with a byte less, which is in or not.
pub runs_in : (test : ℕ → Bool) (n end : ℕ) → 0 < n → test (n - 1) ≡ true → runs_text test n end ≡ runs_text test (n - 1) end
unfolding runs_text
runs_in test zero end h e = absurd (omega arith)
runs_in test (suc n) end h e =
    let p : suc n - 1 ≡ n = omega arith in
    let f : test n ≡ true = rw p at e in
    rw (p, f)

pub runs_out : (test : ℕ → Bool) (n end : ℕ) → 0 < n → test (n - 1) ≡ false
    → runs_text test n end ≡ runs_text test (n - 1) (n - 1) ++ run_text (n - 1 + 1) end
unfolding runs_text
runs_out test zero end h e = absurd (omega arith)
runs_out test (suc n) end h e =
    let p : suc n - 1 ≡ n = omega arith in
    let q : n + 1 ≡ suc n = omega arith in
    let f : test n ≡ false = rw p at e in
    rw (p, f, q)

pub runs_end : (test : ℕ → Bool) (n end : ℕ) → n ≡ 0 → runs_text test n end ≡ run_text 0 end
unfolding runs_text
runs_end test n end e = rw e

-- What neither is is the first without the second; and number 6 and those behind it take nothing.
pub not_or : (p q : Bool) → not (not p || q) ≡ (p && not q)
not_or true q = refl
not_or false q = refl

pub no_escape : (k x : ℕ) → 6 ≤ k → in_escape k x ≡ false
no_escape k x h =
    get_or-eq_default (is_digit x ∷ not (is_digit x) ∷ is_word x ∷ not (is_word x) ∷ is_space x ∷ not (is_space x) ∷ []) false h

-- The number of the set escape, when those before it were others; and where all were.
pub escape_found : (set : List ℕ) (turns k n : ℕ) → k ≤ n → n < k + turns
    → ((i : ℕ) → k ≤ i → i < n → same_bytes set (set_of (in_escape i)) ≡ false)
    → same_bytes set (set_of (in_escape n)) ≡ true → escape_of set turns k ≡ n
unfolding escape_of
escape_found set zero k n h l others e = absurd (omega arith)
escape_found set (suc turns) k n h l others e = by_order k n h (λ q. rw (q, e)) (λ less.
    rw (others k (omega arith) less)
    (escape_found set turns (suc k) n less (omega arith) (λ i a b. others i (omega arith) b) e))

pub escape_none : (set : List ℕ) (turns k : ℕ)
    → ((i : ℕ) → k ≤ i → i < k + turns → same_bytes set (set_of (in_escape i)) ≡ false) → escape_of set turns k ≡ k + turns
unfolding escape_of
escape_none set zero k others = omega arith
escape_none set (suc turns) k others =
    rw (others k (omega arith) (omega arith))
    (escape_none set turns (suc k) (λ i a b. others i (omega arith) (omega arith)) ∙ omega arith)

-- The lowest byte, when those before it do not pass; and where none does.
pub lowest_none : (test : ℕ → Bool) (n other : ℕ) → ((i : ℕ) → i < n → test i ≡ false) → lowest test n other ≡ other
unfolding lowest
lowest_none test zero other none = refl
lowest_none test (suc n) other none = rw (none n (omega arith)) (lowest_none test n other (λ i h. none i (omega arith)))

pub lowest_found : (test : ℕ → Bool) (n low other : ℕ) → low < n → ((i : ℕ) → i < low → test i ≡ false) → test low ≡ true
    → lowest test n other ≡ low
unfolding lowest
lowest_found test zero low other h none e = absurd (omega arith)
lowest_found test (suc n) low other h none e = by_order low n (omega arith)
    (λ q. rw (← q, e) (lowest_none test low low none))
    (λ less. lowest_found test n low (cond (test n) n other) less none e)

-- A set's spelling, by the tests.
module _ (set : List ℕ) where
  pub set_dot : same_bytes set dot_set ≡ true → set_text set ≡ dot ∷ []
  unfolding set_text
  set_dot e = rw e

  pub set_escape : same_bytes set dot_set ≡ false → escape_of set 6 0 < 6 → set_text set ≡ escape_text (escape_of set 6 0)
  unfolding set_text
  set_escape e h = rw (e, lt-ltb (escape_of set 6 0) 6 h)

  pub set_plain : same_bytes set dot_set ≡ false → 6 ≤ escape_of set 6 0 → set_text set ≡ plain_text set
  unfolding set_text
  set_plain e h = rw (e, le-ltb (escape_of set 6 0) 6 h)

  pub plain_byte : lowest (has set) 256 256 < 256 → same_bytes set (literal_set (lowest (has set) 256 256)) ≡ true
      → plain_text set ≡ byte_text false (lowest (has set) 256 256)
  unfolding plain_text
  plain_byte h e = rw (lt-ltb (lowest (has set) 256 256) 256 h, e)

  pub plain_best : lowest (has set) 256 256 < 256 → same_bytes set (literal_set (lowest (has set) 256 256)) ≡ false
      → plain_text set ≡ best_text set
  unfolding plain_text
  plain_best h e = rw (lt-ltb (lowest (has set) 256 256) 256 h, e)

  pub plain_none : 256 ≤ lowest (has set) 256 256 → plain_text set ≡ best_text set
  unfolding plain_text
  plain_none h = rw (le-ltb (lowest (has set) 256 256) 256 h)

-- A text stands in a pattern from a place on.
abbrev pub At : List ℕ → ℕ → List ℕ → Type 0
At s a t = (i : ℕ) → i < length t → Is s (a + i) (get_or t i 0)

-- Its first byte; its front and its back; and what stands between others.
pub at_first : (s : List ℕ) (a : ℕ) (t : List ℕ) → 0 < length t → At s a t → Is s a (get_or t 0 0)
at_first s a t l h = subst (λ (k : ℕ). Is s k (get_or t 0 0)) (add-zero a) (h 0 l)

pub at_front : (s : List ℕ) (a : ℕ) (t u : List ℕ) → At s a (t ++ u) → At s a t
at_front s a t u h i l = h i (omega (arith, length-append t u)) ∙ get_or-append t u 0 i l

pub at_back : (s : List ℕ) (a : ℕ) (t u : List ℕ) → At s a (t ++ u) → At s (a + length t) u
at_back s a t u h i l =
    let e : a + (length t + i) ≡ a + length t + i = omega arith in
    subst (λ (k : ℕ). Is s k (get_or u i 0)) e (h (length t + i) (omega (arith, length-append t u)) ∙ get_or-append-add t u i 0)

pub at_middle : (before t after : List ℕ) → At (before ++ t ++ after) (length before) t
at_middle before t after i l =
    middle (before ++ t) after (length before + i) (omega (arith, length-append before t)) ∙ get_or-append-add before t i no_byte
    ∙ near t i l
  where
    middle : (x y : List ℕ) (k : ℕ) → k < length x → get_or (x ++ y) k no_byte ≡ get_or x k no_byte
    middle x y k h = get_or-append x y no_byte k h

    near : (x : List ℕ) (k : ℕ) → k < length x → get_or x k no_byte ≡ get_or x k 0
    near x k h = byte_there x k h

-- A place said another way.
pub at_as : (s : List ℕ) {a b : ℕ} (t : List ℕ) → a ≡ b → At s a t → At s b t
at_as s t e h = subst (λ (k : ℕ). At s k t) e h

-- Answers that follow from one another are the same.
pub iff_eq : (p q : Bool) → (p ≡ true → q ≡ true) → (q ≡ true → p ≡ true) → p ≡ q
iff_eq true q f g = sym (f refl)
iff_eq false true f g = g refl
iff_eq false false f g = refl

pub and_of : (p q : Bool) → p ≡ true → q ≡ true → (p && q) ≡ true
and_of p q e f = rw (e, f)
