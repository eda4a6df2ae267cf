-- No text that is shown begins with a byte that begins a quantifier.
use Rattle.std.specs.Prelude.{◌≡◌, Bool, true, false, ◌||◌, ℕ, ◌+◌, eqb}
use Rattle.std.proofs.Math.Path.{refl, subst}
use Rattle.std.proofs.Common.{ap, ◌∙◌, add-zero, arith, length-append}
use mathlib.Core.List.{List, [], ◌∷◌, ◌++◌}
use Rattle.std.proofs.Math.ListN.{length}
use Rattle.meaning.specs.Node.{Node, Node.empty, Node.bset, Node.assert, Node.group, Node.seq, Node.alt, Node.many, Proper}
use Rattle.table.specs.Table.{maximum}
use Rattle.reading_atoms.specs.Chars.{byte_at, caret, dollar, backslash, dot, question, open_paren, close_paren, open_bracket, close_bracket}
use Rattle.reading_atoms.specs.Chars.{close_brace, bar, colon, is_quantifier}
use Rattle.reading_atoms.specs.Places.{neither}
use Rattle.reading_grammar.specs.Atoms.{Is, Class, EscapedSet}
use Rattle.reading_grammar.specs.EscapesComplete.{escaped_at}
use Rattle.reading_grammar.specs.Grammar.{special, Assertion, SetAtom}
use Rattle.showing_spelling.specs.Spelling.{quantifier_text}
use Rattle.showing_spelling.specs.Texts.{At, at_first, at_front, at_back}
use Rattle.showing_spelling.specs.Sets.{set_read}
use Rattle.showing_spelling.specs.Counts.{assertion_read}
use Rattle.showing.specs.Text.{around, loose, bound, text}

-- A byte that is no literal's special one begins no quantifier.
plain_free : (b : ℕ) → special b ≡ false → is_quantifier b ≡ false
unfolding special
plain_free b e =
    let first : Bool = eqb b caret || eqb b dollar || eqb b backslash || eqb b dot in
    let u = (neither (first || is_quantifier b || eqb b open_paren || eqb b close_paren || eqb b open_bracket || eqb b close_bracket || eqb b close_brace) (eqb b bar) e).0 in
    let v = (neither (first || is_quantifier b || eqb b open_paren || eqb b close_paren || eqb b open_bracket || eqb b close_bracket) (eqb b close_brace) u).0 in
    let w = (neither (first || is_quantifier b || eqb b open_paren || eqb b close_paren || eqb b open_bracket) (eqb b close_bracket) v).0 in
    let x = (neither (first || is_quantifier b || eqb b open_paren || eqb b close_paren) (eqb b open_bracket) w).0 in
    let y = (neither (first || is_quantifier b || eqb b open_paren) (eqb b close_paren) x).0 in
    let z = (neither (first || is_quantifier b) (eqb b open_paren) y).0 in
    (neither first (is_quantifier b) z).1

module _ (s : List ℕ) where
  -- No quantifier begins at a place.
  abbrev pub Free : ℕ → Type 0
  Free a = is_quantifier (byte_at s a) ≡ false

  known : (a b : ℕ) → Is s a b → is_quantifier b ≡ false → Free a
  known a b h e = ap is_quantifier h ∙ e

  set_free : {a b : ℕ} {set : List ℕ} → SetAtom s a b set → Free a
  set_free (SetAtom.literal {a = a} {b = b} h n e) = known a b h (plain_free b e)
  set_free (SetAtom.dots {a = a} h) = known a dot h refl
  set_free (SetAtom.escape {a = a} t) = known a backslash (escaped_at t).0 refl
  set_free (SetAtom.named {a = a} (EscapedSet.named h k c)) = known a backslash h refl
  set_free (SetAtom.class (Class.holding {a = a} h n i c)) = known a open_bracket h refl
  set_free (SetAtom.class (Class.lacking {a = a} h n i c)) = known a open_bracket h refl

  assertion_free : {a b k : ℕ} → Assertion s a b k → Free a
  assertion_free (Assertion.begins {a = a} h) = known a caret h refl
  assertion_free (Assertion.ends {a = a} h) = known a dollar h refl
  assertion_free (Assertion.edge {a = a} h k) = known a backslash h refl
  assertion_free (Assertion.inner {a = a} h k) = known a backslash h refl

  -- Where a text stands and none begins behind it none begins at it.
  abbrev pub Kept : ℕ → List ℕ → Type 0
  Kept a t = At s a t → Free (a + length t) → Free a

  kept_append : (a : ℕ) (t u : List ℕ) → Kept a t → Kept (a + length t) u → Kept a (t ++ u)
  kept_append a t u h k at f =
      let e : a + length (t ++ u) ≡ a + length t + length u = omega (arith, length-append t u) in
      h (at_front s a t u at) (k (at_back s a t u at) (subst Free e f))

  kept_first : (a b : ℕ) (t : List ℕ) → is_quantifier b ≡ false → Kept a (b ∷ t)
  kept_first a b t e at f = known a b (at_first s a (b ∷ t) (omega arith) at) e

  around_kept : (b : Bool) (a : ℕ) (t : List ℕ) → Kept a t → Kept a (around b t)
  around_kept true a t h = kept_first a open_paren (question ∷ colon ∷ t ++ close_paren ∷ []) refl
  around_kept false a t h = h

  -- What is quantified is not empty: its first byte is no quantifier's.
  opens : (a : ℕ) (t : List ℕ) → At s a (around true t) → Free a
  opens a t at =
      known a open_paren (at_first s a (open_paren ∷ question ∷ colon ∷ t ++ close_paren ∷ []) (omega arith) at) refl

  bound_free : (r : Node) (a : ℕ) → Proper r → At s a (around (bound r) (text r)) → Free a
  unfolding text
  bound_free empty a p at = opens a [] at
  bound_free (bset set) a p at = set_free (set_read s set a p at)
  bound_free (assert k) a p at = opens a (text (assert k)) at
  bound_free (group k r) a p at = known a open_paren (at_first s a (text (group k r)) (omega arith) at) refl
  bound_free (seq r q) a p at = opens a (text (seq r q)) at
  bound_free (alt r q) a p at = opens a (text (alt r q)) at
  bound_free (many n e lazy r) a p at = opens a (text (many n e lazy r)) at

  -- A text, and what stands in a sequence.
  pub text_kept : (r : Node) (a : ℕ) → Proper r → Kept a (text r)
  unfolding text
  text_kept empty a p at f = subst Free (add-zero a) f
  text_kept (bset set) a p at f = set_free (set_read s set a p at)
  text_kept (assert k) a p at f = assertion_free (assertion_read s a k p at)
  text_kept (group k r) a p at f = kept_first a open_paren (text r ++ close_paren ∷ []) refl at f
  text_kept (seq r q) a p at f =
      kept_append a (around (loose r) (text r)) (around (loose q) (text q)) (around_kept (loose r) a (text r) (text_kept r a p.0))
      (around_kept (loose q) (a + length (around (loose r) (text r))) (text q)
      (text_kept q (a + length (around (loose r) (text r))) p.1)) at f
  text_kept (alt r q) a p at f =
      kept_append a (text r) (bar ∷ text q) (text_kept r a p.0) (kept_first (a + length (text r)) bar (text q) refl) at f
  text_kept (many n e lazy r) a p at f =
      bound_free r a p.1 (at_front s a (around (bound r) (text r)) (quantifier_text n (maximum n e) lazy) at)

  pub item_kept : (r : Node) (a : ℕ) → Proper r → Kept a (around (loose r) (text r))
  item_kept r a p = around_kept (loose r) a (text r) (text_kept r a p)
