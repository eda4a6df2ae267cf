-- The spelling of a byte set reads back: it is an atom of that set, wherever it stands.
use Rattle.std.specs.Prelude.{◌≡◌, Bool, not, ◌||◌, ◌&&◌, ltb, get_or}
use Rattle.std.proofs.Math.Path.{refl, sym, subst}
use Rattle.std.proofs.Common.{ap, ◌∙◌, true≢false, add-zero, arith}
use Rattle.std.proofs.Math.Bool.{true, false, or-true, or-false}
use mathlib.Core.List.{List, [], ◌∷◌, ◌++◌}
use Prim.Native.Nat.{ℕ, zero, suc, ◌+◌, ◌<◌}
use Rattle.std.proofs.Math.ListN.{length, length-append}
use borrow.Author.Tests.{ltb-true, ltb-false, lt-ltb}
use Rattle.sets.specs.Sets.{has, set_of, Formed, same_bytes, is_dot, in_escape}
use Rattle.sets.specs.Laws.{set_of_holds, set_of_has, set_of_cong, words_of, same_true, same_words}
use Rattle.meaning.specs.Quoted.{bytes}
use Rattle.meaning.specs.Tests.{and_true, by_test}
use Rattle.reading_atoms.specs.Chars.{caret, backslash, dot, open_bracket, close_bracket, hyphen}
use Rattle.reading_atoms.specs.Classes.{added, takes, class_set}
use Rattle.reading_items.specs.Reading.{literal_set, dot_set}
use Rattle.reading_grammar.specs.Atoms.{Is, EscapedSet, Named, ClassItems, Class}
use Rattle.reading_grammar.specs.Grammar.{SetAtom}
use Rattle.showing_spelling.specs.Spelling.{guarded, byte_text, runs_of, contains, lacking, escape_letter, escape_text}
use Rattle.showing_spelling.specs.Spelling.{words_in, spaces_in, named_text, inside_text, class_text, others, either_text}
use Rattle.showing_spelling.specs.Spelling.{best_text, escape_of, lowest, plain_text, set_text}
use Rattle.showing_spelling.specs.Texts.{At, at_first, at_front, at_back, no_escape}
use Rattle.showing_spelling.specs.Bytes.{byte_set_lem}
use Rattle.showing_spelling.specs.Runs.{Listed, listed_as, listed_escape, hyphen_guarded, Kept, kept_append, runs_kept}
use Rattle.showing_spelling.specs.Runs.{runs_read}

letters : (k : ℕ) → k < 6 → Named (get_or (bytes "dDwWsS") k 0) k
letters zero h = Named.digits
letters (suc zero) h = Named.no_digits
letters (suc (suc zero)) h = Named.words
letters (suc (suc (suc zero))) h = Named.no_words
letters (suc (suc (suc (suc zero)))) h = Named.spaces
letters (suc (suc (suc (suc (suc zero))))) h = Named.no_spaces
letters (suc (suc (suc (suc (suc (suc k)))))) h = absurd (omega arith)

-- What is named is in the set.
Within : List ℕ → ℕ → Type 0
Within set k = (x : ℕ) → x < 256 → in_escape k x ≡ true → has set x ≡ true

contained : (set : List ℕ) (k : ℕ) → contains set k ≡ true → Within set k
unfolding Within
contained set k e x h i =
    let same : has (added set (in_escape k)) x ≡ has set x = same_true (added set (in_escape k)) set e x h in
    let more : has (added set (in_escape k)) x ≡ (has set x || in_escape k x) = (set_of_holds (λ y. has set y || in_escape k y)).bytes x h in
    sym same ∙ more ∙ ap (λ (t : Bool). has set x || t) i ∙ or-true (has set x)

nothing_named : (set : List ℕ) → Within set 6
unfolding Within
nothing_named set x h i = absurd (true≢false (sym i ∙ no_escape 6 x (omega arith)))

words_within : (set : List ℕ) → Within set (words_in set)
words_within set =
    by_test (Within set) (contains set 2) (λ e. contained set 2 e) (λ e.
    by_test (Within set) (contains set 0) (λ e. contained set 0 e) (λ e. nothing_named set))

spaces_within : (set : List ℕ) → Within set (spaces_in set)
spaces_within set = by_test (Within set) (contains set 4) (λ e. contained set 4 e) (λ e. nothing_named set)

-- What is named, and the rest.
all_told : (a b h t : Bool) → (a ≡ true → h ≡ true) → (b ≡ true → h ≡ true) → t ≡ true
    → (false || a || b || ((h && not a && not b) && t)) ≡ h
all_told true b h t f g e = sym (f refl)
all_told false true h t f g e = sym (g refl)
all_told false false true t f g e = e
all_told false false false t f g e = refl

lacking_has : (set : List ℕ) (w p x : ℕ) → x < 256
    → has (lacking (lacking set w) p) x ≡ (has set x && not (in_escape w x) && not (in_escape p x))
lacking_has set w p x h =
    (set_of_holds (λ y. has (lacking set w) y && not (in_escape p y))).bytes x h
    ∙ ap (λ (t : Bool). t && not (in_escape p x)) ((set_of_holds (λ y. has set y && not (in_escape w y))).bytes x h)

-- A class, wherever it stands.
module _ (s : List ℕ) where
  escape_at_lem : (p k : ℕ) → k < 6 → At s p (backslash ∷ escape_letter k ∷ []) → EscapedSet s p k
  escape_at_lem p k h a =
      EscapedSet.named (at_first s p (backslash ∷ escape_letter k ∷ []) (omega arith) a) (a 1 (omega arith)) (letters k h)

  escape_listed : (o p k : ℕ) (f : ℕ → Bool) → Listed s o p f → At s p (escape_text k)
      → (Is s (p + length (escape_text k)) hyphen → ⊥) → Listed s o (p + length (escape_text k)) (λ x. f x || in_escape k x)
  escape_listed o p k f l = by_test P (ltb k 6)
      (λ e a n. listed_escape s o l (escape_at_lem p k (ltb-true k 6 e) a) n)
      (λ e a n. listed_as s o l (sym (add-zero p)) (λ x i. rw (no_escape k x (ltb-false k 6 e)) (sym (or-false (f x)))))
    where
      P : List ℕ → Type 0
      P t = At s p t → (Is s (p + length t) hyphen → ⊥) → Listed s o (p + length t) (λ x. f x || in_escape k x)

  module _ (x : ℕ) (g : guarded true x ≡ true) (n : x ≡ backslash → ⊥) where
    escape_kept : (p k : ℕ) → Kept s x g n p (escape_text k)
    escape_kept p k = by_test (Kept s x g n p) (ltb k 6)
        (λ e a f i. n (sym i ∙ at_first s p (backslash ∷ escape_letter k ∷ []) (omega arith) a))
        (λ e a f i. f (subst (λ (k : ℕ). Is s k x) (sym (add-zero p)) i))

    named_kept : (set : List ℕ) (w q p : ℕ) → Kept s x g n p (named_text set w q)
    named_kept set w q p =
        kept_append s x g n p (escape_text w ++ escape_text q) (runs_of (lacking (lacking set w) q))
        (kept_append s x g n p (escape_text w) (escape_text q) (escape_kept p w) (escape_kept (p + length (escape_text w)) q))
        (runs_kept s x g n (has (lacking (lacking set w) q)) 256 256 (p + length (escape_text w ++ escape_text q)) (omega arith)
        (omega arith))

    inside_kept : (named : Bool) (set : List ℕ) (p : ℕ) → Kept s x g n p (inside_text named set)
    inside_kept true set p = named_kept set (words_in set) (spaces_in set) p
    inside_kept false set p = named_kept set 6 6 p

  named_listed : (set : List ℕ) (w q o : ℕ) → Within set w → Within set q → At s o (named_text set w q)
      → (Is s (o + length (named_text set w q)) hyphen → ⊥) → Listed s o (o + length (named_text set w q)) (has set)
  unfolding Within
  named_listed set w q o hw hq a n =
      let rest : List ℕ = lacking (lacking set w) q in
      let t : List ℕ = escape_text w in
      let u : List ℕ = escape_text q in
      let v : List ℕ = runs_of rest in
      let at : At s o (t ++ u) = at_front s o (t ++ u) v a in
      let back : At s (o + length (t ++ u)) v = at_back s o (t ++ u) v a in
      let e : o + length (t ++ u) + length v ≡ o + length (t ++ u ++ v) = omega (arith, length-append (t ++ u) v) in
      let f : o + length t + length u ≡ o + length (t ++ u) = omega (arith, length-append t u) in
      let free : Is s (o + length (t ++ u) + length v) hyphen → ⊥ = λ i. n (subst (λ (k : ℕ). Is s k hyphen) e i) in
      let free-runs : Is s (o + length (t ++ u)) hyphen → ⊥
      = runs_kept s hyphen hyphen_guarded (λ i. omega arith) (has rest) 256 256 (o + length (t ++ u)) (omega arith) (omega arith)
      back free in
      let free-spaces : Is s (o + length t + length u) hyphen → ⊥ = λ i. free-runs (subst (λ (k : ℕ). Is s k hyphen) f i) in
      let at-spaces : At s (o + length t) u = at_back s o t u at in
      let none : Listed s o o (λ x. false)
      = record { set = set_of (λ x. false); items = ClassItems.nothing; holds = set_of_holds (λ x. false) } in
      let one = escape_listed o o w (λ x. false) none (at_front s o t u at)
      (escape_kept hyphen hyphen_guarded (λ i. omega arith) (o + length t) q at-spaces free-spaces) in
      let two = escape_listed o (o + length t) q (λ x. false || in_escape w x) one at-spaces free-spaces in
      let three = runs_read s o (has rest) 256 256 (omega arith) (omega arith) (λ x y z. absurd (omega arith))
      (listed_as s o two f (λ x i. refl)) back free in
      listed_as s o three e (λ x i. rw (lacking_has set w q x i)
      (all_told (in_escape w x) (in_escape q x) (has set x) (ltb x 256) (hw x i) (hq x i) (lt-ltb x 256 i)))

  inside_listed : (named : Bool) (set : List ℕ) (o : ℕ) → At s o (inside_text named set)
      → (Is s (o + length (inside_text named set)) hyphen → ⊥) → Listed s o (o + length (inside_text named set)) (has set)
  inside_listed true set o = named_listed set (words_in set) (spaces_in set) o (words_within set) (spaces_within set)
  inside_listed false set o = named_listed set 6 6 o (nothing_named set) (nothing_named set)

  caret_guarded : guarded true caret ≡ true
  unfolding guarded
  caret_guarded = refl

  -- What stands between the brackets, from a place on.
  closed : (named : Bool) (set : List ℕ) (o : ℕ) → At s o (inside_text named set ++ close_bracket ∷ [])
      → Is s (o + length (inside_text named set)) close_bracket
  closed named set o a =
      at_first s (o + length (inside_text named set)) (close_bracket ∷ []) (omega arith)
      (at_back s o (inside_text named set) (close_bracket ∷ []) a)

  other : (p b x : ℕ) → Is s p b → (b ≡ x → ⊥) → Is s p x → ⊥
  other p b x h n i = n (sym h ∙ i)

  pub class_read : (negated named : Bool) (set : List ℕ) (p : ℕ) → Formed set → At s p (class_text negated named set)
      → Class s p (p + length (class_text negated named set)) (class_set negated set)
  class_read false named set p formed a =
      let t : List ℕ = inside_text named set in
      let at : At s (p + 1) (t ++ close_bracket ∷ []) = at_back s p (open_bracket ∷ []) (t ++ close_bracket ∷ []) a in
      let close = closed named set (p + 1) at in
      let l = inside_listed named set (p + 1) (at_front s (p + 1) t (close_bracket ∷ []) at) (other (p + 1 + length t) close_bracket hyphen close (λ i. omega arith)) in
      let e : p + 1 + length t + 1 ≡ p + length (class_text false named set) = omega (arith, length-append t (close_bracket ∷ [])) in
      let same : l.set ≡ set = words_of l.holds ∙ set_of_has set formed in
      subst (λ (k : ℕ). Class s p k set) e (subst (Class s p (p + 1 + length t + 1)) same
      (Class.holding (at_first s p (class_text false named set) (omega arith) a)
      (inside_kept caret caret_guarded (λ i. omega arith) named set (p + 1) (at_front s (p + 1) t (close_bracket ∷ []) at)
      (other (p + 1 + length t) close_bracket caret close (λ i. omega arith))) l.items close))
  class_read true named set p formed a =
      let t : List ℕ = inside_text named set in
      let at : At s (p + 2) (t ++ close_bracket ∷ []) = at_back s p (open_bracket ∷ caret ∷ []) (t ++ close_bracket ∷ []) a in
      let close = closed named set (p + 2) at in
      let l = inside_listed named set (p + 2) (at_front s (p + 2) t (close_bracket ∷ []) at) (other (p + 2 + length t) close_bracket hyphen close (λ i. omega arith)) in
      let e : p + 2 + length t + 1 ≡ p + length (class_text true named set) = omega (arith, length-append t (close_bracket ∷ [])) in
      let same : class_set true l.set ≡ class_set true set = ap (class_set true) (words_of l.holds ∙ set_of_has set formed) in
      subst (λ (k : ℕ). Class s p k (class_set true set)) e (subst (Class s p (p + 2 + length t + 1)) same
      (Class.lacking (at_first s p (class_text true named set) (omega arith) a) (a 1 (omega arith)) l.items close))

  -- A byte set, wherever it stands.
  module _ (set : List ℕ) (p : ℕ) (formed : Formed set) where
    abbrev Reads : List ℕ → Type 0
    Reads t = At s p t → SetAtom s p (p + length t) set

    twice : (t : Bool) → not (not t) ≡ t
    twice true = refl
    twice false = refl

    back : class_set true (others set) ≡ set
    back =
        set_of_cong (λ x. not (has (others set) x)) (has set)
        (λ x h. ap not ((set_of_holds (λ y. not (has set y))).bytes x h) ∙ twice (has set x))
        ∙ set_of_has set formed

    either_read : (named : Bool) → Reads (either_text named set)
    either_read named = by_test Reads (ltb (length (class_text true named (others set))) (length (class_text false named set)))
        (λ e a. SetAtom.class (subst (Class s p (p + length (class_text true named (others set)))) back
        (class_read true named (others set) p (set_of_holds (λ x. not (has set x))).formed a)))
        (λ e a. SetAtom.class (class_read false named set p formed a))

    best_read : Reads (best_text set)
    unfolding best_text
    best_read = by_test Reads (ltb (length (either_text true set)) (length (either_text false set))) (λ e. either_read true)
        (λ e. either_read false)

    plain_read : Reads (plain_text set)
    unfolding plain_text
    plain_read =
        let low : ℕ = lowest (has set) 256 256 in
        by_test Reads (ltb low 256 && same_bytes set (literal_set low)) (λ e a.
        let (h, q) = and_true (ltb low 256) (same_bytes set (literal_set low)) e in
        let same : literal_set low ≡ set = sym (same_words set (literal_set low) formed (set_of_holds (takes low)).formed q) in
        subst (SetAtom s p (p + length (byte_text false low))) same (byte_set_lem s (ltb-true low 256 h) a))
        (λ e. best_read)

    escape_same : (turns k : ℕ) → escape_of set turns k < turns + k
        → same_bytes set (set_of (in_escape (escape_of set turns k))) ≡ true
    unfolding escape_of
    escape_same zero k h = absurd (omega arith)
    escape_same (suc turns) k h = by_test P (same_bytes set (set_of (in_escape k))) (λ e i. e)
        (λ e i. escape_same turns (suc k) (omega arith)) h
      where
        P : ℕ → Type 0
        P n = n < suc turns + k → same_bytes set (set_of (in_escape n)) ≡ true

    pub set_read : Reads (set_text set)
    unfolding set_text
    set_read =
        let k : ℕ = escape_of set 6 0 in
        by_test Reads (same_bytes set dot_set) (λ e a.
        let same : dot_set ≡ set = sym (same_words set dot_set formed (set_of_holds is_dot).formed e) in
        subst (SetAtom s p (p + 1)) same (SetAtom.dots (at_first s p (dot ∷ []) (omega arith) a))) (λ e.
        by_test Reads (ltb k 6) (λ e.
        let h : k < 6 = ltb-true k 6 e in
        let same : set_of (in_escape k) ≡ set
        = sym (same_words set (set_of (in_escape k)) formed (set_of_holds (in_escape k)).formed (escape_same 6 0 h)) in
        by_test Reads (ltb k 6) (λ f a. subst (SetAtom s p (p + 2)) same (SetAtom.named (escape_at_lem p k h a)))
        (λ f. absurd (omega (arith, ltb-false k 6 f)))) (λ e. plain_read))
