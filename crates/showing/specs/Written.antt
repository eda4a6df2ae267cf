-- What is written derives: wherever the text of a flat, proper tree with its groups in order stands, within the depth, and no
-- quantifier begins behind it, the grammar's rules derive the tree's parts.
use Rattle.std.specs.Prelude.{◌≡◌, refl, Bool}
use Rattle.std.proofs.Common.{sym, ◌∙◌, add-one}
use Rattle.std.proofs.Math.Path.{ap, subst}
use Rattle.std.proofs.Math.Bool.{true, false≢true}
use Rattle.std.proofs.Math.Option.{Option}
use mathlib.Core.List.{List, [], ◌∷◌, ◌++◌, append_assoc}
use Prim.Native.Nat.{ℕ, zero, suc, ◌+◌, ◌≤◌, ◌<◌}
use native.Mathlib.Omega.{arith}
use Rattle.std.proofs.Math.ListN.{length, length-append}
use Rattle.meaning.specs.Limits.{group_limit}
use Rattle.meaning.specs.Node.{Node, Node.empty, Node.bset, Node.assert, Node.group, Node.seq, Node.alt, Node.many, Proper}
use Rattle.meaning.specs.Flat.{Kind, parts, join, join_parts, parts_alone, Flat}
use Rattle.meaning.specs.Numbering.{Numbers, forwards}
use Rattle.table.specs.Table.{maximum, bit_of}
use Rattle.reading_atoms.specs.Chars.{question, open_paren, close_paren, bar, colon, is_quantifier}
use Rattle.reading_grammar.specs.Atoms.{Is}
use Rattle.reading_grammar.specs.Grammar.{Sort.alternatives, Sort.sequence, Sort.atom, Rule}
use Rattle.showing_spelling.specs.Spelling.{set_text, assertion_text, quantifier_text}
use Rattle.showing_spelling.specs.Texts.{At, at_first, at_front, at_back}
use Rattle.showing_spelling.specs.Sets.{set_read}
use Rattle.showing_spelling.specs.Counts.{assertion_read, quantifier_read}
use Rattle.showing.specs.Text.{around, loose, bound, text, depth}
use Rattle.showing.specs.Firsts.{Free, text_kept, item_kept}

-- What is asked of a tree: its groups are numbered from g + 1 on, up to h.
pub record Fits (r : Node) (g h : ℕ) : Type 0 where
  pub flat : Flat r
  pub proper : Proper r
  pub numbers : Numbers (suc g) r (suc h)
  pub groups : h ≤ group_limit

-- A number behind others is a successor.
back : (a b : ℕ) → a < b → (m : ℕ) × (b ≡ suc m)
back a zero h = absurd (omega arith)
back a (suc b) h = (b, refl)

module _ (s : List ℕ) where
  -- Alternatives that are begun: none yet, or some and a bar.
  data Begun (d : ℕ) : ℕ → ℕ → ℕ → ℕ → List Node → Type 0 where
    begin : {a g : ℕ} → Begun d a a g g []
    on : {o b f g : ℕ} {l : List Node} → Rule s alternatives d o b f g l → Is s b bar → Begun d o (b + 1) f g l

  more_sequence : {d o a b f g h : ℕ} {l m : List Node} → Begun d o a f g l → Rule s sequence d a b g h m
      → Rule s alternatives d o b f h (l ++ parts Kind.alternation (join Kind.sequence m))
  more_sequence begin u = Rule.first u
  more_sequence (on t c) u = Rule.next t c u

  -- A tree as alternatives, as items of a sequence, and as an atom.
  Alternatives : Node → Type 0
  Alternatives r = (d o a f g h : ℕ) (l : List Node) → Begun d o a f g l → Fits r g h → depth r ≤ d → At s a (text r)
      → Free s (a + length (text r)) → Rule s alternatives d o (a + length (text r)) f h (l ++ parts Kind.alternation r)

  Items : Node → Type 0
  Items r = (d o a f g h : ℕ) (l : List Node) → Rule s sequence d o a f g l → Fits r g h → bit_of (loose r) + depth r ≤ d
      → At s a (around (loose r) (text r)) → Free s (a + length (around (loose r) (text r)))
      → Rule s sequence d o (a + length (around (loose r) (text r))) f h (l ++ parts Kind.sequence r)

  Atom : Node → Type 0
  Atom r = (d a g h : ℕ) → Fits r g h → bit_of (bound r) + depth r ≤ d → At s a (around (bound r) (text r))
      → Rule s atom d a (a + length (around (bound r) (text r))) g h (r ∷ [])

  record Ways (r : Node) : Type 0 where
    alternatives_of : Alternatives r
    items_of : Items r
    atom_of_lem : Atom r

  -- An atom in `(?:` and `)`.
  plain_atom : (r : Node) → Alternatives r → (d a g h : ℕ) → Fits r g h → 1 + depth r ≤ d → At s a (around true (text r))
      → Rule s atom d a (a + length (around true (text r))) g h (r ∷ [])
  unfolding Alternatives
  plain_atom r all zero a g h f l at = absurd (omega arith)
  plain_atom r all (suc d) a g h f l at =
      let t : List ℕ = text r in
      let inside : At s (a + 3) (t ++ close_paren ∷ []) = at_back s a (open_paren ∷ question ∷ colon ∷ []) (t ++ close_paren ∷ []) at in
      let close : Is s (a + 3 + length t) close_paren
      = at_first s (a + 3 + length t) (close_paren ∷ []) (omega arith) (at_back s (a + 3) t (close_paren ∷ []) inside) in
      let e : a + 3 + length t + 1 ≡ a + length (around true t) = omega (arith, length-append t (close_paren ∷ [])) in
      subst (λ (k : ℕ). Rule s atom (suc d) a k g h (r ∷ [])) e
      (subst (λ (q : Node). Rule s atom (suc d) a (a + 3 + length t + 1) g h (q ∷ [])) (join_parts Kind.alternation r)
      (Rule.plain (at_first s a (around true t) (omega arith) at) (at 1 (omega arith)) (at 2 (omega arith))
      (all d (a + 3) (a + 3) g g h [] begin f (omega arith) (at_front s (a + 3) t (close_paren ∷ []) inside) (ap is_quantifier close))
      close))

  -- An item that is an atom with no quantifier behind it.
  item_atom : (r : Node) (d o a b f g h : ℕ) (l : List Node) → Rule s sequence d o a f g l → Rule s atom d a b g h (r ∷ [])
      → Free s b → Rule s sequence d o b f h (l ++ parts Kind.sequence r)
  item_atom r d o a b f g h l u v e = Rule.more u (Rule.once v e)

  -- The items of a part that needs no parentheses in a sequence; its alternatives are then those of one sequence.
  Straight : Node → Type 0
  Straight r = (d o a f g h : ℕ) (l : List Node) → Rule s sequence d o a f g l → Fits r g h → depth r ≤ d → At s a (text r)
      → Free s (a + length (text r)) → Rule s sequence d o (a + length (text r)) f h (l ++ parts Kind.sequence r)

  one_sequence : (r : Node) → Straight r → Alternatives r
  unfolding Straight Alternatives
  one_sequence r straight d o a f g h l b k deep at free =
      subst (λ (q : Node). Rule s alternatives d o (a + length (text r)) f h (l ++ parts Kind.alternation q))
      (join_parts Kind.sequence r)
      (more_sequence b (straight d a a g g h [] Rule.nothing k deep at free))

  -- A part that needs parentheses in a sequence is an item in them.
  wrapped_item : (r : Node) → Alternatives r → (d o a f g h : ℕ) (l : List Node) → Rule s sequence d o a f g l → Fits r g h
      → 1 + depth r ≤ d → At s a (around true (text r)) → Free s (a + length (around true (text r)))
      → Rule s sequence d o (a + length (around true (text r))) f h (l ++ parts Kind.sequence r)
  wrapped_item r all d o a f g h l u k deep at free =
      item_atom r d o a (a + length (around true (text r))) f g h l u (plain_atom r all d a g h k deep at) free

  -- An empty part.
  empty_ways : Ways empty
  unfolding Alternatives Items Atom text depth
  empty_ways = record {
    alternatives_of = all;
    items_of = wrapped_item empty all;
    atom_of_lem = plain_atom empty all;
  }
    where
      all : Alternatives empty
      all d o a f g h l b k deep at free =
          let e : a ≡ a + 0 = omega arith in
          let n : g ≡ h = omega (arith, k.numbers) in
          subst (λ (x : ℕ). Rule s alternatives d o x f h (l ++ parts Kind.alternation empty)) e
          (subst (λ (x : ℕ). Rule s alternatives d o a f x (l ++ parts Kind.alternation empty)) n (more_sequence b Rule.nothing))

  -- A byte set.
  set_ways : (set : List ℕ) → Ways (bset set)
  unfolding Alternatives Items Atom Straight text depth
  set_ways set = record {
    alternatives_of = one_sequence (bset set) straight;
    items_of = λ d o a f g h l u k deep. straight d o a f g h l u k (omega arith);
    atom_of_lem = λ d a g h k deep at. one d a g h k at;
  }
    where
      one : (d a g h : ℕ) → Fits (bset set) g h → At s a (set_text set)
          → Rule s atom d a (a + length (set_text set)) g h (bset set ∷ [])
      one d a g h k at =
          let n : g ≡ h = omega (arith, k.numbers) in
          subst (λ (x : ℕ). Rule s atom d a (a + length (set_text set)) g x (bset set ∷ [])) n
          (Rule.bytes (set_read s set a k.proper at))

      straight : Straight (bset set)
      straight d o a f g h l u k deep at free =
          item_atom (bset set) d o a (a + length (set_text set)) f g h l u (one d a g h k at) free

  -- An assertion.
  assertion_ways : (t : ℕ) → Ways (assert t)
  unfolding Alternatives Items Atom Straight text depth
  assertion_ways t = record {
    alternatives_of = one_sequence (assert t) straight;
    items_of = λ d o a f g h l u k deep. straight d o a f g h l u k (omega arith);
    atom_of_lem = plain_atom (assert t) (one_sequence (assert t) straight);
  }
    where
      straight : Straight (assert t)
      straight d o a f g h l u k deep at free =
          let n : g ≡ h = omega (arith, k.numbers) in
          subst (λ (x : ℕ). Rule s sequence d o (a + length (assertion_text t)) f x (l ++ parts Kind.sequence (assert t))) n
          (Rule.more u (Rule.assertion (assertion_read s a t k.proper at)))

  -- A group.
  group_ways : (n : ℕ) (r : Node) → Ways r → Ways (group n r)
  unfolding Alternatives Items Atom Straight text depth
  group_ways n r w = record {
    alternatives_of = one_sequence (group n r) straight;
    items_of = λ d o a f g h l u k deep. straight d o a f g h l u k (omega arith);
    atom_of_lem = λ d a g h k deep at. one d a g h k (omega arith) at;
  }
    where
      one : (d a g h : ℕ) → Fits (group n r) g h → suc (depth r) ≤ d → At s a (open_paren ∷ text r ++ close_paren ∷ [])
          → Rule s atom d a (a + length (open_paren ∷ text r ++ close_paren ∷ [])) g h (group n r ∷ [])
      one zero a g h k deep at = absurd (omega arith)
      one (suc d) a g h k deep at =
          let t : List ℕ = text r in
          let inside : At s (a + 1) (t ++ close_paren ∷ []) = at_back s a (open_paren ∷ []) (t ++ close_paren ∷ []) at in
          let front : At s (a + 1) t = at_front s (a + 1) t (close_paren ∷ []) inside in
          let close : Is s (a + 1 + length t) close_paren
          = at_first s (a + 1 + length t) (close_paren ∷ []) (omega arith) (at_back s (a + 1) t (close_paren ∷ []) inside) in
          let free : Free s (a + 1 + length t) = ap is_quantifier close in
          let first : Free s (a + 1) = text_kept s r (a + 1) k.proper.1 front free in
          let on = forwards r (suc (suc g)) (suc h) (omega arith) k.numbers.1 in
          let fits : Fits r (g + 1) h = record {
            flat = k.flat;
            proper = k.proper.1;
            numbers = subst (λ (x : ℕ). Numbers (suc x) r (suc h)) (sym (add-one g)) k.numbers.1;
            groups = k.groups;
          } in
          let e : a + 1 + length t + 1 ≡ a + length (open_paren ∷ t ++ close_paren ∷ []) = omega (arith, length-append t (close_paren ∷ [])) in
          let same : g + 1 ≡ n = omega (arith, k.numbers.0) in
          subst (λ (x : ℕ). Rule s atom (suc d) a x g h (group n r ∷ [])) e
          (subst (λ (x : ℕ). Rule s atom (suc d) a (a + 1 + length t + 1) g h (group x r ∷ [])) same
          (subst (λ (q : Node). Rule s atom (suc d) a (a + 1 + length t + 1) g h (group (g + 1) q ∷ [])) (join_parts Kind.alternation r)
          (Rule.grouped (at_first s a (open_paren ∷ t ++ close_paren ∷ []) (omega arith) at)
          (λ q. asked (a + 1) q first) (omega (arith, k.groups))
          (w.alternatives_of d (a + 1) (a + 1) (g + 1) (g + 1) h [] begin fits (omega arith) front free) close)))
        where
          asked : (b : ℕ) → Is s b question → Free s b → ⊥
          asked b q f = false≢true (sym f ∙ ap is_quantifier q)

      straight : Straight (group n r)
      straight d o a f g h l u k deep at free =
          item_atom (group n r) d o a (a + length (text (group n r))) f g h l u (one d a g h k deep at) free

  -- A sequence.
  sequence_ways : (p q : Node) → Ways p → Ways q → Ways (seq p q)
  unfolding Alternatives Items Atom Straight text depth parts
  sequence_ways p q v w = record {
    alternatives_of = one_sequence (seq p q) straight;
    items_of = λ d o a f g h l u k deep. straight d o a f g h l u k (omega arith);
    atom_of_lem = plain_atom (seq p q) (one_sequence (seq p q) straight);
  }
    where
      straight : Straight (seq p q)
      straight d o a f g h l u k deep at free =
          let t : List ℕ = around (loose p) (text p) in
          let t' : List ℕ = around (loose q) (text q) in
          let (m, e) = back g k.numbers.0 (forwards p (suc g) k.numbers.0 (omega arith) k.numbers.1) in
          let first : Numbers (suc g) p (suc m) = subst (λ (x : ℕ). Numbers (suc g) p x) e k.numbers.1 in
          let second : Numbers (suc m) q (suc h) = subst (λ (x : ℕ). Numbers x q (suc h)) e k.numbers.2 in
          let on = forwards q (suc m) (suc h) (omega arith) second in
          let back_at : At s (a + length t) t' = at_back s a t t' at in
          let place : a + length t + length t' ≡ a + length (t ++ t') = omega (arith, length-append t t') in
          let free' : Free s (a + length t + length t') = subst (Free s) (sym place) free in
          let one = v.items_of d o a f g m l u
          (record { flat = k.flat.1; proper = k.proper.0; numbers = first; groups = omega (arith, k.groups) }) (omega arith)
          (at_front s a t t' at) (item_kept s q (a + length t) k.proper.1 back_at free') in
          let two = w.items_of d o (a + length t) f m h (l ++ parts Kind.sequence p) one
          (record { flat = k.flat.2; proper = k.proper.1; numbers = second; groups = k.groups }) (omega arith) back_at free' in
          let list : l ++ parts Kind.sequence p ++ parts Kind.sequence q ≡ l ++ (p ∷ parts Kind.sequence q)
          = ap (λ (x : List Node). l ++ x ++ parts Kind.sequence q) (parts_alone Kind.sequence p k.flat.0)
          ∙ append_assoc l (p ∷ []) (parts Kind.sequence q) in
          subst (λ (x : ℕ). Rule s sequence d o x f h (l ++ (p ∷ parts Kind.sequence q))) place
          (subst (Rule s sequence d o (a + length t + length t') f h) list two)

  -- An alternation.
  alternation_ways : (p q : Node) → Ways p → Ways q → Ways (alt p q)
  unfolding Alternatives Items Atom text depth parts
  alternation_ways p q v w = record {
    alternatives_of = all;
    items_of = wrapped_item (alt p q) all;
    atom_of_lem = plain_atom (alt p q) all;
  }
    where
      all : Alternatives (alt p q)
      all d o a f g h l b k deep at free =
          let t : List ℕ = text p in
          let t' : List ℕ = text q in
          let (m, e) = back g k.numbers.0 (forwards p (suc g) k.numbers.0 (omega arith) k.numbers.1) in
          let first : Numbers (suc g) p (suc m) = subst (λ (x : ℕ). Numbers (suc g) p x) e k.numbers.1 in
          let second : Numbers (suc m) q (suc h) = subst (λ (x : ℕ). Numbers x q (suc h)) e k.numbers.2 in
          let on-to = forwards q (suc m) (suc h) (omega arith) second in
          let rest : At s (a + length t) (bar ∷ t') = at_back s a t (bar ∷ t') at in
          let stroke : Is s (a + length t) bar = at_first s (a + length t) (bar ∷ t') (omega arith) rest in
          let place : a + length t + 1 + length t' ≡ a + length (t ++ bar ∷ t') = omega (arith, length-append t (bar ∷ t')) in
          let one = v.alternatives_of d o a f g m l b
          (record { flat = k.flat.1; proper = k.proper.0; numbers = first; groups = omega (arith, k.groups) }) (omega arith)
          (at_front s a t (bar ∷ t') at) (ap is_quantifier stroke) in
          let two = w.alternatives_of d o (a + length t + 1) f m h (l ++ parts Kind.alternation p) (on one stroke)
          (record { flat = k.flat.2; proper = k.proper.1; numbers = second; groups = k.groups }) (omega arith)
          (at_back s (a + length t) (bar ∷ []) t' rest) (subst (Free s) (sym place) free) in
          let list : l ++ parts Kind.alternation p ++ parts Kind.alternation q ≡ l ++ (p ∷ parts Kind.alternation q)
          = ap (λ (x : List Node). l ++ x ++ parts Kind.alternation q) (parts_alone Kind.alternation p k.flat.0)
          ∙ append_assoc l (p ∷ []) (parts Kind.alternation q) in
          subst (λ (x : ℕ). Rule s alternatives d o x f h (l ++ (p ∷ parts Kind.alternation q))) place
          (subst (Rule s alternatives d o (a + length t + 1 + length t') f h) list two)

  -- A quantifier.
  quantifier_ways : (n : ℕ) (e : Option ℕ) (lazy : Bool) (r : Node) → Ways r → Ways (many n e lazy r)
  unfolding Alternatives Items Atom Straight text depth
  quantifier_ways n e lazy r w = record {
    alternatives_of = one_sequence (many n e lazy r) straight;
    items_of = λ d o a f g h l u k deep. straight d o a f g h l u k (omega arith);
    atom_of_lem = plain_atom (many n e lazy r) (one_sequence (many n e lazy r) straight);
  }
    where
      straight : Straight (many n e lazy r)
      straight d o a f g h l u k deep at free =
          let t : List ℕ = around (bound r) (text r) in
          let t' : List ℕ = quantifier_text n (maximum n e) lazy in
          let place : a + length t + length t' ≡ a + length (t ++ t') = omega (arith, length-append t t') in
          let free' : Free s (a + length t + length t') = subst (Free s) (sym place) free in
          subst (λ (x : ℕ). Rule s sequence d o x f h (l ++ parts Kind.sequence (many n e lazy r))) place
          (Rule.more u (Rule.repeated
          (w.atom_of_lem d a g h (record { flat = k.flat; proper = k.proper.1; numbers = k.numbers; groups = k.groups }) deep
          (at_front s a t t' at))
          (quantifier_read s (a + length t) n e lazy k.proper.0 (at_back s a t t' at)
          (λ i q. false≢true (sym free' ∙ ap is_quantifier q)))))

  ways : (r : Node) → Ways r
  ways empty = empty_ways
  ways (bset set) = set_ways set
  ways (assert t) = assertion_ways t
  ways (group n r) = group_ways n r (ways r)
  ways (seq p q) = sequence_ways p q (ways p) (ways q)
  ways (alt p q) = alternation_ways p q (ways p) (ways q)
  ways (many n e lazy r) = quantifier_ways n e lazy r (ways r)

  -- The whole.
  pub written_derives : (r : Node) (d a g h : ℕ) → Fits r g h → depth r ≤ d → At s a (text r) → Free s (a + length (text r))
      → Rule s alternatives d a (a + length (text r)) g h (parts Kind.alternation r)
  unfolding Alternatives
  written_derives r d a g h k deep at free = (ways r).alternatives_of d a a g g h [] begin k deep at free
