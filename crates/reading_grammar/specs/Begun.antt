-- Where a pattern is refused, the bytes before the place begin some pattern.
use Rattle.std.specs.Prelude.{◌≡◌, List, [], ◌∷◌, ◌++◌, ℕ, suc, ◌+◌, ◌-◌, ◌≤◌, ◌<◌, length, take, replicate}
use Rattle.std.proofs.Common.{sym, ap, subst, ◌∙◌, inl, inr, arith, length-append, get_or-take, get_or-append-add, length-take-le}
use Rattle.std.proofs.Math.Option.{Option}
use Rattle.std.proofs.lemmas.List.{length-replicate, get_or-replicate}
use Rattle.std.proofs.Math.ListN.{get_or-append, get_or-eq_default}
use Rattle.meaning.specs.Limits.{depth_limit}
use Rattle.reading_atoms.specs.Chars.{no_byte, byte_at, question, open_paren, close_paren, close_bracket, hyphen, colon}
use Rattle.reading_grammar.specs.Atoms.{Is, Class, Dash, ByteAtom, ClassItems}
use Rattle.reading_grammar.specs.Grammar.{SetAtom, Sort, Rule}
use Rattle.reading_grammar.specs.Within.{known, due_within, due_deep, rule_within, items_within, opens_within, atom_first}
use Rattle.reading_grammar.specs.ClassesComplete.{items_on}
use Rattle.reading_grammar.specs.Forwards.{rule_on, opens_on}
use Rattle.reading_grammar.specs.Alike.{Alike, less, is, dash_kept, items}
use Rattle.reading_grammar.specs.Alike as alike
use Rattle.reading_grammar.specs.RulesAlike.{rule_alike, due_alike, opens_alike}
use Rattle.reading_grammar.specs.Closing.{Closes, closes_quiet, closes_calm, due_closes}
use Rattle.reading_grammar.specs.Refusals.{BeginsPattern, Due, ClassOpens, ClassOpens.holding, ClassOpens.lacking}
use Rattle.reading_grammar.specs.Refusals.{ClassDue}
use Rattle.reading_grammar.specs.Refusals.{Inside.item, Inside.class, End, End.byte, End.set, AtomBefore, Refuses}
use Rattle.reading_grammar.specs.Refusals.{Refuses.escape}
use Rattle.reading_grammar.specs.Refusals.{Refuses.class_escape, Refuses.range_escape, Refuses.look, Refuses.nothing}
use Rattle.reading_grammar.specs.Refusals.{Refuses.odd_group, Refuses.no_form, Refuses.above, Refuses.disordered}
use Rattle.reading_grammar.specs.Refusals.{Refuses.bad_range}
use Rattle.reading_grammar.specs.Refusals.{Refuses.unclosed_class, Refuses.unmatched, Refuses.unclosed, Refuses.stray}
use Rattle.reading_grammar.specs.Refusals.{Refuses.deep, Refuses.full}

-- The bytes before a place, others, and as many `)` as there are parentheses to close.
module _ (s : List ℕ) (a : ℕ) (within : a ≤ length s) (middle : List ℕ) (n : ℕ) where
  abbrev more : List ℕ
  more = middle ++ replicate n close_paren

  abbrev made : List ℕ
  made = take a s ++ more

  made_length : length made ≡ a + length middle + n
  made_length =
      length-append (take a s) more ∙ rw (
        length-take-le a s within,
        length-append middle (replicate n close_paren),
        length-replicate n close_paren,
      ) (omega arith)

  made_same : (i : ℕ) → i < a → byte_at s i ≡ byte_at made i
  made_same i l =
      sym (get_or-append (take a s) more no_byte i (omega (arith, length-take-le a s within)) ∙ get_or-take a s i no_byte l)

  made_more : (i : ℕ) → byte_at made (a + i) ≡ byte_at more i
  made_more i = ap (λ (k : ℕ). byte_at made (k + i)) (sym (length-take-le a s within)) ∙ get_or-append-add (take a s) more i no_byte

  made_middle : (i : ℕ) → i < length middle → byte_at made (a + i) ≡ byte_at middle i
  made_middle i l = made_more i ∙ get_or-append middle (replicate n close_paren) no_byte i l

  made_closes : (e : ℕ) → e ≡ a + length middle → Closes made e n
  made_closes e p = record {
    shut = λ i l. ap (byte_at made) (there i) ∙ made_more (length middle + i)
        ∙ get_or-append-add middle (replicate n close_paren) i no_byte ∙ get_or-replicate n i close_paren no_byte l;
    end = get_or-eq_default made no_byte (omega (arith, made_length));
  }
    where
      there : (i : ℕ) → e + i ≡ a + (length middle + i)
      there i = omega arith

  -- An item is due behind them: so they begin a pattern.
  finish : (d e g : ℕ) → d + n ≡ depth_limit → e ≡ a + length middle → Due made d e g → BeginsPattern s a
  finish d e g q p due =
      let (h, l, t) = due_closes made n due q (made_closes e p) in
      (more, h, l, subst (λ (x : ℕ). Rule made Sort.alternatives depth_limit 0 x 0 h l) (omega (arith, made_length)) t)

-- Behind a class that closes there an item is due.
class_behind : {s : List ℕ} {d o a0 a g n : ℕ} {held : List ℕ} → Due s d o g → ClassOpens s o a0 → ClassItems s a0 a held
    → Is s a close_bracket → Closes s (a + 1) n → Due s d (a + 1) g
class_behind {s} {a = a} {n = n} due (holding at c) t e k =
    Due.behind due (Rule.once (Rule.bytes (SetAtom.class (Class.holding at c t e))) (closes_calm s (a + 1) n k))
class_behind {s} {a = a} {n = n} due (lacking at c) t e k =
    Due.behind due (Rule.once (Rule.bytes (SetAtom.class (Class.lacking at c t e))) (closes_calm s (a + 1) n k))

module _ (s : List ℕ) where
  -- Where an item is due, `)` may follow; and so behind an atom.
  module _ (a : ℕ) (w : a ≤ length s) (n : ℕ) where
    abbrev shut : List ℕ
    shut = made s a w [] n

    shut_closes : Closes shut a n
    shut_closes = made_closes s a w [] n a (omega arith)

    shut_alike : Alike s shut a
    shut_alike = record { same = made_same s a w [] n; stop = inr (closes_quiet shut a n shut_closes) }

  due_begins : {d a g : ℕ} → Due s d a g → BeginsPattern s a
  due_begins {d} {a} {g} due =
      let w : a ≤ length s = due_within s due in
      let n : ℕ = depth_limit - d in
      finish s a w [] n d a g (omega (arith, due_deep due)) (omega arith) (due_alike s (shut a w n) due (shut_alike a w n))

  atom_begins : {b : ℕ} → AtomBefore s b → BeginsPattern s b
  atom_begins {b} t =
      let w : b ≤ length s = rule_within s t.before (due_within s t.due) in
      let n : ℕ = depth_limit - t.d in
      let on : t.a < b = rule_on s t.before in
      let k : Alike s (shut b w n) b = shut_alike b w n in
      finish s b w [] n t.d b t.h (omega (arith, due_deep t.due)) (omega arith)
      (Due.behind (due_alike s (shut b w n) t.due (less s (shut b w n) t.a k (omega arith)))
      (Rule.once (rule_alike s (shut b w n) t.before k) (closes_calm (shut b w n) b n (shut_closes b w n))))

  -- Where an atom of a class is due, `]` may follow.
  module _ (a : ℕ) (w : a ≤ length s) (n : ℕ) where
    abbrev boxed : List ℕ
    boxed = made s a w (close_bracket ∷ []) n

    boxed_here : Is boxed a close_bracket
    boxed_here = ap (byte_at boxed) here ∙ made_middle s a w (close_bracket ∷ []) n 0 (omega arith)
      where
        here : a ≡ a + 0
        here = omega arith

    boxed_closes : Closes boxed (a + 1) n
    boxed_closes = made_closes s a w (close_bracket ∷ []) n (a + 1) (omega arith)

    boxed_alike : Alike s boxed a
    boxed_alike = record { same = made_same s a w (close_bracket ∷ []) n; stop = inr (inr (inl boxed_here)) }

  class_begins : {a : ℕ} → ClassDue s a → BeginsPattern s a
  class_begins {a} t =
      let w : a ≤ length s = items_within s t.items (opens_within s t.opens) in
      let n : ℕ = depth_limit - t.d in
      let s' : List ℕ = boxed a w n in
      let on : t.first ≤ a = items_on s t.items in
      let on' : t.opening < t.first = opens_on s t.opens in
      let k : Alike s s' a = boxed_alike a w n in
      let e : Is s' a close_bracket = boxed_here a w n in
      finish s a w (close_bracket ∷ []) n t.d (a + 1) t.g (omega (arith, due_deep t.due)) (omega arith)
      (class_behind (due_alike s s' t.due (less s s' t.opening k (omega arith)))
      (opens_alike s s' t.opens (less s s' t.first k on)) (items s s' k (dash_kept s s' k e) t.items (omega arith)) e
      (boxed_closes a w n))

  -- Where the second end of a range is due, `]` may follow: the `-` is itself then.
  end_on : {a b : ℕ} {x : Option ℕ} → End s a b x → a < b
  end_on (byte t) = (atom_first s t).2
  end_on (set t) = omega arith

  end_single : (s' : List ℕ) {a0 a b : ℕ} {held : List ℕ} {x : Option ℕ} → Alike s s' b → (Dash s' b → ⊥)
      → ClassItems s' a0 a held
      → End s a b x → (all : List ℕ) × ClassItems s' a0 b all
  end_single s' k n t (byte u) = (_, ClassItems.single t (alike.atom s s' u k) n)
  end_single s' k n t (set u) = (_, ClassItems.several t (alike.set s s' u k) n)

  module _ (s' : List ℕ) (b : ℕ) (k : Alike s s' (b + 1)) (h : Is s' b hyphen) (e : Is s' (b + 1) close_bracket) where
    last_itself : {a : ℕ} {held : List ℕ} → ClassItems s' a b held → (all : List ℕ) × ClassItems s' a (b + 1) all
    last_itself t =
        let dash : ByteAtom s' b (b + 1) hyphen
        = ByteAtom.plain h (λ x. omega arith) (λ x. omega arith) (λ x. omega arith) in
        (_, ClassItems.single t dash (λ d. let z : ◌≡◌ {A = ℕ} hyphen close_bracket = sym d.0 ∙ e in omega arith))

    -- A `-` before it makes a range in both.
    dash_same : (a : ℕ) → a < b → (c : ℕ) → c ≤ a → (Dash s c → ⊥) → Dash s' c → ⊥
    dash_same a l c m n (x, y, z) = n (k.same c (omega arith) ∙ x, back close_bracket y, back no_byte z)
      where
        back : (v : ℕ) → (Is s' (c + 1) v → ⊥) → Is s (c + 1) v → ⊥
        back v f u = f (sym (k.same (c + 1) (omega arith)) ∙ u)

  range_begins : {a b : ℕ} {x : Option ℕ} → ClassDue s a → End s a b x → Dash s b → BeginsPattern s (b + 1)
  range_begins {a} {b} t u d =
      let w : b + 1 ≤ length s = omega (arith, known s b hyphen d.0 (λ x. omega arith)) in
      let n : ℕ = depth_limit - t.d in
      let s' : List ℕ = boxed (b + 1) w n in
      let on : t.first ≤ a = items_on s t.items in
      let on' : t.opening < t.first = opens_on s t.opens in
      let on'' : a < b = end_on u in
      let k : Alike s s' (b + 1) = boxed_alike (b + 1) w n in
      let e : Is s' (b + 1) close_bracket = boxed_here (b + 1) w n in
      let h : Is s' b hyphen = is s s' b 0x2D k (omega arith) d.0 in
      let (one, x) = end_single s' (less s s' b k (omega arith)) (λ d'. d'.1 e)
      (items s s' (less s s' a k (omega arith)) (dash_same s' b k h e a on'') t.items (omega arith)) u in
      let (all, y) = last_itself s' b k h e {held = one} x in
      finish s (b + 1) w (close_bracket ∷ []) n t.d (b + 1 + 1) t.g (omega (arith, due_deep t.due)) (omega arith)
      (class_behind {held = all} (due_alike s s' t.due (less s s' t.opening k (omega arith)))
      (opens_alike s s' t.opens (less s s' t.first k (omega arith))) y e (boxed_closes (b + 1) w n))

  -- Behind a `(`, `?:` may follow.
  paren_begins : {d a g : ℕ} → Due s (suc d) a g → Is s a open_paren → BeginsPattern s (a + 1)
  paren_begins {d} {a} {g} due at =
      let w : a + 1 ≤ length s = omega (arith, known s a open_paren at (λ x. omega arith)) in
      let n : ℕ = depth_limit - d in
      let middle : List ℕ = question ∷ colon ∷ [] in
      let s' : List ℕ = made s (a + 1) w middle n in
      let here : byte_at s a ≡ byte_at s' a = made_same s (a + 1) w middle n a (omega arith) in
      let q : Is s' (a + 1) question = ap (byte_at s') (zero_more a) ∙ made_middle s (a + 1) w middle n 0 (omega arith) in
      let c : Is s' (a + 2) colon = ap (byte_at s') (one_more a) ∙ made_middle s (a + 1) w middle n 1 (omega arith) in
      finish s (a + 1) w middle n d (a + 3) g (omega (arith, due_deep due)) (omega arith)
      (Due.plain (due_alike s s' due (record {
        same = λ i l. made_same s (a + 1) w middle n i (omega arith);
        stop = inl here;
      })) (sym here ∙ at) q c)
    where
      zero_more : (a : ℕ) → a + 1 ≡ a + 1 + 0
      zero_more a = omega arith

      one_more : (a : ℕ) → a + 2 ≡ a + 1 + 1
      one_more a = omega arith

  -- So it is of every refusal from 4 to 14.
  pub refuses_begins : {n p : ℕ} → Refuses s n p → BeginsPattern s p
  refuses_begins (escape due w) = due_begins due
  refuses_begins (class_escape t w) = class_begins t
  refuses_begins (range_escape t x d w) = range_begins t x d
  refuses_begins (look due at q l) = due_begins due
  refuses_begins (nothing due e) = due_begins due
  refuses_begins (odd_group due at q n l) = paren_begins due at
  refuses_begins (no_form t at h) = atom_begins t
  refuses_begins (above t form l) = atom_begins t
  refuses_begins (disordered t form l) = atom_begins t
  refuses_begins (bad_range t x d y r) = class_begins t
  refuses_begins (unclosed_class t e) = class_begins t
  refuses_begins (unmatched due c) = due_begins due
  refuses_begins (unclosed (item due l) e) = due_begins due
  refuses_begins (unclosed (class t l) e) = class_begins t
  refuses_begins (stray due h) = due_begins due
  refuses_begins (deep due at) = due_begins due
  refuses_begins (full due at n l) = due_begins due
