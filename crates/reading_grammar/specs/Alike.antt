-- What derives from a pattern's bytes derives from any bytes that are alike up to its end.
use Rattle.std.specs.Prelude.{◌≡◌, ◌⊎◌, Bool, false, List, ℕ, ◌+◌, ◌≤◌, ◌<◌}
use Rattle.std.proofs.Math.Path.{refl}
use Rattle.std.proofs.Common.{sym, ap, subst, ◌∙◌, inl, inr, arith}
use Rattle.std.proofs.Math.Option.{Option}
use Rattle.std.proofs.Math.Decide.{dec_lt}
use Rattle.sets.specs.Sets.{is_digit}
use Rattle.reading_atoms.specs.Chars.{no_byte, byte_at, caret, question, close_paren, close_bracket, hyphen}
use Rattle.reading_grammar.specs.Atoms.{Is, Digits, Digits.digit, Digits.more, Counts, Counts.exactly, Counts.least}
use Rattle.reading_grammar.specs.Atoms.{Counts.range}
use Rattle.reading_grammar.specs.Atoms.{Times, Times.any, Times.some_times, Times.maybe, Times.counted, Quantified}
use Rattle.reading_grammar.specs.Atoms.{Quantified.greedy, Quantified.lazy, EscapedByte, EscapedByte.control}
use Rattle.reading_grammar.specs.Atoms.{EscapedByte.letter}
use Rattle.reading_grammar.specs.Atoms.{EscapedByte.hex, EscapedByte.nul, EscapedByte.backspace, EscapedByte.itself}
use Rattle.reading_grammar.specs.Atoms.{EscapedSet}
use Rattle.reading_grammar.specs.Atoms.{EscapedSet.named, ByteAtom, ByteAtom.plain, ByteAtom.escaped, Dash, ClassItems}
use Rattle.reading_grammar.specs.Atoms.{ClassItems.nothing, ClassItems.single, ClassItems.several, ClassItems.range, Class}
use Rattle.reading_grammar.specs.Atoms.{Class.holding, Class.lacking}
use Rattle.reading_grammar.specs.Within.{atom_first}
use Rattle.reading_grammar.specs.ClassesComplete.{items_on}
use Rattle.reading_grammar.specs.Forms.{digits_on}

-- A byte that goes on with nothing that stands before it: `)`, `]` or none.
abbrev pub Quiet : ℕ → Type 0
Quiet x = (x ≡ close_paren) ⊎ ((x ≡ close_bracket) ⊎ (x ≡ no_byte))

module _ (s s' : List ℕ) where
  -- The same bytes before a place, and there the same, or a quiet one.
  pub record Alike (b : ℕ) : Type 0 where
    pub same : (i : ℕ) → i < b → byte_at s i ≡ byte_at s' i
    pub stop : (byte_at s b ≡ byte_at s' b) ⊎ Quiet (byte_at s' b)

  pub less : {b : ℕ} (c : ℕ) → Alike b → c ≤ b → Alike c
  less {b} c k l = record { same = λ i h. k.same i (omega arith); stop = go (dec_lt c b) }
    where
      go : Dec (c < b) → (byte_at s c ≡ byte_at s' c) ⊎ Quiet (byte_at s' c)
      go (yes h) = inl (k.same c h)
      go (no h) = let e : c ≡ b = omega arith in rw e k.stop

  -- A byte before the place, and what is asked of the byte there.
  pub is : {b : ℕ} (i c : ℕ) → Alike b → i < b → Is s i c → Is s' i c
  is i c k l h = sym (k.same i l) ∙ h

  pub is_not : {b : ℕ} (i c : ℕ) → Alike b → i < b → (Is s i c → ⊥) → Is s' i c → ⊥
  is_not i c k l h x = h (k.same i l ∙ x)

  pub ahead : (P : ℕ → Type 0) {b : ℕ} → Alike b → P (byte_at s b) → P close_paren → P close_bracket → P no_byte → P (byte_at s' b)
  ahead P {b} k h p q r = go k.stop
    where
      go : (byte_at s b ≡ byte_at s' b) ⊎ Quiet (byte_at s' b) → P (byte_at s' b)
      go (inl e) = subst P e h
      go (inr (inl e)) = subst P (sym e) p
      go (inr (inr (inl e))) = subst P (sym e) q
      go (inr (inr (inr e))) = subst P (sym e) r

  -- Counts and quantifiers.
  digits : {a b v : ℕ} → Digits s a b v → Alike b → Digits s' a b v
  digits (digit {a = a} h) k = let p : byte_at s a ≡ byte_at s' a = k.same a (omega arith) in rw p (Digits.digit (rw p at h))
  digits (more {b = b} t h) k =
      let p : byte_at s b ≡ byte_at s' b = k.same b (omega arith) in
      rw p (Digits.more (digits t (less b k (omega arith))) (rw p at h))

  counts : {a b n : ℕ} {e : Option ℕ} → Counts s a b n e → Alike b → Counts s' a b n e
  counts (exactly {a = a} {b = b} at t c top) k =
      let l : a + 1 < b = digits_on s t in
      Counts.exactly (is a 0x7B k (omega arith) at) (digits t (less b k (omega arith))) (is b 0x7D k (omega arith) c) top
  counts (least {a = a} {b = b} at t c d top) k =
      let l : a + 1 < b = digits_on s t in
      Counts.least (is a 0x7B k (omega arith) at) (digits t (less b k (omega arith))) (is b 0x2C k (omega arith) c)
      (is (b + 1) 0x7D k (omega arith) d) top
  counts (range {a = a} {b = b} {c = c} at t m u d le top) k =
      let l : a + 1 < b = digits_on s t in
      let l' : b + 1 < c = digits_on s u in
      Counts.range (is a 0x7B k (omega arith) at) (digits t (less b k (omega arith))) (is b 0x2C k (omega arith) m)
      (digits u (less c k (omega arith))) (is c 0x7D k (omega arith) d) le top

  times : {a b n : ℕ} {e : Option ℕ} → Times s a b n e → Alike b → Times s' a b n e
  times (any {a = a} at) k = Times.any (is a 0x2A k (omega arith) at)
  times (some_times {a = a} at) k = Times.some_times (is a 0x2B k (omega arith) at)
  times (maybe {a = a} at) k = Times.maybe (is a 0x3F k (omega arith) at)
  times (counted t) k = Times.counted (counts t k)

  pub quantified : {a b n : ℕ} {e : Option ℕ} {l : Bool} → Quantified s a b n e l → Alike b → Quantified s' a b n e l
  quantified (greedy t q) k =
      Quantified.greedy (times t k)
      (ahead (λ x. x ≡ question → ⊥) k q (λ x. omega arith) (λ x. omega arith) (λ x. omega arith))
  quantified (lazy {b = b} t q) k = Quantified.lazy (times t (less b k (omega arith))) (is b 0x3F k (omega arith) q)

  -- Escapes.
  pub escape : {inClass : Bool} {a e b : ℕ} → EscapedByte s inClass a e b → Alike e → EscapedByte s' inClass a e b
  unfolding is_digit
  escape (control {a = a} {c = c} at h t) k =
      EscapedByte.control (is a 0x5C k (omega arith) at) (is (a + 1) c k (omega arith) h) t
  escape (letter {a = a} {c = c} at h m t) k =
      EscapedByte.letter (is a 0x5C k (omega arith) at) (is (a + 1) 0x63 k (omega arith) h) (is (a + 2) c k (omega arith) m) t
  escape (hex {a = a} {c = c} {e = e} at h m t m' t') k =
      EscapedByte.hex (is a 0x5C k (omega arith) at) (is (a + 1) 0x78 k (omega arith) h) (is (a + 2) c k (omega arith) m) t
      (is (a + 3) e k (omega arith) m') t'
  escape (nul {a = a} at h t) k =
      EscapedByte.nul (is a 0x5C k (omega arith) at) (is (a + 1) 0x30 k (omega arith) h)
      (ahead (λ x. is_digit x ≡ false) k t refl refl refl)
  escape (backspace {a = a} at i h) k =
      EscapedByte.backspace (is a 0x5C k (omega arith) at) i (is (a + 1) 0x62 k (omega arith) h)
  escape (itself {a = a} {b = b} at h n w) k =
      EscapedByte.itself (is a 0x5C k (omega arith) at) (is (a + 1) b k (omega arith) h) n w

  pub set : {a m : ℕ} → EscapedSet s a m → Alike (a + 2) → EscapedSet s' a m
  set (named {a = a} {c = c} at h t) k = EscapedSet.named (is a 0x5C k (omega arith) at) (is (a + 1) c k (omega arith) h) t

  -- Classes.
  pub atom : {a e v : ℕ} → ByteAtom s a e v → Alike e → ByteAtom s' a e v
  atom (plain {a = a} {b = b} h n m c) k = ByteAtom.plain (is a b k (omega arith) h) n m c
  atom (escaped t) k = ByteAtom.escaped (escape t k)

  -- A `-` that makes no range makes none before a `]`.
  pub dash_kept : {b : ℕ} → Alike b → Is s' b close_bracket → (c : ℕ) → c ≤ b → (Dash s c → ⊥) → Dash s' c → ⊥
  dash_kept {b} k e c l n (h, m, o) = go (dec_lt c b) (dec_lt (c + 1) b)
    where
      go : Dec (c < b) → Dec (c + 1 < b) → ⊥
      go (yes x) (yes y) = n (k.same c x ∙ h, is_back close_bracket m, is_back no_byte o)
        where
          is_back : (v : ℕ) → (Is s' (c + 1) v → ⊥) → Is s (c + 1) v → ⊥
          is_back v f z = f (sym (k.same (c + 1) y) ∙ z)
      go (yes x) (no y) = let p : c + 1 ≡ b = omega arith in m (ap (byte_at s') p ∙ e)
      go (no x) y =
          let p : c ≡ b = omega arith in
          let z : ◌≡◌ {A = ℕ} hyphen close_bracket = sym h ∙ ap (byte_at s') p ∙ e in
          omega arith

  pub items : {b : ℕ} → Alike b → ((c : ℕ) → c ≤ b → (Dash s c → ⊥) → Dash s' c → ⊥)
      → {a c : ℕ} {held : List ℕ} → ClassItems s a c held → c ≤ b → ClassItems s' a c held
  items k f nothing l = ClassItems.nothing
  items k f (single {b = b} {c = c} t x d) l =
      let on : b < c = (atom_first s x).2 in
      ClassItems.single (items k f t (omega arith)) (atom x (less c k l)) (f c l d)
  items k f (several {b = b} t x d) l =
      ClassItems.several (items k f t (omega arith)) (set x (less (b + 2) k l)) (f (b + 2) l d)
  items k f (range {b = b} {c = c} {e = e} t x i y le) l =
      let on : b < c = (atom_first s x).2 in
      let on' : c + 1 < e = (atom_first s y).2 in
      ClassItems.range (items k f t (omega arith)) (atom x (less c k (omega arith))) (is c 0x2D k (omega arith) i)
      (atom y (less e k l)) le

  pub class : {a e : ℕ} {held : List ℕ} → Class s a e held → Alike e → Class s' a e held
  class (holding {a = a} {b = b} at n t c) k =
      let on : a + 1 ≤ b = items_on s t in
      let k' : Alike b = less b k (omega arith) in
      let c' : Is s' b close_bracket = is b 0x5D k (omega arith) c in
      Class.holding (is a 0x5B k (omega arith) at) (is_not (a + 1) caret k (omega arith) n)
      (items k' (dash_kept k' c') t (omega arith)) c'
  class (lacking {a = a} {b = b} at n t c) k =
      let on : a + 2 ≤ b = items_on s t in
      let k' : Alike b = less b k (omega arith) in
      let c' : Is s' b close_bracket = is b 0x5D k (omega arith) c in
      Class.lacking (is a 0x5B k (omega arith) at) (is (a + 1) caret k (omega arith) n)
      (items k' (dash_kept k' c') t (omega arith)) c'
