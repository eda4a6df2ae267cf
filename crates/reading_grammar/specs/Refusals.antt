-- When a pattern is turned away, in the table's own words: for each number, when it holds at a place, given that the bytes
-- before the place begin some pattern (`refuses_begins` shows that they do). Definitions only.
use Rattle.std.specs.Prelude.{◌≡◌, ◌⊎◌, Bool, true, false, List, [], ◌∷◌, ◌++◌, ℕ, zero, suc, ◌+◌, ◌≤◌, ◌<◌, length, take, get_or}
use Rattle.std.proofs.Math.Option.{Option, none, some}
use Rattle.sets.specs.Sets.{is_digit}
use Rattle.meaning.specs.Refusals as No
use Rattle.meaning.specs.Limits.{pattern_limit, table_words, count_limit, depth_limit, group_limit}
use Rattle.meaning.specs.Node.{Node}
use Rattle.reading_atoms.specs.Chars.{byte_at, caret, backslash, question, open_paren, close_paren, open_bracket, close_bracket}
use Rattle.reading_atoms.specs.Chars.{open_brace}
use Rattle.reading_atoms.specs.Chars.{close_brace, bar, colon, comma, is_quantifier}
use Rattle.reading_items.specs.Reading.{is_look}
use Rattle.reading_grammar.specs.Atoms.{Is, Digits, EscapedByte, EscapedSet, ByteAtom, Dash, ClassItems}
use Rattle.reading_grammar.specs.Grammar.{Sort, Rule}

-- The bytes before a place begin some pattern: with others behind them they derive.
abbrev pub BeginsPattern : List ℕ → ℕ → Type 0
BeginsPattern s a = (more : List ℕ) × (g : ℕ) × (l : List Node)
    × Rule (take a s ++ more) Sort.alternatives depth_limit 0 (length (take a s ++ more)) 0 g l

-- An item is due at a place: the bytes before it are items, bars and openings, with d parentheses still allowed and g groups so
-- far.
pub data Due (s : List ℕ) : ℕ → ℕ → ℕ → Type 0 where
  start : Due s depth_limit 0 0
  behind : {d a b g h : ℕ} {r : Node} → Due s d a g → Rule s Sort.item d a b g h (r ∷ []) → Due s d b h
  bars : {d a g : ℕ} → Due s d a g → Is s a bar → Due s d (a + 1) g
  grouped : {d a g : ℕ} → Due s (suc d) a g → Is s a open_paren → (Is s (a + 1) question → ⊥) → g < group_limit
      → Due s d (a + 1) (g + 1)
  plain : {d a g : ℕ} → Due s (suc d) a g → Is s a open_paren → Is s (a + 1) question → Is s (a + 2) colon → Due s d (a + 3) g

-- Where the first atom of a class is due, and where an atom is due behind others.
pub data ClassOpens (s : List ℕ) : ℕ → ℕ → Type 0 where
  holding : {a : ℕ} → Is s a open_bracket → (Is s (a + 1) caret → ⊥) → ClassOpens s a (a + 1)
  lacking : {a : ℕ} → Is s a open_bracket → Is s (a + 1) caret → ClassOpens s a (a + 2)

pub record ClassDue (s : List ℕ) (a : ℕ) : Type 0 where
  pub d : ℕ
  pub g : ℕ
  pub opening : ℕ
  pub first : ℕ
  pub set : List ℕ
  pub due : Due s d opening g
  pub opens : ClassOpens s opening first
  pub items : ClassItems s first a set

-- A place inside a `(` that is not closed yet: where an item is due, or an atom of a class.
pub data Inside (s : List ℕ) : ℕ → Type 0 where
  item : {d a g : ℕ} → Due s d a g → d < depth_limit → Inside s a
  class : {a : ℕ} (t : ClassDue s a) → t.d < depth_limit → Inside s a

-- An end of a range: a byte, or a set (none).
pub data End (s : List ℕ) : ℕ → ℕ → Option ℕ → Type 0 where
  byte : {a b v : ℕ} → ByteAtom s a b v → End s a b (some v)
  set : {a k : ℕ} → EscapedSet s a k → End s a (a + 2) none

-- A range that is reversed, or with a set as an end.
pub data BadRange : Option ℕ → Option ℕ → Type 0 where
  reversed : {u v : ℕ} → v < u → BadRange (some u) (some v)
  left : {y : Option ℕ} → BadRange none y
  right : {x : Option ℕ} → BadRange x none

-- Escapes that are listed; escapes of 5: `\u` anywhere, and outside a class `\1` to `\9` and `\k`.
pub data Listed (s : List ℕ) (inClass : Bool) (a : ℕ) : Type 0 where
  byte : {b e : ℕ} → EscapedByte s inClass a e b → Listed s inClass a
  set : {k : ℕ} → EscapedSet s a k → Listed s inClass a
  edge : inClass ≡ false → Is s (a + 1) 0x62 → Listed s inClass a
  inner : inClass ≡ false → Is s (a + 1) 0x42 → Listed s inClass a

pub data LeftOut (s : List ℕ) (inClass : Bool) (a : ℕ) : Type 0 where
  unicode : Is s (a + 1) 0x75 → LeftOut s inClass a
  number : inClass ≡ false → is_digit (byte_at s (a + 1)) ≡ true → (Is s (a + 1) 0x30 → ⊥) → LeftOut s inClass a
  name : inClass ≡ false → Is s (a + 1) 0x6B → LeftOut s inClass a

pub data WrongEscape (s : List ℕ) (inClass : Bool) (a : ℕ) : ℕ → Type 0 where
  unknown : Is s a backslash → (Listed s inClass a → ⊥) → (LeftOut s inClass a → ⊥) → WrongEscape s inClass a No.bad_escape
  left_out : Is s a backslash → LeftOut s inClass a → WrongEscape s inClass a No.left_out

-- One of the three forms, up to the place behind it, whatever its counts.
pub data Form (s : List ℕ) : ℕ → ℕ → ℕ → Option ℕ → Type 0 where
  exactly : {a b n : ℕ} → Is s a open_brace → Digits s (a + 1) b n → Is s b close_brace → Form s a (b + 1) n (some n)
  least : {a b n : ℕ} → Is s a open_brace → Digits s (a + 1) b n → Is s b comma → Is s (b + 1) close_brace
      → Form s a (b + 2) n none
  range : {a b c n m : ℕ} → Is s a open_brace → Digits s (a + 1) b n → Is s b comma → Digits s (b + 1) c m → Is s c close_brace
      → Form s a (c + 1) n (some m)

-- A count above the limit.
pub data Above : ℕ → Option ℕ → Type 0 where
  least : {n : ℕ} {m : Option ℕ} → count_limit < n → Above n m
  most : {n m : ℕ} → count_limit < m → Above n (some m)

-- An atom stands before a place.
pub record AtomBefore (s : List ℕ) (b : ℕ) : Type 0 where
  pub d : ℕ
  pub a : ℕ
  pub g : ℕ
  pub h : ℕ
  pub r : Node
  pub due : Due s d a g
  pub before : Rule s Sort.atom d a b g h (r ∷ [])

-- The checks 1 to 3, by number and place: over 2,048 bytes; a table under 32(p+1) words; the first byte above 7F.
pub data Checks (s : List ℕ) (table : ℕ) : ℕ → ℕ → Type 0 where
  long : pattern_limit < length s → Checks s table No.long_pattern 0
  small : table < table_words (length s) → Checks s table No.small_table 0
  high : {a : ℕ} → a < length s → 0x7F < get_or s a 0 → ((i : ℕ) → i < a → get_or s i 0 ≤ 0x7F) → Checks s table No.high_byte a

-- The refusals 4 to 14, by number and place. More than one may hold, at one place (`same_place`).
pub data Refuses (s : List ℕ) : ℕ → ℕ → Type 0 where
  -- 4 and 5: an escape outside a class, inside one, and as the end of a range; a lookaround or a named group.
  escape : {d a g n : ℕ} → Due s d a g → WrongEscape s false a n → Refuses s n a
  class_escape : {a n : ℕ} → ClassDue s a → WrongEscape s true a n → Refuses s n a
  range_escape : {a b n : ℕ} {x : Option ℕ} → ClassDue s a → End s a b x → Dash s b → WrongEscape s true (b + 1) n
      → Refuses s n (b + 1)
  look : {d a g : ℕ} → Due s d a g → Is s a open_paren → Is s (a + 1) question → is_look (byte_at s (a + 2)) ≡ true
      → Refuses s No.left_out a
  -- 6: a quantifier with no atom to repeat, and a ? after ( .
  nothing : {d a g : ℕ} → Due s d a g → is_quantifier (byte_at s a) ≡ true → Refuses s No.no_atom a
  odd_group : {d a g : ℕ} → Due s (suc d) a g → Is s a open_paren → Is s (a + 1) question → (Is s (a + 2) colon → ⊥)
      → is_look (byte_at s (a + 2)) ≡ false → Refuses s No.no_atom (a + 1)
  -- 7, 8 and 9: counts.
  no_form : {b : ℕ} → AtomBefore s b → Is s b open_brace → ((e n : ℕ) (m : Option ℕ) → Form s b e n m → ⊥)
      → Refuses s No.bad_braces b
  above : {b e n : ℕ} {m : Option ℕ} → AtomBefore s b → Form s b e n m → Above n m → Refuses s No.high_count b
  disordered : {b e n m : ℕ} → AtomBefore s b → Form s b e n (some m) → m < n → Refuses s No.reversed_counts b
  -- 10: a range reversed or with a set as an end; a class unclosed.
  bad_range : {a b e : ℕ} {x y : Option ℕ} → ClassDue s a → End s a b x → Dash s b → End s (b + 1) e y → BadRange x y
      → Refuses s No.bad_class a
  unclosed_class : {a : ℕ} → ClassDue s a → a ≡ length s → Refuses s No.bad_class a
  -- 11: ) unmatched, ( unclosed.
  unmatched : {a g : ℕ} → Due s depth_limit a g → Is s a close_paren → Refuses s No.unmatched a
  unclosed : {a : ℕ} → Inside s a → a ≡ length s → Refuses s No.unmatched a
  -- 12: a stray ] or }.
  stray : {d a g : ℕ} → Due s d a g → Is s a close_bracket ⊎ Is s a close_brace → Refuses s No.stray a
  -- 13: parentheses deeper than 32. 14: a 32nd group.
  deep : {a g : ℕ} → Due s zero a g → Is s a open_paren → Refuses s No.too_deep a
  full : {d a g : ℕ} → Due s d a g → Is s a open_paren → (Is s (a + 1) question → ⊥) → group_limit ≤ g → Refuses s No.many_groups a

-- The smallest place wins, then the smaller number.
abbrev pub Before : ℕ → ℕ → ℕ → ℕ → Type 0
Before n p m q = (p < q) ⊎ ((p ≡ q) × (n ≤ m))

-- When a pattern is turned away: checks 1 to 3 come first, in order; then the refusal at the smallest place, and of those there
-- the one with the smallest number.
pub data TurnedAway (s : List ℕ) (table : ℕ) (n p : ℕ) : Type 0 where
  checked : Checks s table n p → ((m q : ℕ) → Checks s table m q → n ≤ m) → TurnedAway s table n p
  read : ((m q : ℕ) → Checks s table m q → ⊥) → Refuses s n p → ((m q : ℕ) → Refuses s m q → Before n p m q)
      → TurnedAway s table n p
