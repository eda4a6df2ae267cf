-- Where an item is due the reader comes: so what it refuses there it refuses of the whole pattern.
use Rattle.std.specs.Prelude.{◌≡◌, refl, false, length}
use mathlib.Core.List.{List, [], ◌++◌}
use Prim.Native.Nat.{ℕ, zero, suc, ◌+◌, ◌≤◌, ◌<◌}
use Rattle.std.proofs.Common.{arith}
use borrow.Author.Tests.{ne_eqb, lt-leb, lt-ltb}
use Rattle.meaning.specs.Limits.{depth_limit, group_limit}
use Rattle.meaning.specs.Node.{Node, Node.group}
use Rattle.meaning.specs.Flat.{Kind, parts, join}
use Rattle.meaning.specs.Refusals as No
use Rattle.reading_atoms.specs.Chars.{byte_at, question, open_paren, close_paren, bar, colon, ends_sequence}
use Rattle.reading_items.specs.Reading.{Part, Part.part, Part.turned, and_then, closed, opening_at, item_by, sequence_go}
use Rattle.reading_items.specs.Reading.{alternatives_go}
use Rattle.reading_items.specs.Reading.{item_at, alternatives_at, Reading.refused, whole}
use Rattle.reading_grammar.specs.Atoms.{Is}
use Rattle.reading_grammar.specs.Begins.{rule_begins}
use Rattle.reading_grammar.specs.Forwards.{item_on}
use Rattle.reading_grammar.specs.Within.{known, due_within, due_deep, rule_within}
use Rattle.reading_grammar.proofs.AllReads.{goes, item_read}
use Rattle.reading_grammar.specs.Refusals.{Due, Due.start, Due.behind, Due.bars, Due.grouped, Due.plain}

module _ (s : List ℕ) where
  -- The rest of the reader's work at a depth, behind the items of a sequence and the alternatives before it.
  abbrev pub rest : ℕ → ℕ → ℕ → List Node → List Node → ℕ → ℕ → Part
  rest d fuel left alternatives items a g =
      and_then (sequence_go s (item_at d s) fuel items a g) (λ r b h. goes s d left (alternatives ++ parts Kind.alternation r) b h)

  -- What the alternatives at a depth come to where they are refused: by themselves; unclosed; or unmatched at the outermost.
  pub data Fails (d number place : ℕ) : Part → Type 0 where
    turns : Fails d number place (turned number place)
    unclosed : {r : Node} {h : ℕ} → number ≡ No.unmatched → d < depth_limit → (Is s place close_paren → ⊥)
        → Fails d number place (part r place h)
    unmatched : {r : Node} {h : ℕ} → number ≡ No.unmatched → d ≡ depth_limit → place < length s
        → Fails d number place (part r place h)

  -- Then the whole is refused so, or the item around them.
  whole_fails : {number place : ℕ} {p : Part} → Fails depth_limit number place p → whole s p ≡ refused number place
  whole_fails turns = refl
  whole_fails (unclosed e l n) = absurd (omega arith)
  whole_fails {place = place} (unmatched e d l) = rw (lt-ltb place (length s) l, e)

  around_fails : {d number place : ℕ} {p : Part} → d < depth_limit → (f : Node → Node) → Fails d number place p
      → and_then p (λ r b h. closed s (f r) b h) ≡ turned number place
  around_fails l f turns = refl
  around_fails {place = place} l f (unclosed e k n) = rw (ne_eqb (byte_at s place) close_paren n, e)
  around_fails l f (unmatched e k n) = absurd (omega arith)

  -- Whatever was read before a place, the alternatives that are read on from it fail.
  abbrev pub FailsAt : ℕ → ℕ → ℕ → ℕ → ℕ → Type 0
  FailsAt d a g number place = (fuel left : ℕ) (m l : List Node) → length s < a + fuel → length s ≤ a + left
      → Fails d number place (rest d fuel left m l a g)

  -- An item that is refused.
  pub item_fails : (d a g number place : ℕ) → a ≤ length s → ends_sequence (byte_at s a) ≡ false
      → item_at d s a g ≡ turned number place → FailsAt d a g number place
  unfolding sequence_go
  item_fails d a g number place w e p zero left m l k k' = absurd (omega arith)
  item_fails d a g number place w e p (suc fuel) left m l k k' = rw (e, p) turns

  -- An item that is read, with what is refused behind it.
  behind_fails : (d a g b h number place : ℕ) (r : Node) → a ≤ length s → a < b → ends_sequence (byte_at s a) ≡ false
      → item_at d s a g ≡ part r b h → FailsAt d b h number place → FailsAt d a g number place
  unfolding sequence_go
  behind_fails d a g b h number place r w on e p f zero left m l k k' = absurd (omega arith)
  behind_fails d a g b h number place r w on e p f (suc fuel) left m l k k' =
      rw (e, p) (f fuel left m (l ++ parts Kind.sequence r) (omega arith) (omega arith))

  -- A bar, with what is refused behind it.
  bar_fails : (d a g number place : ℕ) → Is s a bar → FailsAt d (a + 1) g number place → FailsAt d a g number place
  unfolding sequence_go alternatives_go
  bar_fails d a g number place c f zero left m l k k' = absurd (omega (arith, known s a bar c (λ x. omega arith)))
  bar_fails d a g number place c f (suc fuel) zero m l k k' = absurd (omega (arith, known s a bar c (λ x. omega arith)))
  bar_fails d a g number place c f (suc fuel) (suc left) m l k k' =
      rw (c, c) (f (suc (length s)) left (m ++ parts Kind.alternation (join Kind.sequence l)) [] (omega arith) (omega arith))

  -- What a `(` opens, with what is refused inside it.
  inside_fails : (d a g number place : ℕ) → FailsAt d a g number place → Fails d number place (alternatives_at d s a g)
  unfolding alternatives_go
  inside_fails d a g number place f = f (suc (length s)) (length s) [] [] (omega arith) (omega arith)

  group_fails : (d a g number place : ℕ) → d < depth_limit → Is s a open_paren → (Is s (a + 1) question → ⊥) → g < group_limit
      → Fails d number place (alternatives_at d s (a + 1) (g + 1)) → item_at (suc d) s a g ≡ turned number place
  unfolding item_at item_by opening_at
  group_fails d a g number place l at n k f =
      rw (at, ne_eqb (byte_at s (a + 1)) question n, lt-leb group_limit g k)
      (around_fails l (group (g + 1)) f)

  plain_fails : (d a g number place : ℕ) → d < depth_limit → Is s a open_paren → Is s (a + 1) question → Is s (a + 2) colon
      → Fails d number place (alternatives_at d s (a + 3) g) → item_at (suc d) s a g ≡ turned number place
  unfolding item_at item_by opening_at
  plain_fails d a g number place l at q k f =
      rw (at, q, k) (around_fails l (λ r. r) f)

  paren_more : (a : ℕ) → Is s a open_paren → ends_sequence (byte_at s a) ≡ false
  paren_more a at = rw at

  -- What is refused where an item is due is refused of the whole.
  pub reached : {d a g : ℕ} → Due s d a g → (number place : ℕ) → FailsAt d a g number place
      → whole s (alternatives_at depth_limit s 0 0) ≡ refused number place
  reached start number place f = whole_fails (inside_fails depth_limit 0 0 number place f)
  reached (behind {d = d} {a = a} {b = b} {g = g} {h = h} {r = r} u t) number place f =
      let w : a ≤ length s = due_within s u in
      reached u number place
      (behind_fails d a g b h number place r w (item_on s t) (rule_begins s t) (item_read s t (rule_within s t w)) f)
  reached (bars {d = d} {a = a} {g = g} u c) number place f = reached u number place (bar_fails d a g number place c f)
  reached (grouped {d = d} {a = a} {g = g} u at n k) number place f =
      reached u number place (item_fails (suc d) a g number place (due_within s u) (paren_more a at)
      (group_fails d a g number place (due_deep u) at n k (inside_fails d (a + 1) (g + 1) number place f)))
  reached (plain {d = d} {a = a} {g = g} u at q k) number place f =
      reached u number place (item_fails (suc d) a g number place (due_within s u) (paren_more a at)
      (plain_fails d a g number place (due_deep u) at q k (inside_fails d (a + 3) g number place f)))
