-- Sound: what is read derives, and what is refused is so by the table's words.
use Rattle.std.specs.Prelude.{◌≡◌, refl, ◌⊎◌, Bool, true, false, List, ℕ, ◌≤◌, ◌<◌, eqb, ltb, length, get_or}
use Rattle.std.proofs.Common.{subst, inl, inr, arith, eqb-true, ltb-true, ltb-false}
use Rattle.meaning.specs.Limits.{pattern_limit, depth_limit}
use Rattle.meaning.specs.Tests.{by_test}
use Rattle.meaning.specs.Refusals as No
use Rattle.reading_atoms.specs.Chars.{byte_at, close_paren}
use Rattle.reading_items.specs.Reading.{Part, Part.part, Part.turned, alternatives_at, Reading, Reading.pattern, Reading.refused}
use Rattle.reading_items.specs.Reading.{whole}
use Rattle.reading_items.specs.Reading.{reading}
use Rattle.reading_grammar.specs.Within.{due_within}
use Rattle.reading_grammar.proofs.ItemsSound.{Told, All, open_end, all_sound}
use Rattle.reading_grammar.specs.Checked.{Checking, checked}
use Rattle.reading_grammar.specs.Refusals.{Checks, Refuses}
use Rattle.reading_grammar.specs.Grammar.{Sort, Rule, Derives}

-- What is said of a whole pattern.
module _ (s : List ℕ) where
  abbrev pub Judged : Reading → Type 0
  Judged (pattern r g) = Derives s r g
  Judged (refused number place) = Refuses s number place

  whole_sound : length s ≤ pattern_limit → (low : (i : ℕ) → i < length s → get_or s i 0 ≤ 0x7F) (p : Part)
      → Told s low (All s low depth_limit 0 0) p
      → Judged (whole s p)
  whole_sound short low (part r b h) t = by_test Judged (ltb b (length s)) (λ e. left_over (ltb-true b (length s) e))
      (λ e. made (ltb-false b (length s) e))
    where
      all : All s low depth_limit 0 0 r b h
      all = t

      left_over : b < length s → Refuses s No.unmatched b
      left_over l = go (eqb (byte_at s b) close_paren) refl
        where
          go : (x : Bool) → eqb (byte_at s b) close_paren ≡ x → Refuses s No.unmatched b
          go true e = Refuses.unmatched all.due (eqb-true (byte_at s b) close_paren e)
          go false e = absurd (omega (arith, open_end s low all e))

      made : length s ≤ b → Derives s r h
      made l =
          let w : b ≡ length s = omega (arith, due_within s all.due) in
          record {
            short = short;
            low = low;
            list = all.list;
            derivation = subst
                (λ (x : ℕ). Rule s Sort.alternatives depth_limit 0 x 0 h all.list) w all.rule;
            tree = all.same;
          }
  whole_sound short low (turned number place) t = t

  pub read_sound : length s ≤ pattern_limit → ((i : ℕ) → i < length s → get_or s i 0 ≤ 0x7F)
      → Judged (whole s (alternatives_at depth_limit s 0 0))
  read_sound short low = whole_sound short low (alternatives_at depth_limit s 0 0) (all_sound s low)

  -- Sound: what is read derives, and what is refused is one of the checks or holds by its definition, at its place.
  abbrev pub Sound : ℕ → Reading → Type 0
  Sound table (pattern r g) = Derives s r g
  Sound table (refused number place) = Checks s table number place ⊎ Refuses s number place

  pub sound : (table : ℕ) → Sound table (reading s table)
  sound table = go (checked s table)
    where
      either_way : (x : Reading) → Judged x → Sound table x
      either_way (pattern r g) h = h
      either_way (refused number place) h = inr h

      go : Checking s table (reading s table) → Sound table (reading s table)
      go (inl (n, p, h, e)) = rw e (inl h.check)
      go (inr (h, e)) = rw e (either_way (whole s (alternatives_at depth_limit s 0 0)) (read_sound h.short h.low))
