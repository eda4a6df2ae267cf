-- Alike patterns are alike wherever they stand, and the standard's algorithm answers the same on them.
use Rattle.std.specs.Prelude.{◌≡◌, Bool}
use Rattle.std.proofs.Common.{sym, ◌∙◌, arith}
use Rattle.std.proofs.Math.Path.{ap₂}
use Rattle.std.proofs.Math.Option.{Option}
use Prim.Native.Nat.{ℕ, zero, suc, ◌+◌, ◌-◌, ◌≤◌}
use Rattle.meaning.specs.Text.{Input, State, size}
use Rattle.meaning.specs.Node.{Node, Node.group, Node.seq, Node.alt, Node.many}
use Rattle.meaning.specs.Results.{or_else}
use Rattle.meaning.specs.Numbering.{Numbers, numbered}
use Rattle.meaning.specs.Standard.{matcher, initial, match_at, exec, search_from}
use Rattle.meaning.proofs.Agrees.{standard}
use Rattle.tidying_laws.specs.Groups.{renumber}
use Rattle.tidying_laws.specs.Void.{Fair}
use Rattle.tidying_laws.specs.Alike.{Alike, alike_refl, alike_group, alike_seq, alike_alt, alike_many}

-- What stands around a place in a pattern: a group, an item after or before it, an alternative below or above it, a quantifier.
pub data Around : Type 0 where
  here : Around
  in_group : ℕ → Around → Around
  before : Around → Node → Around
  after : Node → Around → Around
  above : Around → Node → Around
  below : Node → Around → Around
  in_many : ℕ → Option ℕ → Bool → Around → Around

-- The whole, with a pattern at the place.
unfoldable pub fill : Around → Node → Node
fill here r = r
fill (in_group k a) r = group k (fill a r)
fill (before a q) r = seq (fill a r) q
fill (after q a) r = seq q (fill a r)
fill (above a q) r = alt (fill a r) q
fill (below q a) r = alt q (fill a r)
fill (in_many n e lazy a) r = many n e lazy (fill a r)

-- Alike patterns are alike inside any surrounding pattern.
pub anywhere : (a : Around) {r q : Node} → Alike r q → Alike (fill a r) (fill a q)
unfolding fill
anywhere here h = h
anywhere (in_group k a) h = alike_group k (anywhere a h)
anywhere (before a q) h = alike_seq (anywhere a h) (alike_refl q)
anywhere (after q a) h = alike_seq (alike_refl q) (anywhere a h)
anywhere (above a q) h = alike_alt (anywhere a h) (alike_refl q)
anywhere (below q a) h = alike_alt (alike_refl q) (anywhere a h)
anywhere (in_many n e lazy a) h = alike_many n e lazy (anywhere a h)

module _ {r q : Node} (h : Alike r q) (n : ℕ) (hr : Numbers 1 r n) (w : Input) (fair : Fair w) where
  -- The standard's matcher gives the same answer on alike patterns, whatever comes after.
  pub same_matcher : {B : Type 0} (c : State → Option B) (x : State) → x.pos ≤ size w → matcher w r x c ≡ matcher w q x c
  same_matcher {B} c x hx =
      standard w r (numbered r 1 n (omega arith) hr) x c hx ∙ h.like.order w fair B c x hx
      ∙ sym (standard w q (numbered q 1 n (omega arith) (renumber r q 1 n h.numbers hr)) x c hx)

  module _ (g : ℕ) where
    -- So alike patterns match the same at a start, with every group,
    pub same_match : (i : ℕ) → i ≤ size w → match_at w g r i ≡ match_at w g q i
    unfolding match_at
    same_match i hi = same_matcher _ (initial g i) hi

    -- and are found the same by a search from there.
    pub same_search : (i : ℕ) → i ≤ size w → search_from w g r i ≡ search_from w g q i
    unfolding search_from
    same_search i hi = go (size w - i) i (omega arith)
      where
        go : (n i : ℕ) → i + n ≤ size w → exec w g r n i ≡ exec w g q n i
        go zero i e = same_match i (omega arith)
        go (suc n) i e = ap₂ or_else (same_match i (omega arith)) (go n (suc i) (omega arith))
