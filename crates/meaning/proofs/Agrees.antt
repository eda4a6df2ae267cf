-- Theorem S: the standard's matcher finds the first success over the order of results.
use Rattle.std.specs.Prelude.{◌≡◌, refl, Bool, false, cond, List, eqb}
use Rattle.std.proofs.Math.Path.{sym}
use Rattle.std.proofs.Common.{ap, ◌∙◌, zero-add, suc-add, arith}
use Rattle.std.proofs.Math.Option.{Option, none, some, map}
use Prim.Native.Nat.{ℕ, zero, suc, ◌+◌, ◌-◌, ◌≤◌, ◌<◌}
use Rattle.std.proofs.Math.Decide.{dec_lt}
use Rattle.meaning.specs.Tests.{ahead, here, eq_true, eq_false}
use Rattle.meaning.specs.Text.{Input, State, size}
use Rattle.meaning.specs.Node.{Node, Node.empty, Node.bset, Node.assert, Node.group, Node.seq, Node.alt, Node.many}
use Rattle.meaning.specs.Results.{or_else, or_else_none, first_some, choose, later, leave, fresh, forced, turns}
use Rattle.meaning.specs.Results.{limit, results}
use Rattle.meaning.specs.Results.{first_append, first_concat_map, first_cond, first_stop, first_turns}
use Rattle.meaning.specs.Reach.{Reach, reach, enough, body_reach, first_cong}
use Rattle.meaning.specs.Numbering.{Numbered, spares}
use Rattle.meaning.specs.Standard.{no_more, less, most, capture, repeat_matcher, matcher}

module _ {B : Type 0} where
  module _ (w : Input) (r : Node) (lazy : Bool) (m : State → (State → Option B) → Option B)
      (hm : (x : State) (c : State → Option B) → x.pos ≤ size w → m x c ≡ first_some c (results w r x)) where
    -- One turn of the body.
    abbrev body : State → List State
    body y = results w r (fresh r y)

    -- The standard's test of progress is ours, for the states that the body can reach.
    progress : (x : State) → x.pos ≤ size w → (a d : State → Option B)
        → ((y : State) → x.pos < y.pos → y.pos ≤ size w → a y ≡ d y)
        → m (fresh r x) (λ y. cond (eqb y.pos x.pos) none (a y)) ≡ first_some (λ y. cond (later x y) (d y) none) (body x)
    progress x hx a d h = hm (fresh r x) (λ y. cond (eqb y.pos x.pos) none (a y)) hx
        ∙ first_cong (Reach w x) _ _ (body x) (body_reach w r (reach w r) x hx) (λ y g. agree y g (dec_lt x.pos y.pos))
      where
        agree : (y : State) → Reach w x y → Dec (x.pos < y.pos)
            → cond (eqb y.pos x.pos) none (a y) ≡ cond (later x y) (d y) none
        agree y g (yes l) = rw (ahead false x.pos y.pos l, eq_false y.pos x.pos (λ e. omega arith)) (h y l g.stop)
        agree y g (no l) = rw (here false x.pos y.pos (omega arith), eq_true y.pos x.pos (omega (arith, g.start)))

    bounded : (f k : ℕ) (x : State) (c : State → Option B) → size w < x.pos + f → x.pos ≤ size w
        → repeat_matcher f m (fresh r) 0 (some k) lazy x c ≡ first_some c (turns lazy body k x)
    unfolding repeat_matcher
    bounded zero k x c hf hx = absurd (omega arith)
    bounded (suc f) zero x c hf hx = sym (first_stop c lazy body x)
    bounded (suc f) (suc k) x c hf hx =
        rw (first_turns c lazy body k x) (ap (λ o. choose or_else lazy o (c x))
        (progress x hx (λ y. repeat_matcher f m (fresh r) 0 (some k) lazy y c) (λ y. first_some c (turns lazy body k y))
        (λ y l hy. bounded f k y c (omega arith) hy)))

    unbounded : (f n : ℕ) (x : State) (c : State → Option B) → size w < x.pos + f → size w ≤ x.pos + n → x.pos ≤ size w
        → repeat_matcher f m (fresh r) 0 none lazy x c ≡ first_some c (turns lazy body n x)
    unfolding repeat_matcher
    unbounded zero n x c hf hn hx = absurd (omega arith)
    unbounded (suc f) n x c hf hn hx =
        rw (enough w lazy body (body_reach w r (reach w r)) n (suc n) x hx hn (omega arith), first_turns c lazy body n x)
        (ap (λ o. choose or_else lazy o (c x))
        (progress x hx (λ y. repeat_matcher f m (fresh r) 0 none lazy y c) (λ y. first_some c (turns lazy body n y))
        (λ y l hy. unbounded f n y c (omega arith) (omega arith) hy)))

    -- The turns that must be made, and then those that may.
    optional : (f : ℕ) (e : Option ℕ) (x : State) (c : State → Option B) → size w < x.pos + f → x.pos ≤ size w
        → repeat_matcher f m (fresh r) 0 (most 0 e) lazy x c ≡ first_some c (turns lazy body (limit w e x.pos) x)
    optional f none x c hf hx = unbounded f (size w - x.pos) x c hf (omega arith) hx
    optional f (some k) x c hf hx = rw zero-add (bounded f k x c hf hx)

    more : (n : ℕ) (e : Option ℕ) → (no_more (most (suc n) e) ≡ false) × (map less (most (suc n) e) ≡ most n e)
    more n none = (refl, refl)
    more n (some k) = rw suc-add (refl, refl)

    repeats : (n f : ℕ) (e : Option ℕ) (x : State) (c : State → Option B) → n + size w < x.pos + f → x.pos ≤ size w
        → repeat_matcher f m (fresh r) n (most n e) lazy x c ≡ first_some c
        (forced body n (λ y. turns lazy body (limit w e y.pos) y) x)
    unfolding repeat_matcher forced
    repeats zero f e x c hf hx = optional f e x c (omega arith) hx
    repeats (suc n) zero e x c hf hx = absurd (omega arith)
    repeats (suc n) (suc f) e x c hf hx =
        rw (
          (more n e).0,
          (more n e).1,
          first_concat_map,
          hm (fresh r x)
              (λ y. repeat_matcher f m (fresh r) n (most n e) lazy y c) hx,
        )
        (first_cong (Reach w x) _ _ (body x) (body_reach w r (reach w r) x hx)
        (λ y g. repeats n f e y c (omega (arith, g.start)) g.stop))

  -- Theorem S.
  pub standard : (w : Input) (r : Node) → Numbered r
      → (x : State) (c : State → Option B) → x.pos ≤ size w → matcher w r x c ≡ first_some c (results w r x)
  unfolding matcher results
  standard w empty h x c hx = sym (or_else_none (c x))
  standard w (bset s) h x c hx = simp (first_cond, or_else_none)
  standard w (assert a) h x c hx = simp (first_cond, or_else_none)
  standard w (group k r) h x c hx =
      simp (first_concat_map, or_else_none) (standard w r h.1 x (λ y. c (capture k x.pos y)) hx
      ∙ sym (spares w k x.pos B r h.0 (λ y. c (leave k y)) x))
  standard w (seq r s) h x c hx =
      rw first_concat_map (standard w r h.0 x (λ y. matcher w s y c) hx
      ∙ first_cong (Reach w x) _ _ (results w r x) (reach w r x hx) (λ y g. standard w s h.1 y c g.stop))
  standard w (alt r s) h x c hx = rw (first_append, standard w r h.0 x c hx, standard w s h.1 x c hx)
  standard w (many n e lazy r) h x c hx = repeats w r lazy (matcher w r) (standard w r h) n (suc (n + (size w - x.pos))) e x c
      (omega arith) hx

  -- The number that bounds the standard's calls does not matter: any that is large enough gives the same answer.
  pub repeat_any : (w : Input) (r : Node) → Numbered r → (n : ℕ) (e : Option ℕ) (lazy : Bool) (x : State) (c : State → Option B)
      → x.pos ≤ size w
      → (f : ℕ) → n + (size w - x.pos) < f → repeat_matcher f (matcher w r) (fresh r) n (most n e) lazy x c ≡ matcher w
      (many n e lazy r) x c
  unfolding results
  repeat_any w r h n e lazy x c hx f hf = repeats w r lazy (matcher w r) (standard w r h) n f e x c (omega arith) hx
      ∙ sym (standard w (many n e lazy r) h x c hx)
