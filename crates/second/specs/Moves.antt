-- What each move leaves, on the words.
use Rattle.std.specs.Prelude.{◌≡◌, refl, false, ℕ, suc, ◌+◌, ◌<◌, ◌≤◌, length, get_or, set}
use Rattle.std.proofs.Common.{sym, ap, ◌∙◌, subst, true≢false, add-one, arith, length-set, get_or-set_other}
use Rattle.std.proofs.Math.Path.{ap₂}
use Rattle.std.proofs.lemmas.Bool.{false≢true}
use mathlib.Core.List.{List, ◌∷◌}
use Rattle.std.proofs.Math.Decide.{ℕ_discrete}
use Rattle.running_moves.specs.Keys.{keys_of}
use Rattle.running_moves.specs.declared.Move.{Move as Doing}
use Rattle.running_moves.specs.declared.Move.TheVariants.{Win, Lose, Eat, On, Both, Write, Wipe}
use Rattle.running_threads.specs.Words.{words_at, Pasted}
use Rattle.running_threads.specs.Laws.{words_in, words_eq}
use Rattle.running_settle.specs.Moved.{wins}
use Rattle.second.specs.Plain.{Choice}
use Rattle.second.specs.Held.{choice_at, own, choice_of, choices_in, goes_to, Going}
use Rattle.second.specs.Held.{Stored, Wiped, Went}
use Rattle.second.specs.Choices.{choice_before, choice_order, choices_same, sound_same, sound_less, choice_fits}
use Rattle.second.specs.declared.Layout.{Layout}
use Rattle.second.specs.declared.State.TheVariants.{Won, Ended}
use Rattle.second.specs.declared.Trial.{Trial}

-- What holds of a move holds of one that it equals.
pub as_move : {l : Layout} {mv mv' : Doing} {x y : Trial} {s t : List ℕ} → mv ≡ mv' → Went l mv' x s t y → Went l mv x s t y
as_move {l} {x = x} {y = y} {s = s} {t = t} e w = subst (λ (z : Doing). Went l z x s t y) (sym e) w

module _ {l : Layout} {x : Trial} {s : List ℕ} (g : Going l x s) where
  -- The registers lie behind the marks, and before the choices.
  pub own_fits : l.marks + l.width ≤ length s
  own_fits = omega (arith, choice_order l 0 l.marks (omega arith), g.laid.room)

  -- The thread goes on with a key at a position; the words changed at its registers alone.
  module _ (t : List ℕ) (e : length t ≡ length s) (before : (i : ℕ) → i < l.marks → get_or t i 0 ≡ get_or s i 0)
      (after : (i : ℕ) → l.marks + l.width ≤ i → get_or t i 0 ≡ get_or s i 0) where
    same_choices : choices_in t l x.stored ≡ choices_in s l x.stored
    same_choices = choices_same s t l x.stored e
        (omega (arith, choice_order l x.stored l.marks g.few, g.laid.room)) (λ i lo hi. after i lo)

    pub goes : (mv : Doing) (k p : ℕ) → k < keys_of l.rows → p ≤ l.length → wins mv ≡ false
        → (mv ≡ Lose → ⊥) → choice_of p k (own t l) ∷ choices_in s l x.stored
        ≡ goes_to x.position mv (own s l) (choices_in s l x.stored)
        → Went l mv x s t
        (record { state = x.state; key = k; position = p; stored = x.stored; count = x.count })
    goes mv k p low high stops none choices = record {
      choices = rw (g.going, same_choices) choices;
      found = g.quiet ∙ sym stops;
      quiet = λ z. g.quiet;
      words = λ z. absurd (true≢false (sym z ∙ g.quiet));
      count = refl;
      key = low;
      position = high;
      sound = sound_same g.sound (λ i lo hi. after i lo);
      few = omega arith;
      less = λ z. absurd (none z);
      marks = before;
      tail = λ i h. after i (omega (arith, choice_order l 0 l.marks (omega arith)));
    }

  -- Accept ends the search.
  pub does_win : Went l Win x s s
      (record { state = Won; key = x.key; position = x.position; stored = x.stored; count = x.count })
  does_win = record {
    choices = refl;
    found = refl;
    quiet = λ z. absurd (false≢true z);
    words = λ z. refl;
    count = refl;
    key = g.key;
    position = g.position;
    sound = g.sound;
    few = omega arith;
    less = λ z. absurd (let y : ◌≡◌ {A = ℕ} 0 1 = cc in omega arith);
    marks = λ i h. refl;
    tail = λ i h. refl;
  }

  -- No choice is left.
  pub does_end : x.stored ≡ 0 → Went l Lose x s s
      (record { state = Ended; key = x.key; position = x.position; stored = x.stored; count = x.count })
  unfolding choices_in
  does_end z = record {
    choices = rw z;
    found = refl;
    quiet = λ y. refl;
    words = λ y. refl;
    count = refl;
    key = g.key;
    position = g.position;
    sound = g.sound;
    few = omega arith;
    less = λ y. omega arith;
    marks = λ i h. refl;
    tail = λ i h. refl;
  }

  -- The newest choice goes on.
  module _ {t : List ℕ} (n k p : ℕ) (z : x.stored ≡ suc n) (e : length t ≡ length s) (ek : k ≡ get_or s (choice_at l n) 0)
      (ep : p ≡ get_or s (choice_at l n + 1) 0) (c : Pasted (choice_at l n + 2) l.marks l.width s t) where
    newest : choice_of p k (own t l) ∷ choices_in t l n ≡ choices_in s l (suc n)
    unfolding choices_in
    newest =
        let fits = choice_fits g.laid (let h : n < l.marks = omega (arith, g.few) in h) in
        let words : own t l ≡ words_at s (choice_at l n + 2) l.width
        = words_eq s t (choice_at l n + 2) l.marks l.width (omega arith) (omega arith) c.there in
        ap₂ (λ (y : Choice) (ys : List Choice). y ∷ ys) (rw (ek, ep, words))
        (choices_same s t l n e (omega arith) (λ i lo hi. c.only.after i lo))

    pub does_back : Went l Lose x s t
        (record { state = x.state; key = k; position = p; stored = n; count = x.count })
    does_back =
        let each = g.sound.each n (omega arith) in
        record {
          choices = rw (g.going, z) newest;
          found = g.quiet;
          quiet = λ y. g.quiet;
          words = λ y. absurd (true≢false (sym y ∙ g.quiet));
          count = refl;
          key = rw ek each.0;
          position = rw ep each.1;
          sound = sound_same (sound_less (omega arith) g.sound) (λ i lo hi. c.only.after i lo);
          few = omega arith;
          less = λ y. rw g.going (omega arith);
          marks = λ i h. c.only.before i h;
          tail = λ i h. c.only.after i (omega (arith, choice_order l 0 l.marks (omega arith)));
        }

  pub does_eat : {k : ℕ} → k < keys_of l.rows → x.position < l.length → Went l (Eat k) x s s
      (record { state = x.state; key = k; position = x.position + 1; stored = x.stored; count = x.count })
  does_eat {k} low ahead = goes s refl (λ i h. refl) (λ i h. refl) (Eat k) k (x.position + 1) low (omega arith) refl
      (λ z. let y : ◌≡◌ {A = ℕ} 0 1 = cc in omega arith) refl

  pub does_on : {k : ℕ} → k < keys_of l.rows → Went l (On k) x s s
      (record { state = x.state; key = k; position = x.position; stored = x.stored; count = x.count })
  does_on {k} low = goes s refl (λ i h. refl) (λ i h. refl) (On k) k x.position low g.position refl
      (λ z. let y : ◌≡◌ {A = ℕ} 0 1 = cc in omega arith) refl

  pub does_write : {r k : ℕ} → r < l.width → k < keys_of l.rows → Went l (Write r k) x s (set s (l.marks + r) x.position)
      (record { state = x.state; key = k; position = x.position; stored = x.stored; count = x.count })
  does_write {r} {k} inside low =
      goes (set s (l.marks + r) x.position) (length-set s (l.marks + r) x.position)
      (λ i h. get_or-set_other s (l.marks + r) i x.position 0 (λ z. omega arith))
      (λ i h. get_or-set_other s (l.marks + r) i x.position 0 (λ z. omega arith)) (Write r k) k x.position low g.position
      refl (λ z. let y : ◌≡◌ {A = ℕ} 0 1 = cc in omega arith)
      (ap (λ (ws : List ℕ). choice_of x.position k ws ∷ choices_in s l x.stored)
      (words_in s l.marks l.width r x.position inside))

  pub does_wipe : {from to k : ℕ} {t : List ℕ} → length t ≡ length s → k < keys_of l.rows → Wiped l from to s t
      → Went l (Wipe from to k) x s t
      (record { state = x.state; key = k; position = x.position; stored = x.stored; count = x.count })
  does_wipe {from} {to} {k} {t} e low w =
      goes t e w.before w.after (Wipe from to k) k x.position low g.position refl
      (λ z. let y : ◌≡◌ {A = ℕ} 0 1 = cc in omega arith)
      (ap (λ (ws : List ℕ). choice_of x.position k ws ∷ choices_in s l x.stored) w.own)

  -- Fork stores its second row and goes on with its first.
  pub does_both : {first second : ℕ} {t : List ℕ} → x.stored < l.marks → length t ≡ length s → first < keys_of l.rows
      → second < keys_of l.rows → Stored l x second s t → Went l (Both first second) x s t
      (record {
        state = x.state;
        key = first;
        position = x.position;
        stored = x.stored + 1;
        count = x.count;
      })
  does_both {first} {second} {t} room e low low' w =
      let start = choice_order l 0 x.stored (omega arith) in
      let next = choice_before l x.stored l.marks room in
      record {
        choices = rw (g.going, add-one, w.choices, w.own);
        found = g.quiet;
        quiet = λ z. g.quiet;
        words = λ z. w.own;
        count = refl;
        key = low;
        position = g.position;
        sound = record {
          each = λ i h. one i ((sound_same {t = t} g.sound (λ j lo hi. w.before j hi)).each i) (ℕ_discrete i x.stored) h;
        };
        few = omega arith;
        less = λ z. absurd (let y : ◌≡◌ {A = ℕ} 0 1 = cc in omega arith);
        marks = λ i h. w.before i (omega arith);
        tail = w.after;
      }
    where
      one : (i : ℕ) → (i < x.stored → (get_or t (choice_at l i) 0 < keys_of l.rows) × (get_or t (choice_at l i + 1) 0 ≤ l.length))
          → Dec (i ≡ x.stored) → i < x.stored + 1
          → (get_or t (choice_at l i) 0 < keys_of l.rows) × (get_or t (choice_at l i + 1) 0 ≤ l.length)
      one i old (yes z) h = rw (z, w.key, w.position) (low', g.position)
      one i old (no z) h = old (omega arith)
