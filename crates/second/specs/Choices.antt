-- Choices in words: one more is stored, the newest goes on, registers are wiped.
use Rattle.std.specs.Prelude.{◌≡◌, refl, ◌⊎◌, ℕ, zero, suc, ◌+◌, ◌-◌, ◌<◌, ◌≤◌, length, get_or, set}
use Rattle.std.proofs.Common.{sym, ◌∙◌, subst, inl, inr, ⊎_elim, mul-le-mul_right, arith, length-set, get_or-set_same, get_or-set_other, ext_get_or}
use Rattle.std.proofs.Math.Path.{ap₂}
use mathlib.Core.List.{List, ◌∷◌}
use Rattle.std.proofs.Math.Decide.{dec_lt, ℕ_discrete}
use Rattle.meaning.specs.Limits.{word_limit}
use Rattle.running_moves.specs.Keys.{keys_of}
use Rattle.running_threads.specs.Words.{words_at, Pasted, Spread}
use Rattle.running_threads.specs.Threads.{nowhere, wipe}
use Rattle.running_threads.specs.Laws.{words_at_lem, words_length, words_eq}
use Rattle.running_threads.specs.Queues.{lane}
use Rattle.second.specs.Plain.{Choice}
use Rattle.second.specs.Held.{choice_at, Laid, own, choices_in, Sound, Stored, Wiped}
use Rattle.second.specs.declared.Layout.{Layout}
use Rattle.second.specs.declared.Trial.{Trial}

-- ---- where choices lie

-- One lies before a later one, and none before another's.
pub choice_before : (l : Layout) (i n : ℕ) → i < n → choice_at l i + (l.width + 2) ≤ choice_at l n
choice_before l i n h = omega (arith, lane i n (l.width + 2) h)

pub choice_order : (l : Layout) (i n : ℕ) → i ≤ n → choice_at l i ≤ choice_at l n
choice_order l i n h = omega (arith, mul-le-mul_right (l.width + 2) h)

-- They are the same where their words are,
pub choices_same : (s t : List ℕ) (l : Layout) (n : ℕ) → length t ≡ length s → choice_at l n ≤ length s
    → ((i : ℕ) → l.marks + l.width ≤ i → i < choice_at l n → get_or t i 0 ≡ get_or s i 0) → choices_in t l n ≡ choices_in s l n
unfolding choices_in
choices_same s t l zero e h same = refl
choices_same s t l (suc n) e h same =
    let next = choice_before l n (suc n) (omega arith) in
    let words : words_at t (choice_at l n + 2) l.width ≡ words_at s (choice_at l n + 2) l.width
    = words_eq s t (choice_at l n + 2) (choice_at l n + 2) l.width (omega arith) (omega arith)
    (λ k lt. same (choice_at l n + 2 + k) (omega arith) (omega arith)) in
    let rest : choices_in t l n ≡ choices_in s l n
    = choices_same s t l n e (omega arith) (λ i lo hi. same i lo (omega arith)) in
    rw (same (choice_at l n) (omega arith) (omega arith), same (choice_at l n + 1) (omega arith) (omega arith), words, rest)

-- and have keys and positions that are allowed.
pub sound_same : {s t : List ℕ} {l : Layout} {n : ℕ} → Sound s l n
    → ((i : ℕ) → l.marks + l.width ≤ i → i < choice_at l n → get_or t i 0 ≡ get_or s i 0) → Sound t l n
sound_same {s} {t} {l} {n} a same = record {
  each = λ i h.
      let next = choice_before l i n h in (
        subst (λ (v : ℕ). v < keys_of l.rows) (sym (same (choice_at l i) (omega arith) (omega arith))) (a.each i h).0,
        subst (λ (v : ℕ). v ≤ l.length) (sym (same (choice_at l i + 1) (omega arith) (omega arith))) (a.each i h).1,
      );
}

pub sound_less : {s : List ℕ} {l : Layout} {m n : ℕ} → m ≤ n → Sound s l n → Sound s l m
sound_less h a = record { each = λ i lt. a.each i (omega arith) }

-- ---- one choice more

pub choice_fits : {l : Layout} {len i : ℕ} → Laid l len → i < l.marks → choice_at l i + (l.width + 2) ≤ len
choice_fits {l} {i = i} q h = omega (arith, choice_before l i l.marks h, q.room)

pub choice_small : {l : Layout} {len i : ℕ} → Laid l len → i ≤ l.marks → choice_at l i < word_limit
choice_small {l} {i = i} q h = omega (arith, choice_order l i l.marks h, q.small)

-- A key fits a word.
pub keys_small : {l : Layout} {len : ℕ} → Laid l len → keys_of l.rows < word_limit
keys_small {l} q = omega (
  arith,
  lane 0 (l.length + 1) (keys_of l.rows) (omega arith),
  choice_order l 0 l.marks (omega arith),
  q.marks,
  q.small,
)

module _ (l : Layout) (s : List ℕ) (x : Trial) (key : ℕ) (t : List ℕ) (q : Laid l (length s)) (few : x.stored < l.marks)
    (e : length t ≡ length s)
    (p : Pasted l.marks (choice_at l x.stored + 2) l.width
    (set (set s (choice_at l x.stored) key) (choice_at l x.stored + 1) x.position) t) where
  abbrev place : ℕ
  place = choice_at l x.stored

  abbrev two : List ℕ
  two = set (set s place key) (place + 1) x.position

  outside : (i : ℕ) → (i ≡ place → ⊥) → (i ≡ place + 1 → ⊥) → get_or two i 0 ≡ get_or s i 0
  outside i ne nf = get_or-set_other (set s place key) (place + 1) i x.position 0 nf ∙ get_or-set_other s place i key 0 ne

  below : (i : ℕ) → i < place → get_or t i 0 ≡ get_or s i 0
  below i h = p.only.before i (omega arith) ∙ outside i (λ z. omega arith) (λ z. omega arith)

  registers : own t l ≡ own s l
  registers =
      let fits = choice_fits q few in
      words_eq s t l.marks l.marks l.width (omega arith) (omega arith) (λ k lt. below (l.marks + k) (omega arith))

  key_there : get_or t place 0 ≡ key
  key_there =
      let fits = choice_fits q few in
      p.only.before place (omega arith) ∙ get_or-set_other (set s place key) (place + 1) place x.position 0 (λ z. omega arith)
      ∙ get_or-set_same s place key 0 (omega arith)

  position_there : get_or t (place + 1) 0 ≡ x.position
  position_there =
      let fits = choice_fits q few in
      p.only.before (place + 1) (omega arith)
      ∙ get_or-set_same (set s place key) (place + 1) x.position 0 (rw length-set (omega arith))

  copied : words_at t (place + 2) l.width ≡ own s l
  copied =
      let fits = choice_fits q few in
      words_eq s t l.marks (place + 2) l.width (omega arith) (omega arith)
      (λ k lt. p.there k lt ∙ outside (l.marks + k) (λ z. omega arith) (λ z. omega arith))

  pub stored : Stored l x key s t
  unfolding choices_in
  stored =
      let fits = choice_fits q few in
      record {
        choices = ap₂ (λ (c : Choice) (cs : List Choice). c ∷ cs)
            (rw (key_there, position_there, copied))
            (choices_same s t l x.stored e (omega arith) (λ i lo hi. below i hi));
        own = registers;
        key = key_there;
        position = position_there;
        before = below;
        after = λ i h. let next = choice_before l x.stored l.marks few in
            p.only.after i (omega arith) ∙ outside i (λ z. omega arith) (λ z. omega arith);
      }

-- ---- registers wiped

wipe_length : (n k : ℕ) (rs : List ℕ) → length (wipe n k rs) ≡ length rs
unfolding wipe
wipe_length zero k rs = refl
wipe_length (suc n) k rs = wipe_length n (suc k) (set rs k nowhere) ∙ length-set rs k nowhere

wipe_out : (n k : ℕ) (rs : List ℕ) (i : ℕ) → (i < k) ⊎ (k + n ≤ i) → get_or (wipe n k rs) i 0 ≡ get_or rs i 0
unfolding wipe
wipe_out zero k rs i h = refl
wipe_out (suc n) k rs i h =
    wipe_out n (suc k) (set rs k nowhere) i
    (⊎_elim (λ (u : i < k). inl (omega arith)) (λ (u : k + suc n ≤ i). inr (omega arith)) h)
    ∙ get_or-set_other rs k i nowhere 0 (λ z. ⊎_elim (λ (u : i < k). omega arith) (λ (u : k + suc n ≤ i). omega arith) h)

wipe_in : (n k : ℕ) (rs : List ℕ) (i : ℕ) → k ≤ i → i < k + n → i < length rs → get_or (wipe n k rs) i 0 ≡ nowhere
unfolding wipe
wipe_in zero k rs i lo hi long = absurd (omega arith)
wipe_in (suc n) k rs i lo hi long =
    go (ℕ_discrete i k) (λ h. wipe_in n (suc k) (set rs k nowhere) i h (omega arith) (rw length-set long))
  where
    go : Dec (i ≡ k) → (suc k ≤ i → get_or (wipe n (suc k) (set rs k nowhere)) i 0 ≡ nowhere)
        → get_or (wipe n (suc k) (set rs k nowhere)) i 0 ≡ nowhere
    go (yes e) rest = wipe_out n (suc k) (set rs k nowhere) i (inl (omega arith))
        ∙ subst (λ (j : ℕ). get_or (set rs k nowhere) j 0 ≡ nowhere) (sym e) (get_or-set_same rs k nowhere 0 (omega arith))
    go (no e) rest = rest (omega arith)

pub wiped : {l : Layout} {s t : List ℕ} {from to : ℕ} → l.marks + l.width ≤ length s → from < to → to ≤ l.width
    → length t ≡ length s → Spread (l.marks + from) (to - from) nowhere s t → Wiped l from to s t
wiped {l} {s} {t} {from} {to} fits some low e p =
    let long : length (own s l) ≡ l.width = words_length s l.marks l.width fits in
    let long' : length (own t l) ≡ l.width = words_length t l.marks l.width (omega arith) in
    record {
      own = ext_get_or 0 (own t l) (wipe (to - from) from (own s l)) (long' ∙ sym (wipe_length (to - from) from (own s l) ∙ long))
          (λ i lt. each i (omega arith) long (dec_lt i from) (dec_lt i (from + (to - from))));
      before = λ i h. p.only.before i (omega arith);
      after = λ i h. p.only.after i (omega arith);
    }
  where
    each : (i : ℕ) → i < l.width → length (own s l) ≡ l.width → Dec (i < from) → Dec (i < from + (to - from))
        → get_or (own t l) i 0 ≡ get_or (wipe (to - from) from (own s l)) i 0
    each i h long (yes a) b =
        words_at_lem t l.marks l.width i h ∙ p.only.before (l.marks + i) (omega arith)
        ∙ sym (words_at_lem s l.marks l.width i h) ∙ sym (wipe_out (to - from) from (own s l) i (inl a))
    each i h long (no a) (yes b) =
        let z : l.marks + from + (i - from) ≡ l.marks + i = omega arith in
        words_at_lem t l.marks l.width i h
        ∙ subst (λ (j : ℕ). get_or t j 0 ≡ nowhere) z (p.each (i - from) (omega arith))
        ∙ sym (wipe_in (to - from) from (own s l) i (omega arith) b (omega arith))
    each i h long (no a) (no b) =
        words_at_lem t l.marks l.width i h ∙ p.only.after (l.marks + i) (omega arith)
        ∙ sym (words_at_lem s l.marks l.width i h) ∙ sym (wipe_out (to - from) from (own s l) i (inr (omega arith)))

-- none to wipe
pub wiped_none : {l : Layout} {s : List ℕ} {from to : ℕ} → to ≤ from → Wiped l from to s s
unfolding wipe
wiped_none {l} {s} {from} {to} h =
    let z : to - from ≡ 0 = omega arith in
    record { own = rw z; before = λ i h. refl; after = λ i h. refl }
