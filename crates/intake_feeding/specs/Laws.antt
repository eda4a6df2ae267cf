-- What the functions that take the input leave, step by step.
use Rattle.std.specs.Prelude.{◌≡◌, Bool, true, false, ◌⊎◌, ℕ, suc, ◌+◌, ◌-◌, ◌≤◌, ◌<◌, min, leb, ltb, get_or, set, take, drop}
use Rattle.std.proofs.Math.Path.{refl}
use Rattle.std.proofs.Common.{sym, ap, ap₂, ◌∙◌, inl, inr, zero-add, add-one, arith, le-leb, leb-true, leb-false, eq-eqb, ne_eqb, length-take, drop_of_length-le, length-take-le, take_all, take-suc, take-suc-set, drop-cons}
use mathlib.Core.List.{List, [], ◌∷◌, ◌++◌, append-nil}
use Rattle.std.proofs.Math.Nat.{sub-zero, min-eq_left, min-eq_right}
use Rattle.std.proofs.lemmas.Bool.{lt-leb}
use Rattle.std.proofs.Math.ListN.{length}
use Rattle.meaning.specs.Limits.{line_feed}
use Rattle.intake_report.specs.Texts.{lf}
use Rattle.intake_report.specs.Wrote.{Wrote, wrote_none, wrote_as, and_then}
use Rattle.intake_lines.specs.Ended.{line_room, Ends}
use Rattle.intake_lines.specs.declared.Phase.{Phase}
use Rattle.intake_lines.specs.declared.Ended.{Ended}
use Rattle.intake_feeding.specs.Work.{Work, kept_limit, line_text, text_at, work_at, written, work_behind, taken_of}
use Rattle.intake_feeding.specs.Work.{unless_empty, last_bytes, last_text}
use Rattle.intake_feeding.specs.Fed.{work_of, Keeps, Steps, Feeds}
use Rattle.intake_feeding.specs.Pieces.{behind_more, written_more, written_none, behind_none}
use Rattle.intake_feeding.specs.declared.Fed.{Fed}

-- ---- bytes that are kept

-- Of what is said to be kept, as much as the line has.
kept_clamped : (kept : ℕ) (line : List ℕ) → take (min kept (length line)) line ≡ take kept line
kept_clamped kept line = by (leb kept (length line)) refl
  where
    by : (t : Bool) → leb kept (length line) ≡ t → take (min kept (length line)) line ≡ take kept line
    by true e = ap (λ n. take n line) (min-eq_left (leb-true kept (length line) e))
    by false e =
        let over : length line ≤ kept = omega (arith, leb-false kept (length line) e) in
        ap (λ n. take n line) (min-eq_right over) ∙ take_all (length line) line (omega arith) ∙ sym (take_all kept line over)

module _ {line : List ℕ} (kept byte : ℕ) (long : length line ≡ kept_limit) where
  -- A line that is too long already stays.
  pub kept_full : kept ≤ kept_limit → kept_limit ≤ kept → Keeps kept byte line line kept
  kept_full h k = record {
    line_is = rw (le-leb kept_limit (length (take kept line)) (omega (arith, length-take-le kept line (omega arith))));
    few = h;
  }

  pub kept_more : kept < kept_limit → Keeps kept byte line (set line kept byte) (kept + 1)
  kept_more h =
      record {
        line_is = rw (
          lt-leb kept_limit (length (take kept line)) (omega (arith, length-take-le kept line (omega arith))),
          add-one,
        )
            (take-suc-set line kept byte (omega arith));
        few = omega arith;
      }

-- ---- a byte that is taken

module _ {fed : Fed} {byte : ℕ} {line code out : List ℕ} where
  -- LF ends the line.
  pub step_ends : {code' out' : List ℕ} {e : Ended} → byte ≡ line_feed
      → Ends fed.phase (take fed.kept line) code code' out out' fed.end e
      → Steps fed byte line line code code' out out'
      (record { phase = e.phase; kept = 0; taken = fed.taken; end = e.end; full = false })
  step_ends lf w = record {
    work_is = rw (eq-eqb byte line_feed lf) (ap₂ (λ q c. record { phase = q; code = c; kept = [] }) w.phase_is w.code_is);
    text_is = rw (eq-eqb byte line_feed lf) w.text_is;
    few = omega arith;
  }

  -- Any other byte is the line's.
  pub step_keeps : {line' : List ℕ} {kept : ℕ} → (byte ≡ line_feed → ⊥) → fed.end ≤ length out
      → Keeps fed.kept byte line line' kept
      → Steps fed byte line line' code code out out
      (record { phase = fed.phase; kept = kept; taken = fed.taken; end = fed.end; full = false })
  step_keeps other room w = record {
    work_is = rw (ne_eqb byte line_feed other) (ap (λ k. record { phase = fed.phase; code = code; kept = k }) w.line_is);
    text_is = rw (ne_eqb byte line_feed other) (wrote_none out fed.end room);
    few = w.few;
  }

-- ---- how many bytes are taken

-- One with room for a line,
taken_more : (w : Work) (room byte : ℕ) (l : List ℕ) → line_room ≤ room
    → taken_of w room (byte ∷ l) ≡ suc (taken_of (work_at w byte) (room - length (text_at w byte)) l)
unfolding taken_of
taken_more w room byte l h = rw (le-leb line_room room h)

-- none without it,
taken_full : (w : Work) (room : ℕ) (l : List ℕ) → room < line_room → taken_of w room l ≡ 0
unfolding taken_of
taken_full w room [] h = refl
taken_full w room (byte ∷ l) h = rw (lt-leb line_room room h)

-- none where none is left,
taken_none : (w : Work) (room : ℕ) → taken_of w room [] ≡ 0
unfolding taken_of
taken_none w room = refl

-- and never more than there are.
taken_within : (w : Work) (room : ℕ) (l : List ℕ) → taken_of w room l ≤ length l
taken_within w room [] = omega (arith, taken_none w room)
taken_within w room (byte ∷ l) =
    by (leb line_room room) refl (taken_within (work_at w byte) (room - length (text_at w byte)) l)
  where
    by : (t : Bool) → leb line_room room ≡ t → taken_of (work_at w byte) (room - length (text_at w byte)) l ≤ length l
        → taken_of w room (byte ∷ l) ≤ suc (length l)
    by true e h = omega (arith, taken_more w room byte l (leb-true line_room room e))
    by false e h = omega (arith, taken_full w room (byte ∷ l) (leb-false line_room room e))

-- ---- a piece

-- The first bytes of a piece were taken, and what is still to be taken is the rest of what is taken.
pub record Feeding (w : Work) (piece line' code' out out' : List ℕ) (r : Fed) : Type 0 where
  pub work_is : work_of r.phase r.kept line' code' ≡ work_behind w (take r.taken piece)
  pub text_is : Wrote out out' 0 (written w (take r.taken piece)) r.end
  pub few : r.kept ≤ kept_limit
  pub within : r.taken ≤ length piece
  pub rest : taken_of w (length out) piece
      ≡ r.taken + taken_of (work_behind w (take r.taken piece)) (length out - r.end) (drop r.taken piece)

-- No byte was taken yet.
pub feeding_none : {phase : Phase} (kept : ℕ) {kept' : ℕ} {piece line code out : List ℕ} → length line ≡ kept_limit
    → kept' ≡ min kept (length line)
    → Feeding (work_of phase kept line code) piece line code out out
    (record { phase = phase; kept = kept'; taken = 0; end = 0; full = false })
feeding_none {phase} kept {kept'} {piece} {line} {code} {out} long e =
    let w = work_of phase kept line code in
    record {
      work_is = ap (λ l. record { phase = phase; code = code; kept = l }) (rw e (kept_clamped kept line)) ∙ sym (behind_none w);
      text_is = wrote_as (wrote_none out 0 (omega arith)) (sym (written_none w)) refl;
      few = omega (arith, e);
      within = omega arith;
      rest = rw (zero-add, sub-zero, behind_none);
    }

module _ {w : Work} {piece out : List ℕ} where
  -- One byte more.
  pub feeding_more : {line₁ line₂ code₁ code₂ out₁ out₂ : List ℕ} {fed r : Fed}
      → Feeding w piece line₁ code₁ out out₁ fed → fed.taken < length piece → line_room ≤ length out - fed.end
      → Steps fed (get_or piece fed.taken 0) line₁ line₂ code₁ code₂ out₁ out₂ r
      → Feeding w piece line₂ code₂ out out₂
      (record { phase = r.phase; kept = r.kept; taken = fed.taken + 1; end = r.end; full = r.full })
  feeding_more {fed = fed} {r = r} f h room s =
      let byte = get_or piece fed.taken 0 in
      let so_far = work_behind w (take fed.taken piece) in
      let more : take (fed.taken + 1) piece ≡ take fed.taken piece ++ byte ∷ [] =
      ap (λ n. take n piece) (add-one fed.taken) ∙ take-suc piece fed.taken 0 h in
      let text : text_at (work_of fed.phase fed.kept _ _) byte ≡ text_at so_far byte = ap (λ v. text_at v byte) f.work_is in
      let behind : work_behind w (take (fed.taken + 1) piece) ≡ work_at so_far byte =
      ap (work_behind w) more ∙ behind_more w (take fed.taken piece) byte in
      let left : length out - r.end ≡ (length out - fed.end) - length (text_at so_far byte) =
      omega (arith, s.text_is.next, ap length text) in
      record {
        work_is = s.work_is ∙ ap (λ v. work_at v byte) f.work_is ∙ sym behind;
        text_is = wrote_as (and_then f.text_is s.text_is)
            (ap (λ t. written w (take fed.taken piece) ++ t) text
            ∙ sym (ap (written w) more ∙ written_more w (take fed.taken piece) byte)) refl;
        few = s.few;
        within = omega arith;
        rest = f.rest ∙ ap (λ l. fed.taken + taken_of so_far (length out - fed.end) l) (drop-cons piece fed.taken 0 h)
            ∙ ap (λ n. fed.taken + n) (taken_more so_far (length out - fed.end) byte (drop (suc fed.taken) piece) room)
            ∙ omega (
              arith,
              ap (λ n. taken_of (work_at so_far byte) n (drop (suc fed.taken) piece)) (sym left),
              ap (λ v. taken_of v (length out - r.end) (drop (suc fed.taken) piece)) (sym behind),
              ap (λ n. taken_of (work_behind w (take (fed.taken + 1) piece)) (length out - r.end) (drop n piece))
                  (sym (add-one fed.taken)),
            );
      }

  -- No byte is left, or there is no room for a line more: what is taken is what is to be taken.
  stopped : {line' code' out' : List ℕ} {fed : Fed} → Feeding w piece line' code' out out' fed
      → (length piece ≤ fed.taken) ⊎ (length out - fed.end < line_room) → fed.taken ≡ taken_of w (length out) piece
  stopped {fed = fed} f (inl all) =
      let so_far = work_behind w (take fed.taken piece) in
      let none : taken_of so_far (length out - fed.end) (drop fed.taken piece) ≡ 0 =
      ap (taken_of so_far (length out - fed.end)) (drop_of_length-le piece {i = fed.taken} all) ∙ taken_none so_far _ in
      omega (arith, f.rest)
  stopped {fed = fed} f (inr full) =
      omega (arith, f.rest, taken_full (work_behind w (take fed.taken piece)) _ (drop fed.taken piece) full)

-- All of the piece was taken, or there is no room for a line more.
pub feeding_ends : {phase : Phase} {kept : ℕ} {piece line line' code code' out out' : List ℕ} {fed : Fed}
    → Feeding (work_of phase kept line code) piece line' code' out out' fed
    → (length piece ≤ fed.taken) ⊎ (length out - fed.end < line_room)
    → Feeds phase kept piece line line' code code' out out' (record {
      phase = fed.phase;
      kept = fed.kept;
      taken = fed.taken;
      end = fed.end;
      full = ltb fed.taken (length piece);
    })
feeding_ends f stops = record {
  taken_is = stopped f stops;
  work_is = f.work_is;
  text_is = f.text_is;
  few = f.few;
  full_is = refl;
}

-- No more bytes are taken than there are; with room for a line one is taken if there is one,
module _ {phase : Phase} {kept : ℕ} {piece line line' code code' out out' : List ℕ} {r : Fed}
    (f : Feeds phase kept piece line line' code code' out out' r) where
  pub feeds_within : r.taken ≤ length piece
  feeds_within = omega (arith, f.taken_is, taken_within (work_of phase kept line code) (length out) piece)

  pub feeds_some : 0 < length piece → line_room ≤ length out → 0 < r.taken
  feeds_some some room = by piece some f.taken_is
    where
      by : (l : List ℕ) → 0 < length l → r.taken ≡ taken_of (work_of phase kept line code) (length out) l → 0 < r.taken
      by [] h e = absurd (omega arith)
      by (byte ∷ l) h e = omega (arith, e, taken_more (work_of phase kept line code) (length out) byte l room)

  -- and without it none is taken, and code and buffer are as they were.
  pub no_room : length out < line_room → (r.taken ≡ 0) × (code' ≡ code) × (out' ≡ out)
  no_room short =
      let w = work_of phase kept line code in
      let none : r.taken ≡ 0 = f.taken_is ∙ taken_full w (length out) piece short in
      let same : work_of r.phase r.kept line' code' ≡ w =
      f.work_is ∙ ap (λ n. work_behind w (take n piece)) none ∙ behind_none w in
      let text : written w (take r.taken piece) ≡ [] = ap (λ n. written w (take n piece)) none ∙ written_none w in
      (none, ap (λ v. v.code) same, (wrote_as f.text_is text refl).bytes)

-- ---- the input's end

module _ (phase : Phase) (kept : ℕ) (line code : List ℕ) where
  -- An empty last line is no line,
  pub last_none : min kept (length line) ≡ 0 → last_bytes (work_of phase kept line code) ≡ []
  last_none e = by (take kept line) (length-take kept line ∙ e)
    where
      by : (l : List ℕ) → length l ≡ 0 → unless_empty l lf ≡ []
      by [] h = refl
      by (byte ∷ l) h = absurd (omega arith)

  -- and any other is one, as if LF ended it.
  pub last_some : (min kept (length line) ≡ 0 → ⊥) → last_bytes (work_of phase kept line code) ≡ lf
  last_some some = by (take kept line) (λ e. some (sym (length-take kept line) ∙ e))
    where
      by : (l : List ℕ) → (length l ≡ 0 → ⊥) → unless_empty l lf ≡ lf
      by [] h = absurd (h refl)
      by (byte ∷ l) h = refl

  -- With room for a line what is written at the input's end is the last line's text.
  pub last_text_lem : {line' code' out out' : List ℕ} {r : Fed} → line_room ≤ length out
      → Feeds phase kept (last_bytes (work_of phase kept line code)) line line' code code' out out' r
      → Wrote out out' 0 (last_text (work_of phase kept line code)) r.end
  unfolding written
  last_text_lem {out = out} room f =
      let w = work_of phase kept line code in
      wrote_as f.text_is
      (ap (λ n. written w (take n (last_bytes w))) f.taken_is ∙ by w (take kept line) room) refl
    where
      by : (w : Work) (l : List ℕ) → line_room ≤ length out
          → written w (take (taken_of w (length out) (unless_empty l lf)) (unless_empty l lf)) ≡ unless_empty l (line_text w)
      by w [] h = rw (taken_none w (length out))
      by w (byte ∷ l) h = rw (taken_more w (length out) line_feed [] h, taken_none) (append-nil (line_text w))
