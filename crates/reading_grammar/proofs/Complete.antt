-- Complete: what derives within the limits is what is read; so the grammar is unambiguous, and what is refused does not derive.
use Rattle.std.specs.Prelude.{◌≡◌, List, ℕ, ◌≤◌, eqb, length}
use Rattle.std.proofs.Common.{sym, ap, ◌∙◌, inl, inr, arith, le-ltb}
use Rattle.std.proofs.Math.ListN.{get_or-eq_default}
use Rattle.meaning.specs.Limits.{table_words, depth_limit}
use Rattle.meaning.specs.Node.{Node}
use Rattle.meaning.specs.Flat.{Kind, join}
use Rattle.reading_atoms.specs.Chars.{no_byte, byte_at, bar, ends_sequence}
use Rattle.reading_items.specs.Reading.{Part.part, alternatives_at, Reading.pattern, Reading.refused, reading}
use Rattle.reading_grammar.proofs.AllReads.{all_read}
use Rattle.reading_grammar.specs.Checked.{Checking, checked, passed_none}
use Rattle.reading_grammar.specs.Grammar.{Derives}

-- Complete: every derivation within the limits is what reading gives, with a table that has room.
pub complete : (s : List ℕ) (r : Node) (g table : ℕ) → Derives s r g → table_words (length s) ≤ table
    → reading s table ≡ pattern r g
complete s r g table t room = go (checked s table)
  where
    last : byte_at s (length s) ≡ no_byte
    last = get_or-eq_default s no_byte (omega arith)

    all : alternatives_at depth_limit s 0 0 ≡ part (join Kind.alternation t.list) (length s) g
    all = all_read s t.derivation (ap ends_sequence last) (ap (λ x. eqb x bar) last) (omega arith)

    go : Checking s table (reading s table) → reading s table ≡ pattern r g
    go (inl (n, p, h, e)) = absurd (passed_none s table (record { short = t.short; room = room; low = t.low }) n p h.check)
    go (inr (h, e)) = e ∙ rw (all, le-ltb (length s) (length s) (omega arith), t.tree)

-- So a pattern derives one tree at most.
pub unambiguous : (s : List ℕ) (r q : Node) (g h : ℕ) → Derives s r g → Derives s q h → (r ≡ q) × (g ≡ h)
unambiguous s r q g h t u =
    let e : pattern r g ≡ pattern q h
    = sym (complete s r g (table_words (length s)) t (omega arith)) ∙ complete s q h (table_words (length s)) u (omega arith) in
    (cc, cc)

-- And what is refused derives under no derivation within the limits.
pub refused_not : (s : List ℕ) (table number place : ℕ) → reading s table ≡ refused number place → table_words (length s) ≤ table
    → (r : Node) (g : ℕ) → Derives s r g → ⊥
refused_not s table number place e room r g t =
    let f : refused number place ≡ pattern r g = sym e ∙ complete s r g table t room in
    absurd (let z : ◌≡◌ {A = ℕ} 0 1 = cc in omega arith)
