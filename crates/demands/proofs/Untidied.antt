-- Tidiers that demand 3 rules out: one that returns its input, since a law would be left, and one that returns one fixed pattern,
-- since that would not answer as each pattern does.
use Rattle.std.specs.Prelude.{◌≡◌, refl, false, length, get_or, replicate}
use Rattle.std.proofs.Math.Path.{sym}
use Rattle.std.proofs.Common.{ap, subst, ◌∙◌, inl, arith}
use Rattle.std.proofs.Math.Option.{Option, some}
use mathlib.Core.List.{List, []}
use Prim.Native.Nat.{ℕ, zero, suc, ◌<◌}
use Rattle.sets.specs.Sets.{set_of, word_of, is_digit}
use Rattle.meaning.specs.Quoted.{bytes}
use Rattle.meaning.specs.Text.{Regs, fits}
use Rattle.meaning.specs.Bytes.{Bytes, asserts, text_of}
use Rattle.meaning.specs.Node.{Node, Node.empty, Node.bset, Node.many}
use Rattle.meaning.specs.Flat.{parts}
use Rattle.meaning.specs.All.{All}
use Rattle.meaning.specs.Standard.{matcher, match_at}
use Rattle.machine.specs.Layout.{size_of}
use Rattle.tidying_laws.specs.Groups.{groups, group_free}
use Rattle.tidying_laws.specs.Void.{fair}
use Rattle.tidying_laws.specs.Around.{Around.here, fill, same_match}
use Rattle.tidying_laws.specs.List.{words}
use Rattle.tidying_laws.specs.Tidier.{tidy}
use Rattle.tidying_laws.specs.Vectors.{computed}
use Rattle.reading_atoms.specs.Braces.{number_go, number_at, braces_at, quantifier_at}
use Rattle.reading_items.specs.Read.{what_is_read}
use Rattle.reading_items.specs.Reading.{Reading.pattern, literal_set, opening_at, item_by, item_at, sequence_go, alternatives_go}
use Rattle.reading_items.specs.Reading.{reading, table_by}
use Rattle.compiler.specs.Compiling.{plain, tidied, table_for, table_left, compilation, table_at, code_at, Compiles}
use Rattle.compiler.specs.Compiling.{Compilation}
use Rattle.compiler.specs.Compiling.{Compilation.Rows}
use Rattle.millkettle.specs.Compiled.{Compiled, compiled}
use Rattle.demands.specs.Tidied.{Neat}
use Rattle.demands.proofs.Demands.{demand_3}
use Rattle.demands.specs.OnePattern.{one_pattern}
use Rattle.demands.specs.Impossible.{no_bytes_lem, one_byte}

-- Buffers of zeros that are enough for a pattern of four bytes.
abbrev pub table : List ℕ
table = replicate 160 0

abbrev pub code : List ℕ
code = replicate 132 0

-- What compiles every pattern tidied by its promise.
pub record Tidying : Type 0 where
  pub answer : List ℕ → Compilation
  pub table' : List ℕ → List ℕ
  pub code' : List ℕ → List ℕ
  pub compiles : (s : List ℕ) → Bytes s → Compiles tidied s table (table' s) code (code' s) (answer s)

-- What is asked can be had: the definitions compile so.
pub tidying : Tidying
tidying = record {
  answer = λ s. compilation tidied s table code;
  table' = λ s. table_at tidied s table code;
  code' = λ s. code_at tidied s table code;
  compiles = λ s bytes. record { answers = refl; table_is = refl; code_is = refl };
}

-- The pattern `a`, and `a{1}`, which T2 fits: a law is left in it.
abbrev letter : Node
letter = bset (literal_set 0x61)

abbrev once : Node
once = many 1 (some 0) false letter

law_left : All (λ W. W once → ⊥) words → ⊥
unfolding words group_free groups
law_left none-fits = none-fits.1.0 (letter, inl (false, refl, refl))

-- What the empty pattern, `a` and `a{1}` are read as, and that they are answered with rows.
empty_read : reading [] (length table) ≡ pattern empty 0
unfolding reading alternatives_go sequence_go parts
empty_read = refl

letter_read : reading (bytes "a") (length table) ≡ pattern letter 0
unfolding reading alternatives_go sequence_go item_at item_by opening_at quantifier_at parts
letter_read = refl

once_read : reading (bytes "a{1}") (length table) ≡ pattern once 0
unfolding reading alternatives_go sequence_go item_at item_by opening_at quantifier_at braces_at number_at number_go parts is_digit
once_read = refl

empty_rows : compilation tidied [] table code ≡ Rows 8 0
unfolding reading alternatives_go sequence_go parts size_of computed
empty_rows = refl

letter_rows : compilation tidied (bytes "a") table code ≡ Rows 9 0
unfolding reading alternatives_go sequence_go item_at item_by opening_at quantifier_at parts size_of computed set_of word_of
letter_rows = refl

once_rows : (compilation plain (bytes "a{1}") table code ≡ Rows 10 0) × (compilation tidied (bytes "a{1}") table code ≡ Rows 9 0)
unfolding reading alternatives_go sequence_go item_at item_by opening_at quantifier_at braces_at number_at number_go parts is_digit size_of
    computed set_of word_of
once_rows = (refl, refl)

once_bytes : Bytes (bytes "a{1}")
once_bytes = record { byte = λ i. go i }
  where
    go : (i : ℕ) → get_or (bytes "a{1}") i 0 < 256
    go zero = omega arith
    go (suc zero) = omega arith
    go (suc (suc zero)) = omega arith
    go (suc (suc (suc zero))) = omega arith
    go (suc (suc (suc (suc i)))) = omega arith

-- On the empty text the empty pattern matches, and `a` does not.
abbrev matches : Node → Option Regs
matches r = match_at (text_of []) 0 r 0

apart : matches empty ≡ matches letter → ⊥
unfolding match_at matcher fits
apart e = let z : ◌≡◌ {A = ℕ} 0 1 = cc in omega arith

-- One reading gives one pattern.
one_read : {x y : Node} {g h : ℕ} → pattern x g ≡ pattern y h → x ≡ y
one_read e = cc

-- What `compile` leaves holds the pattern that was read.
plain_holds : {s : List ℕ} {n g : ℕ} (m : Compiled plain s table code n g)
    → table_at plain s table code ≡ table_by (pattern m.node g) table
plain_holds {g = g} m =
    ap (λ x. table_left plain x (length code) table) m.is_read ∙ ap (λ k. table_for k m.node g table) m.is_written

module _ (t : Tidying) where
  -- Demand 3, of what the tidier answers with rows; and the pattern that its table holds.
  neat : {s : List ℕ} {n g : ℕ} → Bytes s → compilation tidied s table code ≡ Rows n g → Neat s table code n g
  neat {s} b e = demand_3 (subst (Compiles tidied s table (t.table' s) code (t.code' s)) ((t.compiles s b).answers ∙ e)
      (t.compiles s b))

  holds : {s : List ℕ} {n g : ℕ} → Bytes s → (k : Neat s table code n g)
      → t.table' s ≡ table_by (pattern (tidy k.node) g) table
  holds {s} b k = (t.compiles s b).table_is ∙ k.table_holds

  -- It answers on the empty text as the pattern that was read does.
  same_answer : {s : List ℕ} {n : ℕ} → Bytes s → (k : Neat s table code n 0) → matches k.node ≡ matches (tidy k.node)
  same_answer {s} b k =
      same_match k.alike 1 (what_is_read b (length table) k.node 0 k.is_read).numbers (text_of [])
      (fair no_bytes_lem asserts) 0 0 (omega arith)

  -- A tidier that returns its input, wherever it answers rows or not.
  pub returning_input : ((s : List ℕ) → Bytes s → t.table' s ≡ table_at plain s table code) → ⊥
  unfolding fill
  returning_input f =
      let s : List ℕ = bytes "a{1}" in
      let m : Compiled plain s table code 10 0 = compiled plain s table code 10 0 once_bytes once_rows.0 in
      let k : Neat s table code 9 0 = neat once_bytes once_rows.1 in
      let same : tidy k.node ≡ m.node
      = one_pattern (tidy k.node) m.node 0 0 table k.is_coded.proper m.is_coded.proper
      (sym (holds once_bytes k) ∙ f s once_bytes ∙ plain_holds m) in
      let is : m.node ≡ once = one_read (sym m.is_read ∙ once_read) in
      law_left (k.clean here once (sym is ∙ sym same) tt)

  -- A tidier that returns one fixed pattern wherever it answers rows.
  pub fixed_pattern : (l : List ℕ) → ((s : List ℕ) (n g : ℕ) → t.answer s ≡ Rows n g → t.table' s ≡ l) → ⊥
  fixed_pattern l f =
      let s : List ℕ = bytes "a" in
      let j : Neat [] table code 8 0 = neat no_bytes_lem empty_rows in
      let k : Neat s table code 9 0 = neat one_byte letter_rows in
      let fixed : t.table' [] ≡ t.table' s
      = f [] 8 0 ((t.compiles [] no_bytes_lem).answers ∙ empty_rows)
      ∙ sym (f s 9 0 ((t.compiles s one_byte).answers ∙ letter_rows)) in
      let same : tidy j.node ≡ tidy k.node
      = one_pattern (tidy j.node) (tidy k.node) 0 0 table j.is_coded.proper k.is_coded.proper
      (sym (holds no_bytes_lem j) ∙ fixed ∙ holds one_byte k) in
      let first : j.node ≡ empty = one_read (sym j.is_read ∙ empty_read) in
      let second : k.node ≡ letter = one_read (sym k.is_read ∙ letter_read) in
      apart (ap matches (sym first) ∙ same_answer no_bytes_lem j ∙ ap matches same ∙ sym (same_answer one_byte k) ∙ ap matches second)
