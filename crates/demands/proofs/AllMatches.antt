-- What the promise of a call for every match says: its refusals in order, the bound of each run, the standard's matches, and
-- that plain and tidied code give one list.
use Rattle.std.specs.Prelude.{◌≡◌, Bool, true, false, cond, ltb, ℤ, length, drop}
use Rattle.std.proofs.Math.Path.{refl, sym, ap}
use Rattle.std.proofs.Common.{ap₂, subst, ◌∙◌, mul-le-mul_right, arith, le-ltb, lt-ltb, ltb-false}
use mathlib.Core.List.{List, [], ◌∷◌, ◌++◌}
use Prim.Native.Nat.{ℕ, zero, suc, ◌+◌, ◌≤◌, ◌<◌}
use Rattle.std.proofs.lemmas.Bool.{not-false}
use Rattle.meaning.specs.All.{all_imp}
use Rattle.meaning.specs.Limits.{workspace_words}
use Rattle.meaning.specs.Refusals as No
use Rattle.meaning.specs.Grounds.{Ground, ground, first_of, none_holds, first_before, none_before, NoneOf, exactly_told}
use Rattle.meaning.specs.Text.{Regs}
use Rattle.meaning.specs.Bytes.{Bytes, text_of}
use Rattle.meaning.specs.Node.{Node}
use Rattle.meaning.specs.Standard.{search_from}
use Rattle.machine.specs.Steps.{search_row}
use Rattle.machine.proofs.Coded.{rows_in_length}
use Rattle.machine.proofs.Passed.{run_done}
use Rattle.machine.specs.Words.{rows_said, rows_in, decode, code_passes}
use Rattle.machine.specs.Repetition.{found_from, run_starts, repetition, executed_in, standard_all, list_words}
use Rattle.machine.proofs.Repeated.{starts_rise, starts_few, starts_inside, repeated_same, each_run}
use Rattle.machine.proofs.Once.{each_once}
use Rattle.running_moves.specs.Ready.{Ready, ready}
use Rattle.reading_grammar.proofs.Sound.{Sound, sound}
use Rattle.tidying_laws.specs.Tidier.{tidy}
use Rattle.compiler.specs.Compiling.{plain, tidied, Compiles}
use Rattle.compiler.specs.Compiling.{Compilation}
use Rattle.compiler.specs.Compiling.{Compilation.Rows}
use Rattle.repetition.specs.Listings.{listing_values, lent_all, repetition_grounds, repetition_refusal, words_of, list_grounds, listing_to}
use Rattle.repetition.specs.Listings.{spans_of, list_from, Lists}
use Rattle.repetition.specs.Listings.{Listing}
use Rattle.repetition.specs.Listings.{Listing.Listed, Listing.Short, Listing.Refused}
use Rattle.millkettle.specs.Compiled.{Coded, Compiled, compiled}
use Rattle.millkettle.specs.Laws.{Way.searching, finds}
use Rattle.demands.proofs.Runs.{coded_as, rows_bytes}
use Rattle.demands.proofs.Tidied.{twins, same_standard}
use Rattle.demands.specs.AllMatches.{Bounded, SameLists, SomeStandardAll, StandardAll, outcome_all}

pub bounded : (code text : List ℕ) (start workspace : ℕ) → repetition_refusal code text start workspace ≡ 0
    → Bounded code text start
unfolding repetition_refusal
bounded code text start workspace e =
    let fails = none_holds No.code_fails (repetition_grounds code text start workspace) refl e in
    let r : Ready code = ready code (not-false (code_passes code) fails) in
    let low : search_row < length (rows_in code (rows_said code) 0)
    = omega (arith, rows_in_length code (rows_said code) 0, r.least) in
    record {
      ends = all_imp (λ s. (start ≤ s) × (s ≤ length text)) _
          (λ s h. run_done (decode code) r.rows (text_of text) s search_row low h.1) (run_starts code text start)
          (starts_inside (found_from code text) (length text) start);
      each = each_run code text r.rows (omega (arith, r.least)) start;
      rise = starts_rise (found_from code text) (length text) start;
      few = starts_few (found_from code text) (length text) start;
    }

-- The answer and what it leaves, by the number of the runs' refusal.
module _ {code text : List ℕ} {start : ℕ} {list list' : List ℤ} {workspace workspace' : List ℕ} {answer : Listing}
    (l : Lists code text start list list' workspace workspace' answer) where
  abbrev matches : List Regs
  matches = repetition code text start

  abbrev needed : ℕ
  needed = words_of code matches

  abbrev number : ℕ
  number = repetition_refusal code text start (length workspace)

  answered : (k : ℕ) → number ≡ k → answer ≡ listing_to k needed (length list) (length matches) (executed_in code text start)
  answered k e =
      l.answers ∙ ap (λ n. listing_to n needed (length list) (length matches) (executed_in code text start)) e

  left : (k : ℕ) → number ≡ k → list' ≡ list_from k needed matches list
  left k e = l.list_is ∙ ap (λ n. list_from n needed matches list) e

  -- The number is the first in order whose condition holds.
  abbrev short : Ground
  short = ground No.short_list (ltb (length list) needed)

  one_number : (b : Bool) (k m c : ℕ) → (listing_values (cond b (Short k) (Listed m c))).number ≡ cond b No.short_list 0
  one_number true k m c = refl
  one_number false k m c = refl

  by_number : (k : ℕ) → number ≡ k
      → (listing_values answer).number ≡ first_of (list_grounds code text start (length list) (length workspace))
  unfolding repetition_refusal
  by_number zero e =
      let grounds : List Ground = repetition_grounds code text start (length workspace) in
      let none : NoneOf grounds = ((exactly_told grounds refl 0).0 e).0 in
      ap (λ x. (listing_values x).number) (answered 0 e)
      ∙ one_number (ltb (length list) needed) needed (length matches) (executed_in code text start)
      ∙ sym (none_before grounds (short ∷ []) none)
  by_number (suc k) e =
      ap (λ x. (listing_values x).number) (answered (suc k) e)
      ∙ sym (first_before (repetition_grounds code text start (length workspace)) (short ∷ []) k e)

  pub first_number : (listing_values answer).number ≡ first_of (list_grounds code text start (length list) (length workspace))
  first_number = by_number number refl

  -- 20 to 24 change nothing.
  pub nothing_changed : (k : ℕ) → number ≡ suc k → (answer ≡ Refused (suc k)) × (list' ≡ list) × (workspace' ≡ workspace)
  nothing_changed k e = (answered (suc k) e, left (suc k) e, l.untouched (suc k) (answered (suc k) e))

  -- A list that is shorter than the matches' words stays, and the number of those words is reported.
  pub too_short : number ≡ 0 → length list < needed → (answer ≡ Short needed) × (list' ≡ list)
  too_short e h = (answered 0 e ∙ rw (lt-ltb (length list) needed h), left 0 e ∙ rw (lt-ltb (length list) needed h))

  -- Any other holds every match, in order, and later words stay; the count is the sum of the runs'.
  pub all_listed : number ≡ 0 → needed ≤ length list
      → (answer ≡ Listed (length matches) (executed_in code text start)) × (list' ≡ spans_of matches ++ drop needed list)
  all_listed e h = (answered 0 e ∙ rw (le-ltb (length list) needed h), left 0 e ∙ rw (le-ltb (length list) needed h))

module _ {code : List ℕ} {n g : ℕ} {r : Node} (m : Coded code n g r) (text : List ℕ) (bytes : Bytes text) (start : ℕ) where
  -- The repetition of a pattern's code is the standard's.
  pub same_matches : repetition code text start ≡ standard_all (text_of text) g r start
  same_matches = repeated_same (found_from code text) (search_from (text_of text) g r) (length text)
      (λ s h. finds m text bytes s searching h) start

  same_number : (workspace : ℕ) → repetition_refusal code text start workspace ≡ first_of (lent_all n g text start workspace)
  unfolding repetition_refusal
  same_number workspace = rw (m.passes, m.rows_said_lem, m.groups_said_lem)

  pub lists_standard : {list list' : List ℤ} {workspace workspace' : List ℕ} {answer : Listing}
      → Lists code text start list list' workspace workspace' answer
      → StandardAll r n g code text start list list' (length workspace) answer
  lists_standard {list} {workspace = workspace} l =
      let executed : ℕ = executed_in code text start in
      let same = same_number (length workspace) in
      record {
        answers = λ e. answered l 0 (same ∙ e)
            ∙ ap₂ (λ h all. listing_to 0 (list_words (length all) h) (length list) (length all) executed) m.groups_said_lem same_matches;
        list_is = λ e. left l 0 (same ∙ e)
            ∙ ap₂ (λ h all. list_from 0 (list_words (length all) h) all list) m.groups_said_lem same_matches;
        refuses = λ k e. (nothing_changed l k (same ∙ e)).0;
        once = each_once text g r m.numbers bytes m.proper start;
      }

pub compiled_all : (tidying : Bool) {s text : List ℕ} {start : ℕ} {table table' code code' : List ℕ} {list list' : List ℤ}
    {workspace workspace' : List ℕ} {n g : ℕ} {answer : Listing} → Bytes text
    → Compiles tidying s table table' code code' (Rows n g)
    → Lists code' text start list list' workspace workspace' answer
    → SomeStandardAll tidying s table code' text start n g list list' (length workspace) answer
compiled_all tidying {s} {text} {start} {table} {code = code} {n = n} {g = g} bt h l =
    let m : Compiled tidying s table code n g = compiled tidying s table code n g (rows_bytes h) (sym h.answers) in
    record {
      node = m.node;
      is_read = m.is_read;
      is_derived = subst (Sound s (length table)) m.is_read (sound s (length table));
      standard = lists_standard (coded_as h.code_is m.is_coded) text bt start l;
    }

-- ---- demand 3

-- What is lent is enough for runs of fewer rows.
enough_all : (n m g : ℕ) (text : List ℕ) (start workspace : ℕ) → m ≤ n → first_of (lent_all n g text start workspace) ≡ 0
    → first_of (lent_all m g text start workspace) ≡ 0
enough_all n m g text start workspace h z =
    let few : workspace_words m g ≤ workspace_words n g = mul-le-mul_right (g + 2) (omega arith) in
    let was = none_holds No.small_workspace (lent_all n g text start workspace) refl z in
    let room : workspace_words n g ≤ workspace = ltb-false _ _ was in
    rw (le-ltb workspace (workspace_words m g) (omega arith)) (rw was at z)

outcome_all_lem : (needed list matches c d : ℕ)
    → outcome_all (listing_to 0 needed list matches c) ≡ outcome_all (listing_to 0 needed list matches d)
outcome_all_lem needed list matches c d = go (ltb list needed)
  where
    go : (b : Bool) → outcome_all (cond b (Short needed) (Listed matches c)) ≡ outcome_all (cond b (Short needed) (Listed matches d))
    go true = refl
    go false = refl

-- Where the plain pattern has room to run, the tidied one has a program of no more rows, and gives one list and one number of
-- words needed, in calls with buffers of their own.
pub same_lists : {s text : List ℕ} {start : ℕ} {table table₂ table' table'' code code₂ code' code'' : List ℕ}
    {list list₂ list' list'' : List ℤ} {workspace workspace₂ workspace' workspace'' : List ℕ} {n g : ℕ}
    {compiled : Compilation} {r q : Listing} → Bytes text → Compiles plain s table table' code code' (Rows n g)
    → length table ≡ length table₂ → length code ≡ length code₂ → Compiles tidied s table₂ table'' code₂ code'' compiled
    → first_of (lent_all n g text start (length workspace)) ≡ 0
    → Lists code' text start list list' workspace workspace' r
    → length list ≡ length list₂ → length workspace ≡ length workspace₂
    → Lists code'' text start list₂ list'' workspace₂ workspace'' q
    → ((m : ℕ) × (compiled ≡ Rows m g) × (m ≤ n)) × (outcome_all r ≡ outcome_all q) × SameLists g list list' list₂ list''
same_lists {text = text} {start = start} {code' = code'} {code'' = code''} {list = list} {list₂ = list₂} {workspace = workspace}
    {workspace₂ = workspace₂} {n = n} {g = g} bt h et ec k room a el ew b =
    let (m, o, e, t) = twins h et ec k in
    let again : first_of (lent_all n g text start (length workspace₂)) ≡ 0
    = sym (ap (λ w. first_of (lent_all n g text start w)) ew) ∙ room in
    let small : first_of (lent_all m g text start (length workspace₂)) ≡ 0
    = enough_all n m g text start (length workspace₂) t.fewer again in
    let u = lists_standard t.as_read text bt start a in
    let v = lists_standard t.as_tidied text bt start b in
    let std : standard_all (text_of text) g o start ≡ standard_all (text_of text) g (tidy o) start
    = repeated_same (search_from (text_of text) g o) (search_from (text_of text) g (tidy o)) (length text)
    (λ s l. same_standard searching text bt o (suc g) g s t.as_read.numbers l) start in
    let c : ℕ = executed_in code'' text start in
    let all : List Regs = standard_all (text_of text) g (tidy o) start in (
      (m, e, t.fewer),
      ap outcome_all (u.answers room)
          ∙ ap (λ ms. outcome_all (listing_to 0 (list_words (length ms) g) (length list) (length ms) (executed_in code' text start))) std
          ∙ outcome_all_lem (list_words (length all) g) (length list) (length all) (executed_in code' text start) c
          ∙ ap (λ n. outcome_all (listing_to 0 (list_words (length all) g) n (length all) c)) el
          ∙ sym (ap outcome_all (v.answers small)),
      record {
        all = all;
        first = u.list_is room ∙ ap (λ ms. list_from 0 (list_words (length ms) g) ms list) std;
        second = v.list_is small;
      },
    )
