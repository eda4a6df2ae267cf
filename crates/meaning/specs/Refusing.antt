-- The outline's number for each refusal of the code. No two have one number.
use Rattle.std.specs.Prelude.{◌≡◌, List, [], ◌∷◌, ℕ, get_or, refl}
use Rattle.std.proofs.Common.{sym, ◌∙◌, ap}
use Rattle.meaning.specs.Refusals as No
use Rattle.meaning.specs.declared.refusals.Refusal.{Refusal}
use Rattle.meaning.specs.declared.refusals.Refusal.TheVariants as Why

abbrev pub number_of : Refusal → ℕ
number_of Why.LongPattern = No.long_pattern
number_of Why.SmallTable = No.small_table
number_of Why.HighByte = No.high_byte
number_of Why.BadEscape = No.bad_escape
number_of Why.LeftOut = No.left_out
number_of Why.NoAtom = No.no_atom
number_of Why.BadBraces = No.bad_braces
number_of Why.HighCount = No.high_count
number_of Why.ReversedCounts = No.reversed_counts
number_of Why.BadClass = No.bad_class
number_of Why.Unmatched = No.unmatched
number_of Why.Stray = No.stray
number_of Why.TooDeep = No.too_deep
number_of Why.ManyGroups = No.many_groups
number_of Why.ManyRows = No.many_rows
number_of Why.ShortCode = No.short_code
number_of Why.CodeFails = No.code_fails
number_of Why.LongText = No.long_text
number_of Why.StartBeyond = No.start_beyond
number_of Why.FewRegisters = No.few_registers
number_of Why.SmallWorkspace = No.small_workspace
number_of Why.ShortList = No.short_list
number_of Why.OutsideForm = No.outside_form
number_of Why.Unshown = No.unshown
number_of Why.BadField = No.bad_field
number_of Why.BadGate = No.bad_gate

-- Two refusals of one number are one refusal: each is found by its number in a list.
abbrev by_number : List Refusal
by_number =
    Why.LongPattern ∷ Why.LongPattern ∷ Why.SmallTable ∷ Why.HighByte ∷ Why.BadEscape ∷ Why.LeftOut ∷ Why.NoAtom ∷
    Why.BadBraces ∷ Why.HighCount ∷ Why.ReversedCounts ∷ Why.BadClass ∷ Why.Unmatched ∷ Why.Stray ∷ Why.TooDeep ∷
    Why.ManyGroups ∷ Why.ManyRows ∷ Why.ShortCode ∷ Why.LongPattern ∷ Why.LongPattern ∷ Why.LongPattern ∷ Why.CodeFails ∷
    Why.LongText ∷ Why.StartBeyond ∷ Why.FewRegisters ∷ Why.SmallWorkspace ∷ Why.ShortList ∷ Why.OutsideForm ∷ Why.Unshown ∷
    Why.BadField ∷ Why.BadGate ∷ []

why_of_number : (why : Refusal) → get_or by_number (number_of why) Why.LongPattern ≡ why
why_of_number Why.LongPattern = refl
why_of_number Why.SmallTable = refl
why_of_number Why.HighByte = refl
why_of_number Why.BadEscape = refl
why_of_number Why.LeftOut = refl
why_of_number Why.NoAtom = refl
why_of_number Why.BadBraces = refl
why_of_number Why.HighCount = refl
why_of_number Why.ReversedCounts = refl
why_of_number Why.BadClass = refl
why_of_number Why.Unmatched = refl
why_of_number Why.Stray = refl
why_of_number Why.TooDeep = refl
why_of_number Why.ManyGroups = refl
why_of_number Why.ManyRows = refl
why_of_number Why.ShortCode = refl
why_of_number Why.CodeFails = refl
why_of_number Why.LongText = refl
why_of_number Why.StartBeyond = refl
why_of_number Why.FewRegisters = refl
why_of_number Why.SmallWorkspace = refl
why_of_number Why.ShortList = refl
why_of_number Why.OutsideForm = refl
why_of_number Why.Unshown = refl
why_of_number Why.BadField = refl
why_of_number Why.BadGate = refl

pub one_number : (why other : Refusal) → number_of why ≡ number_of other → why ≡ other
one_number why other same =
    sym (why_of_number why) ∙ ap (λ n. get_or by_number n Why.LongPattern) same ∙ why_of_number other
