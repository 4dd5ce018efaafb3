-- The words for a person: what every number of a refusal means, what makes a text malformed, and which line was meant.
use Rattle.std.specs.Prelude.{ℕ, List, [], ◌∷◌, eqb, Some, Option, None}
use Prim.Native.String.{String}
use Rattle.text_fields.specs.Split.{pick, bytes}
use Rattle.text_faults.specs.Why.{why_number}
use Rattle.text_faults.specs.declared.Why.{Why}
use Rattle.text_faults.specs.declared.Why.TheVariants.{Mark, Return, Long, Header, Empty, Byte, Fields, Name, Value, Early, Cut}
use Rattle.report.specs.declared.Meant.{Meant}
use Rattle.report.specs.declared.Meant.TheVariants.{Fail, Clash}

-- a number and its words
pub record Meaning : Type 0 where
  pub number : ℕ
  pub words : List ℕ

-- a row of a list, by the number or by the cause
abbrev pub means : ℕ → String → Meaning
means n s = record { number = n; words = bytes s }

abbrev pub because : Why → String → Meaning
because w s = record { number = why_number (Some w); words = bytes s }

-- the words of a number; none where it is not in the list
abbrev pub words_of : List Meaning → ℕ → List ℕ
words_of [] n = []
words_of (m ∷ ms) n = pick (eqb m.number n) m.words (words_of ms n)

-- the numbers of refusals
abbrev pub meanings : List Meaning
meanings =
    means 1 "a sort row breaks the rule for sorts"
    ∷ means 2 "a name is repeated or reserved"
    ∷ means 3 "an argument is no earlier row"
    ∷ means 4 "head, sort and arguments do not fit"
    ∷ means 5 "a row with the head and arguments of an earlier one"
    ∷ means 6 "an input row names no term"
    ∷ means 7 "a value that the term cannot have"
    ∷ means 8 "a term given twice"
    ∷ means 9 "a step's columns are wrong"
    ∷ means 10 "wrong state for the step"
    ∷ means 11 "the term or a premise is no row"
    ∷ means 12 "a premise is not on the trail"
    ∷ means 13 "the rule does not fit"
    ∷ means 14 "the value is there already"
    ∷ means 15 "the opposite is there"
    ∷ means 16 "the opposite is not there"
    ∷ means 17 "not a member of the conflict"
    ∷ means 18 "it is a decision"
    ∷ means 19 "resolve is barred"
    ∷ means 20 "not the decision that clear needs"
    ∷ means 21 "its level is not above the rest, or learn's level is outside its range"
    ∷ means 22 "a term's sort or head is wrong for the step, or the value does not suit it"
    ∷ means 23 "no shared decision"
    ∷ means 25 "the clause does not match the members, or one is named twice"
    ∷ means 26 "fail is the line at level 0, clash the one above it"
    ∷ means 27 "the value contradicts an equation on the trail"
    ∷ means 30 "above a ceiling"
    ∷ means 31 "malformed"
    ∷ means 32 "a lent buffer is short"
    ∷ []

-- what a number means
unfoldable pub meaning : ℕ → List ℕ
meaning n = words_of meanings n

-- the causes of 26, behind those of 31: the line that was meant
abbrev pub fail_meant : ℕ
fail_meant = 12

abbrev pub clash_meant : ℕ
clash_meant = 13

abbrev pub meant_number : Meant → ℕ
meant_number Fail = fail_meant
meant_number Clash = clash_meant

-- 0 where none was meant
abbrev pub meant_at : Option Meant → ℕ
meant_at None = 0
meant_at (Some m) = meant_number m

-- the causes of 31 in a text, and those of 26
abbrev pub causes : List Meaning
causes =
    because Mark "a byte order mark stands before the header"
    ∷ because Return "a carriage return, where lines end with a newline alone"
    ∷ because Long "the line has more than 525 bytes"
    ∷ because Header "this is not the sheet's header line"
    ∷ because Empty "an empty line after the last sheet"
    ∷ because Byte "a tab or another byte that no field may have"
    ∷ because Fields "not as many fields as the sheet has columns, or not single spaces"
    ∷ because Name "a name of more than 64 bytes"
    ∷ because Value "neither true, false, - nor a number up to 65534 without leading zeros"
    ∷ because Early "the text ends before the header of the step sheet"
    ∷ because Cut "the last line has no newline"
    ∷ means fail_meant "fail was meant"
    ∷ means clash_meant "clash was meant"
    ∷ []

-- what the number of a cause means; nothing for 0, that of no cause
unfoldable pub cause : ℕ → List ℕ
cause n = words_of causes n
