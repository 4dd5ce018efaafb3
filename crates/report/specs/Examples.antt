-- Worked examples: results and complaints, and their texts. One table, and one theorem by computation.
use Rattle.std.specs.Prelude.{ℕ, ◌≡◌, refl, List, [], ◌∷◌, map, Option, Some, None}
use Prim.Native.String.{String}
use Rattle.text_fields.specs.Split.{bytes}
use Rattle.text_faults.specs.Why.{why_number}
use Rattle.text_faults.specs.declared.Why.{Why}
use Rattle.text_faults.specs.declared.Why.TheVariants.{Mark, Name, Cut}
use Rattle.report.specs.Printed.{digits_of, decimal, verdict_word, number_field, printed}
use Rattle.report.specs.Words.{meaning, fail_meant, clash_meant, cause}
use Rattle.report.specs.Complaint.{field_part, where_part, what_part, why_part, complained}

-- what is printed, and what it should be
pub record Example : Type 0 where
  pub said : List ℕ
  pub text : List ℕ

-- a result: verdict, steps, number, entries, place
result : ℕ → ℕ → ℕ → ℕ → ℕ → String → Example
result verdict steps number entries place s =
    record { said = printed (record { verdict = verdict; steps = steps; number = number; entries = entries; place = place }); text = bytes s }

-- a complaint: line, field, number and the cause's number
caused : ℕ → ℕ → ℕ → ℕ → String → Example
caused line field number why s = record { said = complained (record { number = number; line = line; field = field; why = why }); text = bytes s }

-- the same of a text that is malformed
complaint : ℕ → ℕ → ℕ → Option Why → String → Example
complaint line field number why s = caused line field number (why_number why) s

-- each with its text
pub table : List Example
table =
    -- the three verdicts, and a number that is none of theirs
    result 0 10 0 9 0 "verdict steps code trail place\nopen 10 0 9 0\n"
    ∷ result 1 1 0 2 0 "verdict steps code trail place\nrefuted 1 0 2 0\n"
    ∷ result 2 99 13 100 5 "verdict steps code trail place\nrefused 99 13 100 5\n"
    ∷ result 3 0 31 0 0 "verdict steps code trail place\nrefused 0 31 0 0\n"
    -- the largest numbers
    ∷ result 65535 65535 65535 65535 65535 "verdict steps code trail place\nrefused 65535 65535 65535 65535\n"
    -- a line, a field and a cause
    ∷ complaint 28 2 31 (Some Name) "line 28, field 2: 31 malformed: a name of more than 64 bytes\n"
    -- a line and a cause
    ∷ complaint 1 0 31 (Some Mark) "line 1: 31 malformed: a byte order mark stands before the header\n"
    -- a line and a field
    ∷ complaint 3 1 2 None "line 3, field 1: 2 a name is repeated or reserved\n"
    -- the same of a step
    ∷ complaint 9 5 13 None "line 9, field 5: 13 the rule does not fit\n"
    -- a line alone
    ∷ complaint 9 0 14 None "line 9: 14 the value is there already\n"
    -- the line that was meant
    ∷ caused 18 0 26 fail_meant "line 18: 26 fail is the line at level 0, clash the one above it: fail was meant\n"
    ∷ caused 18 0 26 clash_meant "line 18: 26 fail is the line at level 0, clash the one above it: clash was meant\n"
    -- the last of the numbers of steps
    ∷ complaint 17 0 27 None "line 17: 27 the value contradicts an equation on the trail\n"
    -- no line, and then no field either
    ∷ complaint 0 0 32 None "32 a lent buffer is short\n"
    ∷ complaint 0 7 30 None "30 above a ceiling\n"
    -- nothing wrong, whatever else is said
    ∷ complaint 9 1 0 (Some Name) ""
    -- the largest line and field
    ∷ complaint 18446744073709551615 18446744073709551615 31 (Some Cut)
    "line 18446744073709551615, field 18446744073709551615: 31 malformed: the last line has no newline\n"
    ∷ []

-- each is printed as its text
pub texts : map (λ (e : Example). e.said) table ≡ map (λ (e : Example). e.text) table
unfolding table result caused complaint printed verdict_word number_field digits_of decimal complained field_part where_part what_part why_part meaning cause
texts = refl
