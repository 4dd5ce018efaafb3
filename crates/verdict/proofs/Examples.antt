-- Worked examples from bytes to bytes: texts, what is printed of them, and what a person is told. One table, and one theorem by computation.
use Prim.Native.Nat.{ℕ}
use Prim.Native.String.{String}
use mathlib.Core.Path.{◌≡◌, refl}
use mathlib.Core.List.{List, [], ◌∷◌, ◌++◌, map}
use Rattle.calculus.specs.Lists
use Rattle.calculus.specs.Numbers
use Rattle.calculus.specs.Sheets
use Rattle.calculus.specs.Sorts
use Rattle.calculus.specs.Terms
use Rattle.calculus.specs.Trail
use Rattle.calculus.specs.Inputs
use Rattle.calculus.specs.Rules
use Rattle.calculus.specs.Clauses
use Rattle.calculus.specs.Steps
use Rattle.calculus.specs.Place
use Rattle.calculus.specs.Run
use Rattle.text_fields.specs.Split.{bytes}
use Rattle.text_fields.specs.Words.{ref_of}
use Rattle.text_fields.specs.Shape.{shape_of}
use Rattle.text_faults.specs.Why.{header_why, row_why}
use Rattle.text_rows.specs.Rows.{is_taken, head_of, sort_row, term_row, input_row, step_row}
use Rattle.text_lines.specs.Lines.{read_line, line_effect}
use Rattle.reader.specs.Text.{line_step, text_state, text_fault}
use Rattle.report.specs.Printed
use Rattle.report.specs.Printed.{digits_of, decimal, verdict_word, number_field}
use Rattle.report.specs.Words.{meaning, cause}
use Rattle.report.specs.Complaint.{field_part, where_part, what_part, why_part, complained}
use Rattle.verdict.specs.Verdict.{verdict_of}
use Rattle.verdict.specs.Fault.{cut_refused, refused_row, line_of, line_meant, complaint_of}

-- what is printed, and what a person is told
pub record Seen : Type 0 where
  pub printed : List ℕ
  pub told : List ℕ

abbrev seen : List ℕ → Seen
seen bs = record { printed = Printed.printed (verdict_of bs); told = complained (complaint_of bs) }

-- a text, and what has to be seen of it
pub record Example : Type 0 where
  pub text : List ℕ
  pub seen : Seen

-- a text, the second line that is printed, and the line that is told
example : List ℕ → String → String → Example
example text result told =
    record { text = text; seen = record { printed = bytes "verdict steps code trail place\n" ++ bytes result; told = bytes told } }

-- the small board of document 01
board : List ℕ
board =
    bytes "sort index value\nS - -\n\nterm head sort a b c d\na A S - - - -\nb B S - - - -\ne eq prop a b - -\n"
    ++ bytes "fa F S a - - -\nfb F S b - - -\ng eq prop fa fb - -\n\nterm value\n"

-- three props, their and, which is false, and two clauses: or(not(r), not(q)), or(q, not(r))
props : List ℕ
props =
    bytes "sort index value\n\nterm head sort a b c d\np P prop - - - -\nq Q prop - - - -\nr R prop - - - -\nall and prop p q r -\n"
    ++ bytes "no-q not prop q - - -\nno-r not prop r - - -\nclause or prop no-r no-q - -\nother or prop q no-r - -\n\nterm value\nall false\n"

-- the end of the input, and the header of the steps
steps : List ℕ
steps = bytes "\nstep rule term value p q r s t\n"

-- the board, an input and a log
log : String → String → List ℕ
log input rows = board ++ bytes input ++ steps ++ bytes rows

-- p, q and r decided true against the and, a learn line, and more
learned : String → String → List ℕ
learned line rows =
    props ++ steps ++ bytes "decide - p true - - - - -\ndecide - q true - - - - -\ndecide - r true - - - - -\nclash eval all true p q r - -\n"
    ++ bytes line ++ bytes rows

pub table : List Example
table =
    -- document 01's listing
    example (log "e true\ng false\n" "fail cong g true e - - - -\n") "refuted 1 0 2 0\n" ""
    -- no steps
    ∷ example (log "e true\n" "") "open 0 0 1 0\n" ""
    -- the second step is refused: there is no conflict to resolve in
    ∷ example (log "g false\n" "decide - e true - - - - -\nresolve - e - - - - - -\n") "refused 1 10 2 0\n"
    "line 17: 10 wrong state for the step\n"
    -- a premise that names no row, the second of two that are not on the trail, and a term that names no row
    ∷ example (log "e true\n" "deduce same g true fa fx - - -\n") "refused 0 11 1 6\n"
    "line 16, field 6: 11 the term or a premise is no row\n"
    ∷ example (log "a 7\ne true\n" "deduce same g true a fa fb - -\n") "refused 0 12 2 6\n"
    "line 17, field 6: 12 a premise is not on the trail\n"
    ∷ example (log "e true\n" "decide - x true - - - - -\n") "refused 0 11 1 3\n"
    "line 16, field 3: 11 the term or a premise is no row\n"
    -- clash at level 0, fail above it
    ∷ example (log "e true\ng false\n" "clash cong g true e - - - -\n") "refused 0 26 2 0\n"
    "line 17: 26 fail is the line at level 0, clash the one above it: fail was meant\n"
    ∷ example (log "g false\n" "decide - e true - - - - -\nfail cong g true e - - - -\n") "refused 1 26 2 0\n"
    "line 17: 26 fail is the line at level 0, clash the one above it: clash was meant\n"
    -- e is false, and b is to have the value of a
    ∷ example (log "e false\n" "decide - a 7 - - - - -\ndecide - b 7 - - - - -\n") "refused 1 27 2 0\n"
    "line 17: 27 the value contradicts an equation on the trail\n"
    ∷ example (log "e false\n" "decide - a 7 - - - - -\ndecide - b 8 - - - - -\n") "open 2 0 3 0\n" ""
    -- learn, with its level as a number and as a word; the clause is used
    ∷ example (learned "learn - clause 2 q r - - -\n" "deduce eval no-q false q - - - -\ndeduce unit no-r true clause no-q - - -\n") "open 7 0 6 0\n" ""
    ∷ example (learned "learn - clause true q r - - -\n" "") "open 5 0 3 0\n" ""
    -- the level is that of the members, or below the rest; the clause is another; a member twice; one member
    ∷ example (learned "learn - clause 3 q r - - -\n" "") "refused 4 21 4 0\n"
    "line 21: 21 its level is not above the rest, or learn's level is outside its range\n"
    ∷ example (learned "learn - clause false q r - - -\n" "") "refused 4 21 4 0\n"
    "line 21: 21 its level is not above the rest, or learn's level is outside its range\n"
    ∷ example (learned "learn - other 1 q r - - -\n" "") "refused 4 25 4 0\n"
    "line 21: 25 the clause does not match the members, or one is named twice\n"
    ∷ example (learned "learn - clause 1 q q - - -\n" "") "refused 4 25 4 0\n"
    "line 21: 25 the clause does not match the members, or one is named twice\n"
    ∷ example (learned "learn - no-q 1 q r - - -\n" "") "refused 4 22 4 0\n"
    "line 21: 22 a term's sort or head is wrong for the step, or the value does not suit it\n"
    ∷ example (learned "learn - clause 1 q - - - -\n" "") "refused 4 9 4 0\n" "line 21: 9 a step's columns are wrong\n"
    -- an input row: a prop has no value 2
    ∷ example (log "g false\ne 2\n" "") "refused 0 7 0 0\n" "line 14: 7 a value that the term cannot have\n"
    -- a term row whose argument stands below, and a sort row that names itself
    ∷ example (bytes "sort index value\n\nterm head sort a b c d\np P prop - - - -\nq not prop r - - -\nr not prop p - - -\n\nterm value\n" ++ steps)
    "refused 0 3 0 0\n" "line 5: 3 an argument is no earlier row\n"
    ∷ example (bytes "sort index value\nS - -\nT S T\n\nterm head sort a b c d\n\nterm value\n" ++ steps) "refused 0 1 0 0\n"
    "line 3: 1 a sort row breaks the rule for sorts\n"
    -- not read: the last line has no newline
    ∷ example (log "e true\n" "fail cong g true e - - - -") "refused 0 31 0 0\n"
    "line 16: 31 malformed: the last line has no newline\n"
    ∷ []

pub answers : map (λ (e : Example). seen e.text) table ≡ map (λ (e : Example). e.seen) table
unfolding table example board props steps log learned Lists.first_where Numbers.unless Numbers.or_else Numbers.first_refusal Sheets.length_refusal Sorts.is_array Sorts.is_plain Sorts.sort_refusal Sorts.sorts_refusal Terms.cells Terms.args Terms.arg Terms.earlier Terms.same_use Terms.first_use Terms.suits Terms.twins Terms.fresh Terms.term_refusal Terms.terms_refusal Trail.on Trail.entry Trail.holds Trail.level_of Trail.kept_to Trail.trail_numbers_of Inputs.input_trail Inputs.input_refusal Inputs.inputs_refusal Rules.rule_of Rules.bare Rules.single Rules.double Rules.leading Rules.unit_at Rules.fits Clauses.literal Clauses.paired Steps.answer Steps.premises Steps.kind_of Steps.shaped Steps.ready Steps.known Steps.acceptable Steps.decide_refusal Steps.decide Steps.inference_refusal Steps.deduce_refusal Steps.deduce Steps.contradiction_refusal Steps.clash_refusal Steps.clash Steps.fail_refusal Steps.fail Steps.resolve_refusal Steps.resolve Steps.clear_refusal Steps.clear Steps.jump_refusal Steps.jump Steps.flip_refusal Steps.flip Steps.learn_refusal Steps.learn Steps.row_refusal Steps.step_by Steps.step Place.strange_place Place.absent_place Place.place_of Run.follow Run.run Run.sheets_refusal Run.call_refusal Run.ending_of Run.ending Run.outcome ref_of shape_of is_taken head_of sort_row term_row input_row step_row header_why row_why read_line line_effect line_step text_state text_fault digits_of decimal verdict_word number_field Printed.printed meaning cause field_part where_part what_part why_part complained verdict_of cut_refused refused_row line_of line_meant complaint_of
answers = refl
