-- What a person is told of a text that is refused: the line of the first bad row or step, and its field.
use Rattle.std.specs.Prelude.{ℕ, zero, suc, ◌+◌, ◌*◌, ◌<◌, ◌≡◌, Bool, not, List, [], eqb, ltb, length, take}
use Rattle.calculus.specs.declared.Outcome.{Outcome}
use Rattle.calculus.specs.Sheets.{Call}
use Rattle.calculus.specs.Steps.{step_at}
use Rattle.calculus.specs.Run.{outcome}
use Rattle.text_fields.specs.Split.{pick}
use Rattle.text_faults.specs.Why.{why_number}
use Rattle.text_lines.specs.declared.Sheet.{Sheet}
use Rattle.text_lines.specs.declared.Sheet.TheVariants.{Sorts, Terms, Inputs, Steps}
use Rattle.reader.specs.Text.{State, text_state, text_fault}
use Rattle.reader.specs.Places.{row_line, rows_in}
use Rattle.report.specs.declared.Complaint.{Complaint}
use Rattle.report.specs.Words.{fail_meant, clash_meant}
use Rattle.verdict.specs.Verdict.{call_with, call_from}

-- the sheet that a number of the run is about: 1; 3 to 5; 6 to 8; 9 and more
abbrev pub sheet_of : ℕ → Sheet
sheet_of number = pick (ltb number 3) Sorts (pick (ltb number 6) Terms (pick (ltb number 9) Inputs Steps))

-- the run of the sheets up to the first k rows of one of them
abbrev pub cut_call : Sheet → ℕ → List ℕ → List ℕ → List ℕ → Call
cut_call Sorts k sorts terms inputs = call_with (take (k * 2) sorts) [] [] []
cut_call Terms k sorts terms inputs = call_with sorts (take (k * 6) terms) [] []
cut_call Inputs k sorts terms inputs = call_with sorts terms (take (k * 2) inputs) []
cut_call Steps k sorts terms inputs = call_with sorts terms inputs []

-- whether these are refused
unfoldable pub cut_refused : Sheet → List ℕ → List ℕ → List ℕ → ℕ → Bool
cut_refused sheet sorts terms inputs k = not (eqb (outcome (cut_call sheet k sorts terms inputs)).number 0)

-- the first row from k on, of n, behind which a cut is refused
abbrev pub first_refused : (ℕ → Bool) → ℕ → ℕ → ℕ
first_refused bad k zero = k
first_refused bad k (suc n) = pick (bad (k + 1)) k (first_refused bad (k + 1) n)

-- the first row of a sheet behind which a cut is refused, counted from 0
unfoldable pub refused_row : Sheet → ℕ → List ℕ → List ℕ → List ℕ → ℕ
refused_row sheet rows sorts terms inputs = first_refused (cut_refused sheet sorts terms inputs) 0 rows

-- the row at fault, where the first three sheets have so many rows; of the steps the one behind those that were allowed
abbrev pub row_in : Sheet → Outcome → ℕ → ℕ → ℕ → List ℕ → List ℕ → List ℕ → ℕ
row_in Sorts o a b c sorts terms inputs = refused_row Sorts a sorts terms inputs
row_in Terms o a b c sorts terms inputs = refused_row Terms b sorts terms inputs
row_in Inputs o a b c sorts terms inputs = refused_row Inputs c sorts terms inputs
row_in Steps o a b c sorts terms inputs = o.steps

-- the line of a run's number; 0 where there is none
unfoldable pub line_of : Outcome → ℕ → ℕ → ℕ → List ℕ → List ℕ → List ℕ → ℕ
line_of o a b c sorts terms inputs =
    pick (eqb o.number 0) 0 (row_line (sheet_of o.number) a b c (row_in (sheet_of o.number) o a b c sorts terms inputs))

abbrev pub fault_line : Outcome → State → ℕ
fault_line o s =
    let k = s.control.kept in
    line_of o (length k.sorts) (length k.terms) k.inputs s.sorts s.terms s.inputs

-- the line that was meant where the level is the other line's: fail for a clash row (step 2), clash for a fail row; no other row gets 26 (`Blame`,
-- crate `calculus`)
unfoldable pub line_meant : Outcome → List ℕ → ℕ
line_meant o steps = pick (eqb o.number 26) (pick (eqb (step_at steps o.steps).step 2) fail_meant clash_meant) 0

-- what is told of a run; the columns of the step sheet are the fields of its lines
abbrev pub run_complaint : Outcome → State → Complaint
run_complaint o s = record { number = o.number; line = fault_line o s; field = o.place; why = line_meant o s.steps }

-- what is told of a text that is not read
abbrev pub read_complaint : List ℕ → Complaint
read_complaint bs =
    let f = text_fault bs in
    record { number = f.number; line = f.line; field = f.place; why = why_number f.why }

unfoldable pub complaint_of : List ℕ → Complaint
complaint_of bs =
    pick (eqb (text_fault bs).number 0) (run_complaint (outcome (call_from (text_state bs))) (text_state bs)) (read_complaint bs)

-- the claim: where a text that was read is refused, the row at fault is a row of its sheet; by `RowsHaveLines` (crate `reader`) the line is that row's
abbrev pub FaultsAreRows : Type 0
FaultsAreRows = (bs : List ℕ)
    → let s = text_state bs in
    let k = s.control.kept in
    let o = outcome (call_from s) in
    (o.number ≡ 0 → ⊥)
    → row_in (sheet_of o.number) o (length k.sorts) (length k.terms) k.inputs s.sorts s.terms s.inputs
    < rows_in (sheet_of o.number) k
