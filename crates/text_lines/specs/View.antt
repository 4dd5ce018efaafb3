-- What the code's values and buffers stand for: where the reading stands, what a line does, and the four lent sheets.
use Rattle.std.specs.Prelude.{Option, Some, None, Bool, true, false, ℕ, ◌*◌, ◌≤◌, ◌≡◌, List, length, take}
use Rattle.std.proofs.lemmas.List.Edits.{sets}
use Rattle.text_faults.specs.Why.{row_why}
use Rattle.text_faults.specs.declared.Why.{Why}
use Rattle.text_rows.specs.Rows.{Kept}
use Rattle.text_rows.specs.View.{kept_of, Bounded}
use Rattle.text_rows.specs.declared.BadRow.{BadRow}
use Rattle.text_rows.specs.declared.BadRow.TheVariants as bad
use Rattle.text_lines.specs.Lines.{Control, Effect, line_effect, value_column}
use Rattle.text_lines.specs.declared.Fault.{Fault}
use Rattle.text_lines.specs.declared.Fault.TheVariants.{Name, Ceiling, Malformed, Given}
use Rattle.text_lines.specs.declared.Sheet.{Sheet}
use Rattle.text_lines.specs.declared.Sheet.TheVariants.{Sorts, Terms, Inputs, Steps}
use Rattle.text_lines.specs.declared.Core.{Core}
use Rattle.text_lines.specs.declared.Step.{Step}

-- the number of a fault, its place, and why a line is malformed
abbrev pub fault_number : Fault → ℕ
fault_number Name = 2
fault_number Ceiling = 30
fault_number (Malformed place why) = 31
fault_number (Given number place why) = number

abbrev pub fault_place : Fault → ℕ
fault_place Name = 1
fault_place Ceiling = 0
fault_place (Malformed place why) = place
fault_place (Given number place why) = place

abbrev pub fault_why : Fault → Option Why
fault_why Name = None
fault_why Ceiling = None
fault_why (Malformed place why) = Some why
fault_why (Given number place why) = why

-- the same where there may be none: the numbers are 0 then
abbrev pub number_at : Option Fault → ℕ
number_at None = 0
number_at (Some f) = fault_number f

abbrev pub place_at : Option Fault → ℕ
place_at None = 0
place_at (Some f) = fault_place f

abbrev pub why_at : Option Fault → Option Why
why_at None = None
why_at (Some f) = fault_why f

-- whether a fault, if there is one, is of the forms that the lines of a text have, and none that a caller gave
abbrev pub is_textual : Option Fault → Bool
is_textual None = true
is_textual (Some Name) = true
is_textual (Some Ceiling) = true
is_textual (Some (Malformed place why)) = true
is_textual (Some (Given number place why)) = false

-- the fault of a line of values that is no row
abbrev pub row_fault : Sheet → BadRow → List ℕ → Fault
row_fault sheet bad.Name l = Name
row_fault sheet bad.Ceiling l = Ceiling
row_fault sheet (bad.Malformed place) l = Malformed place (row_why (value_column sheet) place l)

abbrev pub control_of : Core → List ℕ → Control
control_of c table =
    record {
      number = number_at c.fault;
      place = place_at c.fault;
      line = c.line;
      why = why_at c.fault;
      sheet = c.sheet;
      headed = c.headed;
      kept = kept_of c.counts table;
    }

abbrev pub effect_of : Step → List ℕ → Effect
effect_of s table = record { control = control_of s.core table; cells = take s.width s.cells }

-- counts within the ceilings, and a row of at most nine numbers
abbrev pub StepBounded : Step → Type 0
StepBounded s = Bounded s.core.counts × (s.width ≤ 9) × (length s.cells ≡ 9)

-- the four lent sheets
pub record Sheets : Type 0 where
  pub sorts : List ℕ
  pub terms : List ℕ
  pub inputs : List ℕ
  pub steps : List ℕ

abbrev pub sheets_of : List ℕ → List ℕ → List ℕ → List ℕ → Sheets
sheets_of sorts terms inputs steps = record { sorts = sorts; terms = terms; inputs = inputs; steps = steps }

-- a row goes behind the rows of its sheet, as far as the sheet reaches
unfoldable pub stored : Sheet → Kept → Sheets → List ℕ → Sheets
stored Sorts k s cells = sheets_of (sets s.sorts (length k.sorts * 2) cells) s.terms s.inputs s.steps
stored Terms k s cells = sheets_of s.sorts (sets s.terms (length k.terms * 6) cells) s.inputs s.steps
stored Inputs k s cells = sheets_of s.sorts s.terms (sets s.inputs (k.inputs * 2) cells) s.steps
stored Steps k s cells = sheets_of s.sorts s.terms s.inputs (sets s.steps (k.steps * 9) cells)

-- the control and the sheets after line n
pub record LineEnded (c : Control) (n : ℕ) (l : List ℕ) (s : Sheets) (c' : Control) (s' : Sheets) : Type 0 where
  pub control_is : c' ≡ (line_effect c n l).control
  pub sheets_are : s' ≡ stored c.sheet c.kept s (line_effect c n l).cells
