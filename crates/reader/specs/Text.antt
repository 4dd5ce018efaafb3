-- The text form of the four sheets: lines one after the other, the end of the file, and what a text that is read leaves.
use Rattle.std.specs.Prelude.{ℕ, Bool, true, false, ◌≡◌, List, [], ◌∷◌, ◌++◌, Option, Some, None, eqb, leb, length, replicate}
use Rattle.text_fields.specs.Split.{pick, pieces, same}
use Rattle.buffers.specs.Room.{pad_to}
use Rattle.text_rows.specs.Rows.{Kept}
use Rattle.text_position.specs.Place.{next_line}
use Rattle.text_faults.specs.Why.{why_number}
use Rattle.text_faults.specs.declared.Why.{Why}
use Rattle.text_faults.specs.declared.Why.TheVariants.{Early, Cut}
use Rattle.text_lines.specs.Lines.{Control, Effect, line_effect, started}
use Rattle.text_lines.specs.declared.Sheet.{Sheet}
use Rattle.text_lines.specs.declared.Sheet.TheVariants.{Sorts, Terms, Inputs, Steps}
use Rattle.text_lines.specs.View.{fault_number, fault_place, fault_why}
use Rattle.reader.specs.declared.BadLine.{BadLine}
use Rattle.reader.specs.declared.ReadOutcome.{ReadOutcome}

-- what has been read: where the reading stands, and the numbers of the four sheets' rows
pub record State : Type 0 where
  pub control : Control
  pub sorts : List ℕ
  pub terms : List ℕ
  pub inputs : List ℕ
  pub steps : List ℕ

abbrev pub applied : Sheet → State → Effect → State
applied Sorts s e =
    record { control = e.control; sorts = s.sorts ++ e.cells; terms = s.terms; inputs = s.inputs; steps = s.steps }
applied Terms s e =
    record { control = e.control; sorts = s.sorts; terms = s.terms ++ e.cells; inputs = s.inputs; steps = s.steps }
applied Inputs s e =
    record { control = e.control; sorts = s.sorts; terms = s.terms; inputs = s.inputs ++ e.cells; steps = s.steps }
applied Steps s e =
    record { control = e.control; sorts = s.sorts; terms = s.terms; inputs = s.inputs; steps = s.steps ++ e.cells }

unfoldable pub line_step : State → ℕ → List ℕ → State
line_step s n l = applied s.control.sheet s (line_effect s.control n l)

-- the lines of a text are the pieces between newlines; the last piece, which no newline ends, is not among them
abbrev pub lines_fold : ℕ → State → List (List ℕ) → State
lines_fold n s [] = s
lines_fold n s (l ∷ []) = s
lines_fold n s (l ∷ m ∷ ms) = lines_fold (next_line n) (line_step s n l) (m ∷ ms)

abbrev pub last : List (List ℕ) → List ℕ
last [] = []
last (p ∷ []) = p
last (p ∷ q ∷ qs) = last (q ∷ qs)

-- the number of the last piece
abbrev pub last_line : ℕ → List (List ℕ) → ℕ
last_line n [] = n
last_line n (p ∷ []) = n
last_line n (p ∷ q ∷ qs) = last_line (next_line n) (q ∷ qs)

abbrev pub start_state : State
start_state = record { control = started; sorts = []; terms = []; inputs = []; steps = [] }

-- the state after all lines of a text
unfoldable pub text_state : List ℕ → State
text_state bs = lines_fold 1 start_state (pieces 10 bs)

abbrev pub is_steps : Sheet → Bool
is_steps Sorts = false
is_steps Terms = false
is_steps Inputs = false
is_steps Steps = true

-- a fault: its number, its line, its place, and why the line is malformed; 0 and none where there is no fault
pub record Fault : Type 0 where
  pub number : ℕ
  pub line : ℕ
  pub place : ℕ
  pub why : Option Why

-- an early end in line n: inside a line, or (where `whole` is true) after one
abbrev pub end_fault : Bool → ℕ → Fault
end_fault whole n = record { number = 31; line = n; place = 0; why = Some (pick whole Early Cut) }

abbrev pub no_fault : Fault
no_fault = record { number = 0; line = 0; place = 0; why = None }

-- the fault that the code's line at fault stands for
abbrev pub fault_in : Option BadLine → Fault
fault_in None = no_fault
fault_in (Some b) = record { number = fault_number b.fault; line = b.line; place = fault_place b.fault; why = fault_why b.fault }

-- the first bad line's; a file that ends before the step sheet's header, or inside a line, is 31 at the line where it ends
abbrev pub fault_of : Control → Bool → ℕ → Fault
fault_of c whole n =
    pick (eqb c.number 0)
    (pick (is_steps c.sheet) (pick c.headed (pick whole no_fault (end_fault whole n)) (end_fault whole n)) (end_fault whole n))
    (record { number = c.number; line = c.line; place = c.place; why = c.why })

unfoldable pub text_fault : List ℕ → Fault
text_fault bs = fault_of (text_state bs).control (same (last (pieces 10 bs)) []) (last_line 1 (pieces 10 bs))

-- the lengths of the four lent sheets
pub record Lent : Type 0 where
  pub sorts : ℕ
  pub terms : ℕ
  pub inputs : ℕ
  pub steps : ℕ

abbrev pub lent_of : List ℕ → List ℕ → List ℕ → List ℕ → Lent
lent_of sorts terms inputs steps = record { sorts = length sorts; terms = length terms; inputs = length inputs; steps = length steps }

-- whether the sheets hold the rows
abbrev pub fits : Lent → State → Bool
fits n s =
    pick (leb (length s.sorts) n.sorts)
    (pick (leb (length s.terms) n.terms) (pick (leb (length s.inputs) n.inputs) (leb (length s.steps) n.steps) false) false)
    false

-- the number that a text gives: that of its fault; 32 where a sheet is short; else 0
unfoldable pub text_number : Lent → List ℕ → ℕ
text_number n bs = pick (eqb (text_fault bs).number 0) (pick (fits n (text_state bs)) 0 32) (text_fault bs).number

-- counts are 0 after a refusal
abbrev pub counted : ℕ → ℕ → ℕ
counted number n = pick (eqb number 0) n 0

abbrev pub outcome_of : ℕ → Fault → Kept → ReadOutcome
outcome_of number f k =
    record {
      number = number;
      sorts = counted number (length k.sorts);
      terms = counted number (length k.terms);
      inputs = counted number k.inputs;
      steps = counted number k.steps;
      why = why_number f.why;
      line = f.line;
      place = f.place;
    }

-- what the reading of a text returns
unfoldable pub text_outcome : Lent → List ℕ → ReadOutcome
text_outcome n bs = outcome_of (text_number n bs) (text_fault bs) (text_state bs).control.kept

-- what a sheet of n numbers holds: the rows and then zeros, or zeros after a refusal
unfoldable pub text_sheet : ℕ → ℕ → List ℕ → List ℕ
text_sheet number n rows = pick (eqb number 0) (pad_to n rows) (replicate n 0)

-- a text that has been read
pub record TextRead (bs : List ℕ) (n : Lent) (r : ReadOutcome) (sorts' terms' inputs' steps' : List ℕ) : Type 0 where
  pub outcome_is : r ≡ text_outcome n bs
  pub sorts_is : sorts' ≡ text_sheet (text_number n bs) n.sorts (text_state bs).sorts
  pub terms_is : terms' ≡ text_sheet (text_number n bs) n.terms (text_state bs).terms
  pub inputs_is : inputs' ≡ text_sheet (text_number n bs) n.inputs (text_state bs).inputs
  pub steps_is : steps' ≡ text_sheet (text_number n bs) n.steps (text_state bs).steps
