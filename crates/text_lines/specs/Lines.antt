-- The lines of the four sheets as text: headers, empty lines, rows, and what a line does.
use Rattle.std.specs.Prelude.{Option, Some, None, ℕ, Bool, true, false, List, [], eqb, leb, length}
use Rattle.text_fields.specs.Split.{pick, pieces, same}
use Rattle.text_fields.specs.Words.{sort_header, term_header, input_header, step_header}
use Rattle.text_faults.specs.Why.{header_why, row_why}
use Rattle.text_faults.specs.declared.Why.{Why}
use Rattle.text_faults.specs.declared.Why.TheVariants.{Long, Empty}
use Rattle.text_rows.specs.Rows.{Kept, Taken, sort_row, term_row, input_row, step_row}
use Rattle.text_lines.specs.declared.Sheet.{Sheet}
use Rattle.text_lines.specs.declared.Sheet.TheVariants.{Sorts, Terms, Inputs, Steps}

-- where the reading of lines stands: the number and the place of the first bad line's fault, 0 where no line is bad; the number of that line, or of
-- the last one read; why that line is malformed, if it is; the sheet that lines go to, and whether its header was read; what later rows need of earlier ones
pub record Control : Type 0 where
  pub number : ℕ
  pub place : ℕ
  pub line : ℕ
  pub why : Option Why
  pub sheet : Sheet
  pub headed : Bool
  pub kept : Kept

-- what a line does: where the reading stands after it, and the numbers that it adds to the sheet it goes to
pub record Effect : Type 0 where
  pub control : Control
  pub cells : List ℕ

abbrev pub quiet : Control → Effect
quiet c = record { control = c; cells = [] }

-- a line that is malformed as a whole
abbrev pub bad : Control → Why → Effect
bad c why =
    quiet
    (record { number = 31; place = 0; line = c.line; why = Some why; sheet = c.sheet; headed = c.headed; kept = c.kept })

-- the lines of a sheet begin, or have begun
abbrev pub enter : Control → Sheet → Bool → Effect
enter c sheet headed =
    quiet
    (record { number = c.number; place = c.place; line = c.line; why = c.why; sheet = sheet; headed = headed; kept = c.kept })

abbrev pub header_of : Sheet → List ℕ
header_of Sorts = sort_header
header_of Terms = term_header
header_of Inputs = input_header
header_of Steps = step_header

-- the first line of a sheet is its header
abbrev pub header : Control → List ℕ → Effect
header c l = pick (same l (header_of c.sheet)) (enter c c.sheet true) (bad c (header_why l))

-- an empty line ends a sheet that is not the last
abbrev pub next_sheet : Control → Sheet → Effect
next_sheet c Sorts = enter c Terms false
next_sheet c Terms = enter c Inputs false
next_sheet c Inputs = enter c Steps false
next_sheet c Steps = bad c Empty

-- any other line is a row
abbrev pub row_of : Sheet → Kept → List (List ℕ) → Taken
row_of Sorts k fs = sort_row k fs
row_of Terms k fs = term_row k fs
row_of Inputs k fs = input_row k fs
row_of Steps k fs = step_row k fs

-- the column of a sheet that holds values, or 0
abbrev pub value_column : Sheet → ℕ
value_column Sorts = 0
value_column Terms = 0
value_column Inputs = 2
value_column Steps = 4

-- why a row is malformed, if its number says that it is
abbrev pub why_row : Sheet → ℕ → ℕ → List ℕ → Option Why
why_row sheet number place l = pick (eqb number 31) (Some (row_why (value_column sheet) place l)) None

abbrev pub row : Control → Taken → List ℕ → Effect
row c t l =
    record {
      control =
          record {
            number = t.number;
            place = t.place;
            line = c.line;
            why = why_row c.sheet t.number t.place l;
            sheet = c.sheet;
            headed = c.headed;
            kept = t.kept;
          };
      cells = t.cells;
    }

unfoldable pub read_line : Control → List ℕ → Effect
read_line c l =
    pick c.headed (pick (same l []) (next_sheet c c.sheet) (row c (row_of c.sheet c.kept (pieces 32 l)) l)) (header c l)

abbrev pub numbered : Control → ℕ → Control
numbered c n =
    record { number = c.number; place = c.place; line = n; why = c.why; sheet = c.sheet; headed = c.headed; kept = c.kept }

-- line n: after a bad line nothing is done; a line of more than 525 bytes, the most that nine good fields and eight spaces have, is bad
unfoldable pub line_effect : Control → ℕ → List ℕ → Effect
line_effect c n l =
    pick (eqb c.number 0) (pick (leb (length l) 525) (read_line (numbered c n) l) (bad (numbered c n) Long)) (quiet c)

-- before the first line
abbrev pub nothing_kept : Kept
nothing_kept = record { sorts = []; terms = []; heads = []; inputs = 0; steps = 0 }

abbrev pub started : Control
started = record { number = 0; place = 0; line = 0; why = None; sheet = Sorts; headed = false; kept = nothing_kept }
