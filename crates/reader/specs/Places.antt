-- On which line of a text a row stands.
use Rattle.std.specs.Prelude.{ℕ, ◌+◌, true, ◌≡◌, List, [], ◌∷◌, ◌++◌, length}
use Rattle.text_rows.specs.Rows.{Kept}
use Rattle.text_lines.specs.Lines.{Control}
use Rattle.text_lines.specs.declared.Sheet.{Sheet}
use Rattle.text_lines.specs.declared.Sheet.TheVariants.{Sorts, Terms, Inputs, Steps}
use Rattle.reader.specs.Text.{lines_fold, start_state}

-- a row, counted from 0, by the rows of the sheets before: each of these has a header and an empty line too
abbrev pub row_line : Sheet → ℕ → ℕ → ℕ → ℕ → ℕ
row_line Sorts sorts terms inputs row = row + 2
row_line Terms sorts terms inputs row = sorts + row + 4
row_line Inputs sorts terms inputs row = sorts + terms + row + 6
row_line Steps sorts terms inputs row = sorts + terms + inputs + row + 8

-- the rows of a sheet
abbrev pub rows_in : Sheet → Kept → ℕ
rows_in Sorts k = length k.sorts
rows_in Terms k = length k.terms
rows_in Inputs k = k.inputs
rows_in Steps k = k.steps

-- the line of the row that is read next
abbrev pub next_row_line : Control → ℕ
next_row_line c =
    let k = c.kept in
    row_line c.sheet (length k.sorts) (length k.terms) k.inputs (rows_in c.sheet k)

-- where the reading stands after whole lines, with the bytes of an unfinished one behind them
abbrev pub after_lines : List (List ℕ) → List ℕ → Control
after_lines ls rest = (lines_fold 1 start_state (ls ++ (rest ∷ []))).control

-- the claim: after good lines, where rows are due, the next line is that of the next row
abbrev pub RowsHaveLines : Type 0
RowsHaveLines = (ls : List (List ℕ)) (rest : List ℕ)
    → (after_lines ls rest).number ≡ 0 → (after_lines ls rest).headed ≡ true → length ls + 1 ≡ next_row_line (after_lines ls rest)
