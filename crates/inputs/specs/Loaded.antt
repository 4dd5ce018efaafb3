-- The input's trail in the workspace, row by row and whole.
use Rattle.std.specs.Prelude.{◌≡◌, List, ◌∷◌, ℕ, ◌+◌, Result, Ok, Err}
use Rattle.calculus.specs.declared.Refusal.{Refusal}
use Rattle.calculus.specs.Numbers.{number}
use Rattle.calculus.specs.Sheets.{input_rows}
use Rattle.calculus.specs.Trail.{on}
use Rattle.calculus.specs.Inputs.{given, input_trail, inputs_refusal}
use Rattle.sheets.specs.Rows.{input_row_refusal}
use Rattle.trail.specs.Words.{trail_in}
use Rattle.moves.specs.Post.{Stands}

-- a row with term t and value v: refused with its number, or one entry more on the trail of k entries
unfoldable pub RowLoaded : ℕ → ℕ → List ℕ → List ℕ → List ℕ → ℕ → ℕ → ℕ → Result (Unit {0}) Refusal → Type 0
RowLoaded w n ts ws vs k t v (Ok u) =
    (input_row_refusal ts t v (on (trail_in w n ws k) t) ≡ 0) × Stands w n vs (k + 1) 0 (given t v ∷ trail_in w n ws k)
RowLoaded w n ts ws vs k t v (Err r) = input_row_refusal ts t v (on (trail_in w n ws k) t) ≡ number r

-- the input sheet: refused with its number, or its trail in the words
unfoldable pub Loaded : ℕ → ℕ → List ℕ → List ℕ → List ℕ → Result (Unit {0}) Refusal → Type 0
Loaded w n ts is ws (Ok u) = (inputs_refusal ts is ≡ 0) × Stands w n ws (input_rows is) 0 (input_trail is (input_rows is))
Loaded w n ts is ws (Err r) = inputs_refusal ts is ≡ number r
