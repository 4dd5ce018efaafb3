-- The ceilings of a text.
use Rattle.std.specs.Prelude.{ℕ, ◌≤◌, List, length}
use Rattle.text_rows.specs.Rows.{Kept}
use Rattle.reader.specs.Text.{text_state}

-- rows within the ceilings
abbrev pub Within : Kept → Type 0
Within k = (length k.sorts ≤ 32) × (length k.terms ≤ 256) × (k.inputs ≤ 256) × (k.steps ≤ 1024)

-- the claim: no text keeps more rows, good or bad
abbrev pub TextsWithin : Type 0
TextsWithin = (bs : List ℕ) → Within (text_state bs).control.kept
