-- What the code's counts, rows and table of names stand for.
use Rattle.std.specs.Prelude.{Result, Ok, Err, ℕ, ◌≤◌, List, ◌≡◌, length, take}
use Rattle.text_names.specs.Table.{names_from}
use Rattle.text_rows.specs.Rows.{Kept, Taken, refused}
use Rattle.text_rows.specs.declared.Counts.{Counts}
use Rattle.text_rows.specs.declared.Row.{Row}
use Rattle.text_rows.specs.declared.BadRow.{BadRow}
use Rattle.text_rows.specs.declared.BadRow.TheVariants.{Name, Ceiling, Malformed}

-- the table has the names of sorts from slot 0 on, of terms from slot 32, of free heads from slot 288
abbrev pub kept_of : Counts → List ℕ → Kept
kept_of n table =
    record {
      sorts = names_from table 0 n.sorts;
      terms = names_from table 32 n.terms;
      heads = names_from table 288 n.heads;
      inputs = n.inputs;
      steps = n.steps;
    }

-- a good row
abbrev pub taken_of : Row → List ℕ → Taken
taken_of r table = record { number = 0; place = 0; kept = kept_of r.counts table; cells = take r.width r.cells }

-- a line that is no row: the number of its fault, and its place
abbrev pub bad_number : BadRow → ℕ
bad_number Name = 2
bad_number Ceiling = 30
bad_number (Malformed place) = 31

abbrev pub bad_place : BadRow → ℕ
bad_place Name = 1
bad_place Ceiling = 0
bad_place (Malformed place) = place

-- a line of values, after these counts: one that is no row leaves the counts as they were
abbrev pub taken_in : Counts → Result Row BadRow → List ℕ → Taken
taken_in n (Ok r) table = taken_of r table
taken_in n (Err b) table = refused (kept_of n table) (bad_number b) (bad_place b)

-- counts within the ceilings; there is at most one free head for each term
abbrev pub Bounded : Counts → Type 0
Bounded n = (n.sorts ≤ 32) × (n.terms ≤ 256) × (n.heads ≤ n.terms) × (n.inputs ≤ 256) × (n.steps ≤ 1024)

-- a row within these bounds, of at most nine numbers
abbrev pub Within : Row → Type 0
Within r = Bounded r.counts × (r.width ≤ 9) × (length r.cells ≡ 9)
