-- Whether a line of values is well formed.
use Rattle.std.specs.Prelude.{Result, Ok, Err, ℕ, suc, Bool, true, false, List, [], ◌∷◌, eqb, leb, length}
use Rattle.text_fields.specs.Split.{pick}
use Rattle.text_fields.specs.Class.{named}
use Rattle.text_fields.specs.Number.{value, is_number}

-- a field has at least one byte, and each is part of a name
abbrev pub filled : List ℕ → Bool
filled f = pick (leb 1 (length f)) (named f) false

-- single spaces between the fields, none before the first or after the last, and no byte that is neither a space nor part of a name
abbrev pub spaced : List (List ℕ) → Bool
spaced [] = true
spaced (f ∷ fs) = pick (filled f) (spaced fs) false

-- so many fields, all filled
abbrev pub fields_are : ℕ → List (List ℕ) → Bool
fields_are columns fs = pick (spaced fs) (eqb (length fs) columns) false

-- a field of the value column holds a value; any other has at most 64 bytes
abbrev pub well_formed : Bool → List ℕ → Bool
well_formed true f = is_number (value f)
well_formed false f = leb (length f) 64

-- the first field, counted from k, that is malformed, or 0; v is the number of the value column, or 0 where there is none
abbrev pub first_malformed : ℕ → ℕ → List (List ℕ) → ℕ
first_malformed v k [] = 0
first_malformed v k (f ∷ fs) = pick (well_formed (eqb k v) f) (first_malformed v (suc k) fs) k

-- good, or the place at fault
abbrev pub Shape : Type 0
Shape = Result (Unit {0}) ℕ

abbrev pub shape_at : ℕ → Shape
shape_at place = pick (eqb place 0) (Ok tt) (Err place)

-- a line of so many columns, of which v is the value column: the place at fault is a field, or 0 where it is the line as a whole
unfoldable pub shape_of : ℕ → ℕ → List (List ℕ) → Shape
shape_of columns v fs =
    pick (spaced fs) (pick (eqb (length fs) columns) (shape_at (first_malformed v 1 fs)) (Err 0)) (Err 0)
