-- A row that its sheet holds whole.
use Rattle.std.specs.Prelude.{List, ℕ, ◌+◌, ◌*◌, ◌≤◌, length}

-- the term sheet holds the six numbers of row t
abbrev pub Whole : List ℕ → ℕ → Type 0
Whole ts t = t * 6 + 6 ≤ length ts
