-- The premises that five columns hold, and those that a rule needs.
use Rattle.std.specs.Prelude.{◌≡◌, List, [], ◌∷◌, ℕ, ◌≤◌, take}
use Rattle.calculus.specs.declared.Premise.{Premise}
use Rattle.calculus.specs.declared.Rule.{Rule}
use Rattle.calculus.specs.declared.Term.{Term}
use Rattle.calculus.specs.Sheets.{blank}
use Rattle.completions.specs.Needs.{needs}
use Rattle.needs.specs.declared.Columns.{Columns}
use Rattle.needs.specs.declared.Known.{Known}

-- the five columns
abbrev pub columns_of : Columns → List Premise
columns_of x = x.p ∷ x.q ∷ x.r ∷ x.s ∷ x.t ∷ []

-- those that count
unfoldable pub listed : Columns → List Premise
listed x = take x.count (columns_of x)

-- ds stand there, and the last column is free
pub record Four (x : Columns) (ds : List Premise) : Type 0 where
  pub few : x.count ≤ 4
  pub lists : listed x ≡ ds

-- the term with the cells a, b, c as its arguments
abbrev pub three_of : Term → ℕ → ℕ → ℕ → Term
three_of e a b c = record { head = e.head; sort = e.sort; a = a; b = b; c = c; d = blank }

-- the premises that rule k needs
abbrev pub needs_of : List ℕ → Rule → Known → List Premise
needs_of ts k x = needs ts k x.term.0 x.value x.first x.way
