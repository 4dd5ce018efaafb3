-- A claim's premises, and what it is that a rule allows a claim.
use Rattle.std.specs.Prelude.{◌≡◌, Bool, true, cond, List, [], ◌∷◌, ℕ, eqb}
use Rattle.calculus.specs.declared.Premise.{Premise}
use Rattle.calculus.specs.declared.Rule.{Rule}
use Rattle.calculus.specs.Sheets.{blank}
use Rattle.calculus.specs.Rules.{fits}
use Rattle.rule_claims.specs.declared.Claim.{Claim}

-- is the premise's column blank
abbrev pub gap : Premise → Bool
gap p = eqb p.row blank

-- those before the first blank
unfoldable pub stated : List Premise → List Premise
stated [] = []
stated (p ∷ ps) = cond (gap p) [] (p ∷ stated ps)

-- the claim's premises
abbrev pub premises_of : Claim → List Premise
premises_of x = stated (x.p ∷ x.q ∷ x.r ∷ x.s ∷ x.t ∷ [])

-- the rule gives the claim's term its value from the claim's premises
abbrev pub allows : List ℕ → Rule → Claim → Bool
allows ts rule x = fits ts rule x.term.0 x.value (premises_of x)

-- a column without a premise
abbrev pub no_premise : Premise
no_premise = record { row = blank; value = 0 }

-- the claim without its first premise
abbrev pub after_first : Claim → Claim
after_first x =
    record { term = x.term; value = x.value; p = x.q; q = x.r; r = x.s; s = x.t; t = no_premise }

-- row p with the value that val gives it
abbrev pub valued : (ℕ → ℕ) → ℕ → Premise
valued val p = record { row = p; value = val p }

-- where the row of a premise passes a test, as that it stands on the trail, the premise's value is what val gives
abbrev pub Looked : (ℕ → Bool) → (ℕ → ℕ) → Premise → Type 0
Looked here val p = here p.row ≡ true → p.value ≡ val p.row
