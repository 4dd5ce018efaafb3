-- The trail with a decision added, and what the test of the decision finds.
use Rattle.std.specs.Prelude.{◌≡◌, Bool, false, ◌||◌, List, ◌∷◌, ℕ, ◌≤◌, ◌<◌, eqb}
use Rattle.calculus.specs.Sheets.{term_rows}
use Rattle.calculus.specs.Terms.{arg}
use Rattle.calculus.specs.Trail.{Trail, decision}
use Rattle.trail.specs.Words.{row_at, trail_in, Laid}
use Rattle.state.specs.States.{PropEquations}

-- the trail in the words, and then t with the value v as a decision
abbrev pub added : ℕ → ℕ → List ℕ → ℕ → ℕ → ℕ → Trail
added w n ws count t v = decision (trail_in w n ws count) t v ∷ trail_in w n ws count

-- the words are a trail of the sheet's rows, whose equations are props, and t is one of them
pub record Decidable (w n : ℕ) (ts ws : List ℕ) (count t : ℕ) : Type 0 where
  pub laid : Laid w n ws count
  pub rows : n ≡ term_rows ts
  pub equations : PropEquations ts
  pub row : t < n

-- t is the first or the second argument of row l
abbrev pub is_side : List ℕ → ℕ → ℕ → Bool
is_side ts t l = eqb (arg ts l 0) t || eqb (arg ts l 1) t

-- t is so of no entry from i up to j
pub record Skipped (w n : ℕ) (ts ws : List ℕ) (count t i j : ℕ) : Type 0 where
  pub onward : i ≤ j
  pub within : j ≤ count
  pub none : (k : ℕ) → i ≤ k → k < j → is_side ts t (row_at w n ws k) ≡ false
