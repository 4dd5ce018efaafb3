-- What learn finds in the words.
use Rattle.std.specs.Prelude.{◌≡◌, true, List, ℕ, ltb}
use Rattle.calculus.specs.declared.Step.{Step}
use Rattle.calculus.specs.Lists.{all}
use Rattle.calculus.specs.Sheets.{blank}
use Rattle.calculus.specs.Trail.{level_of}
use Rattle.calculus.specs.Steps.{premise_cells, premises}
use Rattle.trail.specs.Words.{trail_in}
use Rattle.conflict_moves.specs.Back.{rest_in}
use Rattle.state.specs.declared.Status.{Status}
use Rattle.premises.specs.Columns.{Premised}
use Rattle.conflicts.specs.Conflicts.{Conflicted, Found}

-- the words stand for a conflict; the row's term and its members are rows, at most four
pub record ToLearn (w n : ℕ) (ts ws : List ℕ) (st : Status) (x : Step) : Type 0 where
  pub conflicted : Conflicted w n ts ws st x.term
  pub known : all (λ p. ltb p n) (premises x) ≡ true
  pub four : x.t ≡ blank

-- the row's members, at most four, all stand on the trail
pub record Named (w n : ℕ) (ws : List ℕ) (count : ℕ) (x : Step) : Type 0 where
  pub premised : Premised w n ws count x
  pub four : x.t ≡ blank

-- ps are the columns of the row's members, which are rows; `rest` is the level of the rest of the conflict
pub record ToTest (w n : ℕ) (ws : List ℕ) (count : ℕ) (x : Step) (ps : List ℕ) (rest : ℕ) : Type 0 where
  pub found : Found w n ws count
  pub known : all (λ p. ltb p n) (premises x) ≡ true
  pub four : x.t ≡ blank
  pub columns : ps ≡ premise_cells x
  pub level : rest ≡ level_of (trail_in w n ws count) (rest_in w n ws ps)
