-- A conflict in the workspace, as the steps of a conflict find it, and the status after it.
use Rattle.std.specs.Prelude.{◌≡◌, Bool, true, false, List, ℕ, ◌<◌}
use Rattle.calculus.specs.declared.Level.{Level}
use Rattle.calculus.specs.Trail.{Set, decided_at, why_at, level_of, holds, first_order}
use Rattle.calculus.specs.WellFormed.{Within, WellFormed}
use Rattle.trail.specs.Words.{trail_in, Laid}
use Rattle.moves.specs.Post.{conflict_in}
use Rattle.state.specs.declared.Status.{Status}
use Rattle.state.specs.States.{Standing}

-- the words stand for a conflict, and t is a row
pub record Conflicted (w n : ℕ) (ts ws : List ℕ) (st : Status) (t : ℕ) : Type 0 where
  pub standing : Standing w n ts ws st
  pub conflict : st.conflict ≡ true
  pub row : t < n

-- the words are a well-formed trail, and the conflict's members stand on it
pub record Found (w n : ℕ) (ws : List ℕ) (count : ℕ) : Type 0 where
  pub laid : Laid w n ws count
  pub well_formed : WellFormed n (trail_in w n ws count)
  pub within : Within (conflict_in w n ws) (trail_in w n ws count)

-- row t is in that conflict
pub record Member (w n : ℕ) (ws : List ℕ) (count t : ℕ) : Type 0 where
  pub found : Found w n ws count
  pub row : t < n
  pub inside : conflict_in w n ws t ≡ true

-- and is no decision
pub record Justified (w n : ℕ) (ws : List ℕ) (count t : ℕ) : Type 0 where
  pub member : Member w n ws count t
  pub justified : decided_at (trail_in w n ws count) t ≡ false

-- the justification of row t
abbrev pub why_in : ℕ → ℕ → List ℕ → ℕ → ℕ → Set
why_in w n ws count t = why_at (trail_in w n ws count) t

-- the level of the conflict
abbrev pub conflict_level : ℕ → ℕ → List ℕ → ℕ → ℕ
conflict_level w n ws count = level_of (trail_in w n ws count) (conflict_in w n ws)

-- the set s holds a first-order decision of the conflict's level
abbrev pub holds_first_order : ℕ → ℕ → List ℕ → List ℕ → ℕ → Set → Bool
holds_first_order w n ts ws count s = holds (trail_in w n ws count) s (first_order ts (conflict_level w n ws count))

-- a trail in search, of so many entries and that greatest level
abbrev pub in_search : ℕ → Level → Status
in_search count top = record { count = count; top = top; conflict = false }
