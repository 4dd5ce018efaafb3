-- What the steps of a conflict find in the workspace, and the trails and conflicts that they make.
use Rattle.std.specs.Prelude.{ℕ, ◌-◌, ◌≤◌, ◌<◌, ◌≡◌, true, false, List}
use Rattle.calculus.specs.Trail.{Set, Trail, remove, without, union, on, level_at, decided_at, why_at, level_of, top_level, kept_to}
use Rattle.calculus.specs.Terms.{filled}
use Rattle.calculus.specs.Steps.{backjumped}
use Rattle.calculus.specs.WellFormed.{WellFormed}
use Rattle.trail.specs.Words.{trail_in, Laid}
use Rattle.moves.specs.Post.{conflict_in, rest_level, lower_level, Above}

-- resolve: a is on the trail and no decision
pub record ToResolve (w N : ℕ) (ws : List ℕ) (n a : ℕ) : Type 0 where
  pub laid : Laid w N ws n
  pub well_formed : WellFormed N (trail_in w N ws n)
  pub row : a < N
  pub stands : on (trail_in w N ws n) a ≡ true
  pub justified : decided_at (trail_in w N ws n) a ≡ false

abbrev pub resolved_in : ℕ → ℕ → List ℕ → ℕ → ℕ → Set
resolved_in w N ws n a = union (remove (conflict_in w N ws) a) (why_at (trail_in w N ws n) a)

-- clear: a is on the trail
abbrev pub ToClear : ℕ → ℕ → List ℕ → ℕ → ℕ → Type 0
ToClear w N ws n a = Laid w N ws n × (a < N) × (on (trail_in w N ws n) a ≡ true) × WellFormed N (trail_in w N ws n)

abbrev pub cleared_in : ℕ → ℕ → List ℕ → ℕ → ℕ → Trail
cleared_in w N ws n a = kept_to (level_at (trail_in w N ws n) a - 1) (trail_in w N ws n)

-- the conflict without the rows in the columns ps
abbrev pub rest_in : ℕ → ℕ → List ℕ → List ℕ → Set
rest_in w N ws ps = without (conflict_in w N ws) (filled ps)

-- jump and learn: t is not on the trail kept to m; `level` is the level of the rest, not above m
pub record ToBackjump (w N : ℕ) (ws : List ℕ) (n t m : ℕ) (ps : List ℕ) (level : ℕ) : Type 0 where
  pub laid : Laid w N ws n
  pub well_formed : WellFormed N (trail_in w N ws n)
  pub row : t < N
  pub gone : on (kept_to m (trail_in w N ws n)) t ≡ false
  pub level_is : level ≡ level_of (trail_in w N ws n) (rest_in w N ws ps)
  pub low : level ≤ m

abbrev pub backjumped_in : ℕ → ℕ → List ℕ → ℕ → ℕ → ℕ → ℕ → List ℕ → Trail
backjumped_in w N ws n t v m ps = backjumped (trail_in w N ws n) (rest_in w N ws ps) t v m

-- jump: m is the level of the conflict without l
abbrev pub ToJump : ℕ → ℕ → List ℕ → ℕ → ℕ → ℕ → Type 0
ToJump w N ws n l m = Above w N ws n l (rest_level w N ws n l) × (m ≡ rest_level w N ws n l)

-- flip: `level` is the level of the conflict
abbrev pub ToFlip : ℕ → ℕ → List ℕ → ℕ → ℕ → ℕ → Type 0
ToFlip w N ws n l level =
    Above w N ws n l (lower_level w N ws n) × (top_level (trail_in w N ws n) < 65536) × (level ≡ level_of (trail_in w N ws n) (conflict_in w N ws))
