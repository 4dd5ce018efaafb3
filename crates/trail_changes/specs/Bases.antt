-- What keeping to a level leaves as it stands.
use Rattle.std.specs.Prelude.{ℕ, ◌-◌, ◌≤◌, ◌≡◌, ◌&&◌, cond, List, [], ◌∷◌, leb}
use Rattle.calculus.specs.Trail.{Trail, top_level}
use Rattle.trail.specs.Words.{trail_in}

-- the entries before the newest decision that is at most one level above m
unfoldable pub base_of : ℕ → Trail → Trail
base_of m [] = []
base_of m (e ∷ older) = cond (e.decided && leb (e.level - 1) m) older (base_of m older)

-- they are the first i of the n entries, and their greatest level is top
pub record Base (w N : ℕ) (ws : List ℕ) (n m i top : ℕ) : Type 0 where
  pub within : i ≤ n
  pub trail : trail_in w N ws i ≡ base_of m (trail_in w N ws n)
  pub greatest : top ≡ top_level (trail_in w N ws i)
