-- A set of rows on the trail.
use Rattle.std.specs.Prelude.{ℕ, ◌+◌, ◌≤◌, List, length}
use Rattle.calculus.specs.WellFormed.{Within}
use Rattle.bitset.specs.Windows.{set_at}
use Rattle.trail.specs.Words.{trail_in, Laid}

-- the words are a trail, on which all members of the set at e stand
abbrev pub SetOn : ℕ → ℕ → List ℕ → ℕ → ℕ → Type 0
SetOn w N ws n e = Laid w N ws n × (e + w ≤ length ws) × Within (set_at ws e w) (trail_in w N ws n)
