-- Sets in which first-order decisions are looked for.
use Rattle.std.specs.Prelude.{ℕ, ◌+◌, ◌*◌, ◌≤◌, List, length}
use Rattle.calculus.specs.Trail.{Set, intersection}
use Rattle.calculus.specs.WellFormed.{Within}
use Rattle.bitset.specs.Windows.{set_at}
use Rattle.trail.specs.Words.{trail_in, Laid}

-- what the sets at e and f share
abbrev pub shared_at : List ℕ → ℕ → ℕ → ℕ → Set
shared_at ws e f w = intersection (set_at ws e w) (set_at ws f w)

-- the words are a trail of the sheet's rows, on which all members of the set at e stand
abbrev pub Searchable : ℕ → ℕ → List ℕ → ℕ → List ℕ → ℕ → Type 0
Searchable w N ws n ts e = Laid w N ws n × (N * 6 ≤ length ts) × (e + w ≤ length ws) × Within (set_at ws e w) (trail_in w N ws n)

-- and there is a set at f
abbrev pub Shareable : ℕ → ℕ → List ℕ → ℕ → List ℕ → ℕ → ℕ → Type 0
Shareable w N ws n ts e f =
    Laid w N ws n × (N * 6 ≤ length ts) × (e + w ≤ length ws) × (f + w ≤ length ws) × Within (set_at ws e w) (trail_in w N ws n)
