-- What a step finds in the workspace, and what it leaves there.
use Rattle.std.specs.Prelude.{ℕ, ◌-◌, ◌<◌, ◌≡◌, true, false, List, ◌∷◌}
use Rattle.calculus.specs.Trail.{Set, Trail, remove, on, level_at, level_of, top_level, decision, justified}
use Rattle.calculus.specs.Lists.{has}
use Rattle.calculus.specs.Terms.{filled}
use Rattle.calculus.specs.Steps.{jumped, flipped}
use Rattle.calculus.specs.WellFormed.{Within, WellFormed}
use Rattle.bitset.specs.Windows.{set_at}
use Rattle.trail.specs.Words.{conflict, trail_in, Laid}

-- the set in the conflict's window
abbrev pub conflict_in : ℕ → ℕ → List ℕ → Set
conflict_in w N ws = set_at ws (conflict w N) w

-- what is found before an entry of the input, a decide and a deduce of term t, which is not on the trail
abbrev pub ToGive : ℕ → ℕ → List ℕ → ℕ → ℕ → Type 0
ToGive w N ws n t = Laid w N ws n × (t < N) × (on (trail_in w N ws n) t ≡ false) × (top_level (trail_in w N ws n) ≡ 0)

abbrev pub ToDecide : ℕ → ℕ → List ℕ → ℕ → ℕ → ℕ → Type 0
ToDecide w N ws n top t =
    Laid w N ws n × (t < N) × (on (trail_in w N ws n) t ≡ false) × (top ≡ top_level (trail_in w N ws n)) × (top < 65536)

abbrev pub ToDeduce : ℕ → ℕ → List ℕ → ℕ → ℕ → ℕ → Set → ℕ → Type 0
ToDeduce w N ws n top t s level =
    Laid w N ws n × (t < N) × (on (trail_in w N ws n) t ≡ false) × (top ≡ top_level (trail_in w N ws n)) × Within s (trail_in w N ws n)
    × (level ≡ level_of (trail_in w N ws n) s)

-- the trails that decide and deduce make
abbrev pub decided_in : ℕ → ℕ → List ℕ → ℕ → ℕ → ℕ → Trail
decided_in w N ws n t v = decision (trail_in w N ws n) t v ∷ trail_in w N ws n

abbrev pub deduced_in : ℕ → ℕ → List ℕ → ℕ → ℕ → ℕ → List ℕ → Trail
deduced_in w N ws n t v ps = justified (trail_in w N ws n) t v (has (filled ps)) ∷ trail_in w N ws n

-- the trail tr of r entries, whose greatest level is top; the conflict is left open
pub record Stands (w N : ℕ) (ws : List ℕ) (r top : ℕ) (tr : Trail) : Type 0 where
  pub laid : Laid w N ws r
  pub trail : trail_in w N ws r ≡ tr
  pub greatest : top ≡ top_level tr

-- the trail tr of n entries, and the conflict E
pub record Conflicts (w N : ℕ) (ws : List ℕ) (n : ℕ) (tr : Trail) (E : Set) : Type 0 where
  pub laid : Laid w N ws n
  pub trail : trail_in w N ws n ≡ tr
  pub conflict : conflict_in w N ws ≡ E

-- l is in the conflict, whose members are on the trail, which steps can reach, and stands above the level m
pub record Above (w N : ℕ) (ws : List ℕ) (n l m : ℕ) : Type 0 where
  pub laid : Laid w N ws n
  pub well_formed : WellFormed N (trail_in w N ws n)
  pub row : l < N
  pub within : Within (conflict_in w N ws) (trail_in w N ws n)
  pub member : conflict_in w N ws l ≡ true
  pub above : m < level_at (trail_in w N ws n) l

-- the level of the conflict without l
abbrev pub rest_level : ℕ → ℕ → List ℕ → ℕ → ℕ → ℕ
rest_level w N ws n l = level_of (trail_in w N ws n) (remove (conflict_in w N ws) l)

-- one level below the conflict's
abbrev pub lower_level : ℕ → ℕ → List ℕ → ℕ → ℕ
lower_level w N ws n = level_of (trail_in w N ws n) (conflict_in w N ws) - 1

-- the trails that jump and flip make
abbrev pub jumped_in : ℕ → ℕ → List ℕ → ℕ → ℕ → Trail
jumped_in w N ws n l = jumped (trail_in w N ws n) (remove (conflict_in w N ws) l) l (rest_level w N ws n l)

abbrev pub flipped_in : ℕ → ℕ → List ℕ → ℕ → ℕ → Trail
flipped_in w N ws n l = flipped (trail_in w N ws n) l (lower_level w N ws n)
