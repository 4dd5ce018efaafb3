-- The state of a run in the workspace, and what a step's answer says of it.
use Rattle.std.specs.Prelude.{◌≡◌, cond, List, ℕ, ◌<◌, T, Result, Ok, Err}
use Rattle.calculus.specs.declared.Refusal.{Refusal}
use Rattle.calculus.specs.Numbers.{number, place}
use Rattle.calculus.specs.Sheets.{term_rows}
use Rattle.calculus.specs.Terms.{prop, eq_head}
use Rattle.calculus.specs.Trail.{top_level}
use Rattle.calculus.specs.Rules.{is_head}
use Rattle.calculus.specs.Steps as calculus
use Rattle.calculus.specs.WellFormed.{WellFormedState}
use Rattle.bitset.specs.Windows.{set_at}
use Rattle.trail.specs.Words
use Rattle.trail.specs.Words.{trail_in, Laid}
use Rattle.state.specs.declared.Status.{Status}
use Rattle.state.specs.declared.Next.{Next}
use Rattle.state.specs.declared.Next.TheVariants.{On, Refuted}

-- the state that the words hold: n term rows, sets of w words
unfoldable pub state_in : ℕ → ℕ → List ℕ → Status → calculus.State
state_in w n ws st =
    cond st.conflict
    (calculus.conflict (trail_in w n ws st.count) (set_at ws (Words.conflict w n) w))
    (calculus.searching (trail_in w n ws st.count))

-- the words are a trail of the sheet's rows, and the status has its greatest level
pub record Held (w n : ℕ) (ts ws : List ℕ) (st : Status) : Type 0 where
  pub rows : n ≡ term_rows ts
  pub laid : Laid w n ws st.count
  pub top : st.top.0 ≡ top_level (trail_in w n ws st.count)

-- every equation of the sheet is of sort prop, as number 4 asks
abbrev pub PropEquations : List ℕ → Type 0
PropEquations ts = (t : ℕ) → t < term_rows ts → T (is_head ts t eq_head) → T (prop ts t)

-- and the state is one that steps can reach, over a sheet whose equations are props
pub record Standing (w n : ℕ) (ts ws : List ℕ) (st : Status) : Type 0 where
  pub held : Held w n ts ws st
  pub well_formed : WellFormedState n (state_in w n ws st)
  pub equations : PropEquations ts

-- no number has a place
abbrev pub nowhere : ℕ → ℕ
nowhere c = 0

-- a step's answer
abbrev pub Answer : Type 0
Answer = Result Next Refusal

-- the answer r is the answer a of the calculus: an allowed step leaves its state in the words, any other leaves the words as they were;
-- a refusal has the place that `at` gives its number
unfoldable pub Answers : ℕ → ℕ → List ℕ → List ℕ → List ℕ → (ℕ → ℕ) → calculus.Answer → Answer → Type 0
Answers w n ts ws vs at a (Ok (On st)) = (a ≡ calculus.allowed (state_in w n vs st)) × Held w n ts vs st
Answers w n ts ws vs at a (Ok Refuted) = (a ≡ calculus.refuted) × (vs ≡ ws)
Answers w n ts ws vs at a (Err r) = (a ≡ calculus.refused (number r)) × (place r ≡ at (number r)) × (vs ≡ ws)
