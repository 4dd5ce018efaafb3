-- A row before its step: its kind, and the numbers 9, 10, 11.
use Rattle.std.specs.Prelude.{◌≡◌, Bool, List, ℕ, Result}
use Rattle.calculus.specs.declared.Step.{Step}
use Rattle.calculus.specs.declared.Refusal.{Refusal}
use Rattle.calculus.specs.Numbers.{unless, number_in, place_in}
use Rattle.calculus.specs.Trail.{Trail}
use Rattle.calculus.specs.Steps.{known, step}
use Rattle.calculus.specs.Place.{place_of}
use Rattle.trail.specs.Words.{trail_in}
use Rattle.state.specs.declared.Status.{Status}
use Rattle.state.specs.States.{state_in, Answer, Answers}

-- r is the number of the row x, or 0, where a tells whether its columns are right and b whether the state suits its kind;
-- its place is the same at every trail
pub record RowRefused (ts : List ℕ) (x : Step) (a b : Bool) (r : Result (Unit {0}) Refusal) : Type 0 where
  pub number : number_in r ≡ unless a 9 (unless b 10 (unless (known ts x) 11 0))
  pub place : (tr : Trail) → place_in r ≡ place_of ts tr x (number_in r)

-- r is the answer to the row x, from the words ws and with the words vs after it
abbrev pub AnswersRow : ℕ → ℕ → List ℕ → List ℕ → List ℕ → Status → Step → Answer → Type 0
AnswersRow w n ts ws vs st x r = Answers w n ts ws vs (place_of ts (trail_in w n ws st.count) x) (step ts (state_in w n ws st) x) r
