-- Who can cause which number: the four groups of document 01, and of the log's author by the step and the column.
use Rattle.std.specs.Prelude.{◌≡◌, List, [], ◌∷◌, ℕ, ◌≤◌, ◌<◌, T}
use Rattle.calculus.specs.declared.Kind.{Kind}
use Rattle.calculus.specs.declared.Kind.TheVariants.{Decide, Deduce, Clash, Resolve, Clear, Jump, Flip, Fail, Learn, Unlisted}
use Rattle.calculus.specs.Lists.{has}
use Rattle.calculus.specs.Sheets.{Call, step_rows, length_refusal}
use Rattle.calculus.specs.Sorts.{sorts_refusal}
use Rattle.calculus.specs.Terms.{terms_refusal}
use Rattle.calculus.specs.Inputs.{inputs_refusal}
use Rattle.calculus.specs.Steps.{trail_of, step_at, kind_of}
use Rattle.calculus.specs.Place.{place_of}
use Rattle.calculus.specs.Run.{call_refusal, ending, outcome}

-- the numbers of a step's own tests, in their order
abbrev pub own_numbers : Kind → List ℕ
own_numbers Decide = 22 ∷ 14 ∷ 27 ∷ []
own_numbers Deduce = 22 ∷ 12 ∷ 13 ∷ 14 ∷ 15 ∷ []
own_numbers Clash = 22 ∷ 12 ∷ 13 ∷ 16 ∷ 26 ∷ []
own_numbers Resolve = 17 ∷ 18 ∷ 19 ∷ []
own_numbers Clear = 17 ∷ 20 ∷ 21 ∷ []
own_numbers Jump = 17 ∷ 22 ∷ 21 ∷ []
own_numbers Flip = 17 ∷ 22 ∷ 18 ∷ 23 ∷ []
own_numbers Fail = 22 ∷ 12 ∷ 13 ∷ 16 ∷ 26 ∷ []
own_numbers Learn = 17 ∷ 22 ∷ 25 ∷ 14 ∷ 21 ∷ []
own_numbers Unlisted = []

-- in a step 9, 10, 11, and then those
abbrev pub numbers_of : Kind → List ℕ
numbers_of k = 9 ∷ 10 ∷ 11 ∷ own_numbers k

-- the groups
abbrev pub Between : ℕ → ℕ → ℕ → Type 0
Between low high n = (low ≤ n) × (n ≤ high)

abbrev pub OfStep : Kind → ℕ → Type 0
OfStep k n = T (has (numbers_of k) n)

-- no trouble, or a number of a group
abbrev pub NoneOr : (ℕ → Type 0) → ℕ → Type 0
NoneOr Group n = (n ≡ 0 → ⊥) → Group n

pub record Blame (x : Call) : Type 0 where
  -- the caller
  pub lengths : NoneOr (Between 30 32) (length_refusal x)
  -- the exporter (2 is of texts alone)
  pub sorts : NoneOr (Between 1 1) (sorts_refusal x.sorts)
  pub terms : NoneOr (Between 3 5) (terms_refusal x.sorts x.terms)
  -- whoever states the input
  pub inputs : NoneOr (Between 6 8) (inputs_refusal x.terms x.inputs)
  -- the log's author, by the row behind those that were allowed
  pub log : call_refusal x ≡ 0 → NoneOr (OfStep (kind_of (step_at x.steps (outcome x).steps).step)) (outcome x).number
  pub row : call_refusal x ≡ 0 → ((outcome x).number ≡ 0 → ⊥) → (outcome x).steps < step_rows x.steps
  -- where in that row: the trail is the one that the run leaves; elsewhere there is no place
  pub place : call_refusal x ≡ 0
      → (outcome x).place ≡ place_of x.terms (trail_of (ending x).state) (step_at x.steps (outcome x).steps) (outcome x).number
  pub nowhere : (call_refusal x ≡ 0 → ⊥) → (outcome x).place ≡ 0
