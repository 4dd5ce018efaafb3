-- What the steps of the search find in the words.
use Rattle.std.specs.Prelude.{◌≡◌, false, List, ◌⊎◌, ℕ, ◌<◌, ◌≤◌, Result}
use Rattle.calculus.specs.declared.Kind.{Kind}
use Rattle.calculus.specs.declared.Kind.TheVariants.{Deduce, Clash, Fail}
use Rattle.calculus.specs.declared.Step.{Step}
use Rattle.calculus.specs.declared.Refusal.{Refusal}
use Rattle.calculus.specs.Numbers.{number_in, place_in}
use Rattle.calculus.specs.Sheets.{term_rows}
use Rattle.calculus.specs.Trail.{Trail}
use Rattle.calculus.specs.Steps.{premises, inference_refusal}
use Rattle.trail.specs.Words.{Laid}
use Rattle.state.specs.declared.Status.{Status}
use Rattle.state.specs.States.{Standing}

-- the words stand for a search, and t is a row
pub record Searching (w n : ℕ) (ts ws : List ℕ) (st : Status) (t : ℕ) : Type 0 where
  pub standing : Standing w n ts ws st
  pub search : st.conflict ≡ false
  pub row : t < n

-- and x, a row of deduce, clash or fail, has a truth value
pub record Inferring (w n : ℕ) (ts ws : List ℕ) (st : Status) (x : Step) : Type 0 where
  pub searching : Searching w n ts ws st x.term
  pub truth : x.value ≤ 1

-- what the tests of such a row find: the words are a trail of the sheet's rows, and the term is one of them
pub record Inferred (w n : ℕ) (ts ws : List ℕ) (count : ℕ) (x : Step) : Type 0 where
  pub laid : Laid w n ws count
  pub rows : n ≡ term_rows ts
  pub row : x.term < n
  pub truth : x.value ≤ 1

-- the kinds of such rows
abbrev pub Inference : Kind → Type 0
Inference k = (k ≡ Deduce) ⊎ ((k ≡ Clash) ⊎ (k ≡ Fail))

-- the tests that these share are passed
pub record Passed (ts : List ℕ) (tr : Trail) (x : Step) : Type 0 where
  pub passed : inference_refusal ts tr x.rule x.term x.value (premises x) 0 ≡ 0

-- the test answers r: the number c, at the place that `at` gives it
pub record Refuses (at : ℕ → ℕ) (c : ℕ) (r : Result (Unit {0}) Refusal) : Type 0 where
  pub number : number_in r ≡ c
  pub place : place_in r ≡ at c
