-- What the premises of a step row are found to be in the words, and what a claim says beside its step row.
use Rattle.std.specs.Prelude.{◌≡◌, true, List, ℕ}
use Rattle.calculus.specs.Lists.{all}
use Rattle.calculus.specs.declared.Step.{Step}
use Rattle.calculus.specs.Trail.{Trail, on, premises_at}
use Rattle.calculus.specs.Steps.{premises}
use Rattle.rule_claims.specs.declared.Claim.{Claim}
use Rattle.rule_claims.specs.Claims.{premises_of}
use Rattle.trail.specs.Words.{trail_in, Laid}

-- the words are a trail, and every premise of the row x stands on it
pub record Premised (w n : ℕ) (ws : List ℕ) (count : ℕ) (x : Step) : Type 0 where
  pub laid : Laid w n ws count
  pub stand : all (on (trail_in w n ws count)) (premises x) ≡ true

-- the claim y is that of the row x: its term and value, and its premises with their values on the trail
pub record Claims (tr : Trail) (x : Step) (y : Claim) : Type 0 where
  pub term : y.term.0 ≡ x.term
  pub value : y.value ≡ x.value
  pub premises : premises_of y ≡ premises_at tr (premises x)
