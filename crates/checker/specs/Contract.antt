-- What the call states: its result and both lent buffers, for every call.
use Rattle.std.specs.Prelude.{◌≡◌, List, ℕ, Result, Ok, Err}
use Rattle.calculus.specs.declared.Outcome.{Outcome}
use Rattle.calculus.specs.declared.Refusal.{Refusal}
use Rattle.calculus.specs.Numbers.{number}
use Rattle.calculus.specs.Sheets.{Call}
use Rattle.calculus.specs.Run.{turned_away, outcome_of, outcome, trail_after, work_after}

-- the call with these sheets and buffers
abbrev pub call_of : List ℕ → List ℕ → List ℕ → List ℕ → List ℕ → List ℕ → Call
call_of sorts terms inputs steps work trail =
    record { sorts = sorts; terms = terms; inputs = inputs; steps = steps; work = work; trail = trail }

-- what a call answers that was run, or was turned away with a refusal
abbrev pub outcome_in : Result Outcome Refusal → Outcome
outcome_in (Ok o) = o
outcome_in (Err r) = outcome_of (turned_away (number r))

-- past the lengths, the call x answers r and leaves the trail buffer so
pub record Ran (x : Call) (r : Outcome) (buffer : List ℕ) : Type 0 where
  pub result : r ≡ outcome x
  pub trail : buffer ≡ trail_after x

-- the call x answers r, and leaves the workspace and the trail buffer so
pub record Answered (x : Call) (r : Outcome) (workspace buffer : List ℕ) : Type 0 where
  pub result : r ≡ outcome x
  pub work : workspace ≡ work_after x
  pub trail : buffer ≡ trail_after x
