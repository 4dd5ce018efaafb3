-- How a run ends, in the calculus and in the workspace.
use Rattle.std.specs.Prelude.{◌≡◌, List, ℕ, ◌+◌, Option, Some, None, Ok, Err}
use Rattle.calculus.specs.declared.Verdict.TheVariants.{Open, Refuted, Refused}
use Rattle.calculus.specs.Numbers.{number_at, place_at}
use Rattle.calculus.specs.Sheets.{step_rows}
use Rattle.calculus.specs.Run.{Ending, run}
use Rattle.state.specs.declared.Status.{Status}
use Rattle.state.specs.declared.Next.TheVariants as next
use Rattle.state.specs.States.{state_in, Standing, Answer}
use Rattle.run.specs.declared.Ended.{Ended}

-- the status after an allowed step
abbrev pub onward : Answer → Option Status
onward (Err r) = None
onward (Ok next.Refuted) = None
onward (Ok (next.On to)) = Some to

-- how the answer a ends a run after k allowed steps: a refutation is one more; an allowed step stops no run
abbrev pub stopped_by : Answer → ℕ → Status → Ended
stopped_by (Err r) k st = record { verdict = Refused; steps = k; refusal = Some r; status = st }
stopped_by (Ok next.Refuted) k st = record { verdict = Refuted; steps = k + 1; refusal = None; status = st }
stopped_by (Ok (next.On to)) k st = record { verdict = Open; steps = k; refusal = None; status = to }

-- the run of the whole log from the state that the words hold
abbrev pub run_in : ℕ → ℕ → List ℕ → List ℕ → List ℕ → Status → Ending
run_in w n ts log ws st = run ts log (state_in w n ws st) 0 (step_rows log)

-- r is the ending e, whose state the words hold
pub record Ends (w n : ℕ) (ts ws : List ℕ) (e : Ending) (r : Ended) : Type 0 where
  pub verdict : r.verdict ≡ e.verdict
  pub steps : r.steps ≡ e.steps
  pub number : number_at r.refusal ≡ e.number
  pub place : place_at r.refusal ≡ e.place
  pub state : state_in w n ws r.status ≡ e.state
  pub standing : Standing w n ts ws r.status
