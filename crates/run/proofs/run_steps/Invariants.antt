-- `run::run_steps` meets its contract.
use Rattle.run.proofs.Laws.{Running}
use Rattle.run.specs.Ends.{run_in}
use lib.ListN.{length}
use mathlib.Core.Path.{◌≡◌}
use Rattle.run.proofs.run_steps.Given as goal

abbrev pub invariant-loop-k : goal.invariant-loop-k
invariant-loop-k l = (length l.work ≡ length l.initial.work)
    × Running l.w l.n l.terms l.steps (run_in l.w l.n l.terms l.steps l.initial.work l.initial.here) l.work l.here l.k
