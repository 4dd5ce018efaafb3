-- `inputs::load` meets its contract.
use Rattle.inputs.proofs.Laws.{Loading}
use lib.ListN.{length}
use mathlib.Core.Path.{◌≡◌}
use Rattle.inputs.proofs.load.Given as goal

abbrev pub invariant-loop-k : goal.invariant-loop-k
invariant-loop-k l = (length l.work ≡ length l.initial.work) × Loading l.w l.n l.terms l.inputs l.work l.k
