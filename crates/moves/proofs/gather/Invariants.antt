-- `moves::gather` meets its contract. The set holds the rows passed, none of them blank. Assumes nothing.
use Rattle.moves.proofs.Gathers.{Gathering}
use Rattle.moves.proofs.gather.Given as goal

abbrev pub invariant-loop-p : goal.invariant-loop-p
invariant-loop-p l = Gathering l.initial.work l.work l.b l.w l.ps l.p-index
