-- The parts so far are laid.
use Rattle.std.proofs.Common.{take, length}
use Rattle.report.specs.Put.{joined, Laid}
use Rattle.report.proofs.lay.Given as goal

abbrev pub invariant-loop-part : goal.invariant-loop-part
invariant-loop-part l = Laid (length l.fn.out) (joined (take l.part-index l.parts)) l.at l.out
