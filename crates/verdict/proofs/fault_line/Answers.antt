-- The line of a run's number.
use Rattle.verdict.proofs.Cuts.{line_none, line_some}
use Rattle.verdict.proofs.fault_line.Goals as goal

pub returns-then-o-eq0 : goal.returns-then-o-eq0
returns-then-o-eq0 c = search line_none

pub returns : goal.returns
returns c = search line_some
