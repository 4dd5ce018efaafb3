-- The digits are found one after the other, from the right.
use Rattle.report.proofs.Digits.{Spelling}
use Rattle.report.proofs.numeral.decimal.Given as goal

abbrev pub invariant-loop-rest : goal.invariant-loop-rest
invariant-loop-rest l = Spelling l.n l.row l.i l.rest

abbrev pub decreases-loop-rest : goal.decreases-loop-rest
decreases-loop-rest l = l.rest
