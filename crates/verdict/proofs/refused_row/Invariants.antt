-- The first row behind which a cut is refused: from k on it is the same as from the first on.
use Rattle.verdict.proofs.Cuts.{Sought}
use Rattle.verdict.proofs.refused_row.Given as goal

abbrev pub invariant-loop-k : goal.invariant-loop-k
invariant-loop-k l = Sought l.sheet l.rows l.sorts l.terms l.inputs l.k
