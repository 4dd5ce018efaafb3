-- The end of a text that came in pieces.
use Rattle.verdict.proofs.Answers.{concluded}
use Rattle.verdict.proofs.conclude.Goals as goal

pub returns : goal.returns
returns c = λ ps is. concluded ps c.args.f _ _ _ _ _ _ is c.finish-r.ensures c.judge.ensures
