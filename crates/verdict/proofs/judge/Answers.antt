-- What a text gets.
use Rattle.verdict.proofs.Answers.{judged_unread, judged_run}
use Rattle.verdict.proofs.judge.Goals as goal

pub returns-then-r-ne0 : goal.returns-then-r-ne0
returns-then-r-ne0 c = λ bs read. judged_unread bs _ _ _ _ _ read c.if-r-ne0.true c.unread_answer.ensures

pub returns : goal.returns
returns c =
    λ bs read. judged_run bs _ _ _ _ _ read c.if-r-ne0.false _ _ _ _
    c.first.ensures c.first-2.ensures c.first-3.ensures c.first-4.ensures c.run_answer.ensures
