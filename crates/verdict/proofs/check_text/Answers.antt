-- A text in memory.
use Rattle.verdict.proofs.Answers.{arrays_are_most, checked}
use Rattle.verdict.proofs.check_text.Goals as goal

pub returns : goal.returns
returns c =
    checked c.args.text.now arrays_are_most c.begin-start.ensures.begun _ _ _ c.feed-f.ensures.steps_after _
    c.conclude-a.ensures _ _ c.tell.ensures
