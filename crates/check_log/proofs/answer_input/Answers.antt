-- All of standard input, read and answered.
use Rattle.std.proofs.Common.{rules}
use Rattle.verdict.proofs.Answers.{arrays_are_most}
use Rattle.check_log.proofs.Pieces.{spoken}
use Rattle.check_log.proofs.answer_input.Goals as goal

pub returns-clause-spoken : goal.returns-clause-spoken
returns-clause-spoken c =
    spoken arrays_are_most c.begin-f.ensures.begun _ _ _ _ c.in_ok-bytes.ensures.fed _ c.conclude-a.ensures
    _ _ (search rules) c.spell-printed.ensures _ _ (search rules) c.tell-told.ensures
