-- `rule_deep::marks` meets its contract.
use Rattle.rule_deep.proofs.Bits.{marks_nil}
use Rattle.rule_deep.proofs.marks.Goals as goal

pub returns : goal.returns
returns c =
    c.more_marks.ensures.1 _ (c.more_marks-b.ensures.1 _ (c.more_marks-c.ensures.1 _ (c.more_marks-d.ensures.1 _ (
    c.more_marks-e.ensures.1 _ (marks_nil _)))))
