-- `rule_deep::recall` meets its contract.
use Rattle.rule_deep.proofs.Bits.{marks_least}
use Rattle.rule_deep.proofs.Memory.{recalled_read, recalled_marks}
use Rattle.rule_deep.proofs.recall.Goals as goal

pub returns-then-t-lt256 : goal.returns-then-t-lt256
returns-then-t-lt256 c = recalled_read _ _ _ c.if-t-lt256.true

pub premised-requires : goal.premised-requires
premised-requires c =
    let x = c.args.x in
    marks_least _ x.p x.q x.r x.s x.t c.marks.ensures

pub returns : goal.returns
returns c = recalled_marks _ _ _ c.if-t-lt256.false c.marks.ensures c.value_on.ensures c.premised.ensures
