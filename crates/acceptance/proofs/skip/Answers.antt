-- `acceptance::skip` meets its contract. No entry passed has t as an argument. Assumes nothing.
use Rattle.acceptance.proofs.Laws.{skipped_none, skipped_four}
use Rattle.acceptance.proofs.skip.Goals as goal

pub loop-i-init : goal.loop-i-init
loop-i-init c = skipped_none _ _ _ _ _ _ _ c.requires.1

pub loop-i-preserved : goal.loop-i-preserved
loop-i-preserved c =
    skipped_four _ _ _ _ _ _ c.loop-i.invariant c.loop-i-test.true c.has_side-first.ensures
    c.has_side-second.ensures c.has_side-third.ensures c.has_side-fourth.ensures c.if-first-second.false

pub returns : goal.returns
returns c = c.loop-i.invariant
