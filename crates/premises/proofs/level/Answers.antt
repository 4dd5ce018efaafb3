-- `premises::level` meets its contract: the level so far is that of the columns passed.
use Rattle.calculus.specs.Steps.{premises}
use Rattle.premises.proofs.Laws.{levelled_none, levelled_blank, levelled_all, levelled_on, levelled_more}
use Rattle.premises.proofs.level.Goals as goal

pub loop-p-init : goal.loop-p-init
unfolding premises
loop-p-init c = levelled_none _ _ c.requires.stand

pub returns-then-p : goal.returns-then-p
unfolding premises
returns-then-p c = levelled_blank c.loop-p.invariant c.loop-p-test.true c.if-p.true

pub level_at-requires : goal.level_at-requires
level_at-requires c = (c.requires.laid, levelled_on c.loop-p.invariant c.loop-p-test.true c.if-p.false)

pub loop-p-preserved : goal.loop-p-preserved
loop-p-preserved c =
    levelled_more c.loop-p.invariant c.loop-p-test.true c.if-p.false
    c.requires.laid.distinct c.level_at.ensures c.larger-m.ensures

pub returns : goal.returns
unfolding premises
returns c = levelled_all c.loop-p.invariant c.loop-p-test.false
