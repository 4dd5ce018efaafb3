-- `levels::level_by` meets its contract. The greatest level so far is that of the members in the words passed. Assumes nothing.
use Rattle.trail.proofs.Walks.{word_within}
use Rattle.levels.proofs.Laws.{levels_start, levels_more, levels_all}
use Rattle.levels.proofs.level_by.Goals as goal

pub loop-k-init : goal.loop-k-init
loop-k-init g c = levels_start _ _ _

pub word_level-top-requires : goal.word_level-top-requires
word_level-top-requires g c =
    let word = c.requires.1.4 _ _ c.loop-k-test.true c.word.ensures in
    (c.requires.1.0, word_within _ _ _ _ word c.requires.1.1)

pub loop-k-preserved : goal.loop-k-preserved
loop-k-preserved g c =
    let word = c.requires.1.4 _ _ c.loop-k-test.true c.word.ensures in
    levels_more _ c.loop-k.invariant c.loop-k-test.true word c.word_level-top.ensures

pub returns : goal.returns
returns g c = levels_all c.loop-k.invariant c.loop-k-test.false c.requires.1.2
