-- `levels::word_level` meets its contract. The greatest level so far is that of the members that are taken off. Assumes nothing.
use native.Mathlib.Omega.{arith}
use Rattle.bitset.proofs.Members.{rest_less}
use Rattle.trail.proofs.Walks.{first_on, first_row}
use Rattle.levels.proofs.Laws.{walk_start, walk_next, walk_end}
use Rattle.levels.proofs.word_level.Goals as goal

pub loop-rest-init : goal.loop-rest-init
loop-rest-init c = walk_start _ (omega arith) c.requires.1

pub first_member-t-requires : goal.first_member-t-requires
first_member-t-requires c =
    let laid = c.requires.0 in
    omega (arith, first_row c.loop-rest.invariant.left c.loop-rest-test.true laid.below, laid.wide, laid.narrow)

pub level-level-requires : goal.level-level-requires
level-level-requires c =
    let laid = c.requires.0 in
    (laid, rw c.first_member-t.ensures (first_row c.loop-rest.invariant.left c.loop-rest-test.true laid.below))

pub loop-rest-smaller : goal.loop-rest-smaller
loop-rest-smaller c = rest_less 0 c.loop-rest.rest c.loop-rest-test.true c.loop-rest.invariant.left.small

pub loop-rest-preserved : goal.loop-rest-preserved
loop-rest-preserved c =
    let inv = c.loop-rest.invariant in
    let more = c.loop-rest-test.true in
    let there = rw (← c.first_member-t.ensures) at (first_on inv.left more) in
    rw (c.larger-most.ensures, c.level-level.ensures there, c.first_member-t.ensures)
    (walk_next c.requires.0.distinct inv more)

pub returns : goal.returns
returns c = walk_end c.loop-rest.invariant c.loop-rest-test.false
