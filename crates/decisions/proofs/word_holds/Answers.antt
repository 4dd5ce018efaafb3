-- `decisions::word_holds` meets its contract. No member that is taken off is such a decision. Assumes nothing.
use native.Mathlib.Omega.{arith}
use Rattle.bitset.proofs.Members.{rest_less}
use Rattle.trail.proofs.Walks.{first_on, first_row}
use Rattle.decisions.proofs.Laws.{walk_start, walk_found, walk_next, walk_end}
use Rattle.decisions.proofs.word_holds.Goals as goal

pub loop-rest-init : goal.loop-rest-init
loop-rest-init c = walk_start _ (omega arith) c.requires.2

pub first_member-t-requires : goal.first_member-t-requires
first_member-t-requires c =
    let laid = c.requires.0 in
    omega (arith, first_row c.loop-rest.invariant.left c.loop-rest-test.true laid.below, laid.wide, laid.narrow)

pub first_order-requires : goal.first_order-requires
first_order-requires c =
    let left = c.loop-rest.invariant.left in
    let more = c.loop-rest-test.true in
    let same = c.first_member-t.ensures in
    (c.requires.0, c.requires.1, rw same (first_row left more c.requires.0.below), rw same (first_on left more))

pub returns-then-first_order : goal.returns-then-first_order
returns-then-first_order c =
    let told = rw c.first_member-t.ensures at c.first_order.ensures in
    walk_found c.loop-rest.invariant c.loop-rest-test.true told c.if-first_order.true

pub loop-rest-smaller : goal.loop-rest-smaller
loop-rest-smaller c = rest_less 0 c.loop-rest.rest c.loop-rest-test.true c.loop-rest.invariant.left.small

pub loop-rest-preserved : goal.loop-rest-preserved
loop-rest-preserved c =
    let told = rw c.first_member-t.ensures at c.first_order.ensures in
    walk_next c.loop-rest.invariant c.loop-rest-test.true c.requires.0.distinct told c.if-first_order.false

pub returns : goal.returns
returns c = walk_end c.loop-rest.invariant c.loop-rest-test.false
