-- `acceptance::acceptable` meets its contract. No entry passed opposes the decision. Assumes nothing.
use native.Mathlib.Omega.{arith}
use Rattle.trail.proofs.Laws.{on_at}
use Rattle.acceptance.proofs.Laws.{passed_none, passed_skip, passed_found, passed_more, passed_all, is_row, prop_accepted, accepted, refused}
use Rattle.acceptance.proofs.acceptable.Goals as goal

pub is_prop-requires : goal.is_prop-requires
is_prop-requires c = is_row _ _ _ _ _ _ 0 c.requires

pub returns-then-is_prop : goal.returns-then-is_prop
returns-then-is_prop c = search prop_accepted

pub loop-i-init : goal.loop-i-init
loop-i-init c = passed_none _ _ _ _ _ c.requires.laid

pub skip-i-requires : goal.skip-i-requires
skip-i-requires c = (c.requires, c.loop-i.invariant.so_far)

pub returns-then-i-count : goal.returns-then-i-count
returns-then-i-count c =
    accepted _ _ _ _ _ _ _ c.requires c.is_prop.ensures c.if-is_prop.false
    (passed_all _ _ _ _ _ (passed_skip _ _ _ _ _ _ _ c.loop-i.invariant c.skip-i.ensures) (omega (arith, c.if-i-count.true)))

pub row_at-l-requires : goal.row_at-l-requires
row_at-l-requires c = (c.loop-i.invariant.laid, omega (arith, c.skip-i.ensures.within, c.if-i-count.false))

pub opposes-requires : goal.opposes-requires
opposes-requires c = (c.requires, rw c.row_at-l.ensures (on_at _ _ _ _ _ (omega (arith, c.skip-i.ensures.within, c.if-i-count.false))))

pub returns-then-opposes : goal.returns-then-opposes
returns-then-opposes c =
    let told = rw c.row_at-l.ensures at c.opposes.ensures in
    refused _ _ _ _ _ _ _ c.requires c.is_prop.ensures c.if-is_prop.false
    (passed_found _ _ _ _ _ (passed_skip _ _ _ _ _ _ _ c.loop-i.invariant c.skip-i.ensures)
    (omega (arith, c.skip-i.ensures.within, c.if-i-count.false)) told c.if-opposes.true)

pub overflow_add-i : goal.overflow_add-i
overflow_add-i c = omega (arith, c.skip-i.ensures.within)

pub loop-i-smaller : goal.loop-i-smaller
loop-i-smaller c =
    let skip = c.skip-i.ensures in
    omega (arith, skip.onward, skip.within, c.if-i-count.false)

pub loop-i-preserved : goal.loop-i-preserved
loop-i-preserved c =
    let told = rw c.row_at-l.ensures at c.opposes.ensures in
    passed_more _ _ _ _ _ (passed_skip _ _ _ _ _ _ _ c.loop-i.invariant c.skip-i.ensures)
    (omega (arith, c.skip-i.ensures.within, c.if-i-count.false)) told c.if-opposes.false

pub returns : goal.returns
returns c =
    accepted _ _ _ _ _ _ _ c.requires c.is_prop.ensures c.if-is_prop.false
    (passed_all _ _ _ _ _ c.loop-i.invariant c.loop-i-test.false)
