-- `trail_sheet::write` meets its contract. The entries passed are written, and what follows is as it was. Assumes nothing.
use native.Mathlib.Omega.{arith}
use Rattle.trail_sheet.proofs.Numbers.{writing_none, writing_more, writing_all, row_small, row_on, level_fits}
use Rattle.trail_sheet.proofs.write.Goals as goal

pub loop-i-init : goal.loop-i-init
loop-i-init c = writing_none _ c.requires.0 c.requires.1

pub value-value-requires : goal.value-value-requires
value-value-requires c = (c.requires.0, rw c.row_at-t.ensures (row_small c.loop-i.invariant c.loop-i-test.true))

pub level-level-requires : goal.level-level-requires
level-level-requires c = (c.requires.0, rw c.row_at-t.ensures (row_small c.loop-i.invariant c.loop-i-test.true))

pub decided-requires : goal.decided-requires
decided-requires c = (c.requires.0, rw c.row_at-t.ensures (row_small c.loop-i.invariant c.loop-i-test.true))

pub overflow_cast-level : goal.overflow_cast-level
overflow_cast-level c =
    let u = c.loop-i.invariant in
    let there = rw (← c.row_at-t.ensures) at (row_on u c.loop-i-test.true) in
    let level = rw c.row_at-t.ensures at (c.level-level.ensures there) in
    omega (arith, level, level_fits u c.loop-i-test.true c.requires.2)

pub loop-i-preserved : goal.loop-i-preserved
loop-i-preserved c =
    let u = c.loop-i.invariant in
    let there = rw (← c.row_at-t.ensures) at (row_on u c.loop-i-test.true) in
    let e = c.copy_from_slice.ensures.after in
    writing_more u c.loop-i-test.true
    (rw (c.value-value.ensures there, c.level-level.ensures there, c.from-decided.ensures, c.decided.ensures, c.row_at-t.ensures) at e)

pub returns : goal.returns
returns c = writing_all c.loop-i.invariant c.loop-i-test.false
