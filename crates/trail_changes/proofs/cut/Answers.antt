-- `trail_changes::cut` meets its contract. The entries passed are kept to the level, and the kinds of the others among them are 0. Assumes nothing.
use mathlib.Core.Path.{refl}
use native.Mathlib.Omega.{arith}
use Rattle.trail.proofs.Levels.{level_within, level_above}
use Rattle.trail_changes.proofs.Cuts.{small, cut_base, cut_keep, cut_drop, cut_all}
use Rattle.trail_changes.proofs.cut.Goals as goal
use Rattle.trail_changes.proofs.cut.Goals.{then-le, else-le}

pub loop-i-init : goal.loop-i-init
loop-i-init c = cut_base c.requires.0 c.requires.1 c.base-first.ensures

pub overflow_add-level-in-loop-i : goal.overflow_add-level-in-loop-i
overflow_add-level-in-loop-i c = omega (arith, small c.loop-i.invariant c.loop-i-test.true refl)

pub offset_bounds-work-b-in-loop-i : goal.offset_bounds-work-b-in-loop-i
offset_bounds-work-b-in-loop-i c = omega (arith, small c.loop-i.invariant c.loop-i-test.true refl)

pub bounds-work-b-in-loop-i : goal.bounds-work-b-in-loop-i
bounds-work-b-in-loop-i c = omega (arith, small c.loop-i.invariant c.loop-i-test.true refl)

pub bounds-work-b-else-le : goal.bounds-work-b-else-le
bounds-work-b-else-le c = omega (arith, small c.loop-i.invariant c.loop-i-test.true refl)

pub loop-i-preserved : goal.loop-i-preserved
loop-i-preserved c =
    let inv = c.loop-i.invariant in
    elim c.if-le.branch [
      | then-le w ↦ rw (w.work-is, w.j-is, w.top-is, w.larger-top.ensures) (cut_keep inv c.loop-i-test.true refl (level_within _ _ c.le.ensures w.if-le.true))
      | else-le w ↦ rw (w.work-is, w.j-is, w.top-is) (cut_drop inv c.loop-i-test.true refl (level_above _ _ c.le.ensures w.if-le.false))
    ]

pub returns : goal.returns
returns c = cut_all c.loop-i.invariant (omega arith)
