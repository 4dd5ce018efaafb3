-- `trail_changes::base` meets its contract. The base is not among the entries passed. Assumes nothing.
use mathlib.Core.Path.{ap, ◌∙◌}
use native.Mathlib.Omega.{arith}
use Prim.Native.Nat.{ℕ, ◌-◌}
use Rattle.trail.proofs.Levels.{level_le}
use Rattle.trail_changes.proofs.Bases.{seek_start, seek_small, seek_on_trail, seek_on, seek_found, seek_end}
use Rattle.trail_changes.proofs.base.Goals as goal

pub loop-i-init : goal.loop-i-init
loop-i-init c = seek_start _ c.requires.0

pub level-requires : goal.level-requires
level-requires c = (c.requires.0, rw c.row_at-t.ensures (seek_small c.loop-i.invariant c.loop-i-test.true))

pub decided-requires : goal.decided-requires
decided-requires c = (c.requires.0, rw c.row_at-t.ensures (seek_small c.loop-i.invariant c.loop-i-test.true))

pub returns-then-decided-le : goal.returns-then-decided-le
returns-then-decided-le c =
    let u = c.loop-i.invariant in
    let more = c.loop-i-test.true in
    let d = rw c.row_at-t.ensures at c.decided.ensures in
    let l = rw c.row_at-t.ensures at c.level.ensures in
    seek_found u more d (c.lower-before.ensures ∙ ap (λ (x : ℕ). x - 1) (l (seek_on_trail u more))) c.requires.1 (rw (c.le.ensures, level_le) at c.if-decided-le.true)

pub loop-i-preserved : goal.loop-i-preserved
loop-i-preserved c =
    let u = c.loop-i.invariant in
    let more = c.loop-i-test.true in
    let d = rw c.row_at-t.ensures at c.decided.ensures in
    let l = rw c.row_at-t.ensures at c.level.ensures in
    seek_on u more d (c.lower-before.ensures ∙ ap (λ (x : ℕ). x - 1) (l (seek_on_trail u more))) (rw (c.le.ensures, level_le) at c.if-decided-le.false)

pub returns : goal.returns
returns c = seek_end c.loop-i.invariant (omega arith)
