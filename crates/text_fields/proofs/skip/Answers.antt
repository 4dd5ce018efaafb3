-- Sixteen bytes without `c` are passed at a time.
use Prim.Native.Nat.{◌-◌, ◌+◌}
use mathlib.Core.Path.{◌≡◌}
use native.Mathlib.Omega.{arith}
use Rattle.text_fields.proofs.Laws.{before_block}
use Rattle.text_fields.proofs.skip.Goals as goal

pub loop-i-preserved : goal.loop-i-preserved
loop-i-preserved c =
    let a = c.args in
    let i = c.loop-i.i in
    let n : i + 16 - i ≡ 16 = omega arith in
    let h = c.holds.ensures c.if-holds.false in
    (omega arith, omega (arith, before_block a.c a.s.now i 16 (omega arith) (rw n at h), c.loop-i.invariant.1))
