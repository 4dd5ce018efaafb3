-- `premises::absent_place` meets its contract: the columns passed are blank or stand on the trail.
use Prim.Native.Nat.{◌+◌}
use mathlib.Core.Path.{◌≡◌, ◌∙◌}
use native.Mathlib.Omega.{arith}
use Rattle.calculus.specs.Place.{absent_place}
use Rattle.premises.proofs.Laws.{present_none, present_more, present_all, absent_here}
use Rattle.premises.proofs.absent_place.Goals as goal

pub loop-k-init : goal.loop-k-init
loop-k-init c = present_none _ _ _

pub returns-then-not-p-stands : goal.returns-then-not-p-stands
unfolding absent_place
returns-then-not-p-stands c = absent_here c.loop-k.invariant c.loop-k-test.true c.stands.ensures c.if-not-p-stands.true

pub loop-k-preserved : goal.loop-k-preserved
loop-k-preserved c = present_more c.loop-k.invariant c.loop-k-test.true c.stands.ensures c.if-not-p-stands.false

pub returns : goal.returns
unfolding absent_place
returns c = let e : 10 ≡ 5 + c.loop-k.k = omega arith in e ∙ present_all c.loop-k.invariant c.loop-k-test.false
