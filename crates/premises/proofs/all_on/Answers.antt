-- `premises::all_on` meets its contract: the columns passed stand on the trail.
use mathlib.Core.Path.{refl}
use native.Mathlib.Omega.{arith}
use Rattle.calculus.specs.Steps.{premises}
use Rattle.calculus.proofs.Walks.{passed_blank, passed_all, passed_more, passed_no}
use Rattle.state.proofs.Tests.{told_not, told_yes}
use Rattle.premises.proofs.all_on.Goals as goal

pub loop-p-init : goal.loop-p-init
loop-p-init c = record { so_far = omega arith; left = refl }

pub returns-then-p : goal.returns-then-p
unfolding premises
returns-then-p c = passed_blank c.loop-p.invariant c.loop-p-test.true c.if-p.true

pub returns-then-not-stands : goal.returns-then-not-stands
unfolding premises
returns-then-not-stands c = passed_no c.loop-p.invariant c.loop-p-test.true c.if-p.false (told_not c.stands.ensures c.if-not-stands.true)

pub loop-p-preserved : goal.loop-p-preserved
loop-p-preserved c = passed_more c.loop-p.invariant c.loop-p-test.true c.if-p.false (told_yes c.stands.ensures c.if-not-stands.false)

pub returns : goal.returns
unfolding premises
returns c = passed_all c.loop-p.invariant c.loop-p-test.false
