-- `conflicts::all_in_conflict` meets its contract. The rows passed are in the conflict, and those that are left are rows. Assumes nothing.
use mathlib.Core.Path.{refl, sym}
use native.Mathlib.Omega.{arith}
use borrow.Author.Tests.{ltb-true}
use Rattle.calculus.proofs.Walks.{passed_blank, passed_all, passed_more, passed_no, passed_at}
use Rattle.state.proofs.Tests.{told_not, told_yes}
use Rattle.conflicts.proofs.all_in_conflict.Goals as goal

pub loop-p-init : goal.loop-p-init
loop-p-init c = (record { so_far = omega arith; left = refl }, record { so_far = omega arith; left = sym c.requires.2 })

pub returns-then-p : goal.returns-then-p
returns-then-p c = passed_blank c.loop-p.invariant.0 c.loop-p-test.true c.if-p.true

pub in_conflict-requires : goal.in_conflict-requires
in_conflict-requires c =
    let known = passed_at c.loop-p.invariant.1 c.loop-p-test.true c.if-p.false in
    (c.requires.0, c.requires.1, ltb-true _ _ known.0)

pub returns-then-not-in_conflict : goal.returns-then-not-in_conflict
returns-then-not-in_conflict c = passed_no c.loop-p.invariant.0 c.loop-p-test.true c.if-p.false (told_not c.in_conflict.ensures c.if-not-in_conflict.true)

pub loop-p-preserved : goal.loop-p-preserved
loop-p-preserved c =
    let inv = c.loop-p.invariant in
    let k = c.loop-p-test.true in
    let ne = c.if-p.false in
    (passed_more inv.0 k ne (told_yes c.in_conflict.ensures c.if-not-in_conflict.false), (passed_at inv.1 k ne).1)

pub returns : goal.returns
returns c = passed_all c.loop-p.invariant.0 c.loop-p-test.false
