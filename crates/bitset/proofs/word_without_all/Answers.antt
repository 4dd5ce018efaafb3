-- `bitset::word_without_all` meets its contract. The rows passed are removed, none of them blank. Assumes nothing.
use mathlib.Core.Path.{◌≡◌}
use native.Mathlib.Omega.{arith}
use lib.ListN.{length}
use Rattle.calculus.specs.Terms.{filled}
use Rattle.bitset.proofs.Members.{none_left}
use Rattle.bitset.proofs.Removals.{empty_rest, removing_none, removed_blank, removed_more, removed_all}
use Rattle.bitset.proofs.word_without_all.Goals as goal

pub returns-then-x-eq0 : goal.returns-then-x-eq0
returns-then-x-eq0 c = empty_rest _ (filled c.args.ps.now) (none_left c.args.k c.args.x (omega (arith, c.if-x-eq0.true)))

pub loop-p-init : goal.loop-p-init
loop-p-init c = removing_none _ _

pub returns-then-p : goal.returns-then-p
returns-then-p c = removed_blank c.loop-p.invariant c.loop-p-test.true c.if-p.true

pub loop-p-preserved : goal.loop-p-preserved
loop-p-preserved c = removed_more c.loop-p.invariant c.loop-p-test.true c.if-p.false c.word_without-y.ensures

pub returns : goal.returns
returns c =
    let e : c.loop-p.p-index ≡ length c.args.ps.now = omega (arith, c.loop-p.invariant.so_far) in
    removed_all c.loop-p.invariant e
