-- `moves::gather` meets its contract. The set holds the rows passed, none of them blank. Assumes nothing.
use mathlib.Core.Path.{◌≡◌}
use native.Mathlib.Omega.{arith}
use lib.ListN.{length}
use Rattle.bitset.proofs.Windows.{holds_twice}
use Rattle.moves.proofs.Gathers.{gather_none, gather_blank, gather_in, gather_more, gather_all}
use Rattle.moves.proofs.gather.Goals as goal

pub loop-p-init : goal.loop-p-init
loop-p-init c = gather_none _ _ _ _ c.clear.ensures.set

pub returns-then-p : goal.returns-then-p
returns-then-p c =
    holds_twice _ _ _ _ _ _ _ c.clear.ensures
    (gather_blank _ _ _ _ _ _ c.loop-p-test.true c.loop-p.invariant c.if-p.true)

pub insert-requires : goal.insert-requires
insert-requires c =
    let inv = c.loop-p.invariant in (
      c.requires.1 _ (gather_in _ _ _ _ _ _ c.loop-p-test.true inv c.if-p.false),
      omega (arith, c.requires.0, inv.holds.only.long, c.clear.ensures.only.long),
    )

pub loop-p-preserved : goal.loop-p-preserved
loop-p-preserved c =
    let inv = c.loop-p.invariant in
    gather_more _ _ _ _ _ _ c.loop-p-test.true inv c.if-p.false _ c.insert.ensures

pub returns : goal.returns
returns c =
    let e : c.loop-p.p-index ≡ length c.args.ps.now = omega arith in
    holds_twice _ _ _ _ _ _ _ c.clear.ensures (gather_all _ _ _ _ _ _ e c.loop-p.invariant)
