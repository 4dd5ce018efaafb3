-- `bitset::union_into` meets its contract. The words passed are or-ed with those at `from`, and nothing else has changed. Assumes nothing.
use mathlib.Core.Path.{◌≡◌, ap₂}
use native.Mathlib.Omega.{arith}
use mathlib.Core.Logic.{inl, inr}
use lib.Bits.{bit_or}
use Rattle.bitset.proofs.Windows.{filled_none, filled_more, still, united}
use Rattle.bitset.proofs.union_into.Goals as goal

pub loop-i-init : goal.loop-i-init
loop-i-init c = filled_none _ _ _

pub loop-i-preserved : goal.loop-i-preserved
loop-i-preserved c =
    let u = c.loop-i.invariant in
    filled_more _ _ _ _ _ _ (omega arith) u (ap₂ bit_or (still _ _ _ _ _ u _ (inr (omega arith))) (still _ _ _ _ _ u _ (inl (omega arith))))

pub returns : goal.returns
returns c = let e : c.loop-i.i ≡ c.args.w = omega arith in united _ _ _ _ _ (rw e at c.loop-i.invariant)
