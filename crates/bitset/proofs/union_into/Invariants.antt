-- `bitset::union_into` meets its contract. The words passed are or-ed with those at `from`, and nothing else has changed. Assumes nothing.
use Prim.Native.Nat.{◌+◌}
use mathlib.Core.Path.{◌≡◌}
use lib.ListN.{get_or}
use lib.Bits.{bit_or}
use Rattle.bitset.proofs.Windows.{Filled}
use Rattle.bitset.proofs.union_into.Given as goal

abbrev pub invariant-loop-i : goal.invariant-loop-i
invariant-loop-i l =
    Filled l.initial.work l.work l.to l.i (λ j x. x ≡ bit_or (get_or l.initial.work (l.to + j) 0) (get_or l.initial.work (l.from + j) 0))
