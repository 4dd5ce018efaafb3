-- `bitset::copy_without` meets its contract. The words passed are those of the set, and nothing else has changed. Assumes nothing.
use Rattle.calculus.specs.Terms.{filled}
use Rattle.calculus.specs.Trail.{without}
use Rattle.bitset.specs.Windows.{set_at}
use Rattle.bitset.specs.Members.{IsWord}
use Rattle.bitset.proofs.Windows.{Filled}
use Rattle.bitset.proofs.copy_without.Given as goal

abbrev pub invariant-loop-j : goal.invariant-loop-j
invariant-loop-j l = Filled l.initial.work l.work l.to l.j (IsWord (without (set_at l.initial.work l.from l.w) (filled l.ps)))
