-- `bitset::word_without_all` meets its contract. The rows passed are removed, none of them blank. Assumes nothing.
use Rattle.bitset.specs.Members.{word_of}
use Rattle.bitset.proofs.Removals.{Removing}
use Rattle.bitset.proofs.word_without_all.Given as goal

abbrev pub invariant-loop-p : goal.invariant-loop-p
invariant-loop-p l = Removing (word_of l.k l.x) l.ps l.p-index (word_of l.k l.y)
