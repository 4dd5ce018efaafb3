-- Words are compared: the bytes so far are alike, and the last eight.
use Prim.Native.Nat.{◌-◌}
use lib.ListN.{length}
use Rattle.text_tags.proofs.Laws.{Comparing}
use Rattle.text_tags.proofs.same_words.Given as goal

abbrev pub invariant-loop-i : goal.invariant-loop-i
invariant-loop-i l = Comparing l.a l.b l.i

abbrev pub decreases-loop-i : goal.decreases-loop-i
decreases-loop-i l = length l.a - l.i
