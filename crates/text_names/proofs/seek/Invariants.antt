-- Down the tree of a tag: what is left of the search ends where the whole search ends.
use Prim.Native.Nat.{◌-◌}
use Rattle.text_names.proofs.Search.{Seeking}
use Rattle.text_names.proofs.seek.Given as goal

abbrev pub invariant-loop-low : goal.invariant-loop-low
invariant-loop-low l = Seeking l.table l.base l.count l.name l.tag l.place l.low l.d

abbrev pub decreases-loop-low : goal.decreases-loop-low
decreases-loop-low l = l.count - l.low
