-- The bytes so far are parts of the name.
use Prim.Native.Nat.{◌+◌}
use mathlib.Core.Path.{◌≡◌}
use lib.ListN.{drop}
use Rattle.text_fields.specs.Class.{run}
use Rattle.text_columns.proofs.names_of_four.Given as goal

abbrev pub invariant-loop-k : goal.invariant-loop-k
invariant-loop-k l = l.k + run (drop (l.i + l.k) l.line) ≡ run (drop l.i l.line)
