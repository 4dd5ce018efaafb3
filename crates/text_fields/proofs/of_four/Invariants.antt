-- The bytes so far are passed.
use Prim.Native.Nat.{◌+◌}
use mathlib.Core.Path.{◌≡◌}
use lib.ListN.{drop}
use Rattle.text_fields.specs.Split.{before}
use Rattle.text_fields.proofs.of_four.Given as goal

abbrev pub invariant-loop-k : goal.invariant-loop-k
invariant-loop-k l = l.k + before l.c (drop (l.i + l.k) l.s) ≡ before l.c (drop l.i l.s)
