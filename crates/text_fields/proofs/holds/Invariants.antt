-- Bytes are asked from the first to the last.
use Prim.Native.Nat.{◌+◌}
use mathlib.Core.Path.{◌≡◌}
use mathlib.Core.Bool.{false}
use lib.ListN.{drop}
use Rattle.text_fields.specs.Split.{before}
use Rattle.text_fields.proofs.holds.Given as goal

abbrev pub invariant-loop-b : goal.invariant-loop-b
invariant-loop-b l = l.any ≡ false → l.b-index + before l.c (drop l.b-index l.s) ≡ before l.c l.s
