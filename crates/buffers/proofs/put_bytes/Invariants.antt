-- What is left of the bytes is stored in what the buffer holds now.
use Prim.Native.Nat.{◌+◌}
use mathlib.Core.Path.{◌≡◌}
use lib.ListN.{drop}
use lib.Seq.{sets}
use Rattle.buffers.proofs.put_bytes.Given as goal

abbrev pub invariant-loop-j : goal.invariant-loop-j
invariant-loop-j l = sets l.d (l.at + l.j) (drop l.j l.word) ≡ sets l.initial.d l.at l.word
