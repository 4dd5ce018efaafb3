-- What is left of the digits says of the number so far what all of them say.
use Prim.Native.Nat.{◌≤◌}
use mathlib.Core.Path.{◌≡◌}
use lib.ListN.{drop}
use Rattle.text_fields.specs.Number.{digits}
use Rattle.text_values.proofs.read_digits.Given as goal

abbrev pub invariant-loop-b : goal.invariant-loop-b
invariant-loop-b l = (l.n ≤ 65534) × (digits l.n (drop l.b-index l.f) ≡ digits 0 l.f)
