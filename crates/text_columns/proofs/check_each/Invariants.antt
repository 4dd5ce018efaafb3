-- Field after field: the fields from k on say the same as all of them.
use Prim.Native.Nat.{◌+◌}
use mathlib.Core.Path.{◌≡◌}
use lib.ListN.{drop}
use Rattle.text_fields.specs.Split.{contents}
use Rattle.text_fields.specs.Shape.{first_malformed}
use Rattle.text_columns.proofs.check_each.Given as goal

abbrev pub invariant-loop-k : goal.invariant-loop-k
invariant-loop-k l = first_malformed l.column (l.k + 1) (drop l.k (contents l.fields)) ≡ first_malformed l.column 1 (contents l.fields)
