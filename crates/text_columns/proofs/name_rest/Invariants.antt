-- The bytes one at a time: those of names from i on end at the same place.
use mathlib.Core.Path.{◌≡◌}
use Rattle.text_fields.specs.Class.{name_end}
use Rattle.text_columns.proofs.name_rest.Given as goal

abbrev pub invariant-loop-i : goal.invariant-loop-i
invariant-loop-i l = name_end l.line l.i ≡ name_end l.line l.from
