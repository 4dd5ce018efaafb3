-- A line is split: what is left of it says the same as the whole, and the fields so far are cut.
use lib.ListN.{length}
use Rattle.text_fields.specs.Split.{contents}
use Rattle.text_columns.proofs.Splits.{Splitting}
use Rattle.text_columns.proofs.split.Given as goal

abbrev pub invariant-loop-k : goal.invariant-loop-k
invariant-loop-k l = Splitting l.line (length l.initial.fields) (contents l.fields) l.from l.k
