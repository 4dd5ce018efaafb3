-- What is returned.
use Prim.Native.Nat.{ℕ}
use mathlib.Core.List.{List}
use Rattle.reader.specs.Text.{fault_in}
use Rattle.reader.proofs.Ends.{outcome_counts}
use Rattle.reader.proofs.outcome_of.Goals as goal

pub returns : goal.returns
returns c =
    let a = c.args in
    let told = c.told_of-line.ensures in
    λ (t : List ℕ). outcome_counts _ (fault_in a.fault) a.counts t _ _ _ _ _ _ _
    c.count_rows.ensures c.count_rows-2.ensures c.count_rows-3.ensures c.count_rows-4.ensures told.line told.place told.why
