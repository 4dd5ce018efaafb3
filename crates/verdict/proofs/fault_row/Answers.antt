-- The row at fault, by the sheet of the number.
use native.Mathlib.Omega.{arith}
use Rattle.verdict.proofs.Cuts.{row_sorts, row_terms, row_inputs, row_steps}
use Rattle.verdict.proofs.fault_row.Goals as goal

pub returns-in-Sorts : goal.returns-in-Sorts
returns-in-Sorts c =
    record {
      value = search row_sorts;
      upper_bound = omega arith;
    }

pub returns-in-Terms : goal.returns-in-Terms
returns-in-Terms c =
    record {
      value = search row_terms;
      upper_bound = omega arith;
    }

pub returns-in-Inputs : goal.returns-in-Inputs
returns-in-Inputs c =
    record {
      value = search row_inputs;
      upper_bound = omega arith;
    }

pub returns-in-Steps : goal.returns-in-Steps
returns-in-Steps c =
    record {
      value = search row_steps;
      upper_bound = omega arith;
    }
