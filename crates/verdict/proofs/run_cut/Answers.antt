-- The run of cut sheets.
use Rattle.verdict.proofs.Cuts.{cut_sorts, cut_terms, cut_inputs, cut_steps}
use Rattle.verdict.proofs.run_cut.Goals as goal

pub returns-in-Sorts : goal.returns-in-Sorts
returns-in-Sorts c = search cut_sorts

pub returns-in-Terms : goal.returns-in-Terms
returns-in-Terms c = search cut_terms

pub returns-in-Inputs : goal.returns-in-Inputs
returns-in-Inputs c = search cut_inputs

pub returns-in-Steps : goal.returns-in-Steps
returns-in-Steps c = search cut_steps
