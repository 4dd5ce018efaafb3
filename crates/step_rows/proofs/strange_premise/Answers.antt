-- `step_rows::strange_premise` meets its contract.
use mathlib.Core.Bool.{not, ◌&&◌}
use borrow.Author.Rules.{rules}
use lib.Dec.{ltb}
use Rattle.std.proofs.Common.{tests}
use Rattle.std.proofs.lemmas.Iterator.{YieldsList-from_slice}
use Rattle.std.proofs.lemmas.Iterator.Search.{position_from_yields_List}
use Rattle.calculus.specs.Steps.{is_filled, premise_cells}
use Rattle.step_rows.proofs.Laws.{fault_at}
use Rattle.step_rows.proofs.strange_premise.Goals as goal

pub returns : goal.returns
returns c =
    let fault = λ (y : _). not (ltb y c.args.n) in
    let cells = premise_cells c.args.x in
    rw c.unwrap_or-before.ensures (
    fault_at fault 5 cells c.position.result (
    position_from_yields_List (λ y. is_filled y && fault y) c.position.new.self _ c.position.result c.position.ensures.ran
    (YieldsList-from_slice cells cc) (λ x b q k. search (rules, tests))
    )
    )
