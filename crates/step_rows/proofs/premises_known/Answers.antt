-- `step_rows::premises_known` meets its contract.
use mathlib.Core.Bool.{not}
use mathlib.Core.Path.{◌∙◌}
use borrow.Author.Rules.{rules}
use lib.Dec.{eqb, ltb}
use Rattle.std.proofs.Common.{tests}
use Rattle.std.proofs.lemmas.Iterator.{YieldsList-from_slice}
use Rattle.std.proofs.lemmas.Iterator.Consumers.{YieldsList-at}
use Rattle.std.proofs.lemmas.Iterator.Search.{all_from_yields_List, YieldsList-from_take_while}
use Rattle.calculus.specs.Sheets.{blank}
use Rattle.calculus.specs.Steps.{premises, premise_cells}
use Rattle.step_rows.proofs.Laws.{all_filled_is}
use Rattle.step_rows.proofs.premises_known.Goals as goal

pub returns : goal.returns
unfolding premises
returns c =
    let cells = premise_cells c.args.x in
    all_from_yields_List (λ y. ltb y c.args.n) c.all.new.self _ _ c.all.ensures.ran (
    YieldsList-from_take_while _ (λ y. not (eqb y blank)) (YieldsList-at c.take_while.ensures.source (YieldsList-from_slice cells cc))
    c.take_while.ensures.closure c.take_while.ensures.done (λ x b q k. search (rules, tests))
    ) (λ x b q k. search (rules, tests))
    ∙ all_filled_is (λ y. ltb y c.args.n) cells
