-- `term_suits::args` meets its contract.
use borrow.Author.Rules.{rules}
use lib.Dec.{eqb}
use Rattle.calculus.specs.Sheets.{blank}
use Rattle.std.proofs.Common.{tests}
use Rattle.std.proofs.lemmas.Iterator.{YieldsList-from_slice}
use Rattle.std.proofs.lemmas.Iterator.Search.{position_from_yields_List}
use Rattle.term_suits.proofs.Laws.{first_blank}
use Rattle.term_suits.proofs.args.Goals as goal

pub returns : goal.returns
returns c =
    let xs = c.args.cells.now in
    rw c.unwrap_or-n.ensures (
    first_blank xs _ (
    position_from_yields_List (λ x. eqb x blank) _ _ c.position.result c.position.ensures.ran (YieldsList-from_slice xs cc) (λ x b q k. search (rules, tests))
    )
    )
