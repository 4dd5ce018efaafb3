-- `term_sheet::all_earlier` meets its contract.
use borrow.Author.Rules.{rules}
use Rattle.std.proofs.Common.{tests}
use Rattle.std.proofs.lemmas.Iterator.{YieldsList-from_slice}
use Rattle.std.proofs.lemmas.Iterator.Search.{all_from_yields_List}
use Rattle.calculus.specs.Terms.{cells_of}
use Rattle.term_sheet.specs.Found.{before}
use Rattle.term_sheet.proofs.all_earlier.Goals as goal

pub returns : goal.returns
returns c = all_from_yields_List (before c.args.t.0) _ _ _ c.all.ensures.ran (YieldsList-from_slice (cells_of c.args.e) cc) (λ x b q k. search (rules, tests))
