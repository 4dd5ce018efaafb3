-- `term_suits::all_props` meets its contract.
use mathlib.Core.Path.{◌∙◌}
use borrow.Author.Rules.{rules}
use Rattle.calculus.specs.Terms.{prop, args_of}
use Rattle.std.proofs.Common.{tests}
use Rattle.std.proofs.lemmas.Iterator.{YieldsList-from_slice}
use Rattle.std.proofs.lemmas.Iterator.Search.{all_from_yields_List}
use Rattle.term_suits.proofs.Laws.{all_is}
use Rattle.term_suits.proofs.all_props.Goals as goal

pub returns : goal.returns
returns c =
    all_from_yields_List (prop c.args.terms.now) _ _ _ c.all.ensures.ran (YieldsList-from_slice (args_of c.args.e) cc) (λ x b q k. search (rules, tests))
    ∙ all_is (prop c.args.terms.now) (args_of c.args.e)
