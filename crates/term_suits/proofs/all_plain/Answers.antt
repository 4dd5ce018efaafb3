-- `term_suits::all_plain` meets its contract.
use mathlib.Core.Bool.{not}
use mathlib.Core.Path.{◌∙◌}
use borrow.Author.Rules.{rules}
use Rattle.calculus.specs.Terms.{prop, args_of}
use Rattle.std.proofs.Common.{tests}
use Rattle.std.proofs.lemmas.Iterator.{YieldsList-from_slice}
use Rattle.std.proofs.lemmas.Iterator.Search.{all_from_yields_List}
use Rattle.term_suits.proofs.Laws.{all_is}
use Rattle.term_suits.proofs.all_plain.Goals as goal

pub returns : goal.returns
returns c =
    all_from_yields_List (λ a. not (prop c.args.terms.now a)) _ _ _ c.all.ensures.ran (YieldsList-from_slice (args_of c.args.e) cc)
    (λ x b q k. search (rules, tests))
    ∙ all_is (λ a. not (prop c.args.terms.now a)) (args_of c.args.e)
