-- `term_sheet::check_term` meets its contract.
use borrow.Author.Rules.{rules}
use Rattle.calculus.specs.Numbers.{unless}
use Rattle.term_sheet.proofs.Laws.{placed_row}
use Rattle.term_sheet.proofs.check_term.Goals as goal

pub returns-then-not-suits_head : goal.returns-then-not-suits_head
unfolding unless
returns-then-not-suits_head c = rw (placed_row c.args.sorts.now c.args.terms.now c.args.t.0 _ c.requires.row (search rules)) (search rules)

pub returns-then-eq : goal.returns-then-eq
unfolding unless
returns-then-eq c = rw (placed_row c.args.sorts.now c.args.terms.now c.args.t.0 _ c.requires.row (search rules)) (search rules)

pub returns : goal.returns
unfolding unless
returns c = rw (placed_row c.args.sorts.now c.args.terms.now c.args.t.0 _ c.requires.row (search rules)) (search rules)
