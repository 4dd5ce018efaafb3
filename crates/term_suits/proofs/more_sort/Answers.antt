-- `term_suits::more_sort` meets its contract.
use mathlib.Core.Path.{sym}
use Rattle.calculus.specs.Terms.{sort}
use Rattle.term_suits.proofs.Laws.{sorts_end, sorts_more, sorts_same}
use Rattle.term_suits.proofs.more_sort.Goals as goal

pub returns-then-x-y : goal.returns-then-x-y
returns-then-x-y c xs ys e =
    let s = c.args in
    rw e (sym (sorts_same (sort s.terms.now) s.x s.y xs ys c.if-x-y.true))

pub returns-then-x-y-2 : goal.returns-then-x-y-2
returns-then-x-y-2 c xs ys e =
    let s = c.args in
    sorts_end (sort s.terms.now) s.x s.y xs ys c.if-x-y.false c.if-x-y-2.true

pub returns : goal.returns
returns c xs ys e =
    let s = c.args in
    rw (c.eq.ensures, c.sort_of-2.ensures, c.sort_of.ensures, e) (sym (sorts_more (sort s.terms.now) s.x s.y xs ys c.if-x-y-2.false))
