-- `decisions::first_order` meets its contract. Assumes nothing.
use mathlib.Core.Path.{sym, ◌∙◌}
use mathlib.Core.Bool.{true, false}
use Rattle.decisions.proofs.Laws.{first_order_told}
use Rattle.decisions.proofs.first_order.Goals as goal

pub returns-then-decided : goal.returns-then-decided
returns-then-decided c =
    let o = c.requires.3 in
    rw c.eq.ensures (first_order_told _ c.args.sheet.now _ _ _ true o (sym c.if-decided.true ∙ c.decided.ensures) (λ e. c.level.ensures o))

pub returns : goal.returns
returns c =
    first_order_told _ c.args.sheet.now _ 0 _ false c.requires.3 (sym c.if-decided.false ∙ c.decided.ensures) (λ e. cc)
