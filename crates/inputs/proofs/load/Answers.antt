-- `inputs::load` meets its contract.
use borrow.Author.Rules.{rules}
use mathlib.Core.List.{[]}
use native.Mathlib.Omega.{arith}
use Rattle.inputs.proofs.Laws.{loading_none, loading_more, loading_stop, row_term, row_value}
use Rattle.inputs.proofs.load.Goals as goal

pub loop-k-init : goal.loop-k-init
loop-k-init c = search (rules, loading_none)

pub returns-in_err-load_row : goal.returns-in_err-load_row
returns-in_err-load_row c =
    let is = c.args.inputs.now in
    let k = c.loop-k.k in
    let row = rw (c.as_chunks.ensures.front, row_term is k [] (omega arith), row_value is k [] (omega arith)) at c.load_row.ensures in
    search (rules, loading_stop)

pub loop-k-preserved : goal.loop-k-preserved
loop-k-preserved c =
    let is = c.args.inputs.now in
    let k = c.loop-k.k in
    let row = rw (c.as_chunks.ensures.front, row_term is k [] (omega arith), row_value is k [] (omega arith)) at c.load_row.ensures in
    search (rules, loading_more)
