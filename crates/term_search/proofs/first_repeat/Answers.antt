-- `term_search::first_repeat` meets its contract.
use mathlib.Core.Path.{refl}
use native.Mathlib.Omega.{arith}
use lib.ListN.{get_or-replicate}
use Rattle.term_search.proofs.Laws.{chain_none, chain_next, pairs_first, pairs_next, pairs_fewer, row_fresh, repeat_found}
use Rattle.term_search.proofs.first_repeat.Goals as goal

pub rows-init : goal.rows-init
rows-init c = (omega arith, refl, chain_none _ _ _ refl refl (λ s h. get_or-replicate 1024 s 65535 0 h))

pub pairs-init : goal.pairs-init
pairs-init c = search pairs_first

pub pairs-smaller : goal.pairs-smaller
pairs-smaller c = search pairs_fewer

pub pairs-preserved : goal.pairs-preserved
pairs-preserved c = search pairs_next

pub rows-preserved : goal.rows-preserved
rows-preserved c = (omega arith, search row_fresh, search chain_next)

pub returns-after-loop-k : goal.returns-after-loop-k
returns-after-loop-k c = search repeat_found
