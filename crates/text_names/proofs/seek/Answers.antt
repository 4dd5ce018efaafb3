-- Down the tree of a tag: what is left of the search ends where the whole search ends.
use native.Mathlib.Omega.{arith}
use Rattle.text_names.proofs.Search.{seek_begins, seek_inside, seek_over, seek_stops, seek_low, seek_finds, seek_next}
use Rattle.text_names.proofs.seek.Goals as goal

pub loop-low-init : goal.loop-low-init
loop-low-init c = search seek_begins

pub bounds-table-place : goal.bounds-table-place
bounds-table-place c = omega (arith, seek_inside c.loop-low.invariant, c.loop-low.invariant.size)

pub returns-then-not-leads_on : goal.returns-then-not-leads_on
returns-then-not-leads_on c = search seek_stops

pub returns-then-holds_name : goal.returns-then-holds_name
returns-then-holds_name c = search seek_finds

pub loop-low-smaller : goal.loop-low-smaller
loop-low-smaller c =
    let k = seek_low c.loop-low.invariant c.from-e.ensures c.leads_on.ensures c.if-not-leads_on.false in
    omega (arith, k.0, k.1)

pub loop-low-preserved : goal.loop-low-preserved
loop-low-preserved c = search seek_next

pub returns : goal.returns
returns c = search seek_over
