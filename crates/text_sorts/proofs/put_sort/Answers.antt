-- A sort row stored.
use Rattle.std.proofs.Common.{arith}
use Rattle.text_sorts.proofs.Laws.{sort_stored}
use Rattle.text_sorts.proofs.put_sort.Goals as goal

pub returns-clause-names_after : goal.returns-clause-names_after
returns-clause-names_after c =
    let a = c.args in
    let r = c.requires in
    sort_stored a.counts a.names.now (omega arith) r.bounded r.room a.fields.now r.good r.fresh _ _ c.sort_ref-index.ensures c.sort_ref-value.ensures _
    c.put_name.ensures
