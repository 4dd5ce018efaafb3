-- A term row stored.
use Rattle.std.proofs.Common.{arith}
use Rattle.text_terms.proofs.Laws.{term_stored}
use Rattle.text_terms.proofs.put_term.Goals as goal

pub returns-clause-names_after : goal.returns-clause-names_after
returns-clause-names_after c =
    let a = c.args in
    let r = c.requires in
    term_stored a.counts a.names.now r.bounded r.room a.fields.now r.good r.fresh c.head_of-head.result _ (omega arith) c.head_of-head.ensures _
    c.put_name.ensures _ _ _ _ _ c.sort_ref-sort.ensures c.term_ref-a.ensures c.term_ref-b.ensures c.term_ref-c.ensures c.term_ref-d.ensures
