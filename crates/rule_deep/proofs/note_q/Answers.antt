-- `rule_deep::note_q` meets its contract.
use native.Mathlib.Omega.{arith}
use Rattle.rule_deep.proofs.Memory.{notes_end, notes_more}
use Rattle.rule_deep.proofs.note_q.Goals as goal

pub returns-then-x-eq-BLANK : goal.returns-then-x-eq-BLANK
returns-then-x-eq-BLANK c = notes_end 2 _ (omega arith) c.requires _ _ c.if-x-eq-BLANK.true

pub note-requires : goal.note-requires
note-requires c = omega (arith, c.note_r-m.ensures.room c.args.x.q.row)

pub returns : goal.returns
returns c = notes_more 2 _ _ _ _ _ (omega arith) c.if-x-eq-BLANK.false c.note_r-m.ensures c.note.ensures
