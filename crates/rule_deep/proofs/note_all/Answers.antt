-- `rule_deep::note_all` meets its contract.
use native.Mathlib.Omega.{arith}
use Rattle.rule_deep.proofs.Memory.{notes_end, notes_more}
use Rattle.rule_deep.proofs.note_all.Goals as goal

pub returns-then-x-eq-BLANK : goal.returns-then-x-eq-BLANK
returns-then-x-eq-BLANK c = notes_end 1 _ (omega arith) c.requires _ _ c.if-x-eq-BLANK.true

pub note-requires : goal.note-requires
note-requires c = omega (arith, c.note_q-m.ensures.room c.args.x.p.row)

pub returns : goal.returns
returns c = notes_more 1 _ _ _ _ _ (omega arith) c.if-x-eq-BLANK.false c.note_q-m.ensures c.note.ensures
