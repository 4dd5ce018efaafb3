-- `rule_deep::note_s` meets its contract.
use native.Mathlib.Omega.{arith}
use Rattle.rule_deep.proofs.Memory.{notes_end, notes_more}
use Rattle.rule_deep.proofs.note_s.Goals as goal

pub returns-then-x-eq-BLANK : goal.returns-then-x-eq-BLANK
returns-then-x-eq-BLANK c = notes_end 8 _ (omega arith) c.requires _ _ c.if-x-eq-BLANK.true

pub note-requires : goal.note-requires
note-requires c = omega (arith, c.note_t-m.ensures.room c.args.x.s.row)

pub returns : goal.returns
returns c = notes_more 8 _ _ _ _ _ (omega arith) c.if-x-eq-BLANK.false c.note_t-m.ensures c.note.ensures
