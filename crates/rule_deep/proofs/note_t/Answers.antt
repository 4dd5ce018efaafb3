-- `rule_deep::note_t` meets its contract.
use mathlib.Core.List.{[]}
use native.Mathlib.Omega.{arith}
use Rattle.rule_deep.proofs.Memory.{none_noted, notes_end, notes_more}
use Rattle.rule_deep.proofs.note_t.Goals as goal

pub returns-then-x-eq-BLANK : goal.returns-then-x-eq-BLANK
returns-then-x-eq-BLANK c = notes_end 16 _ (omega arith) c.requires _ [] c.if-x-eq-BLANK.true

pub note-requires : goal.note-requires
note-requires c = omega (arith, c.requires.zeros c.args.x.t.row)

pub returns : goal.returns
returns c = notes_more 16 _ _ _ [] 0 (omega arith) c.if-x-eq-BLANK.false (none_noted 32 _ (omega arith) c.requires) c.note.ensures
