-- `rule_deep::more_marks` meets its contract.
use native.Mathlib.Omega.{arith}
use borrow.Author.Tests.{eq-eqb, ne_eqb}
use Rattle.rule_deep.proofs.Bits.{marks_end, marks_set, marks_clear}
use Rattle.rule_deep.proofs.more_marks.Goals as goal

pub returns-then-p-eq-BLANK : goal.returns-then-p-eq-BLANK
returns-then-p-eq-BLANK c = (omega arith, λ ps e. marks_end _ _ ps c.if-p-eq-BLANK.true)

pub returns-then-p-t : goal.returns-then-p-t
returns-then-p-t c = (omega arith, λ ps e. marks_set _ _ ps _ c.if-p-eq-BLANK.false (eq-eqb _ _ c.if-p-t.true) e)

pub returns-else-p-t : goal.returns-else-p-t
returns-else-p-t c = (omega arith, λ ps e. marks_clear _ _ ps _ c.if-p-eq-BLANK.false (ne_eqb _ _ c.if-p-t.false) e)
