-- Words are compared: the bytes so far are alike, and the last eight.
use native.Mathlib.Omega.{arith}
use Rattle.text_tags.proofs.Laws.{wide_parts, compare_begins, compare_goes_on, compare_done}
use Rattle.text_tags.proofs.same_words.Goals as goal

pub returns-then-wide_word : goal.returns-then-wide_word
returns-then-wide_word c = search wide_parts

pub loop-i-init : goal.loop-i-init
loop-i-init c =
    compare_begins c.shared_slice_known-1.given c.shared_slice_known-2-1.given (omega arith) (omega arith)
    c.wide_word.ensures c.wide_word-2.ensures c.if-wide_word.false

pub returns-then-wide_word-2 : goal.returns-then-wide_word-2
returns-then-wide_word-2 c = search wide_parts

pub loop-i-preserved : goal.loop-i-preserved
loop-i-preserved c = compare_goes_on c.loop-i.invariant (omega arith) c.wide_word-in-loop-i.ensures c.wide_word-in-loop-i-2.ensures c.if-wide_word-2.false

pub returns : goal.returns
returns c = search compare_done
