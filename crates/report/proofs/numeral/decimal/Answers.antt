-- The digits are found one after the other, from the right.
use Rattle.report.proofs.Digits.{spelling_starts, place_left, spelling_on, spelling_done}
use Rattle.report.proofs.numeral.decimal.Goals as goal

pub loop-rest-init : goal.loop-rest-init
loop-rest-init c = search spelling_starts

pub overflow_sub-i : goal.overflow_sub-i
overflow_sub-i c = search place_left

pub loop-rest-preserved : goal.loop-rest-preserved
loop-rest-preserved c = search spelling_on

pub returns : goal.returns
returns c = search spelling_done
