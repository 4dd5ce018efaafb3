-- `places::count` meets its contract.
use Rattle.places.proofs.Claimed.{count_0, count_1, count_2, count_3, count_4, count_5}
use Rattle.places.proofs.count.Goals as goal

pub returns-then-x-eq-BLANK : goal.returns-then-x-eq-BLANK
returns-then-x-eq-BLANK c = search count_0

pub returns-then-x-eq-BLANK-2 : goal.returns-then-x-eq-BLANK-2
returns-then-x-eq-BLANK-2 c = search count_1

pub returns-then-x-eq-BLANK-3 : goal.returns-then-x-eq-BLANK-3
returns-then-x-eq-BLANK-3 c = search count_2

pub returns-then-x-eq-BLANK-4 : goal.returns-then-x-eq-BLANK-4
returns-then-x-eq-BLANK-4 c = search count_3

pub returns-then-x-eq-BLANK-5 : goal.returns-then-x-eq-BLANK-5
returns-then-x-eq-BLANK-5 c = search count_4

pub returns : goal.returns
returns c = search count_5
