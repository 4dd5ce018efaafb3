-- `needs::but` meets its contract.
use Rattle.needs.proofs.Listed.{but_0, but_1, but_2, but_3, but_4}
use Rattle.needs.proofs.but.Goals as goal

pub returns-in-0 : goal.returns-in-0
returns-in-0 c = search but_0

pub returns-in-1 : goal.returns-in-1
returns-in-1 c = search but_1

pub returns-in-2 : goal.returns-in-2
returns-in-2 c = search but_2

pub returns-in-3 : goal.returns-in-3
returns-in-3 c = search but_3

pub returns-in_default : goal.returns-in_default
returns-in_default c = search but_4
