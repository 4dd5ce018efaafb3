-- `needs::find_equation` meets its contract.
use Rattle.needs.proofs.Rules.{none_yet, none_more, equation_found, equation_absent}
use Rattle.needs.proofs.find_equation.Goals as goal

pub loop-e-init : goal.loop-e-init
loop-e-init c = search none_yet

pub returns-then-is_equation : goal.returns-then-is_equation
returns-then-is_equation c = search equation_found

pub loop-e-preserved : goal.loop-e-preserved
loop-e-preserved c = search none_more

pub returns : goal.returns
returns c = search equation_absent
