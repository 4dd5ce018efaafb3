-- `rule_deep::remember` meets its contract.
use mathlib.Core.Path.{refl}
use mathlib.Core.Logic.{inl}
use Rattle.rule_deep.proofs.Memory.{remembered}
use Rattle.rule_deep.proofs.remember.Goals as goal

pub returns-then-row-lt256 : goal.returns-then-row-lt256
returns-then-row-lt256 c = remembered c.args.memo.now _ _

pub returns-else-row-lt256 : goal.returns-else-row-lt256
returns-else-row-lt256 c u = inl refl
