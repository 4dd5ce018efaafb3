-- `rule_deep::premised` meets its contract.
use mathlib.Core.Path.{◌∙◌}
use borrow.Author.Rules.{rules}
use lib.Dec.{eqb}
use Rattle.rule_deep.proofs.Numbers.{from_num, number_le, premised_zeros, premised_made}
use Rattle.rule_deep.proofs.premised.Goals as goal

pub returns-then-m-eq0 : goal.returns-then-m-eq0
returns-then-m-eq0 c = premised_zeros _ _ c.if-m-eq0.true

pub overflow_mul-result-2 : goal.overflow_mul-result-2
overflow_mul-result-2 c = let l = number_le (eqb c.args.v 1) (c.from.ensures ∙ from_num _) in search rules

pub overflow_add-result : goal.overflow_add-result
overflow_add-result c = let l = number_le (eqb c.args.v 1) (c.from.ensures ∙ from_num _) in search rules

pub overflow_add-result-2 : goal.overflow_add-result-2
overflow_add-result-2 c = let l = number_le (eqb c.args.v 1) (c.from.ensures ∙ from_num _) in search rules

pub returns : goal.returns
returns c = premised_made _ _ c.if-m-eq0.false (c.from.ensures ∙ from_num _)
