-- `rule_deep::packed` meets its contract.
use mathlib.Core.Path.{◌∙◌}
use borrow.Author.Rules.{rules}
use Rattle.rule_deep.proofs.Numbers.{from_num, number_le, packs}
use Rattle.rule_deep.proofs.packed.Goals as goal

pub overflow_mul-result-3 : goal.overflow_mul-result-3
overflow_mul-result-3 c = let l = number_le c.args.r.truth (c.from.ensures ∙ from_num _) in search rules

pub overflow_add-result-2 : goal.overflow_add-result-2
overflow_add-result-2 c = let l = number_le c.args.r.truth (c.from.ensures ∙ from_num _) in search rules

pub overflow_add-result-3 : goal.overflow_add-result-3
overflow_add-result-3 c = let l = number_le c.args.r.truth (c.from.ensures ∙ from_num _) in search rules

pub returns : goal.returns
returns c = packs _ c.requires (c.from.ensures ∙ from_num _)
