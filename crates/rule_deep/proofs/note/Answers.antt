-- `rule_deep::note` meets its contract.
use mathlib.Core.Path.{◌∙◌}
use borrow.Author.Rules.{rules}
use lib.Dec.{eqb}
use Rattle.rule_deep.proofs.Numbers.{from_num, number_le}
use Rattle.rule_deep.proofs.Memory.{noted_near, noted_far}
use Rattle.rule_deep.proofs.note.Goals as goal

pub overflow_mul-memo-then-p-lt256 : goal.overflow_mul-memo-then-p-lt256
overflow_mul-memo-then-p-lt256 c =
    let l = number_le (eqb c.args.p.value 1) (c.from.ensures ∙ from_num _) in
    search rules

pub overflow_add-memo-then-p-lt256 : goal.overflow_add-memo-then-p-lt256
overflow_add-memo-then-p-lt256 c =
    let l = number_le (eqb c.args.p.value 1) (c.from.ensures ∙ from_num _) in
    search rules

pub overflow_add-memo-then-p-lt256-2 : goal.overflow_add-memo-then-p-lt256-2
overflow_add-memo-then-p-lt256-2 c =
    let l = number_le (eqb c.args.p.value 1) (c.from.ensures ∙ from_num _) in
    search rules

pub returns-then-p-lt256 : goal.returns-then-p-lt256
returns-then-p-lt256 c = noted_near _ _ c.if-p-lt256.true (c.from.ensures ∙ from_num _)

pub returns-else-p-lt256 : goal.returns-else-p-lt256
returns-else-p-lt256 c = noted_far _ _ c.if-p-lt256.false
