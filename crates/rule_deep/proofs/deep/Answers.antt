-- `rule_deep::deep` meets its contract.
use mathlib.Core.Path.{refl, ◌∙◌}
use native.Mathlib.Omega.{arith}
use lib.ListN.{replicate}
use Rattle.rule_deep.proofs.Memory.{empties, knows_premises}
use Rattle.rule_deep.proofs.Walks.{deep_own, own_none, deep_lost, deep_found}
use Rattle.rule_deep.proofs.Numbers.{from_num}
use Rattle.rule_deep.proofs.deep.Goals as goal

pub note_all-all-requires : goal.note_all-all-requires
note_all-all-requires c = empties (replicate 256 0) refl refl

pub returns-then-own-ne0 : goal.returns-then-own-ne0
returns-then-own-ne0 c = deep_own _ _ _ _ _ c.note_all-all.ensures c.recall-own.ensures c.if-own-ne0.true c.value_on.ensures

pub walk-c-requires : goal.walk-c-requires
walk-c-requires c =
    let notes = c.note_all-all.ensures in
    (omega arith, own_none c.args.terms.now _ _ 0 _ notes c.recall-own.ensures c.if-own-ne0.false, knows_premises _ _ _ _ notes)

pub returns-then-c-eq0 : goal.returns-then-c-eq0
returns-then-c-eq0 c = deep_lost _ _ _ _ _ c.note_all-all.ensures _ c.walk-c.ensures c.if-c-eq0.true

pub returns : goal.returns
returns c =
    deep_found _ _ _ _ _ c.note_all-all.ensures _ c.walk-c.ensures c.recall-own.ensures c.if-own-ne0.false
    c.if-c-eq0.false c.unpacked-r.ensures (c.from.ensures ∙ from_num _)
