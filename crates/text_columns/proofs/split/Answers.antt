-- A line is split: what is left of it says the same as the whole, and the fields so far are cut.
use mathlib.Core.Path.{sym, ◌∙◌}
use native.Mathlib.Omega.{arith}
use borrow.Author.Tests.{eqb-true}
use lib.ListN.{get_or}
use Rattle.std.proofs.lemmas.List.{map-set, length-map}
use Rattle.text_fields.proofs.Laws.{space_is}
use Rattle.text_columns.proofs.Splits.{split_start, split_none, split_stop, split_last, all_cut, split_more, split_over}
use Rattle.text_columns.proofs.split.Goals as goal

pub loop-k-init : goal.loop-k-init
loop-k-init c = split_start _ _ _ (simp length-map)

pub returns-then-end-from-clause-value : goal.returns-then-end-from-clause-value
returns-then-end-from-clause-value c =
    split_none _ _ _ _ _ _ c.loop-k.invariant c.name_end-end.ensures.value c.loop-k-test.true c.if-end-from.true

pub returns-then-end-line-clause-value : goal.returns-then-end-line-clause-value
returns-then-end-line-clause-value c =
    split_last _ _ _ _ _ _ c.loop-k.invariant c.name_end-end.ensures.value c.loop-k-test.true (omega (arith, c.name_end-end.ensures.value)) c.if-end-line.true

pub returns-then-end-line-clause-fields : goal.returns-then-end-line-clause-fields
returns-then-end-line-clause-fields c = λ t.
    map-set _ _ _ _
    ∙ all_cut _ _ _ _ _ _ c.loop-k.invariant c.name_end-end.ensures.value c.loop-k-test.true (omega (arith, c.name_end-end.ensures.value)) c.if-end-line.true t

pub returns-then-not-is_space-clause-value : goal.returns-then-not-is_space-clause-value
returns-then-not-is_space-clause-value c =
    split_stop _ _ _ _ _ _ c.loop-k.invariant c.name_end-end.ensures.value c.loop-k-test.true
    (omega (arith, c.name_end-end.ensures.upper_bound)) (sym c.is_space.ensures ∙ c.if-not-is_space.true)

pub loop-k-preserved : goal.loop-k-preserved
loop-k-preserved c =
    let t = c.args.line.now in
    let e = c.name_end-end.result in
    let is = c.name_end-end.ensures in
    let space = eqb-true (get_or t e 0) 32 (sym (space_is (get_or t e 0)) ∙ sym c.is_space.ensures ∙ c.if-not-is_space.false) in
    rw map-set
    (split_more _ _ _ _ _ _ c.loop-k.invariant is.value c.loop-k-test.true (omega (arith, is.value)) is.upper_bound (omega (arith, is.upper_bound)) space)

pub returns-clause-value : goal.returns-clause-value
returns-clause-value c = split_over _ _ _ _ _ c.loop-k.invariant c.loop-k-test.false
