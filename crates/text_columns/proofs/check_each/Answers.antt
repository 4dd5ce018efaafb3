-- Field after field: the fields from k on say the same as all of them.
use Prim.Native.Nat.{◌+◌}
use mathlib.Core.List.{[]}
use mathlib.Core.Path.{sym, ap, ◌∙◌}
use lib.Dec.{eqb}
use Rattle.std.proofs.lemmas.List.{get_or-map, length-map}
use Rattle.text_fields.specs.Split.{contents}
use Rattle.text_fields.specs.Shape.{well_formed}
use Rattle.text_columns.proofs.Lines.{formed_more, formed_fault}
use Rattle.text_columns.proofs.check_each.Goals as goal

pub returns-then-not-is_well_formed : goal.returns-then-not-is_well_formed
returns-then-not-is_well_formed c =
    let k = c.loop-k.k in
    let v = c.args.column in
    let f = get_or-map _ c.args.fields.now k _ [] c.loop-k-test.true in
    formed_fault (contents c.args.fields.now) k v (rw length-map c.loop-k-test.true)
    (ap (well_formed (eqb (k + 1) v)) f ∙ sym c.is_well_formed.ensures ∙ c.if-not-is_well_formed.true) c.loop-k.invariant

pub loop-k-preserved : goal.loop-k-preserved
loop-k-preserved c =
    let k = c.loop-k.k in
    let v = c.args.column in
    let f = get_or-map _ c.args.fields.now k _ [] c.loop-k-test.true in
    sym (formed_more (contents c.args.fields.now) k v (rw length-map c.loop-k-test.true)
    (ap (well_formed (eqb (k + 1) v)) f ∙ sym c.is_well_formed.ensures ∙ c.if-not-is_well_formed.false)) ∙ c.loop-k.invariant
