-- The value column is none of a line's, or its field is asked.
use Prim.Native.Nat.{ℕ, ◌-◌}
use mathlib.Core.List.{List, []}
use mathlib.Core.Logic.{inl, inr}
use mathlib.Core.Path.{sym, ap, ◌∙◌}
use native.Mathlib.Omega.{arith}
use Rattle.std.proofs.lemmas.List.{get_or-map, length-map}
use Rattle.text_fields.specs.Split.{contents}
use Rattle.text_fields.specs.Number.{is_number, value}
use Rattle.text_columns.proofs.Lines.{value_none, value_bad, value_good}
use Rattle.text_columns.proofs.check_value.Goals as goal

pub returns-then-column-eq0 : goal.returns-then-column-eq0
returns-then-column-eq0 c =
    value_none (contents c.args.fields.now) c.args.column c.requires
    (elim c.then-column-eq0.either [ inl z ↦ inl z | inr w ↦ inr (rw length-map w.1) ])

pub returns-then-not-holds_value : goal.returns-then-not-holds_value
returns-then-not-holds_value c =
    value_bad (contents c.args.fields.now) c.args.column c.requires c.if-column-eq0.false (rw length-map (omega arith))
    (ap (λ (f : List ℕ). is_number (value f)) (get_or-map _ c.args.fields.now (c.args.column - 1) _ [] (omega arith))
    ∙ sym c.holds_value.ensures ∙ c.if-not-holds_value.true)

pub returns : goal.returns
returns c =
    value_good (contents c.args.fields.now) c.args.column c.requires
    (ap (λ (f : List ℕ). is_number (value f)) (get_or-map _ c.args.fields.now (c.args.column - 1) _ [] (omega arith))
    ∙ sym c.holds_value.ensures ∙ c.if-not-holds_value.false)
