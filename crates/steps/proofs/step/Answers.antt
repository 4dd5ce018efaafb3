-- `steps::step` meets its contract.
use mathlib.Core.Path.{refl, sym, ◌∙◌}
use Rattle.calculus.specs.declared.Kind.TheVariants.{Decide, Resolve, Clear, Jump, Flip, Learn}
use Rattle.calculus.specs.Steps.{shaped}
use Rattle.steps.proofs.Laws.{infers_shaped, infers_ready, row_refused, row_search, row_infers, row_conflict, row_p, row_learns}
use Rattle.steps.proofs.Laws.{decide_by, infer_by, resolve_by, clear_by, jump_by, flip_by, learn_by, unlisted_row}
use Rattle.steps.proofs.step.Goals as goal

-- decide

pub returns-in_err-row_refusal-in-Decide : goal.returns-in_err-row_refusal-in-Decide
unfolding shaped
returns-in_err-row_refusal-in-Decide c =
    let k = sym c.in-Decide.is ∙ c.from-k.ensures in
    row_refused _ _ _ _ _ _ Decide c.requires k c.row_refusal.ensures c.decision_shaped.ensures refl
    c.from_residual.result c.in_err-row_refusal-in-Decide.was c.from_residual.ensures.1

pub decide-requires : goal.decide-requires
unfolding shaped
decide-requires c =
    let k = sym c.in-Decide.is ∙ c.from-k.ensures in
    row_search _ _ _ _ _ _ Decide c.requires k c.row_refusal.ensures c.decision_shaped.ensures refl
    c.in_ok-row_refusal-in-Decide.was refl

pub returns-in_ok-row_refusal-in-Decide : goal.returns-in_ok-row_refusal-in-Decide
unfolding shaped
returns-in_ok-row_refusal-in-Decide c =
    let k = sym c.in-Decide.is ∙ c.from-k.ensures in
    decide_by _ _ _ _ _ _ Decide c.requires k c.row_refusal.ensures c.decision_shaped.ensures refl
    c.in_ok-row_refusal-in-Decide.was
    _ _ refl c.decide.ensures

-- deduce, clash and fail

pub returns-in_err-row_refusal-in-Deduce : goal.returns-in_err-row_refusal-in-Deduce
returns-in_err-row_refusal-in-Deduce c =
    let i = c.in-Deduce.is in
    row_refused _ _ _ _ _ _ _ c.requires c.from-k.ensures c.row_refusal-in-Deduce.ensures (infers_shaped _ i c.inference_shaped.ensures) (infers_ready _ i)
    c.from_residual-in_err-row_refusal-in-Deduce.result c.in_err-row_refusal-in-Deduce.was c.from_residual-in_err-row_refusal-in-Deduce.ensures.1

pub infer-requires : goal.infer-requires
infer-requires c =
    let i = c.in-Deduce.is in (
      row_infers _ _ _ _ _ _ _ c.requires c.from-k.ensures c.row_refusal-in-Deduce.ensures (infers_shaped _ i c.inference_shaped.ensures) (infers_ready _ i)
          c.in_ok-row_refusal-in-Deduce.was i,
      i,
    )

pub returns-in_ok-row_refusal-in-Deduce : goal.returns-in_ok-row_refusal-in-Deduce
returns-in_ok-row_refusal-in-Deduce c =
    let i = c.in-Deduce.is in
    infer_by _ _ _ _ _ _ _ c.requires c.from-k.ensures c.row_refusal-in-Deduce.ensures (infers_shaped _ i c.inference_shaped.ensures) (infers_ready _ i)
    c.in_ok-row_refusal-in-Deduce.was
    _ _ i c.infer.ensures

-- resolve

pub returns-in_err-row_refusal-in-Resolve : goal.returns-in_err-row_refusal-in-Resolve
unfolding shaped
returns-in_err-row_refusal-in-Resolve c =
    let k = sym c.in-Resolve.is ∙ c.from-k.ensures in
    row_refused _ _ _ _ _ _ Resolve c.requires k c.row_refusal-in-Resolve.ensures c.term_shaped.ensures refl
    c.from_residual-in_err-row_refusal-in-Resolve.result c.in_err-row_refusal-in-Resolve.was c.from_residual-in_err-row_refusal-in-Resolve.ensures.1

pub resolve-requires : goal.resolve-requires
unfolding shaped
resolve-requires c =
    let k = sym c.in-Resolve.is ∙ c.from-k.ensures in
    row_conflict _ _ _ _ _ _ Resolve c.requires k c.row_refusal-in-Resolve.ensures c.term_shaped.ensures refl
    c.in_ok-row_refusal-in-Resolve.was refl

pub returns-in_ok-row_refusal-in-Resolve : goal.returns-in_ok-row_refusal-in-Resolve
unfolding shaped
returns-in_ok-row_refusal-in-Resolve c =
    let k = sym c.in-Resolve.is ∙ c.from-k.ensures in
    resolve_by _ _ _ _ _ _ Resolve c.requires k c.row_refusal-in-Resolve.ensures c.term_shaped.ensures refl
    c.in_ok-row_refusal-in-Resolve.was
    _ _ refl c.resolve.ensures

-- clear

pub returns-in_err-row_refusal-in-Clear : goal.returns-in_err-row_refusal-in-Clear
unfolding shaped
returns-in_err-row_refusal-in-Clear c =
    let k = sym c.in-Clear.is ∙ c.from-k.ensures in
    row_refused _ _ _ _ _ _ Clear c.requires k c.row_refusal-in-Clear.ensures c.term_shaped-in-Clear.ensures refl
    c.from_residual-in_err-row_refusal-in-Clear.result c.in_err-row_refusal-in-Clear.was c.from_residual-in_err-row_refusal-in-Clear.ensures.1

pub clear-requires : goal.clear-requires
unfolding shaped
clear-requires c =
    let k = sym c.in-Clear.is ∙ c.from-k.ensures in
    row_conflict _ _ _ _ _ _ Clear c.requires k c.row_refusal-in-Clear.ensures c.term_shaped-in-Clear.ensures refl
    c.in_ok-row_refusal-in-Clear.was refl

pub returns-in_ok-row_refusal-in-Clear : goal.returns-in_ok-row_refusal-in-Clear
unfolding shaped
returns-in_ok-row_refusal-in-Clear c =
    let k = sym c.in-Clear.is ∙ c.from-k.ensures in
    clear_by _ _ _ _ _ _ Clear c.requires k c.row_refusal-in-Clear.ensures c.term_shaped-in-Clear.ensures refl
    c.in_ok-row_refusal-in-Clear.was
    _ _ refl c.clear.ensures

-- jump

pub returns-in_err-row_refusal-in-Jump : goal.returns-in_err-row_refusal-in-Jump
unfolding shaped
returns-in_err-row_refusal-in-Jump c =
    let k = sym c.in-Jump.is ∙ c.from-k.ensures in
    row_refused _ _ _ _ _ _ Jump c.requires k c.row_refusal-in-Jump.ensures c.term_shaped-in-Jump.ensures refl
    c.from_residual-in_err-row_refusal-in-Jump.result c.in_err-row_refusal-in-Jump.was c.from_residual-in_err-row_refusal-in-Jump.ensures.1

pub jump-requires : goal.jump-requires
unfolding shaped
jump-requires c =
    let k = sym c.in-Jump.is ∙ c.from-k.ensures in
    row_conflict _ _ _ _ _ _ Jump c.requires k c.row_refusal-in-Jump.ensures c.term_shaped-in-Jump.ensures refl
    c.in_ok-row_refusal-in-Jump.was refl

pub returns-in_ok-row_refusal-in-Jump : goal.returns-in_ok-row_refusal-in-Jump
unfolding shaped
returns-in_ok-row_refusal-in-Jump c =
    let k = sym c.in-Jump.is ∙ c.from-k.ensures in
    jump_by _ _ _ _ _ _ Jump c.requires k c.row_refusal-in-Jump.ensures c.term_shaped-in-Jump.ensures refl
    c.in_ok-row_refusal-in-Jump.was
    _ _ refl c.jump.ensures

-- flip

pub returns-in_err-row_refusal-in-Flip : goal.returns-in_err-row_refusal-in-Flip
unfolding shaped
returns-in_err-row_refusal-in-Flip c =
    let k = sym c.in-Flip.is ∙ c.from-k.ensures in
    row_refused _ _ _ _ _ _ Flip c.requires k c.row_refusal-in-Flip.ensures c.pair_shaped.ensures refl
    c.from_residual-in_err-row_refusal-in-Flip.result c.in_err-row_refusal-in-Flip.was c.from_residual-in_err-row_refusal-in-Flip.ensures.1

pub flip-requires : goal.flip-requires
unfolding shaped
flip-requires c =
    let k = sym c.in-Flip.is ∙ c.from-k.ensures in (
      row_conflict _ _ _ _ _ _ Flip c.requires k c.row_refusal-in-Flip.ensures c.pair_shaped.ensures refl
          c.in_ok-row_refusal-in-Flip.was refl,
      row_p _ _ _ _ _ _ Flip c.requires k c.row_refusal-in-Flip.ensures c.pair_shaped.ensures refl
          c.in_ok-row_refusal-in-Flip.was refl,
    )

pub returns-in_ok-row_refusal-in-Flip : goal.returns-in_ok-row_refusal-in-Flip
unfolding shaped
returns-in_ok-row_refusal-in-Flip c =
    let k = sym c.in-Flip.is ∙ c.from-k.ensures in
    flip_by _ _ _ _ _ _ Flip c.requires k c.row_refusal-in-Flip.ensures c.pair_shaped.ensures refl
    c.in_ok-row_refusal-in-Flip.was
    _ _ refl c.flip.ensures

-- learn

pub returns-in_err-row_refusal-in-Learn : goal.returns-in_err-row_refusal-in-Learn
unfolding shaped
returns-in_err-row_refusal-in-Learn c =
    let k = sym c.in-Learn.is ∙ c.from-k.ensures in
    row_refused _ _ _ _ _ _ Learn c.requires k c.row_refusal-in-Learn.ensures c.learn_shaped.ensures refl
    c.from_residual-in_err-row_refusal-in-Learn.result c.in_err-row_refusal-in-Learn.was c.from_residual-in_err-row_refusal-in-Learn.ensures.1

pub learn-requires : goal.learn-requires
unfolding shaped
learn-requires c =
    let k = sym c.in-Learn.is ∙ c.from-k.ensures in
    row_learns _ _ _ _ _ _ Learn c.requires k c.row_refusal-in-Learn.ensures c.learn_shaped.ensures refl
    c.in_ok-row_refusal-in-Learn.was refl

pub returns-in_ok-row_refusal-in-Learn : goal.returns-in_ok-row_refusal-in-Learn
unfolding shaped
returns-in_ok-row_refusal-in-Learn c =
    let k = sym c.in-Learn.is ∙ c.from-k.ensures in
    learn_by _ _ _ _ _ _ Learn c.requires k c.row_refusal-in-Learn.ensures c.learn_shaped.ensures refl
    c.in_ok-row_refusal-in-Learn.was
    _ _ refl c.learn.ensures

-- a row that is not listed

pub returns-in-Unlisted : goal.returns-in-Unlisted
returns-in-Unlisted c = unlisted_row _ _ _ _ _ _ c.from-k.ensures c.in-Unlisted.is
