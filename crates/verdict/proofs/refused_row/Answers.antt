-- The first row behind which a cut is refused: from k on it is the same as from the first on.
use mathlib.Core.Path.{◌≡◌, ◌∙◌}
use native.Mathlib.Omega.{arith}
use Rattle.verdict.proofs.Cuts.{sought_first, sought_here, sought_later, sought_all}
use Rattle.verdict.proofs.refused_row.Goals as goal

pub loop-k-init : goal.loop-k-init
loop-k-init c = let a = c.args in sought_first a.sheet a.rows a.sorts.now a.terms.now a.inputs.now

pub returns-then-is_refused : goal.returns-then-is_refused
returns-then-is_refused c =
    let a = c.args in record {
      value = sought_here a.sheet a.rows a.sorts.now a.terms.now a.inputs.now c.loop-k.k c.loop-k.invariant (omega arith)
          c.is_refused.ensures c.if-is_refused.true;
      upper_bound = omega arith;
    }

pub loop-k-preserved : goal.loop-k-preserved
loop-k-preserved c =
    let a = c.args in
    sought_later a.sheet a.rows a.sorts.now a.terms.now a.inputs.now c.loop-k.k c.loop-k.invariant (omega arith)
    c.is_refused.ensures c.if-is_refused.false

pub returns : goal.returns
returns c =
    let a = c.args in
    let e : a.rows ≡ c.loop-k.k = omega arith in
    record {
      value = e ∙ sought_all a.sheet a.rows a.sorts.now a.terms.now a.inputs.now c.loop-k.k c.loop-k.invariant (omega arith);
      upper_bound = omega arith;
    }
