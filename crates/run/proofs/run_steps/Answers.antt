-- `run::run_steps` meets its contract.
use Rattle.run.proofs.Laws.{runs_out, goes_on, stops_none, starts}
use native.Mathlib.Omega.{arith}
use mathlib.Core.Path.{refl}
use Rattle.run.proofs.run_steps.Goals as goal

pub loop-k-init : goal.loop-k-init
loop-k-init c = (refl, starts _ _ _ _ _ _ c.requires.0)

pub step-a-requires : goal.step-a-requires
step-a-requires c = c.loop-k.invariant.1.standing

pub stopped-requires : goal.stopped-requires
stopped-requires c = omega (arith, c.requires.1)

pub returns-in_default : goal.returns-in_default
returns-in_default c =
    let loop = c.loop-k in
    stops_none _ _ _ _ _ _ _ loop.k loop.invariant.1 _ (omega arith) c.step_at-x.ensures
    c.step-a.result c.onward.ensures c.in_default.is c.step-a.ensures c.stopped.ensures

pub loop-k-preserved : goal.loop-k-preserved
loop-k-preserved c =
    let loop = c.loop-k in
    let gone =
    goes_on _ _ _ _ _ _ _ loop.k loop.invariant.1 _ (omega arith) c.step_at-x.ensures
    c.in-Some.next c.step-a.result c.step-a.ensures c.onward.ensures c.in-Some.is in
    (omega arith, gone)

pub returns : goal.returns
returns c =
    let k = c.loop-k-test.false in
    let e = c.loop-k.auto.k-end in
    runs_out _ _ _ _ _ _ _ c.loop-k.k c.loop-k.invariant.1 _ (omega arith) (omega arith)
