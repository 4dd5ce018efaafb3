-- `checker::run_log` meets its contract.
use Rattle.checker.proofs.Laws.{standing_small, seen, left_written}
use native.Mathlib.Omega.{arith}
use mathlib.Core.Path.{◌≡◌}
use Rattle.std.proofs.Common.{rules}
use Rattle.calculus.specs.Numbers.{number_at, place_at}
use Rattle.calculus.specs.Run.{verdict_number}
use Rattle.checker.proofs.run_log.Goals as goal

pub write-requires : goal.write-requires
write-requires c =
    let r = c.run_steps-e.ensures in
    let p = c.requires in
    let s = standing_small _ _ _ _ _ r.standing in
    (r.standing.held.laid, omega (arith, s.0, p.3), omega (arith, s.1, p.2))

pub overflow_cast-result : goal.overflow_cast-result
overflow_cast-result c =
    let r = c.run_steps-e.ensures in
    let s = standing_small _ _ _ _ _ r.standing in
    omega (arith, s.0, c.requires.2)

pub returns-clause-value : goal.returns-clause-value
returns-clause-value c =
    let v : c.from.result ≡ verdict_number c.run_steps-e.result.verdict = c.from.ensures in
    let n : c.map_or.result ≡ number_at c.run_steps-e.result.refusal = search rules in
    let p : c.map_or-2.result ≡ place_at c.run_steps-e.result.refusal = grind arith in
    seen _ _ _ _ _ _ c.run_steps-e.ensures _ _ _ v n p

pub returns-clause-trail_after : goal.returns-clause-trail_after
returns-clause-trail_after c = left_written _ _ _ _ _ _ c.run_steps-e.ensures c.args.trail.now c.write.ensures
