-- `acceptance::opposes` meets its contract. Assumes nothing.
use native.Mathlib.Omega.{arith}
use Rattle.calculus.proofs.Trails.{on_below}
use Rattle.acceptance.proofs.Laws.{whole, no_equation, other_sides, equation}
use Rattle.acceptance.proofs.opposes.Goals as goal

pub bounds-terms-i : goal.bounds-terms-i
bounds-terms-i c = omega (arith, whole _ _ _ _ _ _ _ c.requires.0 c.requires.1)

pub returns-then-terms-i-ne-EQ : goal.returns-then-terms-i-ne-EQ
returns-then-terms-i-ne-EQ c = search no_equation

pub bounds-terms-i-2 : goal.bounds-terms-i-2
bounds-terms-i-2 c = omega (arith, whole _ _ _ _ _ _ _ c.requires.0 c.requires.1)

pub bounds-terms-i-3 : goal.bounds-terms-i-3
bounds-terms-i-3 c = omega (arith, whole _ _ _ _ _ _ _ c.requires.0 c.requires.1)

pub value-e-requires : goal.value-e-requires
value-e-requires c =
    let laid = c.requires.0.laid in
    (laid, on_below _ _ _ laid.below c.requires.1)

pub returns-then-eq : goal.returns-then-eq
returns-then-eq c =
    let side = rw (c.eq.ensures, c.eq-2.ensures) at c.if-eq.true in
    search equation

pub returns : goal.returns
returns c =
    let side = rw (c.eq.ensures, c.eq-2.ensures) at c.if-eq.false in
    search other_sides
