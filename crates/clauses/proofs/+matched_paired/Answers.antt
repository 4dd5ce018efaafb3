-- The cycle of calls {matched, paired}.
use mathlib.Core.Path.{sym, ◌∙◌}
use native.Mathlib.Numerals.{add-one}
use native.Mathlib.Omega.{arith}
use borrow.Author.Tests.{eq-eqb}
use Prim.Native.Nat.{◌+◌}
use Rattle.clauses.proofs.Laws.{below_four, one_fewer, paired_none, none_a, takes_a, none_b, takes_b, none_c, takes_c, none_d, last_d}
use Rattle.clauses.proofs.+matched_paired.Goals as goal

-- ---- matched

pub matched-overflow_add-k : goal.matched-overflow_add-k
matched-overflow_add-k t c = omega (arith, below_four c.args.h c.args.k c.args.p c.requires.0 c.requires.1)

pub matched-returns-then-q : goal.matched-returns-then-q
matched-returns-then-q t c =
    let none = paired_none c.args.h (c.args.k + 1) c.member-q.result c.member-q.ensures
    c.args.terms.now c.args.v (eq-eqb _ _ c.if-q.true) c.args.rest in
    rw (sym c.literal.ensures ∙ c.if-not-literal.false) (rw add-one at none)

pub matched-overflow_add-k-2 : goal.matched-overflow_add-k-2
matched-overflow_add-k-2 t c = omega (arith, below_four c.args.h c.args.k c.args.p c.requires.0 c.requires.1)

pub matched-paired-requires : goal.matched-paired-requires
matched-paired-requires t c =
    let fewer = one_fewer c.args.h c.args.k c.args.p c.requires.0 c.requires.1 in
    (omega (arith, fewer, c.decreases), tt)

-- ---- paired

pub paired-returns-then-p : goal.paired-returns-then-p
paired-returns-then-p t c =
    paired_none c.args.h c.args.k c.member-p.result c.member-p.ensures _ _ (eq-eqb _ _ c.if-p.true) c.args.e

pub paired-returns-then-e-eq-BLANK : goal.paired-returns-then-e-eq-BLANK
paired-returns-then-e-eq-BLANK t c = search none_a

pub paired-returns-then-matched : goal.paired-returns-then-matched
paired-returns-then-matched t c = search takes_a

pub paired-returns-then-e-eq-BLANK-2 : goal.paired-returns-then-e-eq-BLANK-2
paired-returns-then-e-eq-BLANK-2 t c = search none_b

pub paired-returns-then-matched-2 : goal.paired-returns-then-matched-2
paired-returns-then-matched-2 t c = search takes_b

pub paired-returns-then-e-eq-BLANK-3 : goal.paired-returns-then-e-eq-BLANK-3
paired-returns-then-e-eq-BLANK-3 t c = search none_c

pub paired-returns-then-matched-3 : goal.paired-returns-then-matched-3
paired-returns-then-matched-3 t c =
    takes_c _ _ c.args.h c.args.k c.args.e c.member-p.result c.member-p.ensures c.if-p.false
    c.if-e-eq-BLANK.false c.three.result c.three.ensures c.matched.ensures c.if-matched.false
    c.if-e-eq-BLANK-2.false c.three-2.result c.three-2.ensures c.matched-2.ensures c.if-matched-2.false
    c.if-e-eq-BLANK-3.false c.three-3.result c.three-3.ensures c.matched-3.ensures c.if-matched-3.true

pub paired-returns-then-e-eq-BLANK-4 : goal.paired-returns-then-e-eq-BLANK-4
paired-returns-then-e-eq-BLANK-4 t c =
    none_d _ _ c.args.h c.args.k c.args.e c.member-p.result c.member-p.ensures c.if-p.false
    c.if-e-eq-BLANK.false c.three.result c.three.ensures c.matched.ensures c.if-matched.false
    c.if-e-eq-BLANK-2.false c.three-2.result c.three-2.ensures c.matched-2.ensures c.if-matched-2.false
    c.if-e-eq-BLANK-3.false c.three-3.result c.three-3.ensures c.matched-3.ensures c.if-matched-3.false c.if-e-eq-BLANK-4.true

pub paired-returns : goal.paired-returns
paired-returns t c =
    last_d _ _ c.args.h c.args.k c.args.e c.member-p.result c.member-p.ensures c.if-p.false
    c.if-e-eq-BLANK.false c.three.result c.three.ensures c.matched.ensures c.if-matched.false
    c.if-e-eq-BLANK-2.false c.three-2.result c.three-2.ensures c.matched-2.ensures c.if-matched-2.false
    c.if-e-eq-BLANK-3.false c.three-3.result c.three-3.ensures c.matched-3.ensures c.if-matched-3.false
    c.if-e-eq-BLANK-4.false c.three-4.result c.three-4.ensures c.matched-4.ensures
