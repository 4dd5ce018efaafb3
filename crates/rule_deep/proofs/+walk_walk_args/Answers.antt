-- The cycle of calls {walk, found, walk_args}.
use mathlib.Core.Path.{sym, subst, ◌∙◌}
use mathlib.Core.List.{[], ◌∷◌}
use native.Mathlib.Omega.{arith}
use borrow.Author.Rules.{rules}
use Rattle.calculus.specs.Terms.{filled, args_of}
use Rattle.rule_deep.specs.declared.Walked.{Walked}
use Rattle.rule_deep.specs.Walks.{Small, Says}
use Rattle.rule_deep.proofs.Walks.{goes_on, follows, row_known, row_lost, row_stopped, row_found}
use Rattle.rule_deep.proofs.Walks.{none_said, one_good, one_said, two_good, two_said, three_good, three_said, four_good, four_said, folds, smalls, said_small}
use Rattle.rule_deep.proofs.Memory.{recalled_none}
use Rattle.rule_deep.proofs.+walk_walk_args.Goals as goal

-- ---- walk

pub walk-returns-then-left-is_connective : goal.walk-returns-then-left-is_connective
walk-returns-then-left-is_connective t c =
    row_lost _ _ _ _ _ _ c.term_at-e.ensures c.requires.1 c.is_connective.ensures c.if-left-is_connective.true c.requires.2

pub walk-returns-then-below-eq0 : goal.walk-returns-then-below-eq0
walk-returns-then-below-eq0 t c =
    let on = goes_on c.args.left c.is_connective.result c.if-left-is_connective.false in
    row_stopped _ _ _ _ _ _ c.term_at-e.ensures c.requires.1 on.0 c.walk_args-below.ensures c.if-below-eq0.true

pub walk-overflow_add-r : goal.walk-overflow_add-r
walk-overflow_add-r t c =
    let x = c.args.x in
    let e = c.term_at-e.result in
    let r = c.walk_args-below.result in
    let l = said_small c.args.terms.now x.p x.q x.r x.s x.t e.head (args_of e) r (c.walk_args-below.ensures.found c.if-below-eq0.false).0 in
    search rules

pub walk-returns : goal.walk-returns
walk-returns t c =
    let on = goes_on c.args.left c.is_connective.result c.if-left-is_connective.false in
    row_found _ _ _ _ _ _ c.term_at-e.ensures c.requires.1 on.0 c.walk_args-below.ensures c.requires.0
    (sym c.is_connective.ensures ∙ on.1) c.if-below-eq0.false _ c.remember.ensures

-- ---- found: known or walked

pub found-walk-requires : goal.found-walk-requires
found-walk-requires t c =
    let none = recalled_none _ _ _ c.requires.1 _ _ c.recall-known.ensures c.if-known-eq0.true in
    (omega (arith, c.decreases), (c.requires.0, none, c.requires.1))

pub found-returns : goal.found-returns
found-returns t c = row_known _ _ _ _ _ c.requires.1 c.recall-known.ensures c.if-known-eq0.false c.within.ensures

-- ---- walk_args: one argument after the other

pub walk_args-returns-then-e-eq-BLANK : goal.walk_args-returns-then-e-eq-BLANK
walk_args-returns-then-e-eq-BLANK t c =
    none_said _ _ c.args.left c.args.e.head c.requires.1 _ c.args.e c.if-e-eq-BLANK.true
    (c.packed.ensures.0 ∙ c.none.ensures, c.packed.ensures.1) c.requires.2

pub walk_args-found-a-requires : goal.walk_args-found-a-requires
walk_args-found-a-requires t c = (omega (arith, c.decreases), (c.requires.0, c.requires.2))

pub walk_args-said-requires : goal.walk_args-said-requires
walk_args-said-requires t c u =
    let fa = c.found-a.result in
    let ra = c.found-a.ensures in
    let e = c.args.e in
    let x = c.args.x in
    let good = one_good _ _ c.args.left e.head c.requires.1 e c.if-e-eq-BLANK.false ra in
    subst Small (sym (c.chain.ensures ∙ folds c.args.e.head (fa ∷ [])))
    (smalls c.args.terms.now x.p x.q x.r x.s x.t c.args.left e.head (filled (e.a ∷ []))
    (fa ∷ []) c.requires.0 (good u))

pub walk_args-returns-then-a-e : goal.walk_args-returns-then-a-e
walk_args-returns-then-a-e t c =
    let fa = c.found-a.result in
    let ra = c.found-a.ensures in
    let is = c.chain.ensures ∙ folds c.args.e.head (fa ∷ []) in
    let says = subst (λ (w : Walked). Says w fa c.said.result) is c.said.ensures in
    one_said _ _ c.args.left c.args.e.head c.requires.1 c.args.e c.if-e-eq-BLANK.false ra
    c.if-a-e.true says

pub walk_args-found-b-requires : goal.walk_args-found-b-requires
walk_args-found-b-requires t c = (omega (arith, c.decreases), (c.requires.0, c.found-a.ensures.knows))

pub walk_args-said-requires-then-b-e : goal.walk_args-said-requires-then-b-e
walk_args-said-requires-then-b-e t c u =
    let fa = c.found-a.result in
    let ra = c.found-a.ensures in
    let fb = c.found-b.result in
    let rb = c.found-b.ensures in
    let e = c.args.e in
    let x = c.args.x in
    let a_on = follows _ _ c.if-a-e.false in
    let good = two_good _ _ c.args.left e.head c.requires.1 e c.if-e-eq-BLANK.false ra a_on.0 a_on.1 rb in
    subst Small (sym (c.chain-then-b-e.ensures ∙ folds c.args.e.head (fa ∷ fb ∷ [])))
    (smalls c.args.terms.now x.p x.q x.r x.s x.t c.args.left e.head (filled (e.a ∷ e.b ∷ []))
    (fa ∷ fb ∷ []) c.requires.0 (good u))

pub walk_args-returns-then-b-e : goal.walk_args-returns-then-b-e
walk_args-returns-then-b-e t c =
    let fa = c.found-a.result in
    let ra = c.found-a.ensures in
    let fb = c.found-b.result in
    let rb = c.found-b.ensures in
    let a_on = follows _ _ c.if-a-e.false in
    let is = c.chain-then-b-e.ensures ∙ folds c.args.e.head (fa ∷ fb ∷ []) in
    let says = subst (λ (w : Walked). Says w fb c.said-then-b-e.result) is c.said-then-b-e.ensures in
    two_said _ _ c.args.left c.args.e.head c.requires.1 c.args.e c.if-e-eq-BLANK.false ra a_on.0 a_on.1 rb
    c.if-b-e.true says

pub walk_args-found-c-requires : goal.walk_args-found-c-requires
walk_args-found-c-requires t c = (omega (arith, c.decreases), (c.requires.0, c.found-b.ensures.knows))

pub walk_args-said-requires-then-c-e : goal.walk_args-said-requires-then-c-e
walk_args-said-requires-then-c-e t c u =
    let fa = c.found-a.result in
    let ra = c.found-a.ensures in
    let fb = c.found-b.result in
    let rb = c.found-b.ensures in
    let fc = c.found-c.result in
    let rc = c.found-c.ensures in
    let e = c.args.e in
    let x = c.args.x in
    let a_on = follows _ _ c.if-a-e.false in
    let b_on = follows _ _ c.if-b-e.false in
    let good = three_good _ _ c.args.left e.head c.requires.1 e c.if-e-eq-BLANK.false ra a_on.0 a_on.1 rb b_on.0 b_on.1 rc in
    subst Small (sym (c.chain-then-c-e.ensures ∙ folds c.args.e.head (fa ∷ fb ∷ fc ∷ [])))
    (smalls c.args.terms.now x.p x.q x.r x.s x.t c.args.left e.head (filled (e.a ∷ e.b ∷ e.c ∷ []))
    (fa ∷ fb ∷ fc ∷ []) c.requires.0 (good u))

pub walk_args-returns-then-c-e : goal.walk_args-returns-then-c-e
walk_args-returns-then-c-e t c =
    let fa = c.found-a.result in
    let ra = c.found-a.ensures in
    let fb = c.found-b.result in
    let rb = c.found-b.ensures in
    let fc = c.found-c.result in
    let rc = c.found-c.ensures in
    let a_on = follows _ _ c.if-a-e.false in
    let b_on = follows _ _ c.if-b-e.false in
    let is = c.chain-then-c-e.ensures ∙ folds c.args.e.head (fa ∷ fb ∷ fc ∷ []) in
    let says = subst (λ (w : Walked). Says w fc c.said-then-c-e.result) is c.said-then-c-e.ensures in
    three_said _ _ c.args.left c.args.e.head c.requires.1 c.args.e c.if-e-eq-BLANK.false ra a_on.0 a_on.1 rb b_on.0 b_on.1 rc
    c.if-c-e.true says

pub walk_args-found-d-requires : goal.walk_args-found-d-requires
walk_args-found-d-requires t c = (omega (arith, c.decreases), (c.requires.0, c.found-c.ensures.knows))

pub walk_args-said-requires-2 : goal.walk_args-said-requires-2
walk_args-said-requires-2 t c u =
    let fa = c.found-a.result in
    let ra = c.found-a.ensures in
    let fb = c.found-b.result in
    let rb = c.found-b.ensures in
    let fc = c.found-c.result in
    let rc = c.found-c.ensures in
    let fd = c.found-d.result in
    let rd = c.found-d.ensures in
    let e = c.args.e in
    let x = c.args.x in
    let a_on = follows _ _ c.if-a-e.false in
    let b_on = follows _ _ c.if-b-e.false in
    let c_on = follows _ _ c.if-c-e.false in
    let good = four_good _ _ c.args.left e.head c.requires.1 e c.if-e-eq-BLANK.false ra a_on.0 a_on.1 rb b_on.0 b_on.1 rc c_on.0 c_on.1 rd in
    subst Small (sym (c.chain-2.ensures ∙ folds c.args.e.head (fa ∷ fb ∷ fc ∷ fd ∷ [])))
    (smalls c.args.terms.now x.p x.q x.r x.s x.t c.args.left e.head (args_of e)
    (fa ∷ fb ∷ fc ∷ fd ∷ []) c.requires.0 (good u))

pub walk_args-returns : goal.walk_args-returns
walk_args-returns t c =
    let fa = c.found-a.result in
    let ra = c.found-a.ensures in
    let fb = c.found-b.result in
    let rb = c.found-b.ensures in
    let fc = c.found-c.result in
    let rc = c.found-c.ensures in
    let fd = c.found-d.result in
    let rd = c.found-d.ensures in
    let a_on = follows _ _ c.if-a-e.false in
    let b_on = follows _ _ c.if-b-e.false in
    let c_on = follows _ _ c.if-c-e.false in
    let is = c.chain-2.ensures ∙ folds c.args.e.head (fa ∷ fb ∷ fc ∷ fd ∷ []) in
    let says = subst (λ (w : Walked). Says w fd c.said-2.result) is c.said-2.ensures in
    four_said _ _ c.args.left c.args.e.head c.requires.1 c.args.e c.if-e-eq-BLANK.false ra a_on.0 a_on.1 rb b_on.0 b_on.1 rc c_on.0 c_on.1 rd
    says
