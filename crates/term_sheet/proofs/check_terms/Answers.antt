-- `term_sheet::check_terms` meets its contract.
use mathlib.Core.Path.{◌≡◌, sym, ◌∙◌}
use borrow.Author.Rules.{rules}
use Rattle.std.proofs.Common.{arith}
use Rattle.std.proofs.lemmas.Grind.{common_steps}
use Rattle.calculus.specs.Numbers.{number_in}
use Rattle.sheets.proofs.Laws.{first_none, first_more, checked_found}
use Rattle.term_search.proofs.Laws.{note_none}
use Rattle.term_sheet.proofs.Laws.{row_known, row_is, repeat_later}
use Rattle.calculus.specs.Terms.{term_refusal, terms_refusal}
use Rattle.term_sheet.proofs.check_terms.Goals as goal

pub loop-t-init : goal.loop-t-init
loop-t-init c = search (rules, first_none, note_none)

pub check_term-requires : goal.check_term-requires
check_term-requires c = search (rules, row_known)

pub returns-in_err-check_term : goal.returns-in_err-check_term
unfolding terms_refusal
returns-in_err-check_term c =
    let here : number_in c.check_term.result ≡ term_refusal c.args.sorts.now c.args.terms.now c.loop-t.t =
    c.check_term.ensures ∙ sym (row_is _ _ _ _ _ c.first_repeat-twin.ensures c.loop-t.invariant.0 c.loop-t-test.true) in
    grind (arith, common_steps, checked_found)

pub loop-t-preserved : goal.loop-t-preserved
loop-t-preserved c =
    let here : number_in c.check_term.result ≡ term_refusal c.args.sorts.now c.args.terms.now c.loop-t.t =
    c.check_term.ensures ∙ sym (row_is _ _ _ _ _ c.first_repeat-twin.ensures c.loop-t.invariant.0 c.loop-t-test.true) in
    grind (arith, common_steps, first_more, repeat_later)

pub returns : goal.returns
unfolding terms_refusal
returns c = search rules
