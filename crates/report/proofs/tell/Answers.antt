-- Nothing, or the parts of the complaint.
use Rattle.std.proofs.Common.{◌≡◌, subst, List, [], ℕ, not, ◌&&◌, eqb, length}
use Rattle.text_fields.specs.Split.{pick}
use Rattle.report.specs.Put.{Laid}
use Rattle.report.specs.Printed.{decimal}
use Rattle.report.specs.Words.{cause}
use Rattle.report.proofs.Printed.{none_told, all_told, told_short}
use Rattle.report.proofs.tell.Goals as goal

pub returns-then-c-eq0 : goal.returns-then-c-eq0
returns-then-c-eq0 c = rw (← none_told c.args.c c.if-c-eq0.true) c.lay.ensures

pub lay-requires-2 : goal.lay-requires-2
lay-requires-2 c =
    let x = c.args.c in
    let line : c.told-2.result.now ≡ pick (not (eqb x.line 0)) (decimal x.line) [] = cc in
    let field : c.told-4.result.now ≡ pick (not (eqb x.line 0) && not (eqb x.field 0)) (decimal x.field) [] = cc in
    let number : c.bytes-3.result.now ≡ decimal x.number = cc in
    let cause : c.told-7.result.now ≡ pick (not (eqb x.why 0)) (cause x.why) [] = cc in
    told_short x c.if-c-eq0.false c.told.ensures line c.told-3.ensures field c.told-5.ensures number c.meaning.ensures c.told-6.ensures cause

pub returns : goal.returns
returns c =
    let x = c.args.c in
    let line : c.told-2.result.now ≡ pick (not (eqb x.line 0)) (decimal x.line) [] = cc in
    let field : c.told-4.result.now ≡ pick (not (eqb x.line 0) && not (eqb x.field 0)) (decimal x.field) [] = cc in
    let number : c.bytes-3.result.now ≡ decimal x.number = cc in
    let cause : c.told-7.result.now ≡ pick (not (eqb x.why 0)) (cause x.why) [] = cc in
    subst (λ (t : List ℕ). Laid (length c.args.out.now) t c.lay-2.result c.lay-2.new.out)
    (all_told x c.if-c-eq0.false c.told.ensures line c.told-3.ensures field c.told-5.ensures number c.meaning.ensures c.told-6.ensures cause) c.lay-2.ensures
