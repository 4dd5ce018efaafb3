-- The names of the fields, and the fields.
use Rattle.std.proofs.Common.{◌≡◌, subst, List, ℕ, length}
use Rattle.report.specs.Put.{Laid}
use Rattle.report.specs.Printed.{decimal}
use Rattle.report.proofs.Printed.{spelled, spelled_short}
use Rattle.report.proofs.spell.Goals as goal

pub lay-requires : goal.lay-requires
lay-requires c =
    let o = c.args.o in
    let steps : c.bytes.result.now ≡ decimal o.steps = cc in
    let number : c.bytes-2.result.now ≡ decimal o.number = cc in
    let entries : c.bytes-3.result.now ≡ decimal o.entries = cc in
    let place : c.bytes-4.result.now ≡ decimal o.place = cc in
    spelled_short o c.verdict_word.ensures steps number entries place

pub returns : goal.returns
returns c =
    let o = c.args.o in
    let steps : c.bytes.result.now ≡ decimal o.steps = cc in
    let number : c.bytes-2.result.now ≡ decimal o.number = cc in
    let entries : c.bytes-3.result.now ≡ decimal o.entries = cc in
    let place : c.bytes-4.result.now ≡ decimal o.place = cc in
    subst (λ (t : List ℕ). Laid (length c.args.out.now) t c.lay.result c.lay.new.out)
    (spelled o c.verdict_word.ensures steps number entries place) c.lay.ensures
