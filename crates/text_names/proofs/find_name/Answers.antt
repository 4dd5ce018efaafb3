-- What the search ends at is what the list of names has.
use mathlib.Core.Path.{ap, ◌∙◌}
use native.Mathlib.Omega.{arith}
use Rattle.std.specs.Result.{result_ok}
use Rattle.text_names.proofs.Found.{found_is, long_nowhere}
use Rattle.text_names.proofs.find_name.Goals as goal

pub returns-then-name-gt64 : goal.returns-then-name-gt64
returns-then-name-gt64 c =
    let a = c.args in
    long_nowhere a.table.now a.base a.count a.name.now (omega arith)

pub returns : goal.returns
returns c = c.ok.ensures.value ∙ ap result_ok c.seek.ensures ∙ found_is _ _ _ _ (omega arith) (omega (arith, c.type_inv.name 0))
