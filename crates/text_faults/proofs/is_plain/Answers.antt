-- Whether all bytes are plain.
use Rattle.std.proofs.Common.{rules, tests, ◌∙◌}
use Rattle.std.proofs.lemmas.Iterator.{YieldsList-from_slice}
use Rattle.std.proofs.lemmas.Iterator.Search.{all_from_yields_List}
use Rattle.text_fields.specs.Class.{class_of}
use Rattle.text_faults.specs.Why.{is_plain}
use Rattle.text_faults.proofs.Causes.{plain_all}
use Rattle.text_faults.proofs.is_plain.Goals as goal

pub returns : goal.returns
returns c =
    all_from_yields_List (λ b. is_plain (class_of b)) _ _ c.all.result c.all.ensures.ran (YieldsList-from_slice c.args.l.now cc)
    (λ x b q k. search (rules, tests))
    ∙ plain_all c.args.l.now
