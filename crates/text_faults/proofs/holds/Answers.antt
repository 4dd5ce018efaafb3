-- Whether a byte stands in a line.
use Rattle.std.proofs.Common.{◌∙◌}
use Rattle.text_faults.proofs.Causes.{holds_any}
use Rattle.text_faults.proofs.holds.Goals as goal

pub returns : goal.returns
returns c = c.contains.ensures.value ∙ holds_any c.args.c c.args.l.now
