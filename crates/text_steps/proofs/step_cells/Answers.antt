-- The nine numbers of a step line: its value column holds a value.
use Rattle.std.proofs.Common.{refl, arith}
use Rattle.text_rows.proofs.Fields.{valued_at}
use Rattle.text_steps.proofs.step_cells.Goals as goal

pub known_value-requires : goal.known_value-requires
known_value-requires c = valued_at 9 c.args.fields.now 3 4 c.requires.good refl (omega arith)
