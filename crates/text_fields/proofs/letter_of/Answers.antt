-- The table as it is written is the table of the rule, entry by entry: antt computes both.
use Rattle.text_fields.specs.Class.{class_table}
use Rattle.text_fields.proofs.Table.{table_at}
use Rattle.text_fields.proofs.letter_of.Goals as goal

pub returns : goal.returns
unfolding class_table
returns c = rw c.from.ensures (table_at c.args.b c.ranges.b.fits)
