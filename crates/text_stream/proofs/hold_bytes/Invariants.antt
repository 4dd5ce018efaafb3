-- The bytes of an unfinished line: those that are left are held as all of them are.
use mathlib.Core.Path.{◌≡◌}
use lib.ListN.{drop}
use Rattle.text_lines.specs.Lines.{Control}
use Rattle.text_lines.specs.View.{Sheets}
use Rattle.text_stream.specs.Stream.{holding, feed_all}
use Rattle.text_stream.proofs.hold_bytes.Given as goal

abbrev pub invariant-loop-b : goal.invariant-loop-b
invariant-loop-b l = (c : Control) (s : Sheets)
    → feed_all (holding l.pos l.line c s) (drop l.b-index l.l) ≡ feed_all (holding l.initial.pos l.initial.line c s) l.l
