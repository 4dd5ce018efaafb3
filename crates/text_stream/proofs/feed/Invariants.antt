-- The bytes of a piece, up to newline after newline: those that are left say the same as all of them.
use mathlib.Core.Path.{◌≡◌}
use mathlib.Core.Bool.{true}
use lib.ListN.{length}
use Rattle.text_rows.specs.View.{Bounded}
use Rattle.text_lines.specs.View.{is_textual}
use Rattle.text_stream.specs.Stream.{stream_of, feed_all}
use Rattle.text_stream.proofs.feed.Given as goal

abbrev pub invariant-loop-rest : goal.invariant-loop-rest
invariant-loop-rest l = Bounded l.f.core.counts
    × (feed_all (stream_of l.f l.line l.names l.sorts l.terms l.inputs l.steps) l.rest
    ≡ feed_all (stream_of l.initial.f l.initial.line l.initial.names l.initial.sorts l.initial.terms l.initial.inputs l.initial.steps)
    l.initial.rest)
    × (is_textual l.initial.f.core.fault ≡ true → is_textual l.f.core.fault ≡ true)

abbrev pub decreases-loop-rest : goal.decreases-loop-rest
decreases-loop-rest l = length l.rest
