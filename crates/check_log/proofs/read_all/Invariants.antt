-- what came so far was fed
use Rattle.std.proofs.Common.{◌-◌}
use Rattle.text_rows.specs.View.{Bounded}
use Rattle.text_stream.specs.Stream.{stream_of}
use Rattle.check_log.specs.Input.{Fed}
use Rattle.check_log.proofs.read_all.Given as goal

abbrev pub invariant-loop-bytes : goal.invariant-loop-bytes
invariant-loop-bytes l =
    Bounded l.f.core.counts
    × Fed (stream_of l.initial.f l.initial.line l.initial.names l.initial.sorts l.initial.terms l.initial.inputs l.initial.steps) l.bytes
    (stream_of l.f l.line l.names l.sorts l.terms l.inputs l.steps)

abbrev pub decreases-loop-bytes : goal.decreases-loop-bytes
decreases-loop-bytes l = 9223372036854775808 - l.bytes
