-- The bytes of a piece, up to newline after newline: those that are left say the same as all of them.
use mathlib.Core.Path.{ap, ◌∙◌}
use Rattle.text_stream.specs.Stream.{stream_of, feed_all}
use Rattle.text_stream.proofs.Runs.{feed_on}
use Rattle.text_stream.proofs.feed.Goals as goal

pub loop-rest-preserved : goal.loop-rest-preserved
loop-rest-preserved c =
    let g = c.feed_part-f in
    let after = g.new in (
      g.ensures.stays_bounded,
      ap (feed_all (stream_of g.result after.line after.names after.sorts after.terms after.inputs after.steps)) c.behind-rest.ensures
          ∙ feed_on _ _ c.loop-rest.rest.now c.scan-n.result g.ensures.steps_after ∙ c.loop-rest.invariant.1,
      λ t. g.ensures.textual (c.loop-rest.invariant.2 t),
    )
