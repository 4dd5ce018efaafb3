-- A whole text: begun, fed and finished.
use Rattle.reader.proofs.Final.{whole_read}
use Rattle.reader.proofs.read_text.Goals as goal

pub returns : goal.returns
returns c = whole_read c.args.text.now _ _ _ _ c.begin-start.ensures.begun _ _ _ c.feed-f.ensures.steps_after c.finish.ensures
