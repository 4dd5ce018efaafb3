-- A name's slot: three bytes, and then the name.
use Rattle.text_names.proofs.Laws.{slot_put_lem}
use Rattle.text_names.proofs.put_slot.Goals as goal

pub returns : goal.returns
returns c = search slot_put_lem
