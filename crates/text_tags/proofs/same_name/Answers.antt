-- Bytes, two words, or words: by the length.
use Rattle.text_tags.proofs.Laws.{word_pair}
use Rattle.text_tags.proofs.same_name.Goals as goal

pub returns-then-n-lt8 : goal.returns-then-n-lt8
returns-then-n-lt8 c = search word_pair
