-- The bytes of a name are mixed, word after word.
use mathlib.Core.Path.{refl}
use native.Mathlib.Omega.{arith}
use Rattle.text_tags.specs.Tags.{mix_words}
use Rattle.text_tags.proofs.Laws.{words_on, words_end}
use Rattle.text_tags.proofs.mix_words.Goals as goal

pub loop-i-init : goal.loop-i-init
unfolding mix_words
loop-i-init c = (omega arith, omega arith, omega arith, refl)

pub loop-i-preserved : goal.loop-i-preserved
loop-i-preserved c = (omega arith, omega arith, omega arith, search words_on)

pub returns : goal.returns
returns c = search words_end
