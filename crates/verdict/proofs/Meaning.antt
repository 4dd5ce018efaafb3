-- From bytes to meaning: what is called refuted is endorsed by no interpretation.
use mathlib.Core.Path.{◌≡◌, refl, ap, sym, ◌∙◌}
use mathlib.Core.Bool.{Bool, true, false}
use native.Mathlib.Omega.{arith}
use lib.Dec.{eqb}
use Rattle.calculus.specs.declared.Outcome.{Outcome}
use Rattle.soundness.proofs.Theorem.{sound}
use Rattle.reader.specs.Text.{text_state, text_fault}
use Rattle.verdict.specs.Verdict.{call_from, verdict_of}
use Rattle.verdict.specs.Meaning.{InputRefuted, TextsSound}

pub texts_sound : TextsSound
unfolding verdict_of
texts_sound bs n r said h refuted = go (eqb (text_fault bs).number 0) refl where
  verdict_is : (verdict_of bs).verdict ≡ 1
  verdict_is = ap (λ (o : Outcome). o.verdict) (sym h.result) ∙ refuted

  go : (b : Bool) → eqb (text_fault bs).number 0 ≡ b → InputRefuted bs
  go true e = (sound (call_from (text_state bs))).refutation (rw e at verdict_is)
  go false e = absurd (omega (arith, rw e at verdict_is))
