-- What the answer to a text means: from bytes to interpretations.
use Rattle.std.specs.Prelude.{ℕ, ◌≡◌, List}
use Rattle.calculus.specs.declared.Outcome.{Outcome}
use Rattle.soundness.specs.Interpretation.{Unsatisfiable}
use Rattle.soundness.specs.Claim.{Given}
use Rattle.reader.specs.Text.{text_state}
use Rattle.verdict.specs.Contract.{Checked}

-- no interpretation endorses the input that a text states
abbrev pub InputRefuted : List ℕ → Type 1
InputRefuted bs = Unsatisfiable (text_state bs).sorts (text_state bs).terms (Given (text_state bs).inputs)

-- the claim: where the answer to a text is refuted, no interpretation endorses its input
abbrev pub TextsSound : Type 1
TextsSound = (bs : List ℕ) (n : ℕ) (r : Outcome) (said : List ℕ) → Checked bs n r said → r.verdict ≡ 1 → InputRefuted bs
