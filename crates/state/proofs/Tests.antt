-- A row of tests with early returns: each test is passed, or it stops the row with its number.
use Prim.Native.Nat.{ℕ}
use mathlib.Core.Path.{◌≡◌, sym, ◌∙◌}
use mathlib.Core.Bool.{Bool, true, false}
use Rattle.calculus.specs.Numbers.{unless}
use Rattle.calculus.proofs.Facts.{unless_yes, unless_no}

-- a result r that is b, and was tested
pub told : {r b v : Bool} → r ≡ b → r ≡ v → b ≡ v
told e h = sym e ∙ h

pub told_not : {r b : Bool} → r ≡ b → r ≡ false → b ≡ false
told_not e h = told e h

pub told_yes : {r b : Bool} → r ≡ b → r ≡ true → b ≡ true
told_yes e h = told e h

-- past a test that holds, and stopped at one that does not
pub past : {b : Bool} {r : ℕ} (c rest : ℕ) → b ≡ true → r ≡ rest → r ≡ unless b c rest
past c rest p q = q ∙ sym (unless_yes c rest p)

pub stops : {b : Bool} (c rest : ℕ) → b ≡ false → c ≡ unless b c rest
stops c rest p = sym (unless_no c rest p)
