-- Levels compared: as their numbers are. Assumes nothing.
use Prim.Native.Nat.{ℕ, ◌≤◌, ◌<◌}
use native.Mathlib.Omega.{arith}
use mathlib.Core.Path.{◌≡◌, sym, ◌∙◌}
use mathlib.Core.Bool.{Bool, true, false}
use lib.Dec.{leb}
use borrow.Author.Tests.{leb-true, leb-false}
use Rattle.std.specs.Ordering.{is_le, nat_cmp}
use Rattle.std.proofs.lemmas.Bool.Decides.{nat_tests}

pub level_le : (a b : ℕ) → is_le (nat_cmp a b) ≡ leb a b
level_le a b = grind (arith, nat_tests)

-- what a test r of two levels says
pub level_within : (a b : ℕ) {r : Bool} → r ≡ is_le (nat_cmp a b) → r ≡ true → a ≤ b
level_within a b e h = leb-true a b (sym (level_le a b) ∙ sym e ∙ h)

pub level_above : (a b : ℕ) {r : Bool} → r ≡ is_le (nat_cmp a b) → r ≡ false → b < a
level_above a b e h = leb-false a b (sym (level_le a b) ∙ sym e ∙ h)
