-- What one more argument in front makes of the test whether a row is an argument.
use mathlib.Core.Path.{◌≡◌, refl}
use mathlib.Core.Bool.{Bool, true, false, not, ◌&&◌, ◌||◌, cond}
use mathlib.Core.List.{List, [], ◌∷◌}
use Prim.Native.Nat.{ℕ}
use lib.Dec.{eqb}
use Rattle.calculus.specs.Lists.{has}
use Rattle.calculus.specs.Sheets.{blank}
use Rattle.calculus.specs.Terms.{filled}
use Rattle.rule_claims.proofs.Laws.{counted}

pub has_more : (l x : ℕ) (xs : List ℕ) → has (filled (x ∷ xs)) l ≡ (not (eqb x blank) && (eqb l x || has (filled xs) l))
has_more l x xs = go (eqb x blank)
  where
    go : (g : Bool) → has (cond g [] (x ∷ filled xs)) l ≡ (not g && (eqb l x || has (filled xs) l))
    go true = refl
    go false = refl

-- what the check cites
pub ruleset laws = (counted, has_more)
