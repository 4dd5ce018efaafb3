-- Look-up on a trail with a decision added, and the entries that an acceptable decision asks.
use mathlib.Core.Path.{◌≡◌, refl}
use mathlib.Core.Bool.{Bool, true, false, not, ◌&&◌, ◌||◌, cond}
use mathlib.Core.List.{List, ◌∷◌}
use Prim.Native.Nat.{ℕ}
use lib.Dec.{T, eqb}
use Rattle.calculus.specs.Terms.{prop, eq_head}
use Rattle.calculus.specs.Trail.{Trail, everything, on, entry, value_at, holds, decision}
use Rattle.calculus.specs.Rules.{is_head}
use Rattle.calculus.specs.Steps.{opposes, acceptable}

module _ (tr : Trail) (t v : ℕ) where
  pub added_on : (a : ℕ) → on (decision tr t v ∷ tr) a ≡ (eqb t a || on tr a)
  unfolding on
  added_on a = refl

  pub added_value : (a : ℕ) → value_at (decision tr t v ∷ tr) a ≡ cond (eqb t a) v (value_at tr a)
  unfolding entry
  added_value a = go (eqb t a)
    where
      go : (b : Bool) → (cond b (decision tr t v) (entry tr a)).value ≡ cond b v (value_at tr a)
      go true = refl
      go false = refl

-- where equations are props, a decision that is none is no equation, and the entries asked are those before it
pub asked_before : (ts : List ℕ) (tr : Trail) (t v : ℕ) → (T (is_head ts t eq_head) → T (prop ts t))
    → acceptable ts tr t v ≡ (prop ts t || not (holds tr everything (opposes ts (decision tr t v ∷ tr) t)))
unfolding acceptable holds
asked_before ts tr t v h = go (prop ts t) (is_head ts t eq_head) _ _ h
  where
    go : (x b y q : Bool) → (T b → T x) → (x || not (b && y || q)) ≡ (x || not q)
    go true b y q h = refl
    go false true y q h = absurd (h tt)
    go false false y q h = refl
