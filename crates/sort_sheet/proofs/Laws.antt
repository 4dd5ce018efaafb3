-- The number of a sort row, by the test of its columns.
use mathlib.Core.Path.{◌≡◌, refl}
use mathlib.Core.Bool.{Bool, true, false, ◌||◌}
use mathlib.Core.List.{List}
use Prim.Native.Nat.{ℕ, ◌+◌}
use native.Mathlib.Numerals.{add-one}
use Rattle.std.specs.Prelude.{Ok, Err}
use Rattle.calculus.specs.declared.Refusal.TheVariants.{Sort}
use Rattle.calculus.specs.Numbers.{number_in}
use Rattle.calculus.specs.Sorts.{is_array, is_plain, sort_refusal}
use Rattle.sheets.proofs.Laws.{stop, pass}

module _ (ss : List ℕ) (k : ℕ) {a p : Bool} (array : a ≡ is_array ss (k + 1)) (plain : p ≡ is_plain ss (k + 1)) where
  pub sort_refused : (a || p) ≡ false → number_in {A = Unit {0}} (Err Sort) ≡ sort_refusal ss k
  unfolding sort_refusal
  sort_refused e = rw (← add-one k, ← array, ← plain) (stop _ 1 _ e)

  pub sort_passed : (a || p) ≡ true → number_in {A = Unit {0}} (Ok tt) ≡ sort_refusal ss k
  unfolding sort_refusal
  sort_passed e = rw (← add-one k, ← array, ← plain) (pass _ 1 _ _ e refl)
