-- The search as loops: the ways and the rows that were tried do not serve; the columns that were tried have a completion.
use mathlib.Core.Path.{◌≡◌, refl, sym, ap, subst, ◌∙◌}
use mathlib.Core.Bool.{Bool, true, false, not, ◌||◌, cond}
use mathlib.Core.List.{List, []}
use Prim.Native.Nat.{ℕ, zero, suc, ◌+◌, ◌-◌, ◌≤◌, ◌<◌}
use native.Mathlib.Omega.{arith}
use native.Mathlib.Numerals.{add-one}
use lib.ListN.{length, take}
use borrow.Author.Tests.{lt-ltb, le-ltb}
use Rattle.calculus.specs.declared.Premise.{Premise}
use Rattle.calculus.specs.declared.Rule.{Rule}
use Rattle.calculus.specs.Lists.{somewhere, first_where}
use Rattle.calculus.specs.Sheets.{term_rows}
use Rattle.calculus.specs.Place.{at_term, with, first_unfit}
use Rattle.calculus.proofs.Facts.{T_true, true_T}
use Rattle.completions.specs.Needs.{searched, ways, needs}
use Rattle.completions.specs.Search.{over, serves, followed, tried, extensible, findable, found_place}
use Rattle.completions.proofs.First.{somewhere_of}
use Rattle.rule_claims.specs.declared.Claim.{Claim}
use Rattle.rule_claims.specs.Claims.{premises_of, allows}
use Rattle.needs.specs.declared.Columns.{Columns}
use Rattle.needs.specs.Listed.{columns_of, listed}
use Rattle.places.specs.Tested.{Tested, Counted}
use Rattle.places.proofs.Claimed.{first_is}
use Rattle.needs.proofs.First.{where_zero, where_more, where_found}

-- ---- some number below a bound

some_more : (p : ℕ → Bool) (n : ℕ) → somewhere n p ≡ false → p n ≡ false → somewhere (n + 1) p ≡ false
some_more p n h e = rw (add-one, h, e)

some_found : (p : ℕ → Bool) (n k : ℕ) → k < n → p k ≡ true → true ≡ somewhere n p
some_found p n k l e = sym (T_true (somewhere n p) (somewhere_of n p k l (true_T (p k) e)))

module _ (ts : List ℕ) (k : Rule) (l v : ℕ) where
  -- ---- the ways

  module _ (known : Columns) (f : Premise) where
    -- the i-th way completes the known premises
    abbrev way : ℕ → Bool
    way i = serves ts k l v (over (listed known) (needs ts k l v f i))

    -- none below i does
    abbrev pub NoWay : ℕ → Type 0
    NoWay i = somewhere i way ≡ false

    module _ (i : ℕ) (rest laid : Columns) {b : Bool}
        (o : listed rest ≡ needs ts k l v f i) (d : listed laid ≡ over (listed known) (listed rest)) (s : b ≡ serves ts k l v (listed laid)) where
      served : way i ≡ b
      served = ap (λ ps. serves ts k l v (over (listed known) ps)) (sym o) ∙ ap (serves ts k l v) (sym d) ∙ sym s

      pub no_way_more : NoWay i → b ≡ false → NoWay (i + 1)
      no_way_more h e = some_more way i h (served ∙ e)

      pub followed_yes : {w : ℕ} → w ≡ ways k → i < w → b ≡ true → true ≡ followed ts k l v (listed known) f
      unfolding followed
      followed_yes w m e = some_found way (ways k) i (omega arith) (served ∙ e)

    pub followed_no : {i w : ℕ} → w ≡ ways k → i ≤ w → w ≤ i → NoWay i → false ≡ followed ts k l v (listed known) f
    unfolding followed
    followed_no {i} {w} e a b h = let q : i ≡ ways k = omega arith in sym (subst (λ j. somewhere j way ≡ false) q h)

  -- ---- the first premise

  -- row r begins premises that serve
  abbrev begins : ℕ → Bool
  begins r = followed ts k l v [] (with 0 r)

  -- no row below r does
  abbrev pub NoRow : ℕ → Type 0
  NoRow r = somewhere r begins ≡ false

  pub no_row_more : (r : ℕ) {b : Bool} → NoRow r → b ≡ followed ts k l v [] (with 0 r) → b ≡ false → NoRow (r + 1)
  no_row_more r h s e = some_more begins r h (sym s ∙ e)

  module _ (known : Columns) where
    pub extensible_known : {b : Bool} → (known.count ≡ 0 → ⊥) → b ≡ followed ts k l v (listed known) known.p → b ≡ extensible ts k l v (listed known)
    unfolding extensible listed
    extensible_known {b} h e = go known.count h e
      where
        go : (m : ℕ) → (m ≡ 0 → ⊥) → b ≡ followed ts k l v (take m (columns_of known)) known.p → b ≡ extensible ts k l v (take m (columns_of known))
        go zero h e = absurd (h refl)
        go (suc m) h e = e

    module _ (none : known.count ≡ 0) {n w : ℕ} (rows : n ≡ term_rows ts) (all : w ≡ cond (searched k) n 1) where
      nothing : listed known ≡ []
      unfolding listed
      nothing = rw none

      every : w ≡ tried ts k
      every = all ∙ ap (λ n. cond (searched k) n 1) rows

      pub extensible_yes : (r : ℕ) {b : Bool} → r < w → b ≡ followed ts k l v [] (with 0 r) → b ≡ true → true ≡ extensible ts k l v (listed known)
      unfolding extensible
      extensible_yes r h s e = let q = every in rw nothing (some_found begins (tried ts k) r (omega arith) (sym s ∙ e))

      pub extensible_no : {r : ℕ} → r ≤ w → w ≤ r → NoRow r → false ≡ extensible ts k l v (listed known)
      unfolding extensible
      extensible_no {r} a b h =
          let q : r ≡ tried ts k = let e = every in omega arith in
          rw nothing (sym (subst (λ j. somewhere j begins ≡ false) q h))

-- ---- the columns

module _ (ts : List ℕ) (k : Rule) (x : Claim) where
  module _ (c : ℕ) where
    pub findable_term : (d : Columns) {a b : Bool} → c < 4 → listed d ≡ take 0 (premises_of x)
        → a ≡ extensible ts k x.term.0 0 (listed d) → b ≡ extensible ts k x.term.0 1 (listed d)
        → (a || b) ≡ findable ts k x.term.0 x.value (premises_of x) c
    unfolding findable
    findable_term d h e a b = rw (lt-ltb c 4 h, a, b, e)

    module _ (h : 4 ≤ c) {i : ℕ} (count : i ≡ length (premises_of x)) {r : Bool} where
      pub findable_blank : i < c - 4 → r ≡ allows ts k x → r ≡ findable ts k x.term.0 x.value (premises_of x) c
      unfolding findable
      findable_blank m e = rw (le-ltb c 4 h, ← count, lt-ltb i (c - 4) m) e

      pub findable_open : (d : Columns) → c - 4 ≤ i → listed d ≡ take (c - 4) (premises_of x) → r ≡ extensible ts k x.term.0 x.value (listed d)
          → r ≡ findable ts k x.term.0 x.value (premises_of x) c
      unfolding findable
      findable_open d m t e = rw (le-ltb c 4 h, ← count, le-ltb i (c - 4) m, ← t) e

  -- column 3 + j has no completion
  abbrev lost : ℕ → Bool
  lost j = not (findable ts k x.term.0 x.value (premises_of x) (3 + j))

  -- those before it have one
  abbrev pub AllFound : ℕ → Type 0
  AllFound j = first_where j lost ≡ j

  pub all_found_yet : AllFound 0
  all_found_yet = where_zero lost

  module _ {j : ℕ} {b : Bool} (s : b ≡ findable ts k x.term.0 x.value (premises_of x) (3 + j)) (h : AllFound j) where
    pub all_found_more : b ≡ true → AllFound (j + 1)
    all_found_more e = where_more lost j h (ap not (sym s ∙ e))

    pub unfit_found : {n m : ℕ} → Tested ts n x → at_term k ≡ false → Counted x m → j < 7 → b ≡ false
        → 3 + j ≡ first_unfit ts k x.term.0 x.value (premises_of x)
    unfolding found_place
    unfit_found t a c l e = ap (λ n. 3 + n) (sym (where_found lost 7 j l h (ap not (sym s ∙ e)))) ∙ first_is ts k x t a c

  pub unfit_none : {j n m : ℕ} → Tested ts n x → at_term k ≡ false → Counted x m → j ≤ 7 → 7 ≤ j → AllFound j
      → 10 ≡ first_unfit ts k x.term.0 x.value (premises_of x)
  unfolding found_place
  unfit_none {j} t a c l m h =
      let q : j ≡ 7 = omega arith in
      ap (λ n. 3 + n) (sym (subst AllFound q h)) ∙ first_is ts k x t a c
