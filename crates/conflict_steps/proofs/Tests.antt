-- A row of tests with early returns, test by test as the code has them: for each return a law, whose premises are what the calls ensure and
-- what the tests of their results say, so that `search` finds them.
use Prim.Native.Nat.{ℕ}
use mathlib.Core.Path.{◌≡◌, refl, ap}
use mathlib.Core.Bool.{Bool, true, false, not, ◌&&◌}
use mathlib.Core.List.{List}
use lib.Dec.{eqb, ltb}
use borrow.Author.Tests.{eq-eqb, ne_eqb}
use Rattle.calculus.specs.Numbers.{unless}
use Rattle.calculus.specs.Trail.{Set, Trail, remove, intersection, level_at, decided_at, why_at, level_of, holds, first_order}
use Rattle.calculus.specs.Terms.{prop}
use Rattle.calculus.specs.Steps.{resolve_refusal, clear_refusal, jump_refusal, flip_refusal}
use Rattle.state.proofs.Tests.{told, told_not, told_yes, past, stops}

-- ---- the numbers of resolve, clear and jump

module _ (ts : List ℕ) (tr : Trail) (E : Set) (a : ℕ) where
  module _ {m : Bool} (m_is : m ≡ E a) where
    pub resolve_17 : m ≡ false → 17 ≡ resolve_refusal ts tr E a
    unfolding resolve_refusal
    resolve_17 h = stops _ _ (told_not m_is h)

    pub clear_17 : m ≡ false → 17 ≡ clear_refusal ts tr E a
    unfolding clear_refusal
    clear_17 h = stops _ _ (told_not m_is h)

    pub jump_17 : m ≡ false → 17 ≡ jump_refusal ts tr E a
    unfolding jump_refusal
    jump_17 h = stops _ _ (told_not m_is h)

    module _ (m_in : m ≡ true) where
      in_set : E a ≡ true
      in_set = told_yes m_is m_in

      module _ {d : Bool} (d_is : d ≡ decided_at tr a) where
        pub resolve_18 : d ≡ true → 18 ≡ resolve_refusal ts tr E a
        unfolding resolve_refusal
        resolve_18 h = past _ _ in_set (stops _ _ (ap not (told d_is h)))

        module _ (d_no : d ≡ false) {b : Bool} (b_is : b ≡ holds tr (why_at tr a) (first_order ts (level_of tr E))) where
          pub resolve_19 : b ≡ true → 19 ≡ resolve_refusal ts tr E a
          unfolding resolve_refusal
          resolve_19 h = past _ _ in_set (past _ _ (ap not (told d_is d_no)) (stops _ _ (ap not (told b_is h))))

          pub resolve_0 : b ≡ false → 0 ≡ resolve_refusal ts tr E a
          unfolding resolve_refusal
          resolve_0 h = past _ _ in_set (past _ _ (ap not (told d_is d_no)) (past _ _ (ap not (told b_is h)) refl))

        module _ {p : Bool} (p_is : p ≡ prop ts a) where
          suits_is : (d && not p) ≡ (decided_at tr a && not (prop ts a))
          suits_is = rw (d_is, p_is)

          pub clear_20 : (d && not p) ≡ false → 20 ≡ clear_refusal ts tr E a
          unfolding clear_refusal
          clear_20 h = past _ _ in_set (stops _ _ (told_not suits_is h))

          module _ (suits : (d && not p) ≡ true) {b : Bool} (b_is : b ≡ ltb (level_of tr (remove E a)) (level_at tr a)) where
            pub clear_21 : b ≡ false → 21 ≡ clear_refusal ts tr E a
            unfolding clear_refusal
            clear_21 h = past _ _ in_set (past _ _ (told_yes suits_is suits) (stops _ _ (told_not b_is h)))

            pub clear_0 : b ≡ true → 0 ≡ clear_refusal ts tr E a
            unfolding clear_refusal
            clear_0 h = past _ _ in_set (past _ _ (told_yes suits_is suits) (past _ _ (told_yes b_is h) refl))

      module _ {p : Bool} (p_is : p ≡ prop ts a) where
        pub jump_22 : p ≡ false → 22 ≡ jump_refusal ts tr E a
        unfolding jump_refusal
        jump_22 h = past _ _ in_set (stops _ _ (told_not p_is h))

        module _ (p_in : p ≡ true) {b : Bool} (b_is : b ≡ ltb (level_of tr (remove E a)) (level_at tr a)) where
          pub jump_21 : b ≡ false → 21 ≡ jump_refusal ts tr E a
          unfolding jump_refusal
          jump_21 h = past _ _ in_set (past _ _ (told_yes p_is p_in) (stops _ _ (told_not b_is h)))

          pub jump_0 : b ≡ true → 0 ≡ jump_refusal ts tr E a
          unfolding jump_refusal
          jump_0 h = past _ _ in_set (past _ _ (told_yes p_is p_in) (past _ _ (told_yes b_is h) refl))

-- ---- the numbers of a flip

module _ (ts : List ℕ) (tr : Trail) (E : Set) (l k : ℕ) where
  module _ {a : Bool} (a_is : a ≡ E l) where
    pub flip_17_l : a ≡ false → 17 ≡ flip_refusal ts tr E l k
    unfolding flip_refusal
    flip_17_l h = stops _ _ (rw (told_not a_is h))

    module _ (a_in : a ≡ true) {b : Bool} (b_is : b ≡ E k) where
      pub flip_17_k : b ≡ false → 17 ≡ flip_refusal ts tr E l k
      unfolding flip_refusal
      flip_17_k h = stops _ _ (rw (told_yes a_is a_in, told_not b_is h))

      module _ (b_in : b ≡ true) {p : Bool} (p_is : p ≡ prop ts l) where
        both_in : (E l && E k) ≡ true
        both_in = rw (told_yes a_is a_in, told_yes b_is b_in)

        pub flip_22 : p ≡ false → 22 ≡ flip_refusal ts tr E l k
        unfolding flip_refusal
        flip_22 h = past _ _ both_in (stops _ _ (told_not p_is h))

        module _ (p_in : p ≡ true) {d : Bool} (d_is : d ≡ decided_at tr l) where
          pub flip_18_l : d ≡ true → 18 ≡ flip_refusal ts tr E l k
          unfolding flip_refusal
          flip_18_l h = past _ _ both_in (past _ _ (told_yes p_is p_in) (stops _ _ (rw (told d_is h))))

          module _ (d_no : d ≡ false) {e : Bool} (e_is : e ≡ decided_at tr k) where
            pub flip_18_k : e ≡ true → 18 ≡ flip_refusal ts tr E l k
            unfolding flip_refusal
            flip_18_k h = past _ _ both_in (past _ _ (told_yes p_is p_in) (stops _ _ (rw (told d_is d_no, told e_is h))))

            module _ (e_no : e ≡ false) where
              abbrev last : ℕ
              last = unless (not (eqb l k) && holds tr (intersection (why_at tr l) (why_at tr k)) (first_order ts (level_of tr E))) 23 0

              to_last : {r : ℕ} → r ≡ last → r ≡ flip_refusal ts tr E l k
              unfolding flip_refusal
              to_last q = past _ _ both_in (past _ _ (told_yes p_is p_in) (past _ _ (rw (told d_is d_no, told e_is e_no)) q))

              pub flip_23_same : l ≡ k → 23 ≡ flip_refusal ts tr E l k
              flip_23_same q = to_last (stops _ _ (rw (eq-eqb _ _ q)))

              module _ (other : l ≡ k → ⊥) {s : Bool} (s_is : s ≡ holds tr (intersection (why_at tr l) (why_at tr k)) (first_order ts (level_of tr E))) where
                pub flip_23_apart : s ≡ false → 23 ≡ flip_refusal ts tr E l k
                flip_23_apart h = to_last (stops _ _ (rw (ne_eqb _ _ other, told_not s_is h)))

                pub flip_0 : s ≡ true → 0 ≡ flip_refusal ts tr E l k
                flip_0 h = to_last (past _ _ (rw (ne_eqb _ _ other, told_yes s_is h)) refl)
