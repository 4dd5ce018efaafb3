-- One of at most four arguments taken out, cell by cell; members and arguments in pairs, one pair more.
use mathlib.Core.Path.{◌≡◌, refl, sym, ap, subst, ◌∙◌}
use mathlib.Core.Bool.{Bool, true, false, not, ◌&&◌, cond, or-false}
use mathlib.Core.List.{List, [], ◌∷◌}
use Prim.Native.Nat.{ℕ, zero, suc, ◌+◌, ◌-◌, ◌≤◌, ◌<◌}
use native.Mathlib.Numerals.{add-one}
use native.Mathlib.Omega.{arith}
use native.Mathlib.Decide.{dec_lt}
use lib.Dec.{eqb}
use borrow.Author.Tests.{eq-eqb, ne_eqb}
use lib.ListN.{length, get_or, take, drop}
use lib.Seq.{take-length}
use Rattle.calculus.specs.Sheets.{blank}
use Rattle.calculus.specs.Terms.{filled}
use Rattle.calculus.specs.Lists.{all}
use Rattle.calculus.specs.Clauses.{different, taking_one, literal, paired}
use Rattle.calculus.specs.declared.Premise.{Premise}
use Rattle.calculus.proofs.Facts.{true_or_false}
use Rattle.calculus.proofs.Walks.{not_has}
use Rattle.rule_claims.specs.Claims.{gap, stated, no_premise}
use Rattle.clauses.specs.declared.Members.{Members}
use Rattle.clauses.specs.declared.Left.{Left}
use Rattle.clauses.specs.Pairs.{members_of, others_of, from, left_of}

-- ---- one row more in front of those that are named once

apart : (x : ℕ) (xs : List ℕ) {g : Bool} → (x ≡ blank → ⊥) → g ≡ all (λ y. not (eqb x y)) (filled xs)
    → different (filled (x ∷ xs)) ≡ (g && different (filled xs))
apart x xs h e = rw (ne_eqb x blank h) (ap (λ (b : Bool). b && different (filled xs)) (sym (e ∙ not_has x (filled xs))))

-- as the code takes the first off
pub apart_first : (xs : List ℕ) {g : Bool} → 1 ≤ length xs → (get_or xs 0 0 ≡ blank → ⊥)
    → g ≡ all (λ y. not (eqb (get_or xs 0 0) y)) (filled (take (length xs - 1) (drop 1 xs)))
    → different (filled xs) ≡ (g && different (filled (take (length xs - 1) (drop 1 xs))))
apart_first [] l h e = absurd (omega arith)
apart_first (x ∷ xs) {g} l h e =
    let n : suc (length xs) - 1 ≡ length xs = omega arith in
    let q : take (suc (length xs) - 1) xs ≡ xs = rw n (take-length xs) in
    subst (λ (ys : List ℕ). g ≡ all (λ y. not (eqb x y)) (filled ys) → different (filled (x ∷ xs)) ≡ (g && different (filled ys))) (sym q) (apart x xs h) e

-- ---- one cell more in front, where one of the filled cells is taken out

front : {x : ℕ} (xs : List ℕ) → (x ≡ blank → ⊥) → filled (x ∷ xs) ≡ x ∷ filled xs
front xs h = rw (ne_eqb _ blank h)

module _ (f : ℕ → List ℕ → Bool) (x : ℕ) (xs : List ℕ) where
  blank_first : x ≡ blank → false ≡ taking_one (filled (x ∷ xs)) f
  blank_first e = rw (eq-eqb x blank e)

  taken_first : (x ≡ blank → ⊥) → f x (filled xs) ≡ true → true ≡ taking_one (filled (x ∷ xs)) f
  taken_first h e = rw (ne_eqb x blank h, e)

  past_first : (x ≡ blank → ⊥) → f x (filled xs) ≡ false → taking_one (filled xs) (λ y rest. f y (x ∷ rest)) ≡ taking_one (filled (x ∷ xs)) f
  past_first h e = rw (ne_eqb x blank h, e)

-- ---- members and arguments in pairs

-- past the fourth there is no member
pub from_past : (h : Members) (k : ℕ) → 4 ≤ k → (from k h).p ≡ no_premise
unfolding from
from_past h k l =
    let e : suc (suc (suc (suc (k - 4)))) ≡ k = omega arith in
    subst (λ (n : ℕ). (from n h).p ≡ no_premise) e (ap (λ (m : Members). m.p) (none (k - 4)))
  where
    none : (n : ℕ) → from (suc (suc (suc (suc n)))) h ≡ record { p = no_premise; q = no_premise; r = no_premise; s = no_premise }
    none zero = refl
    none (suc n) = ap others_of (none n)

module _ (h : Members) (k : ℕ) (p : Premise) (p_is : p ≡ (from k h).p) where
  -- no member is paired with no argument
  pub paired_none : (ts : List ℕ) (v : ℕ) → gap p ≡ true → (e : Left) → eqb e.a blank ≡ paired ts v (members_of (from k h)) (left_of e)
  unfolding paired stated
  paired_none ts v none e = rw (ap gap (sym p_is) ∙ none) (go (eqb e.a blank))
    where
      go : (b : Bool) → b ≡ paired ts v [] (cond b [] (e.a ∷ filled (e.b ∷ e.c ∷ e.d ∷ [])))
      go true = refl
      go false = refl

  -- there is a member k: it and those behind it
  first_stated : gap p ≡ false → members_of (from k h) ≡ p ∷ members_of (from (suc k) h)
  unfolding stated from
  first_stated there = rw (p_is, ap gap (sym p_is) ∙ there)

  pub below_four : gap p ≡ false → k < 4
  below_four there = go (dec_lt k 4)
    where
      go : Dec (k < 4) → k < 4
      go (yes l) = l
      go (no l) = absurd (true_or_false (ap gap (p_is ∙ from_past h k (omega arith))) there)

  pub one_fewer : gap p ≡ false → suc (length (members_of (from (k + 1) h))) ≡ length (members_of (from k h))
  one_fewer there = rw add-one (sym (ap length (first_stated there)))

module _ (ts : List ℕ) (v : ℕ) (h : Members) (k : ℕ) (e : Left) (p : Premise) (p_is : p ≡ (from k h).p) (p_in : p.row ≡ blank → ⊥) where
  -- the member appears as y, and those behind it are paired with the rest
  abbrev pair : ℕ → List ℕ → Bool
  pair y rest = literal ts v p y && paired ts v (members_of (from (suc k) h)) rest

  abbrev a : ℕ
  a = e.a

  abbrev b : ℕ
  b = e.b

  abbrev c : ℕ
  c = e.c

  abbrev d : ℕ
  d = e.d

  abbrev found : Bool
  found = paired ts v (members_of (from k h)) (left_of e)

  by_first : taking_one (left_of e) pair ≡ found
  unfolding paired
  by_first = rw (first_stated h k p p_is (ne_eqb _ blank p_in))

  -- one argument after the other, up to the first blank
  pub none_a : a ≡ blank → false ≡ found
  none_a h = blank_first pair a (b ∷ c ∷ d ∷ []) h ∙ by_first

  module _ (a_in : a ≡ blank → ⊥) (ta : Left) (ta_is : left_of ta ≡ filled (b ∷ c ∷ d ∷ [])) {ra : Bool} (ra_is : ra ≡ pair a (left_of ta)) where
    at_a : {v : Bool} → ra ≡ v → pair a (filled (b ∷ c ∷ d ∷ [])) ≡ v
    at_a h = sym (ra_is ∙ ap (pair a) ta_is) ∙ h

    pub takes_a : ra ≡ true → true ≡ found
    takes_a h = taken_first pair a (b ∷ c ∷ d ∷ []) a_in (at_a h) ∙ by_first

    module _ (a_no : ra ≡ false) where
      past_a : taking_one (filled (b ∷ c ∷ d ∷ [])) (λ y rest. pair y (a ∷ rest)) ≡ found
      past_a = past_first pair a (b ∷ c ∷ d ∷ []) a_in (at_a a_no) ∙ by_first

      pub none_b : b ≡ blank → false ≡ found
      none_b h = blank_first _ b (c ∷ d ∷ []) h ∙ past_a

      module _ (b_in : b ≡ blank → ⊥) (tb : Left) (tb_is : left_of tb ≡ filled (a ∷ c ∷ d ∷ [])) {rb : Bool} (rb_is : rb ≡ pair b (left_of tb)) where
        at_b : {v : Bool} → rb ≡ v → pair b (a ∷ filled (c ∷ d ∷ [])) ≡ v
        at_b h = sym (rb_is ∙ ap (pair b) (tb_is ∙ front (c ∷ d ∷ []) a_in)) ∙ h

        pub takes_b : rb ≡ true → true ≡ found
        takes_b h = taken_first (λ y rest. pair y (a ∷ rest)) b (c ∷ d ∷ []) b_in (at_b h) ∙ past_a

        module _ (b_no : rb ≡ false) where
          past_b : taking_one (filled (c ∷ d ∷ [])) (λ y rest. pair y (a ∷ b ∷ rest)) ≡ found
          past_b = past_first (λ y rest. pair y (a ∷ rest)) b (c ∷ d ∷ []) b_in (at_b b_no) ∙ past_a

          pub none_c : c ≡ blank → false ≡ found
          none_c h = blank_first _ c (d ∷ []) h ∙ past_b

          module _ (c_in : c ≡ blank → ⊥) (tc : Left) (tc_is : left_of tc ≡ filled (a ∷ b ∷ d ∷ [])) {rc : Bool} (rc_is : rc ≡ pair c (left_of tc)) where
            -- the cells before the third
            two : (xs : List ℕ) → filled (a ∷ b ∷ xs) ≡ a ∷ b ∷ filled xs
            two xs = front (b ∷ xs) a_in ∙ ap (λ (l : List ℕ). a ∷ l) (front xs b_in)

            at_c : {v : Bool} → rc ≡ v → pair c (a ∷ b ∷ filled (d ∷ [])) ≡ v
            at_c h = sym (rc_is ∙ ap (pair c) (tc_is ∙ two (d ∷ []))) ∙ h

            pub takes_c : rc ≡ true → true ≡ found
            takes_c h = taken_first (λ y rest. pair y (a ∷ b ∷ rest)) c (d ∷ []) c_in (at_c h) ∙ past_b

            module _ (c_no : rc ≡ false) where
              past_c : taking_one (filled (d ∷ [])) (λ y rest. pair y (a ∷ b ∷ c ∷ rest)) ≡ found
              past_c = past_first (λ y rest. pair y (a ∷ b ∷ rest)) c (d ∷ []) c_in (at_c c_no) ∙ past_b

              pub none_d : d ≡ blank → false ≡ found
              none_d h = blank_first _ d [] h ∙ past_c

              pub last_d : (d ≡ blank → ⊥) → (td : Left) → left_of td ≡ filled (a ∷ b ∷ c ∷ []) → {rd : Bool} → rd ≡ pair d (left_of td) → rd ≡ found
              last_d d_in td td-is rd-is =
                  let three : filled (a ∷ b ∷ c ∷ []) ≡ a ∷ b ∷ c ∷ [] = two (c ∷ []) ∙ ap (λ (l : List ℕ). a ∷ b ∷ l) (front [] c_in) in
                  rd-is ∙ ap (pair d) (td-is ∙ three) ∙ sym (or-false (pair d (a ∷ b ∷ c ∷ [])))
                  ∙ ap (λ (l : List ℕ). taking_one l (λ y rest. pair y (a ∷ b ∷ c ∷ rest))) (sym (front [] d_in)) ∙ past_c
