-- The level of premises column by column, and the first that is not on the trail.
use mathlib.Core.Path.{◌≡◌, sym, ap, ◌∙◌}
use mathlib.Core.Bool.{Bool, true, false, not, ◌||◌}
use mathlib.Core.List.{List, [], ◌∷◌}
use Prim.Native.Nat.{ℕ, suc, ◌+◌, ◌≤◌, ◌<◌, max}
use native.Mathlib.Numerals.{add-one}
use native.Mathlib.Omega.{arith}
use lib.Dec.{eqb}
use lib.ListN.{length, get_or, drop}
use Rattle.calculus.specs.Lists.{all, has}
use Rattle.calculus.specs.Sheets.{blank}
use Rattle.calculus.specs.Terms.{filled}
use Rattle.calculus.specs.Trail.{Trail, on, level_at, level_of}
use Rattle.calculus.specs.Place.{first_fault}
use Rattle.calculus.specs.WellFormed.{Distinct}
use Rattle.calculus.proofs.Entries.{level_empty}
use Rattle.calculus.proofs.Forms.{fault_later, fault_here}
use lib.Seq.{drop-cons, drop-length}
use Rattle.calculus.proofs.Walks.{left_blank, left_more, left_none, Passed, passed_at}
use Rattle.calculus.proofs.WellFormed.{level_more}

-- the first k columns of ps, none of them blank, have the level m, and all up to the first blank stand on the trail
pub record Levelled (tr : Trail) (ps : List ℕ) (m k : ℕ) : Type 0 where
  pub stand : Passed (on tr) true ps k
  pub level : level_of tr (has (filled ps)) ≡ max m (level_of tr (has (filled (drop k ps))))

pub levelled_none : (tr : Trail) (ps : List ℕ) → all (on tr) (filled ps) ≡ true → Levelled tr ps 0 0
levelled_none tr ps h = record { stand = record { so_far = omega arith; left = sym h }; level = omega arith }

module _ {tr : Trail} {ps : List ℕ} {m k : ℕ} (u : Levelled tr ps m k) where
  -- where no column is left, m is the level
  ended : filled (drop k ps) ≡ [] → m ≡ level_of tr (has (filled ps))
  ended e = sym (u.level ∙ rw (e, level_empty tr) (omega arith))

  pub levelled_blank : k < length ps → get_or ps k 0 ≡ blank → m ≡ level_of tr (has (filled ps))
  levelled_blank h q = ended (left_blank ps k h q)

  pub levelled_all : length ps ≤ k → m ≡ level_of tr (has (filled ps))
  levelled_all h = ended (left_none ps k (omega (arith, u.stand.so_far)))

  module _ (h : k < length ps) (ne : get_or ps k 0 ≡ blank → ⊥) where
    pub levelled_on : on tr (get_or ps k 0) ≡ true
    levelled_on = (passed_at u.stand h ne).0

    pub levelled_more : {l r : ℕ} → Distinct tr → l ≡ level_at tr (get_or ps k 0) → r ≡ max m l → Levelled tr ps r (k + 1)
    levelled_more d l-is r_is =
        record {
          stand = (passed_at u.stand h ne).1;
          level =
              u.level
              ∙ ap (λ (l : List ℕ). max m (level_of tr (has l))) (left_more ps k h ne)
              ∙ ap (max m) (level_more tr (has (filled (drop (suc k) ps))) (get_or ps k 0) d)
              ∙ rw (r_is, l-is, add-one) (omega arith);
        }

-- the first k of ps, which stand from column c on, are blank or on the trail
pub record Present (tr : Trail) (c : ℕ) (ps : List ℕ) (k : ℕ) : Type 0 where
  pub so_far : k ≤ length ps
  pub left : first_fault (λ y. not (on tr y)) c ps ≡ first_fault (λ y. not (on tr y)) (c + k) (drop k ps)

pub present_none : (tr : Trail) (c : ℕ) (ps : List ℕ) → Present tr c ps 0
present_none tr c ps = record { so_far = omega arith; left = let e : c ≡ c + 0 = omega arith in ap (λ (j : ℕ). first_fault (λ y. not (on tr y)) j ps) e }

module _ {tr : Trail} {c : ℕ} {ps : List ℕ} {k : ℕ} (u : Present tr c ps k) where
  pub present_all : length ps ≤ k → c + k ≡ first_fault (λ y. not (on tr y)) c ps
  present_all h =
      let e : k ≡ length ps = omega (arith, u.so_far) in
      sym (u.left ∙ ap (first_fault (λ y. not (on tr y)) (c + k)) (ap (λ (i : ℕ). drop i ps) e ∙ drop-length ps))

  module _ (h : k < length ps) {s : Bool} (s_is : s ≡ on tr (get_or ps k 0)) where
    opened : first_fault (λ y. not (on tr y)) c ps ≡ first_fault (λ y. not (on tr y)) (c + k) (get_or ps k 0 ∷ drop (suc k) ps)
    opened = u.left ∙ ap (first_fault (λ y. not (on tr y)) (c + k)) (drop-cons ps k 0 h)

    pub present_more : (eqb (get_or ps k 0) blank || s) ≡ true → Present tr c ps (k + 1)
    present_more e =
        let next : c + (k + 1) ≡ suc (c + k) = omega arith in
        record { so_far = omega arith; left = rw (next, add-one) (opened ∙ fault_later (on tr) (c + k) (get_or ps k 0) (drop (suc k) ps) s_is e) }

    pub absent_here : (eqb (get_or ps k 0) blank || s) ≡ false → c + k ≡ first_fault (λ y. not (on tr y)) c ps
    absent_here e = sym (opened ∙ fault_here (on tr) (c + k) (get_or ps k 0) (drop (suc k) ps) s_is e)
