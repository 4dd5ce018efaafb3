-- The state in the words, and answers in the calculus and in the code.
use mathlib.Core.Path.{◌≡◌, refl, sym, ap, subst, ◌∙◌}
use mathlib.Core.Logic.{◌⊎◌, inl, inr}
use mathlib.Core.Bool.{Bool, true, false, cond}
use mathlib.Core.List.{List}
use Prim.Native.Nat.{ℕ, zero, suc, ◌≤◌, ◌<◌}
use native.Mathlib.Omega.{arith}
use Rattle.calculus.specs.declared.Refusal.{Refusal}
use Rattle.calculus.specs.Numbers.{number, place}
use Rattle.calculus.specs.Trail.{Set, Trail, on}
use Rattle.calculus.specs.Steps as calculus
use Rattle.calculus.specs.Steps.{answer}
use Rattle.calculus.specs.WellFormed.{Within, Below, WellFormed, WellFormedState}
use Rattle.calculus.proofs.Facts.{is_or_not}
use Rattle.calculus.proofs.Trails.{on_below}
use Rattle.bitset.specs.Windows.{set_at}
use Rattle.trail.specs.Words
use Rattle.trail.specs.Words.{trail_in}
use Rattle.state.specs.declared.Status.{Status}
use Rattle.state.specs.States.{state_in}

-- ---- the state

module _ (w n : ℕ) (ws : List ℕ) (st : Status) where
  abbrev there : Trail
  there = trail_in w n ws st.count

  abbrev set : Set
  set = set_at ws (Words.conflict w n) w

  pub in_search : st.conflict ≡ false → state_in w n ws st ≡ calculus.searching (trail_in w n ws st.count)
  unfolding state_in
  in_search e = rw e

  pub in_conflict_lem : st.conflict ≡ true → state_in w n ws st ≡ calculus.conflict (trail_in w n ws st.count) (set_at ws (Words.conflict w n) w)
  unfolding state_in
  in_conflict_lem e = rw e

  pub trail_there : calculus.trail_of (state_in w n ws st) ≡ trail_in w n ws st.count
  unfolding state_in
  trail_there = go st.conflict
    where
      go : (b : Bool) → calculus.trail_of (cond b (calculus.conflict there set) (calculus.searching there)) ≡ there
      go true = refl
      go false = refl

  pub conflict_there : calculus.in_conflict (state_in w n ws st) ≡ st.conflict
  unfolding state_in
  conflict_there = go st.conflict
    where
      go : (b : Bool) → calculus.in_conflict (cond b (calculus.conflict there set) (calculus.searching there)) ≡ b
      go true = refl
      go false = refl

  pub trail_well_formed : WellFormedState n (state_in w n ws st) → WellFormed n (trail_in w n ws st.count)
  unfolding state_in WellFormedState
  trail_well_formed r = go st.conflict r
    where
      go : (b : Bool) → WellFormedState n (cond b (calculus.conflict there set) (calculus.searching there)) → WellFormed n there
      go true r = r.0
      go false r = r

  pub conflict_within : st.conflict ≡ true → WellFormedState n (state_in w n ws st) → Within (set_at ws (Words.conflict w n) w) (trail_in w n ws st.count)
  unfolding WellFormedState
  conflict_within e r = (subst (WellFormedState n) (in_conflict_lem e) r).1

-- ---- rows past the last stand on no trail

pub below_off : (n : ℕ) (tr : Trail) (t : ℕ) → Below n tr → n ≤ t → on tr t ≡ false
below_off n tr t b l = go (is_or_not (on tr t))
  where
    go : (on tr t ≡ true) ⊎ (on tr t ≡ false) → on tr t ≡ false
    go (inl h) = absurd (omega (arith, on_below n t tr b h))
    go (inr h) = h

-- ---- answers

pub refused_by : {c k : ℕ} (a : calculus.Answer) → k ≡ c → (k ≡ 0 → ⊥) → answer c a ≡ calculus.refused k
unfolding answer
refused_by {c} {k} a e h = go c e
  where
    go : (d : ℕ) → k ≡ d → answer d a ≡ calculus.refused k
    go zero q = absurd (h q)
    go (suc d) q = ap calculus.refused (sym q)

pub passed_by : {c k : ℕ} (a : calculus.Answer) → k ≡ c → k ≡ 0 → answer c a ≡ a
unfolding answer
passed_by {c} {k} a e z = rw (sym e ∙ z)

-- a refusal has a number
pub some_number : (r : Refusal) → 0 < number r
some_number r = grind arith

-- and with it the calculus refuses
pub refused_with : (r : Refusal) (m : ℕ) (a : calculus.Answer) → number r ≡ m → answer m a ≡ calculus.refused (number r)
refused_with r m a e = refused_by a e (λ z. omega (arith, some_number r, z))
