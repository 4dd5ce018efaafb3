-- Which steps' own numbers have no place: those of decide and of the steps of a conflict.
use mathlib.Core.Path.{◌≡◌, refl}
use mathlib.Core.Bool.{Bool, true, false, ◌||◌, cond, true≢false}
use mathlib.Core.List.{List, [], ◌∷◌}
use Prim.Native.Nat.{ℕ, zero, suc}
use lib.Dec.{eqb}
use Rattle.calculus.specs.declared.Step.{Step}
use Rattle.calculus.specs.Lists.{has}
use Rattle.calculus.specs.Numbers.{unless}
use Rattle.calculus.specs.Trail.{Set, Trail}
use Rattle.calculus.specs.Steps as Steps
use Rattle.calculus.specs.Steps.{Answer, allowed, refuted, refused, answer}
use Rattle.calculus.specs.Place.{place_of}

module _ (ts : List ℕ) (tr : Trail) (x : Step) where
  pub record Nowhere (c : ℕ) : Type 0 where
    pub none : place_of ts tr x c ≡ 0

  -- every number but 11, 12 and 13 is one
  pub no_place : (c : ℕ) → has (11 ∷ 12 ∷ 13 ∷ []) c ≡ false → Nowhere c
  unfolding place_of
  no_place c h = record { none = go _ _ _ (eqb c 11) (eqb c 12) (eqb c 13) h }
    where
      go : (a b d : ℕ) (p q r : Bool) → (p || (q || (r || false))) ≡ false → cond p a (cond q b (cond r d 0)) ≡ 0
      go a b d true q r h = absurd (true≢false h)
      go a b d false true r h = absurd (true≢false h)
      go a b d false false true h = absurd (true≢false h)
      go a b d false false false h = refl

  -- the number of an answer, if it has one
  abbrev pub Unplaced : Answer → Type 0
  Unplaced (allowed s) = Unit {0}
  Unplaced refuted = Unit {0}
  Unplaced (refused c) = Nowhere c

  -- a number that has none, and then the rest
  test : (b : Bool) (c : ℕ) {rest : ℕ} → has (11 ∷ 12 ∷ 13 ∷ []) c ≡ false → Nowhere rest → Nowhere (unless b c rest)
  unfolding unless
  test true c h r = r
  test false c h r = no_place c h

  last : Nowhere 0
  last = no_place 0 refl

  answered : (c : ℕ) (a : Answer) → Nowhere c → Unplaced a → Unplaced (answer c a)
  unfolding answer
  answered zero a h u = u
  answered (suc c) a h u = h

  module _ (t : ℕ) where
    pub decide_nowhere : (v : ℕ) → Unplaced (Steps.decide ts tr t v)
    unfolding Steps.decide Steps.decide_refusal
    decide_nowhere v = answered _ _ (test _ 22 refl (test _ 14 refl (test _ 27 refl last))) tt

    module _ (E : Set) where
      pub resolve_nowhere : Unplaced (Steps.resolve ts tr E t)
      unfolding Steps.resolve Steps.resolve_refusal
      resolve_nowhere = answered _ _ (test _ 17 refl (test _ 18 refl (test _ 19 refl last))) tt

      pub clear_nowhere : Unplaced (Steps.clear ts tr E t)
      unfolding Steps.clear Steps.clear_refusal
      clear_nowhere = answered _ _ (test _ 17 refl (test _ 20 refl (test _ 21 refl last))) tt

      pub jump_nowhere : Unplaced (Steps.jump ts tr E t)
      unfolding Steps.jump Steps.jump_refusal
      jump_nowhere = answered _ _ (test _ 17 refl (test _ 22 refl (test _ 21 refl last))) tt

      pub flip_nowhere : (k : ℕ) → Unplaced (Steps.flip ts tr E t k)
      unfolding Steps.flip Steps.flip_refusal
      flip_nowhere k = answered _ _ (test _ 17 refl (test _ 22 refl (test _ 18 refl (test _ 23 refl last)))) tt

      pub learn_nowhere : (m : ℕ) (hs : List ℕ) → Unplaced (Steps.learn ts tr E t m hs)
      unfolding Steps.learn Steps.learn_refusal
      learn_nowhere m hs = answered _ _ (test _ 17 refl (test _ 22 refl (test _ 25 refl (test _ 14 refl (test _ 21 refl last))))) tt
