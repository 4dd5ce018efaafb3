-- What the walk finds of a premise, of a connective by its arguments, and of one argument more; and what deep makes of it.
use mathlib.Core.Path.{◌≡◌, refl, sym, ap, ap₂, subst, ◌∙◌}
use mathlib.Core.Logic.{◌≢◌, ◌⊎◌, inl, inr}
use mathlib.Core.Bool.{Bool, true, false, not, ◌&&◌, ◌||◌, or-false}
use mathlib.Core.List.{List, [], ◌∷◌, map, Memᴰ}
use Prim.Native.Nat.{ℕ, zero, suc, ◌+◌, ◌≤◌, max}
use native.Mathlib.Numerals.{add-one}
use native.Mathlib.Omega.{arith}
use lib.Bits.{bit_or}
use lib.Dec.{T, eqb, leb, leb-suc-suc}
use borrow.Author.Tests.{eqb-true, eqb-false, eq-eqb, ne_eqb, le-leb, lt-leb, leb-true, leb-false}
use Rattle.calculus.specs.declared.Premise.{Premise}
use Rattle.calculus.specs.declared.Rule.TheVariants.{Deep}
use Rattle.calculus.specs.Lists.{all, any, num, is_true}
use Rattle.calculus.specs.Terms.{head, args, or_head}
use Rattle.calculus.specs.Rules.{layers, evaluates, is_premise, premise_value, is_connective, grounded, walk_value, comes_to, fits}
use Rattle.calculus.proofs.Facts.{T_true, true_T, is_or_not, true_or_false}
use Rattle.calculus.proofs.Forms.{connective_case}
use Rattle.calculus.proofs.Deep.{premise_here, grounded_here, value_here}
use Rattle.rule_claims.specs.Claims.{stated}
use Rattle.rule_deep.specs.declared.Walked.{Walked}
use Rattle.rule_deep.specs.Walks.{marked, every_one, same_row, no_argument, connected, joined, FindsRow, FindsArgs}
use Rattle.rule_deep.proofs.Bits.{marks_all, marks_short, marks_same, marks_never, marks_either, on_premise}
use Rattle.rule_deep.proofs.Numbers.{is_true_num, risen}

-- ---- tests

eqb_turn : (m n : ℕ) → eqb m n ≡ eqb n m
eqb_turn m n = go (is_or_not (eqb n m))
  where
    go : (eqb n m ≡ true) ⊎ (eqb n m ≡ false) → eqb m n ≡ eqb n m
    go (inl e) = eq-eqb m n (sym (eqb-true n m e)) ∙ sym e
    go (inr e) = ne_eqb m n (λ q. eqb-false n m e (sym q)) ∙ sym e

leb_max : (h k n : ℕ) → leb (max h k) n ≡ (leb h n && leb k n)
leb_max h k n = go (is_or_not (leb h n)) (is_or_not (leb k n))
  where
    go : (leb h n ≡ true) ⊎ (leb h n ≡ false) → (leb k n ≡ true) ⊎ (leb k n ≡ false) → leb (max h k) n ≡ (leb h n && leb k n)
    go (inl d) (inl e) = rw (d, e) (le-leb (max h k) n (omega (arith, leb-true h n d, leb-true k n e)))
    go (inl d) (inr e) = rw (d, e) (lt-leb (max h k) n (omega (arith, leb-false k n e)))
    go (inr d) e = rw d (lt-leb (max h k) n (omega (arith, leb-false h n d)))

-- what a connective makes of one value more, and of none
connects_more : (v : ℕ) (vs : List ℕ) (h : ℕ) → is_connective h ≡ true → evaluates h (v ∷ vs) 1 ≡ connected h (is_true v) (evaluates h vs 1)
connects_more v vs h c =
    connective_case (λ h. evaluates h (v ∷ vs) 1 ≡ connected h (is_true v) (evaluates h vs 1))
    (by_not (is_true v)) (by_and (is_true v) (all is_true vs)) (by_or (is_true v) (any is_true vs))
    h (true_T _ c)
  where
    by_not : (a : Bool) → (eqb 1 (num (not a)) || false) ≡ not a
    by_not true = refl
    by_not false = refl

    by_and : (a b : Bool) → (eqb 1 (num (a && b)) || false) ≡ (a && (eqb 1 (num b) || false))
    by_and true b = refl
    by_and false b = refl

    by_or : (a b : Bool) → eqb 1 (num (a || b)) ≡ (a || eqb 1 (num b))
    by_or true b = refl
    by_or false b = refl

connects_none : (h : ℕ) → is_connective h ≡ true → evaluates h [] 1 ≡ not (eqb h or_head)
connects_none h c = connective_case (λ h. evaluates h [] 1 ≡ not (eqb h or_head)) refl refl refl h (true_T _ c)

-- ---- what is found

module _ (ts : List ℕ) (ps : List Premise) where
  -- below a premise the walk does not go on
  comes_premise : (n u t : ℕ) → is_premise ps t ≡ true → comes_to ts ps n u t ≡ eqb t u
  unfolding comes_to
  comes_premise zero u t h = refl
  comes_premise (suc n) u t h = rw h (or-false (eqb t u))

  pub at_premise : (t : ℕ) → marked (same_row t) ps ≢ 0
      → FindsRow ts ps t (record { height = 0; met = marked (same_row t) ps; truth = is_true (premise_value ps t) })
  at_premise t n =
      let h = on_premise ps t n in
      record {
        reach = λ k. T_true _ (grounded_here ts ps k t (true_T _ h)) ∙ sym (le-leb 0 k (omega arith));
        truths = λ k l. ap is_true (value_here ts ps k t (true_T _ h));
        meets = λ k l. marks_same _ _ ps (λ p m. comes_premise k p.row t h ∙ eqb_turn t p.row);
      }

  -- the row above its arguments
  pub above : (t : ℕ) (b : Walked) → is_premise ps t ≡ false → is_connective (head ts t) ≡ true → FindsArgs ts ps (head ts t) (args ts t) b
      → FindsRow ts ps t (risen b)
  unfolding grounded walk_value comes_to
  above t b off c f = record { reach = reach; truths = truths; meets = meets }
    where
      apart : (p : Premise) → Memᴰ p ps → eqb t p.row ≡ false
      apart p m =
          ne_eqb t p.row (λ e.
          true_or_false (T_true _ (subst (λ u. T (is_premise ps u)) (sym e) (premise_here ps p m))) off)

      reach : (n : ℕ) → grounded ts ps n t ≡ leb (b.height + 1) n
      reach zero = off ∙ sym (lt-leb (b.height + 1) 0 (omega arith))
      reach (suc n) = rw (off, c) (f.reach n ∙ sym (ap (λ k. leb k (suc n)) (add-one b.height) ∙ leb-suc-suc b.height n))

      truths : (n : ℕ) → b.height + 1 ≤ n → is_true (walk_value ts ps n t) ≡ b.truth
      truths zero l = absurd (omega arith)
      truths (suc n) l = rw off (is_true_num _ ∙ f.truths n (omega arith))

      meets : (n : ℕ) → b.height + 1 ≤ n → marked (λ u. comes_to ts ps n u t) ps ≡ b.met
      meets zero l = absurd (omega arith)
      meets (suc n) l = marks_same _ _ ps (λ p m. rw (apart p m, off)) ∙ f.meets n (omega arith)

  -- no argument, and one more
  pub no_argument_lem : (h : ℕ) → is_connective h ≡ true → FindsArgs ts ps h [] (no_argument h)
  no_argument_lem h c =
      record { reach = λ n. sym (le-leb 0 n (omega arith)); truths = λ n l. connects_none h c; meets = λ n l. marks_never ps }

  pub one_more : (h : ℕ) → is_connective h ≡ true → (a : ℕ) (r : Walked) → FindsRow ts ps a r → (xs : List ℕ) (b : Walked) → FindsArgs ts ps h xs b
      → FindsArgs ts ps h (a ∷ xs) (joined h r b)
  one_more h c a r f xs b g =
      record {
        reach = λ n. ap₂ ◌&&◌ (f.reach n) (g.reach n) ∙ sym (leb_max r.height b.height n);
        truths = λ n l.
            connects_more (walk_value ts ps n a) (map (walk_value ts ps n) xs) h c
            ∙ ap₂ (connected h) (f.truths n (omega arith)) (g.truths n (omega arith));
        meets = λ n l. sym (marks_either _ _ ps) ∙ ap₂ bit_or (f.meets n (omega arith)) (g.meets n (omega arith));
      }

  -- a connective's value is 0 or 1
  pub value_num : (n t : ℕ) → is_premise ps t ≡ false → num (is_true (walk_value ts ps (suc n) t)) ≡ walk_value ts ps (suc n) t
  unfolding walk_value
  value_num n t e = rw e (ap num (is_true_num (evaluates (head ts t) (map (walk_value ts ps n) (args ts t)) 1)))

  pub fits_found : (l v : ℕ) (r : Walked) → FindsRow ts ps l r → r.height ≤ layers → {w : ℕ} → w ≡ walk_value ts ps layers l
      → (eqb r.met (marked every_one ps) && eqb v w) ≡ fits ts Deep l v ps
  unfolding fits
  fits_found l v r f h e =
      rw (f.reach layers ∙ le-leb r.height layers h, sym (marks_all (λ u. comes_to ts ps layers u l) ps), f.meets layers h, e)

-- the premises of a claim are met as five bits
pub met_short : (ts : List ℕ) (p q r s t : Premise) (h : ℕ) (xs : List ℕ) (b : Walked)
    → FindsArgs ts (stated (p ∷ q ∷ r ∷ s ∷ t ∷ [])) h xs b → b.met ≤ 31
met_short ts p q r s t h xs b f = subst (λ k. k ≤ 31) (f.meets b.height (omega arith)) (marks_short _ p q r s t)
