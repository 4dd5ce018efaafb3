-- Laws of look-up, of levels and of what is kept.
use mathlib.Core.Path.{◌≡◌, refl, sym, ap, subst, ◌∙◌}
use mathlib.Core.Logic.{◌≢◌, ◌⊎◌, inl, inr}
use mathlib.Core.Bool.{Bool, true, false, not, ◌&&◌, ◌||◌, cond}
use mathlib.Core.List.Memᴰ
use mathlib.Core.List.{[], ◌∷◌, Memᴰ}
use Prim.Native.Nat.{ℕ, ◌≤◌, max}
use native.Mathlib.Omega.{arith}
use lib.Dec.{T, eqb, leb, eqb→eq, leb→le, le→leb, eqb_refl, T_not}
use Rattle.calculus.specs.Trail.{Set, Trail, Entry, empty, everything, on, absent, entry, level_at, holds, level_of, top_level, kept_to}
use Rattle.calculus.proofs.Facts.{and_l, and_r, or_cases, or_l, or_r, T_true, true_T, true_or_false, none_true, cond_case}

-- ---- look-up

-- an entry of term t
abbrev pub Entered : Trail → ℕ → Type 0
Entered tr t = (e : Entry) × Memᴰ e tr × (e.term ≡ t)

pub on_entered : (tr : Trail) (t : ℕ) → T (on tr t) → Entered tr t
unfolding on
on_entered [] t h = absurd h
on_entered (x ∷ older) t h = go (λ k. on_entered older t k) (or_cases (eqb x.term t) _ h)
  where
    go : (T (on older t) → Entered older t) → T (eqb x.term t) ⊎ T (on older t) → Entered (x ∷ older) t
    go r (inl q) = (x, Memᴰ.head refl, eqb→eq _ _ q)
    go r (inr q) = let s = r q in (s.0, Memᴰ.tail s.1, s.2)

pub entered_on : (tr : Trail) (t : ℕ) (e : Entry) → Memᴰ e tr → e.term ≡ t → T (on tr t)
unfolding on
entered_on [] t e m q = absurd (Memᴰ.not-nil m)
entered_on (x ∷ older) t e m q = go (λ k. entered_on older t e k q) (Memᴰ.cases_cons m)
  where
    go : (Memᴰ e older → T (on older t)) → (e ≡ x) ⊎ Memᴰ e older → T (eqb x.term t || on older t)
    go r (inl p) = or_l (eqb x.term t) _ (subst (λ n. T (eqb x.term n)) (sym (ap (λ (y : Entry). y.term) p) ∙ q) (eqb_refl x.term))
    go r (inr k) = or_r (eqb x.term t) _ (r k)

pub not_on : (tr : Trail) (t : ℕ) → T (not (on tr t)) → (e : Entry) → Memᴰ e tr → e.term ≢ t
not_on tr t h e m q = T_not (on tr t) h (entered_on tr t e m q)

-- the entry that is looked up is there
pub entry_in : (tr : Trail) (t : ℕ) → T (on tr t) → Memᴰ (entry tr t) tr × ((entry tr t).term ≡ t)
unfolding entry on
entry_in [] t h = absurd h
entry_in (x ∷ older) t h = go (λ k. entry_in older t k) (eqb x.term t) refl h
  where
    go : (T (on older t) → Memᴰ (entry older t) older × ((entry older t).term ≡ t)) → (b : Bool) → eqb x.term t ≡ b → T (b || on older t)
        → Memᴰ (cond b x (entry older t)) (x ∷ older) × ((cond b x (entry older t)).term ≡ t)
    go r true e k = (Memᴰ.head refl, eqb→eq _ _ (true_T _ e))
    go r false e k = let s = r k in (Memᴰ.tail s.0, s.1)

-- an entry of the same term, older or the newest
pub entry_here : (x : Entry) (older : Trail) (t : ℕ) → eqb x.term t ≡ true → entry (x ∷ older) t ≡ x
unfolding entry
entry_here x older t e = rw e

pub entry_older : (x : Entry) (older : Trail) (t : ℕ) → eqb x.term t ≡ false → entry (x ∷ older) t ≡ entry older t
unfolding entry
entry_older x older t e = rw e

pub entry_off : (tr : Trail) (t : ℕ) → on tr t ≡ false → entry tr t ≡ absent
unfolding entry on
entry_off [] t e = refl
entry_off (x ∷ older) t e = let r = none_true (eqb x.term t) (on older t) e in rw r.0 (entry_off older t r.1)

-- ---- levels

pub level_ge : (tr : Trail) (s : Set) (e : Entry) → Memᴰ e tr → T (s e.term) → e.level ≤ level_of tr s
unfolding level_of
level_ge [] s e m h = absurd (Memᴰ.not-nil m)
level_ge (x ∷ older) s e m h = go (λ k. level_ge older s e k h) (Memᴰ.cases_cons m)
  where
    go : (Memᴰ e older → e.level ≤ level_of older s) → (e ≡ x) ⊎ Memᴰ e older → e.level ≤ max (level_of older s) (cond (s x.term) x.level 0)
    go r (inl q) = rw (← q, T_true (s e.term) h) (omega arith)
    go r (inr k) = omega (arith, r k)

-- a bound on each member's level is one on the set's
pub level_le : (tr : Trail) (s : Set) (m : ℕ) → ((e : Entry) → Memᴰ e tr → T (s e.term) → e.level ≤ m) → level_of tr s ≤ m
unfolding level_of
level_le [] s m h = omega arith
level_le (x ∷ older) s m h =
    let r = level_le older s m (λ e k. h e (Memᴰ.tail k)) in
    cond_case (λ l. max (level_of older s) l ≤ m) (s x.term) x.level 0
    (λ q. omega (arith, r, h x (Memᴰ.head refl) (true_T _ q))) (λ q. omega (arith, r))

-- no set's level is above the greatest
pub level_top : (tr : Trail) (s : Set) → level_of tr s ≤ top_level tr
level_top tr s = level_le tr s _ (λ e m h. level_ge tr everything e m tt)

pub level_empty : (tr : Trail) → level_of tr empty ≡ 0
level_empty tr = let h = level_le tr empty 0 (λ e m k. absurd k) in omega arith

-- ---- what is kept

pub kept_in : (m : ℕ) (tr : Trail) (e : Entry) → Memᴰ e tr → e.level ≤ m → Memᴰ e (kept_to m tr)
unfolding kept_to
kept_in m [] e k l = absurd (Memᴰ.not-nil k)
kept_in m (x ∷ older) e k l = go (leb x.level m) refl (λ h. kept_in m older e h l) (Memᴰ.cases_cons k)
  where
    go : (b : Bool) → leb x.level m ≡ b → (Memᴰ e older → Memᴰ e (kept_to m older)) → (e ≡ x) ⊎ Memᴰ e older
        → Memᴰ e (cond b (x ∷ kept_to m older) (kept_to m older))
    go true q r (inl p) = Memᴰ.head p
    go true q r (inr h) = Memᴰ.tail (r h)
    go false q r (inl p) = absurd (subst T q (le→leb _ _ (rw p at l)))
    go false q r (inr h) = r h

pub kept_out : (m : ℕ) (tr : Trail) (e : Entry) → Memᴰ e (kept_to m tr) → Memᴰ e tr × (e.level ≤ m)
unfolding kept_to
kept_out m [] e k = absurd (Memᴰ.not-nil k)
kept_out m (x ∷ older) e k = go (leb x.level m) refl (λ h. kept_out m older e h) k
  where
    go : (b : Bool) → leb x.level m ≡ b → (Memᴰ e (kept_to m older) → Memᴰ e older × (e.level ≤ m))
        → Memᴰ e (cond b (x ∷ kept_to m older) (kept_to m older))
        → Memᴰ e (x ∷ older) × (e.level ≤ m)
    go true q r h = pick (Memᴰ.cases_cons h)
      where
        pick : (e ≡ x) ⊎ Memᴰ e (kept_to m older) → Memᴰ e (x ∷ older) × (e.level ≤ m)
        pick (inl p) = (Memᴰ.head p, rw p (leb→le _ _ (true_T _ q)))
        pick (inr j) = let s = r j in (Memᴰ.tail s.0, s.1)
    go false q r h = let s = r h in (Memᴰ.tail s.0, s.1)

-- a term whose newest entry is of level at most m is looked up in what is kept as before
pub kept_entry : (m : ℕ) (tr : Trail) (t : ℕ) → on tr t ≡ true → level_at tr t ≤ m → (on (kept_to m tr) t ≡ true) × (entry (kept_to m tr) t ≡ entry tr t)
unfolding kept_to on entry
kept_entry m [] t h l = absurd (true_or_false h refl)
kept_entry m (x ∷ older) t h l = go (eqb x.term t) refl (leb x.level m) refl h l (λ p q. kept_entry m older t p q)
  where
    go : (b : Bool) → eqb x.term t ≡ b → (k : Bool) → leb x.level m ≡ k → (b || on older t) ≡ true → (cond b x (entry older t)).level ≤ m
        → (on older t ≡ true → level_at older t ≤ m → (on (kept_to m older) t ≡ true) × (entry (kept_to m older) t ≡ entry older t))
        → (on (cond k (x ∷ kept_to m older) (kept_to m older)) t ≡ true) × (entry (cond k (x ∷ kept_to m older) (kept_to m older)) t ≡ cond b x (entry older t))
    go true e true f h l r = (rw e, rw e)
    go true e false f h l r = absurd (subst T f (le→leb _ _ l))
    go false e true f h l r = let s = r h l in (rw e s.0, rw e s.1)
    go false e false f h l r = r h l

pub kept_off : (m : ℕ) (tr : Trail) (t : ℕ) → on tr t ≡ false → on (kept_to m tr) t ≡ false
unfolding kept_to on
kept_off m [] t h = refl
kept_off m (x ∷ older) t h =
    let r = none_true (eqb x.term t) (on older t) h in
    cond_case (λ tr. on tr t ≡ false) (leb x.level m) (x ∷ kept_to m older) (kept_to m older)
    (λ q. rw r.0 (kept_off m older t r.1)) (λ q. kept_off m older t r.1)

-- a set whose level is at most m has the same level in what is kept
pub level_kept : (m : ℕ) (tr : Trail) (s : Set) → level_of tr s ≤ m → level_of (kept_to m tr) s ≡ level_of tr s
unfolding kept_to level_of
level_kept m [] s l = refl
level_kept m (x ∷ older) s l = go (λ h. level_kept m older s h) (s x.term) refl (leb x.level m) refl l
  where
    go : (level_of older s ≤ m → level_of (kept_to m older) s ≡ level_of older s) → (b : Bool) → s x.term ≡ b → (k : Bool) → leb x.level m ≡ k
        → max (level_of older s) (cond b x.level 0) ≤ m
        → level_of (cond k (x ∷ kept_to m older) (kept_to m older)) s ≡ max (level_of older s) (cond b x.level 0)
    go r b e true f h = rw (r (omega arith), e)
    go r true e false f h = absurd (subst T f (le→leb x.level m (omega arith)))
    go r false e false f h = r (omega arith) ∙ omega arith

-- the level of a member is at most the set's
pub level_at_lem : (tr : Trail) (s : Set) (t : ℕ) → on tr t ≡ true → s t ≡ true → level_at tr t ≤ level_of tr s
level_at_lem tr s t h q =
    let r = entry_in tr t (true_T _ h) in
    level_ge tr s (entry tr t) r.0 (true_T _ (ap s r.1 ∙ q))

-- some member of s with p, taken out
pub holds_at : (tr : Trail) (s : Set) (p : Entry → Bool) → T (holds tr s p) → (e : Entry) × Memᴰ e tr × T (s e.term) × T (p e)
unfolding holds
holds_at [] s p h = absurd h
holds_at (x ∷ older) s p h = go (λ k. holds_at older s p k) (or_cases (s x.term && p x) _ h)
  where
    go : (T (holds older s p) → (e : Entry) × Memᴰ e older × T (s e.term) × T (p e)) → T (s x.term && p x) ⊎ T (holds older s p)
        → (e : Entry) × Memᴰ e (x ∷ older) × T (s e.term) × T (p e)
    go r (inl q) = (x, Memᴰ.head refl, and_l (s x.term) _ q, and_r (s x.term) _ q)
    go r (inr q) = let y = r q in (y.0, Memᴰ.tail y.1, y.2, y.3)
