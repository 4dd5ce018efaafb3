-- Laws of trails whose terms are distinct and below a bound: look-up, what is kept, levels, and what a set of rows holds. Assumes nothing.
use Prim.Native.Nat.{ℕ, zero, suc, ◌≤◌, ◌<◌, max}
use native.Mathlib.Omega.{arith}
use mathlib.Core.Path.{◌≡◌, refl, sym, ap, ◌∙◌}
use mathlib.Core.Logic.{⊎_elim}
use mathlib.Core.Bool.{Bool, true, false, not, ◌&&◌, ◌||◌, cond, and-true, or-false, or-true}
use mathlib.Core.List.{List, [], ◌∷◌}
use lib.Dec.{eqb, leb}
use lib.ListN.{length}
use borrow.Author.Tests.{eqb-true, eqb-false, eq-eqb, le-leb, lt-leb}
use Rattle.calculus.specs.Lists.{has}
use Rattle.calculus.specs.Trail.{Set, Trail, Entry, empty, insert, remove, without, union, on, entry, level_at, holds, level_of, top_level, kept_to}
use Rattle.calculus.specs.WellFormed.{Distinct, Below}
use Rattle.calculus.proofs.Facts.{is_or_not, true_or_false, none_true, both_true, one_true, cond_case}
use Rattle.calculus.proofs.Entries.{entry_here, entry_older, kept_off}

-- ---- sets

-- removal of several rows is removal repeated
pub without_none : (s : Set) → without s [] ≡ s
without_none s = λ i u. and-true (s u) i

pub without_more : (s : Set) (x : ℕ) (xs : List ℕ) → without s (x ∷ xs) ≡ without (remove s x) xs
without_more s x xs = λ i u. one (s u) (eqb u x) (has xs u) i
  where
    one : (a b c : Bool) → a && not (b || c) ≡ (a && not b) && not c
    one true true c = refl
    one true false c = refl
    one false b c = refl

pub without_one : (s : Set) (x : ℕ) → without s (x ∷ []) ≡ remove s x
without_one s x = without_more s x [] ∙ without_none (remove s x)

-- a row that the second set does not hold can be removed from both or from the first
pub remove_union : (s r : Set) (x : ℕ) → r x ≡ false → remove (union s r) x ≡ union (remove s x) r
remove_union s r x out = λ i u. each (s u) (r u) (eqb u x) (λ e. ap r (eqb-true u x e) ∙ out) i
  where
    each : (a b c : Bool) → (c ≡ true → b ≡ false) → (a || b) && not c ≡ ((a && not c) || b)
    each true b false h = refl
    each true b true h = sym (h refl)
    each false b false h = and-true b
    each false b true h = rw (h refl)

-- ---- on the trail or not

pub off_parts : (t : ℕ) (e : Entry) (older : Trail) → on (e ∷ older) t ≡ false → (eqb e.term t ≡ false) × (on older t ≡ false)
unfolding on
off_parts t e older h = none_true _ _ h

pub off_cons : (t : ℕ) (e : Entry) (older : Trail) → eqb e.term t ≡ false → on older t ≡ false → on (e ∷ older) t ≡ false
unfolding on
off_cons t e older q h = rw q h

pub on_here : (t : ℕ) (e : Entry) (older : Trail) → e.term ≡ t → on (e ∷ older) t ≡ true
unfolding on
on_here t e older h = rw (eq-eqb e.term t h)

pub on_older : (t : ℕ) (e : Entry) (older : Trail) → eqb e.term t ≡ false → on (e ∷ older) t ≡ on older t
unfolding on
on_older t e older h = rw h

on_more : (t : ℕ) (e : Entry) (older : Trail) → on older t ≡ true → on (e ∷ older) t ≡ true
unfolding on
on_more t e older h = rw h (or-true (eqb e.term t))

-- what is on the trail is one of the rows
pub on_below : (n t : ℕ) (tr : Trail) → Below n tr → on tr t ≡ true → t < n
unfolding Below on
on_below n t [] b h = absurd (true_or_false h refl)
on_below n t (e ∷ older) b h =
    ⊎_elim
    (λ q. let r : e.term ≡ t = eqb-true _ _ q in omega (arith, b.0))
    (λ q. on_below n t older b.1 (rw q at h))
    (is_or_not (eqb e.term t))

-- ---- distinct terms below n are at most n

dropped : ℕ → Trail → Trail
dropped t [] = []
dropped t (e ∷ older) = cond (eqb e.term t) older (e ∷ dropped t older)

dropped_length : (t : ℕ) (tr : Trail) → length tr ≤ suc (length (dropped t tr))
unfolding dropped
dropped_length t [] = omega arith
dropped_length t (e ∷ older) =
    cond_case (λ (l : Trail). suc (length older) ≤ suc (length l)) (eqb e.term t) _ _
    (λ q. omega arith)
    (λ q. omega (arith, dropped_length t older))

dropped_off : (t s : ℕ) (tr : Trail) → on tr s ≡ false → on (dropped t tr) s ≡ false
unfolding dropped
dropped_off t s [] h = h
dropped_off t s (e ∷ older) h =
    cond_case (λ (l : Trail). on l s ≡ false) (eqb e.term t) _ _
    (λ q. (off_parts s e older h).1)
    (λ q. off_cons s e (dropped t older) (off_parts s e older h).0 (dropped_off t s older (off_parts s e older h).1))

dropped_distinct : (t : ℕ) (tr : Trail) → Distinct tr → Distinct (dropped t tr)
unfolding dropped Distinct
dropped_distinct t [] d = tt
dropped_distinct t (e ∷ older) d =
    cond_case Distinct (eqb e.term t) _ _
    (λ q. d.1)
    (λ q. (dropped_off t e.term older d.0, dropped_distinct t older d.1))

-- what is below n + 1 and not n is below n
below_off : (n : ℕ) (tr : Trail) → on tr n ≡ false → Below (suc n) tr → Below n tr
unfolding Below
below_off n [] h b = tt
below_off n (e ∷ older) h b =
    let q : e.term ≡ n → ⊥ = eqb-false _ _ (off_parts n e older h).0 in
    (omega (arith, b.0), below_off n older (off_parts n e older h).1 b.1)

dropped_below : (n : ℕ) (tr : Trail) → Distinct tr → Below (suc n) tr → Below n (dropped n tr)
unfolding dropped Distinct Below
dropped_below n [] d b = tt
dropped_below n (e ∷ older) d b =
    cond_case (Below n) (eqb e.term n) _ _
    (λ q. below_off n older (rw (eqb-true e.term n q) at d.0) b.1)
    (λ q. let l : e.term ≡ n → ⊥ = eqb-false _ _ q in (omega (arith, b.0), dropped_below n older d.1 b.1))

pub room : (n : ℕ) (tr : Trail) → Distinct tr → Below n tr → length tr ≤ n
unfolding Below
room zero [] d b = omega arith
room zero (e ∷ older) d b = absurd (omega (arith, b.0))
room (suc n) tr d b = omega (arith, dropped_length n tr, room n (dropped n tr) (dropped_distinct n tr d) (dropped_below n tr d b))

-- there is room for one that is not there yet
pub room_more : (n t : ℕ) (tr : Trail) → Distinct tr → Below n tr → t < n → on tr t ≡ false → length tr < n
unfolding Below Distinct
room_more n t tr d b l h = room n (record { term = t; value = 0; level = 0; decided = false; why = empty } ∷ tr) (h, d) (l, b)

-- ---- kept to a level

pub kept_more : (e : Entry) (older : Trail) (m : ℕ) → e.level ≤ m → kept_to m (e ∷ older) ≡ e ∷ kept_to m older
unfolding kept_to
kept_more e older m h = rw (le-leb e.level m h)

pub kept_less : (e : Entry) (older : Trail) (m : ℕ) → m < e.level → kept_to m (e ∷ older) ≡ kept_to m older
unfolding kept_to
kept_less e older m h = rw (lt-leb e.level m h)

pub kept_distinct : (m : ℕ) (tr : Trail) → Distinct tr → Distinct (kept_to m tr)
unfolding kept_to Distinct
kept_distinct m [] d = tt
kept_distinct m (e ∷ older) d =
    cond_case Distinct (leb e.level m) _ _
    (λ q. (kept_off m older e.term d.0, kept_distinct m older d.1))
    (λ q. kept_distinct m older d.1)

pub kept_below : (n m : ℕ) (tr : Trail) → Below n tr → Below n (kept_to m tr)
unfolding kept_to Below
kept_below n m [] b = tt
kept_below n m (e ∷ older) b =
    cond_case (Below n) (leb e.level m) _ _
    (λ q. (b.0, kept_below n m older b.1))
    (λ q. kept_below n m older b.1)

-- kept below its level, a term is gone
pub kept_gone : (t m : ℕ) (tr : Trail) → Distinct tr → m < level_at tr t → on (kept_to m tr) t ≡ false
unfolding kept_to Distinct on
kept_gone t m [] d h = refl
kept_gone t m (e ∷ older) d h =
    ⊎_elim
    (λ q.
    let r : e.term ≡ t = eqb-true e.term t q in
    let l : m < e.level = omega (arith, h, ap (λ (x : Entry). x.level) (entry_here e older t q)) in
    rw (lt-leb e.level m l) (kept_off m older t (rw r at d.0)))
    (λ q.
    let rest : on (kept_to m older) t ≡ false = kept_gone t m older d.1 (omega (arith, h, ap (λ (x : Entry). x.level) (entry_older e older t q))) in
    cond_case (λ (l : Trail). on l t ≡ false) (leb e.level m) _ _ (λ b. off_cons t e (kept_to m older) q rest) (λ b. rest))
    (is_or_not (eqb e.term t))

-- ---- levels

pub top_more : (e : Entry) (older : Trail) (top : ℕ) → top ≡ top_level older → max top e.level ≡ top_level (e ∷ older)
unfolding level_of
top_more e older top h = ap (λ (x : ℕ). max x e.level) h

-- a row that is not there adds nothing
pub level_off : (s : Set) (t : ℕ) (tr : Trail) → on tr t ≡ false → level_of tr (insert s t) ≡ level_of tr s
unfolding level_of
level_off s t [] h = refl
level_off s t (e ∷ older) h = rw ((off_parts t e older h).0, or-false (s e.term), level_off s t older (off_parts t e older h).1)

one_more : (b c : Bool) (x' x : ℕ) (e d : Entry) → (b ≡ true → x' ≡ x) → x' ≡ max x d.level
    → max x' (cond (c || b) e.level 0) ≡ max (max x (cond c e.level 0)) (cond b e d).level
one_more true true x' x e d f g = let h : x' ≡ x = f refl in omega arith
one_more true false x' x e d f g = let h : x' ≡ x = f refl in omega arith
one_more false true x' x e d f g = omega arith
one_more false false x' x e d f g = omega arith

-- a row that is there adds its level
pub level_insert : (s : Set) (t : ℕ) (tr : Trail) → Distinct tr → level_of tr (insert s t) ≡ max (level_of tr s) (level_at tr t)
unfolding level_of entry Distinct
level_insert s t [] d = refl
level_insert s t (e ∷ older) d =
    one_more (eqb e.term t) (s e.term) (level_of older (insert s t)) (level_of older s) e (entry older t)
    (λ q. level_off s t older (rw (eqb-true e.term t q) at d.0))
    (level_insert s t older d.1)

pub level_none : (s : Set) (tr : Trail) → ((u : ℕ) → s u ≡ false) → level_of tr s ≡ 0
unfolding level_of
level_none s [] h = refl
level_none s (e ∷ older) h = rw (h e.term) (let r = level_none s older h in omega arith)

max_cases : (b c : Bool) (x y l : ℕ) → max (max x y) (cond (b || c) l 0) ≡ max (max x (cond b l 0)) (max y (cond c l 0))
max_cases true true x y l = omega arith
max_cases true false x y l = omega arith
max_cases false true x y l = omega arith
max_cases false false x y l = omega arith

-- two sets together
pub level_union : (tr : Trail) (s r : Set) → level_of tr (union s r) ≡ max (level_of tr s) (level_of tr r)
unfolding level_of
level_union [] s r = refl
level_union (e ∷ older) s r =
    ap (λ (x : ℕ). max x (cond (s e.term || r e.term) e.level 0)) (level_union older s r)
    ∙ max_cases (s e.term) (r e.term) (level_of older s) (level_of older r) e.level

-- ---- some member

pub holds_yes : (s : Set) (p : Entry → Bool) (t : ℕ) (tr : Trail) → s t ≡ true → on tr t ≡ true → p (entry tr t) ≡ true → holds tr s p ≡ true
unfolding entry on holds
holds_yes s p t [] h o f = o
holds_yes s p t (e ∷ older) h o f =
    ⊎_elim
    (λ q. let r : e.term ≡ t = eqb-true e.term t q in
    let m : s e.term ≡ true = ap s r ∙ h in
    let g : p e ≡ true = rw q at f in rw (m, g))
    (λ q. rw (holds_yes s p t older h (rw q at o) (rw q at f)) (or-true (s e.term && p e)))
    (is_or_not (eqb e.term t))

neither : (a b : Bool) → (a ≡ true → b ≡ false) → a && b ≡ false
neither true b f = f refl
neither false b f = refl

pub holds_no : (s : Set) (p : Entry → Bool) (tr : Trail) → Distinct tr → ((t : ℕ) → s t ≡ true → on tr t ≡ true → p (entry tr t) ≡ false) → holds tr s p ≡ false
unfolding holds Distinct
holds_no s p [] d h = refl
holds_no s p (e ∷ older) d h =
    rw (
      holds_no s p older d.1 (λ t m o. ⊎_elim
          (λ q. let r : e.term ≡ t = eqb-true e.term t q in absurd (true_or_false o (rw r at d.0)))
          (λ q. sym (ap p (entry_older e older t q)) ∙ h t m (on_more t e older o))
          (is_or_not (eqb e.term t))),
      or-false (s e.term && p e),
    )
    (neither (s e.term) (p e)
    (λ m. sym (ap p (entry_here e older e.term (eq-eqb e.term e.term refl))) ∙ h e.term m (on_here e.term e older refl)))

either : (a b p x y : Bool) → (a || b) && p || (x || y) ≡ (a && p || x) || (b && p || y)
either true b true x y = refl
either true true false x y = refl
either true false false x y = refl
either false true true true y = refl
either false true true false y = refl
either false true false x y = refl
either false false p x y = refl

-- two sets together
pub holds_union : (tr : Trail) (s r : Set) (p : Entry → Bool) → holds tr (union s r) p ≡ holds tr s p || holds tr r p
unfolding holds
holds_union [] s r p = refl
holds_union (e ∷ older) s r p =
    ap (◌||◌ ((s e.term || r e.term) && p e)) (holds_union older s r p)
    ∙ either (s e.term) (r e.term) (p e) (holds older s p) (holds older r p)

pub holds_empty : (tr : Trail) (p : Entry → Bool) → holds tr empty p ≡ false
unfolding holds
holds_empty [] p = refl
holds_empty (e ∷ older) p = holds_empty older p

-- a row that is there adds what p says of its entry
pub holds_skip : (s : Set) (p : Entry → Bool) (t : ℕ) (tr : Trail) → Distinct tr → p (entry tr t) ≡ false → holds tr (insert s t) p ≡ holds tr s p
holds_skip s p t tr d h =
    holds_union tr s (λ u. eqb u t) p
    ∙ ap (◌||◌ (holds tr s p)) (holds_no (λ u. eqb u t) p tr d (λ u m o. let e : u ≡ t = eqb-true u t m in ap (λ (v : ℕ). p (entry tr v)) e ∙ h))
    ∙ or-false (holds tr s p)

pub holds_wider : (tr : Trail) (s r : Set) (p : Entry → Bool) → ((u : ℕ) → s u ≡ true → r u ≡ true) → holds tr s p ≡ true → holds tr r p ≡ true
unfolding holds
holds_wider [] s r p f h = h
holds_wider (e ∷ older) s r p f h =
    ⊎_elim
    (λ q. let b = both_true (s e.term) (p e) q in rw (f e.term b.0, b.1))
    (λ q. rw (holds_wider older s r p f q) (or-true (r e.term && p e)))
    (one_true (s e.term && p e) (holds older s p) h)
