-- Every trail that a list of steps can reach: terms stand once, justifications stand earlier, and levels are those of Definition 5.
use mathlib.Core.Path.{◌≡◌, refl, sym, ap, subst, ◌∙◌}
use mathlib.Core.Logic.{◌⊎◌, inl, inr, ⊎_elim}
use mathlib.Core.Bool.{Bool, true, false, not, ◌||◌, cond}
use mathlib.Core.List.{List, [], ◌∷◌, Memᴰ}
use Prim.Native.Nat.{ℕ, zero, suc, ◌+◌, ◌-◌, ◌≤◌, ◌<◌, max}
use native.Mathlib.Omega.{arith}
use lib.ListN.{length}
use lib.Dec.{T, eqb, leb, ltb, eqb→eq, leb→le, ltb→lt}
use Rattle.calculus.specs.declared.Step.{Step}
use Rattle.calculus.specs.declared.Kind.{Kind}
use Rattle.calculus.specs.declared.Kind.TheVariants.{Decide, Deduce, Clash, Resolve, Clear, Jump, Flip, Fail, Learn, Unlisted}
use Rattle.calculus.specs.Lists.{has}
use Rattle.calculus.specs.Sheets.{Call, term_rows, input_rows, step_rows, length_refusal}
use Rattle.calculus.specs.Sorts.{sorts_refusal}
use Rattle.calculus.specs.Terms.{prop, terms_refusal}
use Rattle.calculus.specs.Trail.{Set, Trail, Entry, remove, without, intersection, on, entry, level_at, why_at, holds, first_order, level_of, top_level, kept_to, decision, justified}
use Rattle.calculus.specs.Inputs.{given, input_term, input_value, input_trail, input_refusal, inputs_refusal}
use Rattle.calculus.specs.Steps.{State, searching, conflict, trail_of, conflict_of, Answer, allowed, refuted, refused, answer, step_at, premises, known, kind_of, decide_refusal, decide, inference_refusal, deduce_refusal, deduce, contradiction_refusal, clash_refusal, clash, fail, resolve, clear, jump_refusal, jump, flip_refusal, flip, learn_refusal, learn, row_refusal, step_by, step}
use Rattle.calculus.specs.Place.{place_of}
use Rattle.calculus.specs.Run.{follow, run, sheets_refusal, call_refusal, start, ending_of, ending}
use Rattle.calculus.specs.WellFormed.{Within, Distinct, Below, Grounded, relevelled, WellFormed, WellFormedState}
use Rattle.calculus.proofs.Facts.{and_l, and_r, T_true, T_false, true_T, is_or_not, true_or_false, both_true, one_true, cond_case, all_at, has_at, unless_ok, or_else_ok, first_ok, answer_case}
use Rattle.calculus.proofs.Trails.{room}
use Rattle.calculus.proofs.Entries.{entered_on, entry_in, entry_older, entry_off, level_top, level_empty, kept_entry, kept_off, level_kept, level_at_lem, holds_at}

-- ---- one entry and the trail before it

-- the level that Definition 5 gives an entry
abbrev pub ruled : Entry → Trail → ℕ
ruled e older = cond e.decided (1 + top_level older) (level_of older e.why)

pub record Placed (n : ℕ) (e : Entry) (older : Trail) : Type 0 where
  pub new : on older e.term ≡ false
  pub row : e.term < n
  pub why : Within e.why older
  pub low : (t : ℕ) → e.why t ≡ true → level_at older t ≤ e.level
  pub level : e.level ≡ ruled e older

pub push_well_formed : {n : ℕ} (e : Entry) {older : Trail} → Placed n e older → WellFormed n older → WellFormed n (e ∷ older)
unfolding Distinct Below Grounded relevelled
push_well_formed e {older} p r = record {
  distinct = (p.new, r.distinct);
  below = (p.row, r.below);
  grounded = (p.why, p.low, r.grounded);
  levels = rw r.levels (λ i. record { term = e.term; value = e.value; level = sym p.level i; decided = e.decided; why = e.why } ∷ older);
}

pub none_well_formed : {n : ℕ} → WellFormed n []
unfolding Distinct Below Grounded relevelled
none_well_formed = record { distinct = tt; below = tt; grounded = tt; levels = refl }

tail_of : Trail → Trail
unfolding relevelled
tail_of [] = []
tail_of (e ∷ older) = older

level_of_head : Trail → ℕ
level_of_head [] = 0
level_of_head (e ∷ older) = e.level

-- the newest entry is placed on a well-formed trail
pub newest : {n : ℕ} (e : Entry) (older : Trail) → WellFormed n (e ∷ older) → Placed n e older × WellFormed n older
unfolding Distinct Below Grounded relevelled tail_of level_of_head
newest e older r =
    let q : relevelled older ≡ older = ap tail_of r.levels in (
      record {
        new = r.distinct.0;
        row = r.below.0;
        why = r.grounded.0;
        low = r.grounded.1;
        level = sym (ap level_of_head r.levels) ∙ rw q;
      },
      record { distinct = r.distinct.1; below = r.below.1; grounded = r.grounded.2; levels = q },
    )

-- ---- look-up on a well-formed trail

-- a term that stands among the older entries is not the newest one's
apart : (x : Entry) (older : Trail) (t : ℕ) → on older x.term ≡ false → on older t ≡ true → eqb x.term t ≡ false
apart x older t new h = go (is_or_not (eqb x.term t))
  where
    go : (eqb x.term t ≡ true) ⊎ (eqb x.term t ≡ false) → eqb x.term t ≡ false
    go (inl e) = absurd (true_or_false h (ap (on older) (sym (eqb→eq _ _ (true_T _ e))) ∙ new))
    go (inr e) = e

-- a term among the older entries is looked up there
past_newest : {n : ℕ} (x : Entry) (older : Trail) (t : ℕ) → Placed n x older → on older t ≡ true
    → (on (x ∷ older) t ≡ true) × (entry (x ∷ older) t ≡ entry older t)
unfolding on
past_newest x older t p h = let e = apart x older t p.new h in (rw e h, entry_older x older t e)

same_level : {e x : Entry} (l : ℕ) → e ≡ x → x.level ≤ l → e.level ≤ l
same_level l q h = subst (λ (y : Entry). y.level ≤ l) (sym q) h

-- the members of a justification stand on the trail, at levels not above the entry's
pub why_well_formed : {n : ℕ} (tr : Trail) (a t : ℕ) → WellFormed n tr → why_at tr a t ≡ true → (on tr t ≡ true) × (level_at tr t ≤ level_at tr a)
unfolding entry
why_well_formed [] a t r h = absurd (true_or_false h refl)
why_well_formed {n} (x ∷ older) a t r h = let q = newest x older r in go q.0 (λ k. why_well_formed older a t q.1 k) (eqb x.term a) refl h
  where
    go : Placed n x older → (why_at older a t ≡ true → (on older t ≡ true) × (level_at older t ≤ level_at older a)) → (b : Bool) → eqb x.term a ≡ b
        → (cond b x (entry older a)).why t ≡ true → (on (x ∷ older) t ≡ true) × (level_at (x ∷ older) t ≤ (cond b x (entry older a)).level)
    go p k true e w = let y = past_newest x older t p (p.why t w) in (y.0, same_level _ y.1 (p.low t w))
    go p k false e w = let z = k w in let y = past_newest x older t p z.0 in (y.0, same_level _ y.1 z.1)

-- no entry is a member of its own justification
pub why_not_own : {n : ℕ} (tr : Trail) (a : ℕ) → WellFormed n tr → why_at tr a a ≡ false
unfolding entry
why_not_own [] a r = refl
why_not_own {n} (x ∷ older) a r = let q = newest x older r in go q.0 (why_not_own older a q.1) (eqb x.term a) refl
  where
    own : Placed n x older → eqb x.term a ≡ true → (x.why a ≡ true) ⊎ (x.why a ≡ false) → x.why a ≡ false
    own p e (inl h) = absurd (true_or_false e (apart x older a p.new (p.why a h)))
    own p e (inr h) = h

    go : Placed n x older → why_at older a a ≡ false → (b : Bool) → eqb x.term a ≡ b → (cond b x (entry older a)).why a ≡ false
    go p k true e = own p e (is_or_not (x.why a))
    go p k false e = k

-- a decision is above level 0
pub decided_high : {n : ℕ} (tr : Trail) (e : Entry) → WellFormed n tr → Memᴰ e tr → T e.decided → 0 < e.level
decided_high [] e r m d = absurd (elim m [ ])
decided_high (x ∷ older) e r (Memᴰ.head q) d =
    let p = (newest x older r).0.level in
    let h : e.level ≡ 1 + top_level older = ap (λ (y : Entry). y.level) q ∙ p ∙ rw (T_true x.decided (rw q at d)) in
    omega arith
decided_high (x ∷ older) e r (Memᴰ.tail m) d = decided_high older e (newest x older r).1 m d

-- two entries of one term are one
pub one_entry : {n : ℕ} (tr : Trail) (e x : Entry) → WellFormed n tr → Memᴰ e tr → Memᴰ x tr → e.term ≡ x.term → e ≡ x
one_entry [] e x r a b q = absurd (elim a [ ])
one_entry (y ∷ older) e x r (Memᴰ.head a) (Memᴰ.head b) q = a ∙ sym b
one_entry (y ∷ older) e x r (Memᴰ.head a) (Memᴰ.tail b) q =
    absurd (true_or_false (T_true _ (entered_on older y.term x b (sym q ∙ ap (λ (z : Entry). z.term) a))) (newest y older r).0.new)
one_entry (y ∷ older) e x r (Memᴰ.tail a) (Memᴰ.head b) q =
    absurd (true_or_false (T_true _ (entered_on older y.term e a (q ∙ ap (λ (z : Entry). z.term) b))) (newest y older r).0.new)
one_entry (y ∷ older) e x r (Memᴰ.tail a) (Memᴰ.tail b) q = one_entry older e x (newest y older r).1 a b q

-- ---- what is kept is well-formed

-- a term above level m is not kept
pub off_kept : {n : ℕ} (m : ℕ) (tr : Trail) (t : ℕ) → WellFormed n tr → m < level_at tr t → on (kept_to m tr) t ≡ false
unfolding kept_to on entry
off_kept m [] t r h = refl
off_kept m (x ∷ older) t r h = let q = newest x older r in go q.0.new (λ k. off_kept m older t q.1 k) (leb x.level m) refl (eqb x.term t) refl h
  where
    go : on older x.term ≡ false → (m < level_at older t → on (kept_to m older) t ≡ false) → (k : Bool) → leb x.level m ≡ k → (b : Bool)
        → eqb x.term t ≡ b
        → m < (cond b x (entry older t)).level → on (cond k (x ∷ kept_to m older) (kept_to m older)) t ≡ false
    go new r true f true e h = let l : x.level ≤ m = leb→le _ _ (true_T _ f) in absurd (omega arith)
    go new r false f true e h = kept_off m older t (ap (on older) (sym (eqb→eq _ _ (true_T _ e))) ∙ new)
    go new r true f false e h = rw e (r h)
    go new r false f false e h = r h

-- a set of level at most m whose members stand on the trail stands on what is kept
pub within_kept : (m : ℕ) (tr : Trail) (s : Set) → Within s tr → level_of tr s ≤ m → Within s (kept_to m tr)
within_kept m tr s h l t q = (kept_entry m tr t (h t q) (let k = level_at_lem tr s t (h t q) q in omega arith)).0

pub kept_well_formed : {n : ℕ} (m : ℕ) (tr : Trail) → WellFormed n tr → WellFormed n (kept_to m tr)
unfolding kept_to
kept_well_formed m [] r = r
kept_well_formed m (x ∷ older) r =
    let q = newest x older r in
    cond_case (WellFormed _) (leb x.level m) (x ∷ kept_to m older) (kept_to m older)
    (λ h. push_well_formed x (placed q.0 (leb→le _ _ (true_T _ h))) (kept_well_formed m older q.1)) (λ h. kept_well_formed m older q.1)
  where
    ruled_kept : (b : Bool) → x.level ≤ m → x.level ≡ cond b (1 + top_level older) (level_of older x.why)
        → x.level ≡ cond b (1 + top_level (kept_to m older)) (level_of (kept_to m older) x.why)
    ruled_kept true l e = let k : top_level (kept_to m older) ≡ top_level older = level_kept m older (λ u. true) (omega arith) in omega arith
    ruled_kept false l e = let k : level_of (kept_to m older) x.why ≡ level_of older x.why = level_kept m older x.why (omega arith) in omega arith

    placed : {n : ℕ} → Placed n x older → x.level ≤ m → Placed n x (kept_to m older)
    placed p l =
        let k : (t : ℕ) → x.why t ≡ true → (on (kept_to m older) t ≡ true) × (entry (kept_to m older) t ≡ entry older t)
        = λ t w. kept_entry m older t (p.why t w) (let h = p.low t w in omega arith) in
        record {
          new = kept_off m older x.term p.new;
          row = p.row;
          why = λ t w. (k t w).0;
          low = λ t w. same_level _ (k t w).1 (p.low t w);
          level = ruled_kept x.decided l p.level;
        }

-- ---- one entry more is well-formed

pub decision_well_formed : {n : ℕ} (tr : Trail) (t v : ℕ) → WellFormed n tr → t < n → on tr t ≡ false → WellFormed n (decision tr t v ∷ tr)
decision_well_formed tr t v r l h =
    push_well_formed (decision tr t v)
    (record {
      new = h;
      row = l;
      why = λ u w. absurd (true_or_false w refl);
      low = λ u w. absurd (true_or_false w refl);
      level = refl;
    })
    r

pub justified_well_formed : {n : ℕ} (tr : Trail) (t v : ℕ) (s : Set) → WellFormed n tr → t < n → on tr t ≡ false → Within s tr
    → WellFormed n (justified tr t v s ∷ tr)
justified_well_formed tr t v s r l h w =
    push_well_formed (justified tr t v s)
    (record { new = h; row = l; why = w; low = λ u q. level_at_lem tr s u (w u q) q; level = refl }) r

-- ---- the trail and the conflict of a well-formed state

pub trail_well_formed : (n : ℕ) (s : State) → WellFormedState n s → WellFormed n (trail_of s)
unfolding WellFormedState
trail_well_formed n (searching tr) r = r
trail_well_formed n (conflict tr E) r = r.0

pub conflict_within : (n : ℕ) (s : State) → WellFormedState n s → Within (conflict_of s) (trail_of s)
unfolding WellFormedState
conflict_within n (searching tr) r = λ t h. absurd (true_or_false h refl)
conflict_within n (conflict tr E) r = r.1

-- ---- every step keeps a well-formed state

-- of an answer: the state after an allowed step is well-formed
abbrev Kept : ℕ → Answer → Type 0
Kept n (allowed s) = WellFormedState n s
Kept n refuted = Unit {0}
Kept n (refused c) = Unit {0}

-- a step's answer, by its number and its effect
kept_answer : (n c : ℕ) (a : Answer) → (c ≡ 0 → Kept n a) → Kept n (answer c a)
kept_answer n c a f = answer_case (Kept n) c a (λ k. tt) f

module _ (ts : List ℕ) where
  abbrev rows : ℕ
  rows = term_rows ts

  decide_kept : (tr : Trail) (t v : ℕ) → WellFormed rows tr → t < rows → Kept rows (decide ts tr t v)
  unfolding decide decide_refusal WellFormedState
  decide_kept tr t v r l =
      kept_answer rows _ _ (λ e.
      let a = unless_ok _ 22 _ (omega arith) e in
      let b = unless_ok _ 14 _ (omega arith) a.1 in
      decision_well_formed tr t v r l (T_false _ b.0))

  -- the premises of an inference stand on the trail
  pub inference_ok : (tr : Trail) (r l v : ℕ) (ps : List ℕ) (rest : ℕ) → inference_refusal ts tr r l v ps rest ≡ 0 → Within (has ps) tr × (rest ≡ 0)
  unfolding inference_refusal
  inference_ok tr r l v ps rest e =
      let a = unless_ok _ 22 _ (omega arith) e in
      let b = unless_ok _ 12 _ (omega arith) a.1 in
      let c = unless_ok _ 13 _ (omega arith) b.1 in
      ((λ t h. T_true _ (all_at (on tr) ps b.0 (has_at ps (true_T _ h)))), c.1)

  deduce_kept : (tr : Trail) (r l v : ℕ) (ps : List ℕ) → WellFormed rows tr → l < rows → Kept rows (deduce ts tr r l v ps)
  unfolding deduce deduce_refusal WellFormedState
  deduce_kept tr r l v ps i k =
      kept_answer rows _ _ (λ e.
      let a = inference_ok tr r l v ps _ e in
      let b = unless_ok _ 14 _ (omega arith) a.1 in
      let c = unless_ok _ 15 _ (omega arith) b.1 in
      justified_well_formed tr l v (has ps) i k (T_false _ c.0) a.0)

  -- premises and opposite of a contradiction stand on the trail, and its level suits
  pub contradiction_ok : (tr : Trail) (r l v : ℕ) (ps : List ℕ) (level_suits : Bool) → contradiction_refusal ts tr r l v ps level_suits ≡ 0
      → Within (has ps) tr × (on tr l ≡ true) × (level_suits ≡ true)
  unfolding contradiction_refusal
  contradiction_ok tr r l v ps level_suits e =
      let a = inference_ok tr r l v ps _ e in
      let b = unless_ok _ 16 _ (omega arith) a.1 in
      let c = unless_ok _ 26 _ (omega arith) b.1 in
      (a.0, T_true _ (and_l (on tr l) _ b.0), T_true _ c.0)

  clash_kept : (tr : Trail) (r l v : ℕ) (ps : List ℕ) → WellFormed rows tr → Kept rows (clash ts tr r l v ps)
  unfolding clash clash_refusal WellFormedState
  clash_kept tr r l v ps i =
      kept_answer rows _ _ (λ e.
      let a = contradiction_ok tr r l v ps _ e in (
        i,
        λ t h. ⊎_elim (λ q. ap (on tr) (eqb→eq _ _ (true_T _ q)) ∙ a.1) (λ q. a.0 t q) (one_true (eqb t l) (has ps t) h),
      ))

  fail_kept : (tr : Trail) (r l v : ℕ) (ps : List ℕ) → Kept rows (fail ts tr r l v ps)
  unfolding fail
  fail_kept tr r l v ps = kept_answer rows _ _ (λ e. tt)

  module _ (tr : Trail) (E : Set) (i : WellFormed rows tr) (inside : Within E tr) where
    resolve_kept : (a : ℕ) → Kept rows (resolve ts tr E a)
    unfolding resolve WellFormedState
    resolve_kept a =
        kept_answer rows _ _ (λ e.
        (i, λ t h. ⊎_elim (λ q. inside t (both_true (E t) _ q).0) (λ q. (why_well_formed tr a t i q).0) (one_true (remove E a t) (why_at tr a t) h)))

    clear_kept : (a : ℕ) → Kept rows (clear ts tr E a)
    unfolding clear WellFormedState
    clear_kept a = kept_answer rows _ _ (λ e. kept_well_formed _ tr i)

    jump_kept : (l : ℕ) → l < rows → Kept rows (jump ts tr E l)
    unfolding jump jump_refusal WellFormedState
    jump_kept l k =
        kept_answer rows _ _ (λ e.
        let a = unless_ok _ 17 _ (omega arith) e in
        let b = unless_ok _ 22 _ (omega arith) a.1 in
        let c = unless_ok _ 21 _ (omega arith) b.1 in
        let m = level_of tr (remove E l) in
        justified_well_formed (kept_to m tr) l _ (remove E l) (kept_well_formed m tr i) k (off_kept m tr l i (ltb→lt _ _ c.0))
        (within_kept m tr (remove E l) (λ t h. inside t (both_true (E t) _ h).0) (omega arith)))

    -- what shares a first-order decision at level m is not below m, and m is above 0
    pub shared_high : (l k m : ℕ) → T (holds tr (intersection (why_at tr l) (why_at tr k)) (first_order ts m)) → (m ≤ level_at tr l) × (0 < m)
    shared_high l k m h =
        let d = holds_at tr (intersection (why_at tr l) (why_at tr k)) (first_order ts m) h in
        let x = d.0 in
        let w : why_at tr l x.term ≡ true = T_true _ (and_l (why_at tr l x.term) _ d.2) in
        let q = why_well_formed tr l x.term i w in
        let y = entry_in tr x.term (true_T _ q.0) in
        let s : entry tr x.term ≡ x = one_entry tr (entry tr x.term) x i y.0 d.1 y.1 in
        let u : level_at tr x.term ≡ x.level = ap (λ (z : Entry). z.level) s in
        let v : x.level ≡ m = eqb→eq _ _ (and_r (not (prop ts x.term)) _ (and_r x.decided _ d.3)) in
        let z = decided_high tr x i d.1 (and_l x.decided _ d.3) in
        (omega (arith, q.1), omega arith)

    flip_kept : (l k : ℕ) → l < rows → Kept rows (flip ts tr E l k)
    unfolding flip flip_refusal WellFormedState
    flip_kept l k j =
        kept_answer rows _ _ (λ e.
        let a = unless_ok _ 17 _ (omega arith) e in
        let b = unless_ok _ 22 _ (omega arith) a.1 in
        let c = unless_ok _ 18 _ (omega arith) b.1 in
        let d = unless_ok _ 23 _ (omega arith) c.1 in
        let m = level_of tr E in
        let h = shared_high l k m (and_r (not (eqb l k)) _ d.0) in
        decision_well_formed (kept_to (m - 1) tr) l _ (kept_well_formed (m - 1) tr i) j (off_kept (m - 1) tr l i (omega (arith, h.0, h.1))))

    learn_kept : (t m : ℕ) (hs : List ℕ) → t < rows → Kept rows (learn ts tr E t m hs)
    unfolding learn learn_refusal WellFormedState
    learn_kept t m hs k =
        kept_answer rows _ _ (λ e.
        let a = unless_ok _ 17 _ (omega arith) e in
        let b = unless_ok _ 22 _ (omega arith) a.1 in
        let c = unless_ok _ 25 _ (omega arith) b.1 in
        let d = unless_ok _ 14 _ (omega arith) c.1 in
        let f = unless_ok _ 21 _ (omega arith) d.1 in
        let s = without E hs in
        justified_well_formed (kept_to m tr) t _ s (kept_well_formed m tr i) k (kept_off m tr t (T_false _ d.0))
        (within_kept m tr s (λ u h. inside u (both_true (E u) _ h).0) (leb→le _ _ (and_l (leb (level_of tr s) m) _ f.0))))

  step_by_kept : (k : Kind) (s : State) (x : Step) → WellFormedState rows s → x.term < rows → Kept rows (step_by ts k s x)
  unfolding step_by
  step_by_kept Decide s x r l = decide_kept (trail_of s) x.term x.value (trail_well_formed rows s r) l
  step_by_kept Deduce s x r l = deduce_kept (trail_of s) x.rule x.term x.value (premises x) (trail_well_formed rows s r) l
  step_by_kept Clash s x r l = clash_kept (trail_of s) x.rule x.term x.value (premises x) (trail_well_formed rows s r)
  step_by_kept Resolve s x r l = resolve_kept (trail_of s) (conflict_of s) (trail_well_formed rows s r) (conflict_within rows s r) x.term
  step_by_kept Clear s x r l = clear_kept (trail_of s) (conflict_of s) (trail_well_formed rows s r) (conflict_within rows s r) x.term
  step_by_kept Jump s x r l = jump_kept (trail_of s) (conflict_of s) (trail_well_formed rows s r) (conflict_within rows s r) x.term l
  step_by_kept Flip s x r l = flip_kept (trail_of s) (conflict_of s) (trail_well_formed rows s r) (conflict_within rows s r) x.term x.p l
  step_by_kept Fail s x r l = fail_kept (trail_of s) x.rule x.term x.value (premises x)
  step_by_kept Learn s x r l =
      learn_kept (trail_of s) (conflict_of s) (trail_well_formed rows s r) (conflict_within rows s r) x.term x.value (premises x) l
  step_by_kept Unlisted s x r l = tt

  step_kept : (s : State) (x : Step) → WellFormedState rows s → Kept rows (step ts s x)
  unfolding step row_refusal known
  step_kept s x r =
      kept_answer rows _ _ (λ e.
      let a = unless_ok _ 9 _ (omega arith) e in
      let b = unless_ok _ 10 _ (omega arith) a.1 in
      let c = unless_ok _ 11 _ (omega arith) b.1 in
      step_by_kept (kind_of x.step) s x r (ltb→lt _ _ (and_l (ltb x.term (term_rows ts)) _ c.0)))

  -- an allowed step leads from a well-formed state to a well-formed one
  pub step_well_formed : (s s' : State) (x : Step) → WellFormedState rows s → step ts s x ≡ allowed s' → WellFormedState rows s'
  step_well_formed s s' x r e = subst (Kept rows) e (step_kept s x r)

  run_well_formed : (log : List ℕ) (s : State) (n k : ℕ) → WellFormedState rows s → WellFormedState rows (run ts log s n k).state
  unfolding run follow
  run_well_formed log s n zero r = r
  run_well_formed log s n (suc k) r = go (λ s' q. run_well_formed log s' (suc n) k q) (step ts s (step_at log n)) (step_kept s (step_at log n) r)
    where
      go : ((s' : State) → WellFormedState rows s' → WellFormedState rows (run ts log s' (suc n) k).state) → (a : Answer) → Kept rows a
          → WellFormedState rows (follow (λ s'. run ts log s' (suc n) k) (place_of ts (trail_of s) (step_at log n)) s n a).state
      go f (allowed s') q = f s' q
      go f refuted q = r
      go f (refused c) q = r

  -- the input's trail is well-formed where its rows are no trouble
  pub input_well_formed : (is : List ℕ) (n : ℕ) → ((k : ℕ) → k < n → input_refusal ts is k ≡ 0) → WellFormed rows (input_trail is n)
  unfolding input_trail input_refusal
  input_well_formed is zero h = none_well_formed
  input_well_formed is (suc n) h =
      let a = unless_ok _ 6 _ (omega arith) (h n (omega arith)) in
      let b = unless_ok _ 7 _ (omega arith) a.1 in
      let c = unless_ok _ 8 _ (omega arith) b.1 in
      push_well_formed (given (input_term is n) (input_value is n))
      (record {
        new = T_false _ c.0;
        row = ltb→lt _ _ a.0;
        why = λ t w. absurd (true_or_false w refl);
        low = λ t w. absurd (true_or_false w refl);
        level = sym (level_empty (input_trail is n));
      })
      (input_well_formed is n (λ k l. h k (omega arith)))

-- the state that any call ends in, whatever its sheets hold, is well-formed
pub call_well_formed : (x : Call) → WellFormedState (term_rows x.terms) (ending x).state
unfolding ending ending_of call_refusal sheets_refusal inputs_refusal WellFormedState
call_well_formed x = go (call_refusal x) refl
  where
    go : (c : ℕ) → call_refusal x ≡ c → WellFormedState (term_rows x.terms) (ending_of c x).state
    go zero e =
        let a = or_else_ok (length_refusal x) _ e in
        let b = or_else_ok (sorts_refusal x.sorts) _ a.1 in
        let c = or_else_ok (terms_refusal x.sorts x.terms) _ b.1 in
        let n = input_rows x.inputs in
        run_well_formed x.terms x.steps (start x) 0 (step_rows x.steps)
        (input_well_formed x.terms x.inputs n (λ k l. first_ok n (input_refusal x.terms x.inputs) k c.1 l))
    go (suc c) e = none_well_formed

-- ---- levels are small

-- a trail's greatest level is at most its length
pub top_length : {n : ℕ} (tr : Trail) → WellFormed n tr → top_level tr ≤ length tr
unfolding level_of
top_length [] r = omega arith
top_length (x ∷ older) r =
    let q = newest x older r in
    let h = top_length older q.1 in
    go x.decided h (level_top older x.why) q.0.level
  where
    go : (b : Bool) → top_level older ≤ length older → level_of older x.why ≤ top_level older
        → x.level ≡ cond b (1 + top_level older) (level_of older x.why) → max (top_level older) x.level ≤ suc (length older)
    go true h k e = omega arith
    go false h k e = omega arith

-- every level is at most the number of term rows
pub level_small : {n : ℕ} (tr : Trail) (s : Set) → WellFormed n tr → level_of tr s ≤ n
level_small {n} tr s r = omega (arith, level_top tr s, top_length tr r, room n tr r.distinct r.below)

-- the level of a set with one member more
pub level_more : (tr : Trail) (s : Set) (p : ℕ) → Distinct tr → level_of tr (λ u. eqb u p || s u) ≡ max (level_at tr p) (level_of tr s)
unfolding level_of entry Distinct
level_more [] s p d = refl
level_more (x ∷ older) s p d = go (eqb x.term p) refl (level_more older s p d.1) (s x.term)
  where
    gone : eqb x.term p ≡ true → level_at older p ≡ 0
    gone e = ap (λ (y : Entry). y.level) (entry_off older p (ap (on older) (sym (eqb→eq _ _ (true_T _ e))) ∙ d.0))

    go : (b : Bool) → eqb x.term p ≡ b → level_of older (λ u. eqb u p || s u) ≡ max (level_at older p) (level_of older s) → (c : Bool)
        → max (level_of older (λ u. eqb u p || s u)) (cond (b || c) x.level 0)
        ≡ max (cond b x (entry older p)).level (max (level_of older s) (cond c x.level 0))
    go true e h true = let z = gone e in omega arith
    go true e h false = let z = gone e in omega arith
    go false e h true = omega arith
    go false e h false = omega arith
