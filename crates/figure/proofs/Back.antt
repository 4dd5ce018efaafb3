-- A row that is answered with a result spells an action with a transition to it.
use mathlib.Core.Path.{◌≡◌, refl, sym, ap, subst, ◌∙◌}
use mathlib.Core.Logic.{◌≢◌}
use mathlib.Core.Bool.{Bool, true, false, not, cond}
use mathlib.Core.List.Memᴰ
use mathlib.Core.List.{List, [], ◌∷◌, map, Memᴰ}
use Prim.Native.Nat.{ℕ, zero, suc, ◌+◌, ◌-◌, ◌≤◌, ◌<◌}
use native.Mathlib.Omega.{arith}
use lib.ListN.{length, length-map}
use lib.Dec.{T, eqb, leb, ltb, eqb→eq, leb→le, ltb→lt, T_not}
use Rattle.calculus.specs.declared.Step.{Step}
use Rattle.calculus.specs.declared.Kind.{Kind}
use Rattle.calculus.specs.declared.Premise.{Premise}
use Rattle.calculus.specs.declared.Kind.TheVariants as kinds
use Rattle.calculus.specs.Lists.{all, has, opposite}
use Rattle.calculus.specs.Sheets.{blank, term_rows}
use Rattle.calculus.specs.Terms.{sort, prop, left_filled}
use Rattle.calculus.specs.Trail.{Set, Trail, Entry, everything, remove, without, union, intersection}
use Rattle.calculus.specs.Trail.{on, entry, value_at, level_at, decided_at, why_at, premises_at, holds, first_order, level_of, kept_to}
use Rattle.calculus.specs.Rules.{row_of, rule_of}
use Rattle.calculus.specs.Clauses.{different, clause_value}
use Rattle.calculus.specs.WellFormed.{Within, WellFormed, WellFormedState, Truthful, Coherent}
use Rattle.calculus.specs.Steps as steps
use Rattle.calculus.specs.Steps.{State, searching, conflict, Answer, allowed, refuted, refused, answer, premise_cells, premises, kind_of, is_blank, is_filled}
use Rattle.calculus.specs.Steps.{inference_shaped, term_shaped, pair_shaped, learn_shaped, shaped, ready, known}
use Rattle.calculus.specs.Steps.{inference_refusal, contradiction_refusal, row_refusal, step_by, step}
use Rattle.calculus.proofs.Facts.{and_l, and_r, all_at, all_of, T_true, T_false, true_T, neq, facts, unless_ok}
use Rattle.calculus.proofs.Entries.{entry_in, level_kept, holds_at}
use Rattle.calculus.proofs.WellFormed.{decided_high}
use Rattle.calculus.proofs.Truths.{value_suits_lem}
use Rattle.figure.specs.Inferences.{Opposite}
use Rattle.figure.specs.Transitions.{◌∈◌, Boolean, Assigned, justified_at, Level, Inferred, Members}
use Rattle.figure.specs.Transitions.{Action, decide, deduce, clash, resolve, clear, jump, flip, fail, learn, Result, next, unsat}
use Rattle.figure.specs.Transitions.{Transition, Decide, Deduce, Fail, Conflict, Resolve, Undo, Backjump, UndoDecide, LearnBackjump}
use Rattle.figure.specs.Spelling.{Filled, Blank, FromLeft, no_column, blank_column, filled_column, Columns, Spells}
use Rattle.figure.specs.Faithful.{answer_of}
use Rattle.calculus.proofs.WellSorted.{WellSorted}
use Rattle.figure.proofs.Connectives.{opposite_there}
use Rattle.figure.proofs.Walks.{Truths}
use Rattle.figure.proofs.Rules.{Known, fits_infers}
use Rattle.figure.proofs.Trails.{level_is, restricted_is, off_is, entry_of, assigned_is, assigned_row, one_value}
use Rattle.figure.proofs.Trails.{premises_rows, premises_is, first_order_is, first_order_of, holds_of}
use Rattle.figure.proofs.Acceptable.{acceptable_is}
use Rattle.figure.proofs.Spelling.{from_left, no_premise}
use Rattle.figure.proofs.Clauses.{different_is, clausal_is}

-- ---- answers that are no refusal

not_refused : (n : ℕ) (r : Result) → refused n ≡ answer_of r → ⊥
not_refused n (next s) e = let z : ◌≡◌ {A = ℕ} 0 1 = cc in omega arith
not_refused n unsat e = let z : ◌≡◌ {A = ℕ} 0 1 = cc in omega arith

answer_ok : (c : ℕ) (a : Answer) (r : Result) → answer c a ≡ answer_of r → (c ≡ 0) × (a ≡ answer_of r)
unfolding answer
answer_ok zero a r e = (refl, e)
answer_ok (suc c) a r e = absurd (not_refused (suc c) r e)

filled_is : {c : ℕ} → T (is_filled c) → Filled c c
filled_is {c} h = (refl, neq c blank h)

module _ (ts : List ℕ) where
  -- the result of an answer that allows
  settle : {s : State} {a : Action} (s' : State) (r : Result) → allowed s' ≡ answer_of r → Transition ts s a (next s') → Transition ts s a r
  settle {s} {a} s' (next u) e t = let q : s' ≡ u = cc in subst (λ (y : State). Transition ts s a (next y)) q t
  settle s' unsat e t = absurd (let z : ◌≡◌ {A = ℕ} 0 1 = cc in omega arith)

  refute : {s : State} {a : Action} (r : Result) → refuted ≡ answer_of r → Transition ts s a unsat → Transition ts s a r
  refute (next u) e t = absurd (let z : ◌≡◌ {A = ℕ} 0 1 = cc in omega arith)
  refute unsat e t = t

  module _ {ss : List ℕ} (W : WellSorted ss ts) {tr : Trail} (R : WellFormed (term_rows ts) tr) (N : Truthful ts tr) (r : Result) where
    -- ---- search rules

    decide_back : (t v : ℕ) → t < term_rows ts → steps.decide ts tr t v ≡ answer_of r → Transition ts (searching tr) (decide t v) r
    unfolding steps.decide steps.decide_refusal
    decide_back t v l h =
        let a = answer_ok _ _ r h in
        let b = unless_ok _ 22 _ (omega arith) a.0 in
        let c = unless_ok _ 14 _ (omega arith) b.1 in
        let d = unless_ok _ 27 _ (omega arith) c.1 in
        settle _ r a.1 (Decide l (value_suits_lem ts t v b.0) (acceptable_is W R N t v l c.0 d.0) (level_is tr everything))

    -- a rule's guards
    inferred_is : (n l v : ℕ) (ps : List ℕ) (rest : ℕ) → l < term_rows ts → v ≤ 1 → inference_refusal ts tr n l v ps rest ≡ 0
        → (¬ Assigned tr l v → Inferred ts tr (rule_of n) (premises_at tr ps) l v (opposite v)) × (rest ≡ 0)
    unfolding inference_refusal
    inferred_is n l v ps rest k small h =
        let a = unless_ok _ 22 _ (omega arith) h in
        let b = unless_ok _ 12 _ (omega arith) a.1 in
        let c = unless_ok _ 13 _ (omega arith) b.1 in
        let on_trail_lem = premises_is tr ps b.0 in
        let rows : Known ts (premises_at tr ps) = λ p m. assigned_row R (on_trail_lem p m) in
        let truths : Truths ts (premises_at tr ps) = λ p m z.
        (let y = on_trail_lem p m in subst (λ u. u ≤ 1) y.3 (N y.0 y.1 (ap (sort ts) y.2 ∙ z))) in (
          λ new. record {
            on_trail = on_trail_lem;
            inference = fits_infers W l v k (rule_of n) (premises_at tr ps) c.0 rows truths;
            boolean = eqb→eq _ _ a.0;
            other = opposite_there v small;
            new = new;
          },
          c.1,
        )

    deduce_back : (n l v : ℕ) (ps : List ℕ) → l < term_rows ts → v ≤ 1 → steps.deduce ts tr n l v ps ≡ answer_of r
        → Transition ts (searching tr) (deduce (rule_of n) l v ps) r
    unfolding steps.deduce steps.deduce_refusal
    deduce_back n l v ps k small h =
        let a = answer_ok _ _ r h in
        let b = inferred_is n l v ps _ k small a.0 in
        let c = unless_ok _ 14 _ (omega arith) b.1 in
        let d = unless_ok _ 15 _ (omega arith) c.1 in
        let off = off_is tr l d.0 in
        settle _ r a.1
        (subst (λ qs. Transition ts (searching tr) (deduce (rule_of n) l v qs) (next (searching (justified_at l v (level_of tr (has qs)) (has qs) ∷ tr))))
        (premises_rows tr ps)
        (Deduce k (b.0 (λ y. off y.0 y.1 y.2)) (λ y. off y.0 y.1 y.2) (level_is tr (has (map row_of (premises_at tr ps))))))

    -- the guards of clash and fail
    contradiction_is : (n l v : ℕ) (ps : List ℕ) (level_suits : Bool) → l < term_rows ts → v ≤ 1 → contradiction_refusal ts tr n l v ps level_suits ≡ 0
        → Inferred ts tr (rule_of n) (premises_at tr ps) l v (opposite v) × Assigned tr l (opposite v) × T level_suits
    unfolding contradiction_refusal
    contradiction_is n l v ps level_suits k small h =
        let b = inferred_is n l v ps _ k small h in
        let c = unless_ok _ 16 _ (omega arith) b.1 in
        let there = assigned_is tr l (opposite v) c.0 in
        let new : Assigned tr l v → ⊥ = λ y. let q : v ≡ opposite v = one_value R l v (opposite v) y there in omega arith in
        (b.0 new, there, (unless_ok _ 26 _ (omega arith) c.1).0)

    clash_back : (n l v : ℕ) (ps : List ℕ) → l < term_rows ts → v ≤ 1 → steps.clash ts tr n l v ps ≡ answer_of r
        → Transition ts (searching tr) (clash (rule_of n) l v ps) r
    unfolding steps.clash steps.clash_refusal
    clash_back n l v ps k small h =
        let a = answer_ok _ _ r h in
        let b = contradiction_is n l v ps _ k small a.0 in
        let above : level_of tr (has (l ∷ ps)) ≢ 0 = neq _ _ b.2 in
        settle _ r a.1
        (subst (λ qs. level_of tr (has (l ∷ qs)) ≢ 0 → Transition ts (searching tr) (clash (rule_of n) l v qs) (next (conflict tr (has (l ∷ qs)))))
        (premises_rows tr ps)
        (λ z. Conflict b.0 b.1 (level_is tr (has (l ∷ map row_of (premises_at tr ps)))) (omega arith)) above)

    fail_back : (n l v : ℕ) (ps : List ℕ) → l < term_rows ts → v ≤ 1 → steps.fail ts tr n l v ps ≡ answer_of r
        → Transition ts (searching tr) (fail (rule_of n) l v ps) r
    unfolding steps.fail steps.fail_refusal
    fail_back n l v ps k small h =
        let a = answer_ok _ _ r h in
        let b = contradiction_is n l v ps _ k small a.0 in
        refute r a.1
        (subst (λ qs. level_of tr (has (l ∷ qs)) ≡ 0 → Transition ts (searching tr) (fail (rule_of n) l v qs) unsat) (premises_rows tr ps)
        (λ z. let E = has (l ∷ map row_of (premises_at tr ps)) in Fail b.0 b.1 (subst (Level tr E) z (level_is tr E)))
        (eqb→eq _ _ b.2))

    -- ---- conflict resolution rules

    module _ (E : Set) where
      resolve_back : (a : Entry) → a ∈ tr → steps.resolve ts tr E a.term ≡ answer_of r → Transition ts (conflict tr E) (resolve a.term) r
      unfolding steps.resolve steps.resolve_refusal
      resolve_back a m h =
          let q = entry_of R a m in
          let d : decided_at tr a.term ≡ a.decided = ap (λ (y : Entry). y.decided) q in
          let w : why_at tr a.term ≡ a.why = ap (λ (y : Entry). y.why) q in
          let b = answer_ok _ _ r h in
          let c = unless_ok _ 17 _ (omega arith) b.0 in
          let e = unless_ok _ 18 _ (omega arith) c.1 in
          let f = unless_ok _ 19 _ (omega arith) e.1 in
          settle _ r b.1
          (subst (λ H. Transition ts (conflict tr E) (resolve a.term) (next (conflict tr (union (remove E a.term) H)))) (sym w)
          (Resolve (m, T_true _ c.0) (sym d ∙ T_false _ e.0) (level_is tr E)
          (λ x g o l. T_not (holds tr (why_at tr a.term) (first_order ts (level_of tr E))) f.0
          (holds_of tr (why_at tr a.term) (first_order ts (level_of tr E)) x (g.0, ap (λ (H : Set). H x.term) w ∙ g.1)
          (first_order_of ts (level_of tr E) x o l)))))

      clear_back : (a : Entry) → a ∈ tr → steps.clear ts tr E a.term ≡ answer_of r → Transition ts (conflict tr E) (clear a.term) r
      unfolding steps.clear steps.clear_refusal
      clear_back a m h =
          let q = entry_of R a m in
          let d : decided_at tr a.term ≡ a.decided = ap (λ (y : Entry). y.decided) q in
          let v : level_at tr a.term ≡ a.level = ap (λ (y : Entry). y.level) q in
          let b = answer_ok _ _ r h in
          let c = unless_ok _ 17 _ (omega arith) b.0 in
          let e = unless_ok _ 20 _ (omega arith) c.1 in
          let f = unless_ok _ 21 _ (omega arith) e.1 in
          let o : a.decided ≡ true = sym d ∙ T_true _ (and_l (decided_at tr a.term) _ e.0) in
          let l : level_of tr (remove E a.term) < level_at tr a.term = ltb→lt _ _ f.0 in
          settle _ r b.1
          (Undo (m, T_true _ c.0) (o, neq _ _ (and_r (decided_at tr a.term) _ e.0))
          (omega arith) (level_is tr (remove E a.term)) (omega arith) (restricted_is (level_at tr a.term - 1) tr))

      jump_back : (l : Entry) → l ∈ tr → steps.jump ts tr E l.term ≡ answer_of r → Transition ts (conflict tr E) (jump l.term) r
      unfolding steps.jump steps.jump_refusal
      jump_back l m h =
          let S = remove E l.term in
          let q = entry_of R l m in
          let u : value_at tr l.term ≡ l.value = ap (λ (y : Entry). y.value) q in
          let v : level_at tr l.term ≡ l.level = ap (λ (y : Entry). y.level) q in
          let b = answer_ok _ _ r h in
          let c = unless_ok _ 17 _ (omega arith) b.0 in
          let e = unless_ok _ 22 _ (omega arith) c.1 in
          let f = unless_ok _ 21 _ (omega arith) e.1 in
          let boolean : Boolean ts l.term = eqb→eq _ _ e.0 in
          let k : level_of tr S < level_at tr l.term = ltb→lt _ _ f.0 in
          let g : level_of (kept_to (level_of tr S) tr) S ≡ level_of tr S = level_kept (level_of tr S) tr S (omega arith) in
          settle _ r b.1
          (subst (λ n. Transition ts (conflict tr E) (jump l.term)
          (next (searching (justified_at l.term (opposite (value_at tr l.term)) n S ∷ kept_to (level_of tr S) tr)))) (sym g)
          (Backjump (m, T_true _ c.0) boolean
          (subst (λ x. Opposite l.value (opposite x)) (sym u) (opposite_there l.value (N l m boolean)))
          (level_is tr S) (omega arith) (restricted_is (level_of tr S) tr)))

      flip_back : (l k : Entry) → l ∈ tr → k ∈ tr → steps.flip ts tr E l.term k.term ≡ answer_of r
          → Transition ts (conflict tr E) (flip l.term k.term) r
      unfolding steps.flip steps.flip_refusal
      flip_back l k ml mk h =
          let ql = entry_of R l ml in
          let qk = entry_of R k mk in
          let dl : decided_at tr l.term ≡ l.decided = ap (λ (y : Entry). y.decided) ql in
          let dk : decided_at tr k.term ≡ k.decided = ap (λ (y : Entry). y.decided) qk in
          let u : value_at tr l.term ≡ l.value = ap (λ (y : Entry). y.value) ql in
          let a = answer_ok _ _ r h in
          let b = unless_ok _ 17 _ (omega arith) a.0 in
          let c = unless_ok _ 22 _ (omega arith) b.1 in
          let d = unless_ok _ 18 _ (omega arith) c.1 in
          let e = unless_ok _ 23 _ (omega arith) d.1 in
          let boolean : Boolean ts l.term = eqb→eq _ _ c.0 in
          let different : l.term ≢ k.term = neq _ _ (and_l (not (eqb l.term k.term)) _ e.0) in
          let S = intersection (why_at tr l.term) (why_at tr k.term) in
          let y = holds_at tr S (first_order ts (level_of tr E)) (and_r (not (eqb l.term k.term)) _ e.0) in
          let x = y.0 in
          let o = first_order_is ts (level_of tr E) x y.3 in
          let high = decided_high tr x R y.1 (true_T _ o.0.0) in
          let z : level_of tr E ≡ 1 + (level_of tr E - 1) = (let p = o.1 in omega arith) in
          settle _ r a.1
          (UndoDecide
          (ml, T_true _ (and_l (E l.term) _ b.0)) (sym dl ∙ T_false _ (and_l (not (decided_at tr l.term)) _ d.0)) boolean
          (subst (λ n. Opposite l.value (opposite n)) (sym u) (opposite_there l.value (N l ml boolean)))
          (mk, T_true _ (and_r (E l.term) _ b.0)) (sym dk ∙ T_false _ (and_r (not (decided_at tr l.term)) _ d.0))
          (omega arith)
          (y.1, ap (λ (w : Entry). w.why x.term) (sym ql) ∙ T_true _ (and_l (why_at tr l.term x.term) _ y.2))
          (y.1, ap (λ (w : Entry). w.why x.term) (sym qk) ∙ T_true _ (and_r (why_at tr l.term x.term) _ y.2))
          o.0 (o.1 ∙ z) (subst (Level tr E) z (level_is tr E)) (restricted_is (level_of tr E - 1) tr) (level_is (kept_to (level_of tr E - 1) tr) everything))

      -- a member of the conflict is looked up on the trail
      module _ (I : Within E tr) where
        -- the members hs of the conflict, with their values
        members_is : (hs : List ℕ) → 2 ≤ length hs → length hs ≤ 4 → T (different hs) → T (all E hs) → T (all (prop ts) hs)
            → Members ts tr E (premises_at tr hs)
        members_is hs l k d a b =
            let rows = premises_rows tr hs in
            let into : (p : Premise) → Memᴰ p (premises_at tr hs) → Memᴰ p.row hs =
            λ p m. subst (Memᴰ p.row) rows (Memᴰ.map row_of m) in
            let n : length (premises_at tr hs) ≡ length hs = length-map hs (λ p. record { row = p; value = value_at tr p }) in
            record {
              several = omega arith;
              few = omega arith;
              different = rw rows (different_is hs d);
              on_trail = premises_is tr hs (all_of (on tr) hs (λ p m. true_T _ (I p (T_true _ (all_at E hs a m)))));
              in_conflict = λ p m. T_true _ (all_at E hs a (into p m));
              boolean = λ p m. eqb→eq _ _ (all_at (prop ts) hs b (into p m));
            }

        -- from the members hs to the clause t on the trail kept to m, whose level is n
        abbrev Learned : ℕ → ℕ → List ℕ → ℕ → Type 0
        Learned t m hs n =
            Transition ts (conflict tr E) (learn t m hs) (next (searching (justified_at t (clause_value ts t) n (without E hs) ∷ kept_to m tr)))

        learn_at : (t m : ℕ) (hs : List ℕ) → t < term_rows ts → 2 ≤ length hs → length hs ≤ 4 → steps.learn ts tr E t m hs ≡ answer_of r
            → Transition ts (conflict tr E) (learn t m hs) r
        unfolding steps.learn steps.learn_refusal
        learn_at t m hs l two four h =
            let y = answer_ok _ _ r h in
            let a = unless_ok _ 17 _ (omega arith) y.0 in
            let b = unless_ok _ 22 _ (omega arith) a.1 in
            let c = unless_ok _ 25 _ (omega arith) b.1 in
            let d = unless_ok _ 14 _ (omega arith) c.1 in
            let f = unless_ok _ 21 _ (omega arith) d.1 in
            let S = without E hs in
            let H = premises_at tr hs in
            let low : level_of tr S ≤ m = leb→le _ _ (and_l (leb (level_of tr S) m) _ f.0) in
            let high : m < level_of tr (has hs) = ltb→lt _ _ (and_r (leb (level_of tr S) m) _ f.0) in
            let M = members_is hs two four (and_l (different hs) _ c.0) a.0 (and_l (all (prop ts) hs) _ b.0) in
            let truth : (p : Premise) → Memᴰ p H → p.value ≤ 1 = λ p k.
            (let e = M.on_trail p k in subst (λ v. v ≤ 1) e.3 (N e.0 e.1 (ap (sort ts) e.2 ∙ M.boolean p k))) in
            let form = clausal_is W H t l truth (and_r (all (prop ts) hs) _ b.0) (and_r (different hs) _ c.0) in
            let g : level_of (kept_to m tr) S ≡ level_of tr S = level_kept m tr S low in
            let off = off_is tr t d.0 in
            settle _ r y.1
            (subst (Learned t m hs) (sym g)
            (subst (λ qs. level_of tr (without E qs) ≤ m → m < level_of tr (has qs) → Learned t m qs (level_of tr (without E qs))) (premises_rows tr hs)
            (λ i j. let qs = map row_of H in LearnBackjump M l form (search) (level_is tr (without E qs)) i (level_is tr (has qs)) j (restricted_is m tr))
            low high))

        at_entry : (P : ℕ → Type 0) (l : ℕ) → E l ≡ true → ((e : Entry) → e ∈ tr → P e.term) → P l
        at_entry P l m f = let y = entry_in tr l (true_T _ (I l m)) in subst P y.1 (f (entry tr l) y.0)

        resolve_at : (l : ℕ) → steps.resolve ts tr E l ≡ answer_of r → Transition ts (conflict tr E) (resolve l) r
        unfolding steps.resolve steps.resolve_refusal
        resolve_at l h =
            let c = unless_ok _ 17 _ (omega arith) (answer_ok _ _ r h).0 in
            at_entry (λ t. steps.resolve ts tr E t ≡ answer_of r → Transition ts (conflict tr E) (resolve t) r) l (T_true _ c.0) resolve_back h

        clear_at : (l : ℕ) → steps.clear ts tr E l ≡ answer_of r → Transition ts (conflict tr E) (clear l) r
        unfolding steps.clear steps.clear_refusal
        clear_at l h =
            let c = unless_ok _ 17 _ (omega arith) (answer_ok _ _ r h).0 in
            at_entry (λ t. steps.clear ts tr E t ≡ answer_of r → Transition ts (conflict tr E) (clear t) r) l (T_true _ c.0) clear_back h

        jump_at : (l : ℕ) → steps.jump ts tr E l ≡ answer_of r → Transition ts (conflict tr E) (jump l) r
        unfolding steps.jump steps.jump_refusal
        jump_at l h =
            let c = unless_ok _ 17 _ (omega arith) (answer_ok _ _ r h).0 in
            at_entry (λ t. steps.jump ts tr E t ≡ answer_of r → Transition ts (conflict tr E) (jump t) r) l (T_true _ c.0) jump_back h

        abbrev Flips : ℕ → ℕ → Type 0
        Flips l k = steps.flip ts tr E l k ≡ answer_of r → Transition ts (conflict tr E) (flip l k) r

        flip_at : (l k : ℕ) → Flips l k
        unfolding steps.flip steps.flip_refusal
        flip_at l k h =
            let c = unless_ok _ 17 _ (omega arith) (answer_ok _ _ r h).0 in
            at_entry (λ t. Flips t k) l (T_true _ (and_l (E l) _ c.0))
            (λ e m. at_entry (λ t. Flips e.term t) k (T_true _ (and_r (E l) _ c.0))
            (λ d n. flip_back e d m n)) h

-- ---- what a row of the right shape spells

columns : (x : Step) (k : Kind) (ps : List ℕ) → kind_of x.step ≡ k → T (is_filled x.term) → FromLeft (premise_cells x) ps → Columns x k x.term ps
columns x k ps e f c = record { kind = e; subject = filled_is f; rows = c }

decision_spelled : (x : Step) → kind_of x.step ≡ kinds.Decide → T (shaped x kinds.Decide) → Spells x (decide x.term x.value)
unfolding shaped
decision_spelled x e h =
    let a : x.rule ≡ blank = search facts in
    let b : T (is_filled x.term) = search facts in
    let c : T (is_filled x.value) = search facts in
    let d : T (all is_blank (premise_cells x)) = search facts in
    (columns x kinds.Decide [] e b (no_premise x d), a, filled_is c)

record Inference (x : Step) (k : Kind) : Type 0 where
  pub cols : Columns x k x.term (premises x)
  pub small : x.value ≤ 1
  pub full : Filled x.value x.value

inference_spelled : (x : Step) (k : Kind) → kind_of x.step ≡ k → T (inference_shaped x) → Inference x k
unfolding premises
inference_spelled x k e h =
    let b : T (is_filled x.term) = search facts in
    let l : x.value ≤ 1 = search facts in
    let d : T (left_filled (premise_cells x)) = search facts in
    record { cols = columns x k _ e b (from_left (premise_cells x) d); small = l; full = (refl, λ q. omega arith) }

-- the term alone
alone_spelled : (x : Step) (k : Kind) → kind_of x.step ≡ k → T (term_shaped x) → Columns x k x.term [] × Blank x.rule × Blank x.value
alone_spelled x k e h =
    let a : x.rule ≡ blank = search facts depth 12 in
    let b : T (is_filled x.term) = search facts depth 12 in
    let v : x.value ≡ blank = search facts depth 12 in
    let p : x.p ≡ blank = search facts depth 12 in
    let q : x.q ≡ blank = search facts depth 12 in
    let r : x.r ≡ blank = search facts depth 12 in
    let s : x.s ≡ blank = search facts depth 12 in
    let t : x.t ≡ blank = search facts depth 12 in
    (columns x k [] e b (blank_column p (blank_column q (blank_column r (blank_column s (blank_column t no_column))))), a, v)

-- the term and p
pair_spelled : (x : Step) (k : Kind) → kind_of x.step ≡ k → T (pair_shaped x) → Columns x k x.term (x.p ∷ []) × Blank x.rule × Blank x.value
pair_spelled x k e h =
    let a : x.rule ≡ blank = search facts depth 12 in
    let b : T (is_filled x.term) = search facts depth 12 in
    let v : x.value ≡ blank = search facts depth 12 in
    let p : T (is_filled x.p) = search facts depth 12 in
    let q : x.q ≡ blank = search facts depth 12 in
    let r : x.r ≡ blank = search facts depth 12 in
    let s : x.s ≡ blank = search facts depth 12 in
    let t : x.t ≡ blank = search facts depth 12 in
    (columns x k _ e b (filled_column (filled_is p) (blank_column q (blank_column r (blank_column s (blank_column t no_column))))), a, v)

-- the term, the level and the members
record Learning (x : Step) : Type 0 where
  pub spelled : Columns x kinds.Learn x.term (premises x) × Blank x.rule × Filled x.value x.value
  pub several : 2 ≤ length (premises x)
  pub few : length (premises x) ≤ 4

learn_spelled : (x : Step) → kind_of x.step ≡ kinds.Learn → T (learn_shaped x) → Learning x
unfolding premises
learn_spelled x e h =
    let a : x.rule ≡ blank = search facts depth 12 in
    let b : T (is_filled x.term) = search facts depth 12 in
    let v : T (is_filled x.value) = search facts depth 12 in
    let p : T (is_filled x.p) = search facts depth 12 in
    let q : T (is_filled x.q) = search facts depth 12 in
    let t : T (is_blank x.t) = search facts depth 12 in
    let d : T (left_filled (premise_cells x)) = search facts depth 12 in
    let np : eqb x.p blank ≡ false = T_false _ p in
    let nq : eqb x.q blank ≡ false = T_false _ q in
    let nt : eqb x.t blank ≡ true = T_true _ t in
    let n = count (eqb x.r blank) (eqb x.s blank) in
    record {
      spelled = (columns x kinds.Learn _ e b (from_left (premise_cells x) d), a, filled_is v);
      several = rw (np, nq, nt) n.0;
      few = rw (np, nq, nt) n.1;
    }
  where
    left : Bool → Bool → List ℕ
    left a b = x.p ∷ x.q ∷ cond a [] (x.r ∷ cond b [] (x.s ∷ []))

    count : (a b : Bool) → (2 ≤ length (left a b)) × (length (left a b) ≤ 4)
    count true b = (omega arith, omega arith)
    count false true = (omega arith, omega arith)
    count false false = (omega arith, omega arith)

-- ---- the whole

module _ (ts : List ℕ) {ss : List ℕ} (W : WellSorted ss ts) (x : Step) (r : Result) where
  abbrev Spelled : State → Type 0
  Spelled s = (a : Action) × Spells x a × Transition ts s a r

  by_kind : (k : Kind) (s : State) → kind_of x.step ≡ k → Coherent ts s → T (shaped x k) → T (ready s k) → x.term < term_rows ts
      → step_by ts k s x ≡ answer_of r → Spelled s
  unfolding WellFormedState shaped ready step_by
  by_kind kinds.Decide (searching tr) e h p g l z =
      (decide x.term x.value, decision_spelled x e p, decide_back ts W h.well_formed h.truths r x.term x.value l z)
  by_kind kinds.Decide (conflict tr E) e h p g l z = absurd g
  by_kind kinds.Deduce (searching tr) e h p g l z =
      let i = inference_spelled x kinds.Deduce e p in (
        deduce (rule_of x.rule) x.term x.value (premises x),
        (i.cols, refl, i.full),
        deduce_back ts W h.well_formed h.truths r x.rule x.term x.value (premises x) l i.small z,
      )
  by_kind kinds.Deduce (conflict tr E) e h p g l z = absurd g
  by_kind kinds.Clash (searching tr) e h p g l z =
      let i = inference_spelled x kinds.Clash e p in (
        clash (rule_of x.rule) x.term x.value (premises x),
        (i.cols, refl, i.full),
        clash_back ts W h.well_formed h.truths r x.rule x.term x.value (premises x) l i.small z,
      )
  by_kind kinds.Clash (conflict tr E) e h p g l z = absurd g
  by_kind kinds.Resolve (searching tr) e h p g l z = absurd g
  by_kind kinds.Resolve (conflict tr E) e h p g l z =
      (resolve x.term, alone_spelled x kinds.Resolve e p, resolve_at ts W h.well_formed.0 h.truths r E h.well_formed.1 x.term z)
  by_kind kinds.Clear (searching tr) e h p g l z = absurd g
  by_kind kinds.Clear (conflict tr E) e h p g l z =
      (clear x.term, alone_spelled x kinds.Clear e p, clear_at ts W h.well_formed.0 h.truths r E h.well_formed.1 x.term z)
  by_kind kinds.Jump (searching tr) e h p g l z = absurd g
  by_kind kinds.Jump (conflict tr E) e h p g l z =
      (jump x.term, alone_spelled x kinds.Jump e p, jump_at ts W h.well_formed.0 h.truths r E h.well_formed.1 x.term z)
  by_kind kinds.Flip (searching tr) e h p g l z = absurd g
  by_kind kinds.Flip (conflict tr E) e h p g l z =
      (flip x.term x.p, pair_spelled x kinds.Flip e p, flip_at ts W h.well_formed.0 h.truths r E h.well_formed.1 x.term x.p z)
  by_kind kinds.Fail (searching tr) e h p g l z =
      let i = inference_spelled x kinds.Fail e p in (
        fail (rule_of x.rule) x.term x.value (premises x),
        (i.cols, refl, i.full),
        fail_back ts W h.well_formed h.truths r x.rule x.term x.value (premises x) l i.small z,
      )
  by_kind kinds.Fail (conflict tr E) e h p g l z = absurd g
  by_kind kinds.Learn (searching tr) e h p g l z = absurd g
  by_kind kinds.Learn (conflict tr E) e h p g l z =
      let i = learn_spelled x e p in (
        learn x.term x.value (premises x),
        i.spelled,
        learn_at ts W h.well_formed.0 h.truths r E h.well_formed.1 x.term x.value (premises x) l i.several i.few z,
      )
  by_kind kinds.Unlisted s e h p g l z = absurd p

  pub back : (s : State) → Coherent ts s → step ts s x ≡ answer_of r → Spelled s
  unfolding step row_refusal known
  back s h e =
      let a = answer_ok _ _ r e in
      let b = unless_ok _ 9 _ (omega arith) a.0 in
      let c = unless_ok _ 10 _ (omega arith) b.1 in
      let d = unless_ok _ 11 _ (omega arith) c.1 in
      by_kind (kind_of x.step) s refl h b.0 c.0 (ltb→lt _ _ (and_l (ltb x.term (term_rows ts)) _ d.0)) a.1
