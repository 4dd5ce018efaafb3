-- A row that spells an action with a transition is answered with the transition's result.
use mathlib.Core.Path.{◌≡◌, refl, sym, ap, subst, subst₂, ◌∙◌}
use mathlib.Core.Logic.{◌≢◌, ◌⊎◌, inl, inr}
use mathlib.Core.Bool.{Bool, true, false, not, ◌&&◌, ◌||◌}
use mathlib.Core.List.Memᴰ
use mathlib.Core.List.{List, [], ◌∷◌, map, Memᴰ}
use Prim.Native.Nat.{ℕ, zero, suc, ◌+◌, ◌-◌, ◌≤◌, ◌<◌}
use native.Mathlib.Omega.{arith}
use lib.ListN.{length, length-map}
use lib.Dec.{T, eqb, leb, ltb, eqb→eq, le→leb, lt→ltb, not_T}
use Rattle.calculus.specs.declared.Step.{Step}
use Rattle.calculus.specs.declared.Kind.{Kind}
use Rattle.calculus.specs.declared.Kind.TheVariants as kinds
use Rattle.calculus.specs.declared.Premise.{Premise}
use Rattle.calculus.specs.declared.Rule.{Rule}
use Rattle.calculus.specs.Lists.{all, has, opposite}
use Rattle.calculus.specs.Numbers.{unless}
use Rattle.calculus.specs.Sheets.{term_rows}
use Rattle.calculus.specs.Terms.{prop, sort}
use Rattle.calculus.specs.Trail.{Set, Trail, Entry, everything, remove, without, union, intersection}
use Rattle.calculus.specs.Trail.{value_at, level_at, decided_at, why_at, assigned, holds, first_order, level_of, top_level, kept_to}
use Rattle.calculus.specs.Inputs.{value_suits}
use Rattle.calculus.specs.Rules.{row_of, rule_of, rule_listed, fits}
use Rattle.calculus.specs.Clauses.{different}
use Rattle.calculus.specs.WellFormed.{WellFormed, WellFormedState, Truthful, Coherent}
use Rattle.calculus.specs.Steps as steps
use Rattle.calculus.specs.Steps.{State, searching, conflict, Answer, allowed, refuted, answer, premise_cells, premises, kind_of, is_blank, is_filled}
use Rattle.calculus.specs.Steps.{inference_shaped, term_shaped, pair_shaped, learn_shaped, shaped, ready, known}
use Rattle.calculus.specs.Steps.{inference_refusal, contradiction_refusal, row_refusal, step_by, step}
use Rattle.calculus.proofs.Facts.{eqb_of, neqb_of, and_both, T_true, true_T, false_T, all_of}
use Rattle.calculus.proofs.Entries.{level_kept, holds_at}
use Rattle.calculus.proofs.WellSorted.{WellSorted}
use Rattle.figure.specs.Inferences.{Opposite, opposite_of_true, opposite_of_false}
use Rattle.figure.specs.Transitions.{Boolean, Suits, Among, Assigned, Absent, FirstOrder, decision_at, justified_at, Level, Restricted}
use Rattle.figure.specs.Transitions.{Acceptable, Inferred, Members}
use Rattle.figure.specs.Transitions.{Action, Result, Transition, Decide, Deduce, Fail, Conflict, Resolve, Undo, Backjump, UndoDecide, LearnBackjump}
use Rattle.figure.specs.Clauses.{ClausalForm}
use Rattle.figure.specs.Spelling.{Filled, Blank, FromLeft, no_column, blank_column, filled_column, Columns, Spells}
use Rattle.figure.specs.Faithful.{answer_of}
use Rattle.figure.proofs.Connectives.{opposite_sum}
use Rattle.figure.proofs.Rules.{infers_fits, infers_listed}
use Rattle.figure.proofs.Trails.{level_of_lem, restricted_of, off_of, below_row, entry_of, assigned_of}
use Rattle.figure.proofs.Trails.{assigned_is, assigned_row, premises_of, first_order_is, first_order_of, holds_of}
use Rattle.figure.proofs.Acceptable.{acceptable_of}
use Rattle.figure.proofs.Spelling.{blanks_of, filled_of, left_of, listed}
use Rattle.figure.proofs.Clauses.{different_of, clausal_test}

-- ---- guards that pass

unless_of : (b : Bool) (c r : ℕ) → T b → r ≡ 0 → unless b c r ≡ 0
unfolding unless
unless_of true c r h e = e
unless_of false c r h e = absurd h

answer_of_lem : (c : ℕ) (a : Answer) → c ≡ 0 → answer c a ≡ a
unfolding answer
answer_of_lem c a e = ap (λ n. answer n a) e

-- ---- the shape of a row

filled_test : {c n : ℕ} → Filled c n → T (is_filled c)
filled_test f = neqb_of (λ q. f.1 (sym f.0 ∙ q))

-- the term is filled, rule and value are blank, and the premises pass the test b
term_shaped_lem : (x : Step) (b : Bool) {t : ℕ} → Filled x.term t → Blank x.rule → Blank x.value → T b
    → T (is_blank x.rule && (is_filled x.term && (is_blank x.value && b)))
term_shaped_lem x b f u v h =
    and_both (is_blank x.rule) _ (eqb_of u)
    (and_both (is_filled x.term) _ (filled_test f)
    (and_both (is_blank x.value) _ (eqb_of v) h))

alone_shaped : (x : Step) {t : ℕ} → Filled x.term t → Blank x.rule → Blank x.value → FromLeft (premise_cells x) [] → T (term_shaped x)
alone_shaped x f u v r = term_shaped_lem x (all is_blank (premise_cells x)) f u v (blanks_of r)

pair_shaped_lem : (x : Step) {t p : ℕ} → Filled x.term t → Blank x.rule → Blank x.value
    → Filled x.p p → FromLeft (x.q ∷ x.r ∷ x.s ∷ x.t ∷ []) [] → T (pair_shaped x)
pair_shaped_lem x f u v h r =
    let rest = all is_blank (x.q ∷ x.r ∷ x.s ∷ x.t ∷ []) in
    term_shaped_lem x (is_filled x.p && rest) f u v (and_both (is_filled x.p) rest (filled_test h) (blanks_of r))

first_column : {c p : ℕ} {cs ps : List ℕ} → FromLeft (c ∷ cs) (p ∷ ps) → Filled c p × FromLeft cs ps
first_column (filled_column e r) = (e, r)

-- two to four columns that are filled from the left
last_blank : {a b c : ℕ} {ps : List ℕ} → FromLeft (a ∷ b ∷ c ∷ []) ps → length ps ≤ 2 → T (is_blank c)
last_blank (blank_column x (blank_column y (blank_column z no_column))) l = eqb_of z
last_blank (filled_column x (blank_column y (blank_column z no_column))) l = eqb_of z
last_blank (filled_column x (filled_column y (blank_column z no_column))) l = eqb_of z
last_blank (filled_column x (filled_column y (filled_column z no_column))) l = absurd (omega arith)

learn_columns : {a b c d e : ℕ} {ps : List ℕ} → FromLeft (a ∷ b ∷ c ∷ d ∷ e ∷ []) ps → 2 ≤ length ps → length ps ≤ 4
    → T (is_filled a) × T (is_filled b) × T (is_blank e)
learn_columns (blank_column x r) l m = absurd (omega arith)
learn_columns (filled_column x (blank_column y r)) l m = absurd (omega arith)
learn_columns (filled_column x (filled_column y r)) l m = (filled_test x, filled_test y, last_blank r (omega arith))

learn_shaped_lem : (x : Step) {k : Kind} {t m : ℕ} {ps : List ℕ} → Columns x k t ps → Blank x.rule → Filled x.value m → 2 ≤ length ps → length ps ≤ 4
    → T (learn_shaped x)
learn_shaped_lem x c u v l m =
    let f = learn_columns c.rows l m in
    and_both (is_blank x.rule) _ (eqb_of u)
    (and_both (is_filled x.term) _ (filled_test c.subject)
    (and_both (is_filled x.value) _ (filled_test v)
    (and_both (is_filled x.p) _ f.0
    (and_both (is_filled x.q) _ f.1
    (and_both (is_blank x.t) _ f.2 (left_of c.rows))))))

-- ---- truth values

opposite_is : {v w : ℕ} → Opposite v w → opposite v ≡ w
opposite_is opposite_of_true = refl
opposite_is opposite_of_false = refl

opposite_small : {v w : ℕ} → Opposite v w → v ≤ 1
opposite_small o = let e = opposite_sum o in omega arith

one_of_both : {v w : ℕ} → Opposite v w → (u : ℕ) → u ≤ 1 → (u ≡ v) ⊎ (u ≡ w)
one_of_both opposite_of_true zero l = inr refl
one_of_both opposite_of_true (suc zero) l = inl refl
one_of_both opposite_of_true (suc (suc u)) l = absurd (omega arith)
one_of_both opposite_of_false zero l = inl refl
one_of_both opposite_of_false (suc zero) l = inr refl
one_of_both opposite_of_false (suc (suc u)) l = absurd (omega arith)

premises_as : {x : Step} {k : Kind} {t : ℕ} {ps : List ℕ} → Columns x k t ps → premises x ≡ ps
unfolding premises
premises_as c = filled_of c.rows

module _ (ts : List ℕ) where
  -- ---- a row whose shape, state and rows are right is answered by its step

  step_of : (s : State) (x : Step) (k : Kind) → kind_of x.step ≡ k → T (shaped x k) → T (ready s k) → T (known ts x) → step ts s x ≡ step_by ts k s x
  unfolding step row_refusal
  step_of s x k e a b c =
      answer_of_lem _ _
      (unless_of _ 9 _ (subst (λ (j : Kind). T (shaped x j)) (sym e) a)
      (unless_of _ 10 _ (subst (λ (j : Kind). T (ready s j)) (sym e) b)
      (unless_of _ 11 _ c refl)))
      ∙ ap (λ (j : Kind). step_by ts j s x) e

  known_of : {x : Step} {k : Kind} {t : ℕ} {ps : List ℕ} → Columns x k t ps → t < term_rows ts → ((p : ℕ) → Memᴰ p ps → p < term_rows ts) → T (known ts x)
  unfolding known
  known_of {x} {ps = ps} c l f =
      and_both (ltb x.term (term_rows ts)) _ (lt→ltb _ _ (subst (λ t. t < term_rows ts) (sym c.subject.0) l))
      (subst (λ qs. T (all (λ p. ltb p (term_rows ts)) qs)) (sym (premises_as c)) (all_of (λ p. ltb p (term_rows ts)) ps (λ p m. lt→ltb _ _ (f p m))))

  module _ {tr : Trail} (R : WellFormed (term_rows ts) tr) (N : Truthful ts tr) where
    -- ---- search rules

    decide_answer : {ss : List ℕ} {t v m : ℕ} → WellSorted ss ts → t < term_rows ts → Suits ts t v → Acceptable ts tr t v → Level tr everything m
        → steps.decide ts tr t v ≡ allowed (searching (decision_at t v (1 + m) ∷ tr))
    unfolding steps.decide steps.decide_refusal
    decide_answer {t = t} {v} W b s a l =
        let off = off_of tr t a.new in
        answer_of_lem _ _
        (unless_of _ 22 _ (suits s)
        (unless_of _ 14 _ off
        (unless_of _ 27 _ (acceptable_of W R N t v b off a) refl)))
        ∙ (λ i. allowed (searching (decision_at t v (1 + level_of_lem l i) ∷ tr)))
      where
        suits : Suits ts t v → T (value_suits ts t v)
        suits s = go (prop ts t) (eqb→eq (sort ts t) 0)
          where
            go : (b : Bool) → (T b → sort ts t ≡ 0) → T (not b || leb v 1)
            go true f = le→leb v 1 (s (f tt))
            go false f = tt

    -- a rule's guards
    inference_of : {r : Rule} {J : List Premise} {l v w : ℕ} (n rest : ℕ) → Inferred ts tr r J l v w → rule_of n ≡ r → rest ≡ 0
        → inference_refusal ts tr n l v (map row_of J) rest ≡ 0
    unfolding inference_refusal
    inference_of {r} {J = ps} {l} {v} n rest i e z =
        let p = premises_of R ps i.on_trail in
        unless_of _ 22 _ (eqb_of i.boolean)
        (unless_of _ 12 _ p.0
        (unless_of _ 13 _ (subst₂ (λ (k : Rule) js. T (fits ts k l v js)) (sym e) (sym p.1) (infers_fits i.inference)) z))

    -- a Boolean with neither value is not on the trail
    neither : {r : Rule} {J : List Premise} {l v w : ℕ} → Inferred ts tr r J l v w → ¬ Assigned tr l w → Absent tr l
    neither {l = l} {v} {w} i n e m q = go (one_of_both i.other e.value (N e m (subst (Boolean ts) (sym q) i.boolean)))
      where
        go : (e.value ≡ v) ⊎ (e.value ≡ w) → ⊥
        go (inl a) = i.new (e, m, q, a)
        go (inr b) = n (e, m, q, b)

    deduce_answer : {r : Rule} {J : List Premise} {l v w m : ℕ} (n : ℕ) → Inferred ts tr r J l v w → rule_of n ≡ r → ¬ Assigned tr l w
        → Level tr (has (map row_of J)) m
        → steps.deduce ts tr n l v (map row_of J) ≡ allowed (searching (justified_at l v m (has (map row_of J)) ∷ tr))
    unfolding steps.deduce steps.deduce_refusal
    deduce_answer {J = ps} {l} {v} n i e o z =
        answer_of_lem _ _
        (inference_of n _ i e
        (unless_of _ 14 _ (not_T (assigned tr l v) (λ t. i.new (assigned_is tr l v t)))
        (unless_of _ 15 _ (off_of tr l (neither i o)) refl)))
        ∙ (λ j. allowed (searching (justified_at l v (level_of_lem z j) (has (map row_of ps)) ∷ tr)))

    -- the guards of clash and fail
    contradiction_of : {r : Rule} {J : List Premise} {l v w : ℕ} (n : ℕ) (level_suits : Bool) → Inferred ts tr r J l v w → rule_of n ≡ r
        → Assigned tr l w → T level_suits → contradiction_refusal ts tr n l v (map row_of J) level_suits ≡ 0
    unfolding contradiction_refusal
    contradiction_of {l = l} {v} {w} n level_suits i e a s =
        inference_of n _ i e
        (unless_of _ 16 _ (subst (λ u. T (assigned tr l u)) (sym (opposite_is i.other)) (assigned_of R l w a)) (unless_of _ 26 _ s refl))

    clash_answer : {r : Rule} {J : List Premise} {l v w m : ℕ} (n : ℕ) → Inferred ts tr r J l v w → rule_of n ≡ r → Assigned tr l w
        → Level tr (has (l ∷ map row_of J)) m → 0 < m → steps.clash ts tr n l v (map row_of J) ≡ allowed (conflict tr (has (l ∷ map row_of J)))
    unfolding steps.clash steps.clash_refusal
    clash_answer {J = ps} {l} n i e a z above =
        let q = level_of_lem z in
        answer_of_lem _ _ (contradiction_of n _ i e a (neqb_of (λ (y : level_of tr (has (l ∷ map row_of ps)) ≡ 0). omega arith)))

    fail_answer : {r : Rule} {J : List Premise} {l v w : ℕ} (n : ℕ) → Inferred ts tr r J l v w → rule_of n ≡ r → Assigned tr l w
        → Level tr (has (l ∷ map row_of J)) 0 → steps.fail ts tr n l v (map row_of J) ≡ refuted
    unfolding steps.fail steps.fail_refusal
    fail_answer n i e a z = answer_of_lem _ _ (contradiction_of n _ i e a (eqb_of (level_of_lem z)))

    -- ---- conflict resolution rules

    module _ (E : Set) where
      resolve_answer : {a : Entry} {m : ℕ} → Among tr E a → a.decided ≡ false → Level tr E m
          → ((d : Entry) → Among tr a.why d → FirstOrder ts d → d.level ≢ m)
          → steps.resolve ts tr E a.term ≡ allowed (conflict tr (union (remove E a.term) a.why))
      unfolding steps.resolve steps.resolve_refusal
      resolve_answer {a} {m} h j z f =
          let q = entry_of R a h.0 in
          let d : decided_at tr a.term ≡ false = ap (λ (y : Entry). y.decided) q ∙ j in
          let w : why_at tr a.term ≡ a.why = ap (λ (y : Entry). y.why) q in
          answer_of_lem _ _
          (unless_of _ 17 _ (true_T _ h.1)
          (unless_of _ 18 _ (false_T _ d)
          (unless_of _ 19 _
          (not_T (holds tr (why_at tr a.term) (first_order ts (level_of tr E))) (λ t.
          barred (subst (λ H. T (holds tr H (first_order ts (level_of tr E)))) w t))) refl)))
          ∙ (λ i. allowed (conflict tr (union (remove E a.term) (w i))))
        where
          barred : T (holds tr a.why (first_order ts (level_of tr E))) → ⊥
          barred t =
              let y = holds_at tr a.why (first_order ts (level_of tr E)) t in
              let o = first_order_is ts (level_of tr E) y.0 y.3 in
              f y.0 (y.1, T_true _ y.2) o.0 (o.1 ∙ level_of_lem z)

      clear_answer : {rest : Trail} {a : Entry} {m n : ℕ} → Among tr E a → FirstOrder ts a → a.level ≡ 1 + m → Level tr (remove E a.term) n
          → n < a.level → Restricted m tr rest
          → steps.clear ts tr E a.term ≡ allowed (searching rest)
      unfolding steps.clear steps.clear_refusal
      clear_answer {a = a} {m} {n} h o e z l r =
          let q = entry_of R a h.0 in
          let d : decided_at tr a.term ≡ true = ap (λ (y : Entry). y.decided) q ∙ o.0 in
          let v : level_at tr a.term ≡ a.level = ap (λ (y : Entry). y.level) q in
          let k = level_of_lem z in
          let c : level_at tr a.term - 1 ≡ m = omega arith in
          answer_of_lem _ _
          (unless_of _ 17 _ (true_T _ h.1)
          (unless_of _ 20 _ (and_both (decided_at tr a.term) _ (true_T _ d) (neqb_of o.1))
          (unless_of _ 21 _ (lt→ltb (level_of tr (remove E a.term)) (level_at tr a.term) (omega arith)) refl)))
          ∙ (λ i. allowed (searching (kept_to (c i) tr)))
          ∙ (λ i. allowed (searching (restricted_of r i)))

      jump_answer : {rest : Trail} {l : Entry} {m w : ℕ} → Among tr E l → Boolean ts l.term → Opposite l.value w
          → Level tr (remove E l.term) m → m < l.level → Restricted m tr rest
          → steps.jump ts tr E l.term ≡ allowed (searching (justified_at l.term w m (remove E l.term) ∷ rest))
      unfolding steps.jump steps.jump_refusal
      jump_answer {rest} {l} {m} {w} h b o z k r =
          let S = remove E l.term in
          let q = entry_of R l h.0 in
          let u : level_at tr l.term ≡ l.level = ap (λ (y : Entry). y.level) q in
          let v : opposite (value_at tr l.term) ≡ w = ap (λ (y : Entry). opposite y.value) q ∙ opposite_is o in
          let e = level_of_lem z in
          let t : kept_to (level_of tr S) tr ≡ rest = ap (λ n. kept_to n tr) e ∙ restricted_of r in
          let g : level_of (kept_to (level_of tr S) tr) S ≡ m = level_kept (level_of tr S) tr S (omega arith) ∙ e in
          answer_of_lem _ _
          (unless_of _ 17 _ (true_T _ h.1)
          (unless_of _ 22 _ (eqb_of b)
          (unless_of _ 21 _ (lt→ltb (level_of tr S) (level_at tr l.term) (omega arith)) refl)))
          ∙ (λ i. allowed (searching (justified_at l.term (v i) (g i) S ∷ t i)))

      flip_answer : {rest : Trail} {l k d : Entry} {m n w : ℕ}
          → Among tr E l → l.decided ≡ false → Boolean ts l.term → Opposite l.value w
          → Among tr E k → k.decided ≡ false → l.term ≢ k.term
          → Among tr l.why d → Among tr k.why d → FirstOrder ts d
          → d.level ≡ 1 + m → Level tr E (1 + m) → Restricted m tr rest → Level rest everything n
          → steps.flip ts tr E l.term k.term ≡ allowed (searching (decision_at l.term w (1 + n) ∷ rest))
      unfolding steps.flip steps.flip_refusal
      flip_answer {rest} {l} {k} {d} {m} {n} {w} hl jl b o hk jk ne dl dk fo e z r y =
          let ql = entry_of R l hl.0 in
          let qk = entry_of R k hk.0 in
          let sl : decided_at tr l.term ≡ false = ap (λ (y : Entry). y.decided) ql ∙ jl in
          let sk : decided_at tr k.term ≡ false = ap (λ (y : Entry). y.decided) qk ∙ jk in
          let wl : why_at tr l.term d.term ≡ true = ap (λ (y : Entry). y.why d.term) ql ∙ dl.1 in
          let wk : why_at tr k.term d.term ≡ true = ap (λ (y : Entry). y.why d.term) qk ∙ dk.1 in
          let v : opposite (value_at tr l.term) ≡ w = ap (λ (y : Entry). opposite y.value) ql ∙ opposite_is o in
          let c = level_of_lem z in
          let p : level_of tr E - 1 ≡ m = omega arith in
          let t : kept_to (level_of tr E - 1) tr ≡ rest = ap (λ n. kept_to n tr) p ∙ restricted_of r in
          let g : top_level (kept_to (level_of tr E - 1) tr) ≡ n = ap (λ tr. level_of tr everything) t ∙ level_of_lem y in
          let both : intersection (why_at tr l.term) (why_at tr k.term) d.term ≡ true = rw (wl, wk) in
          answer_of_lem _ _
          (unless_of _ 17 _ (and_both (E l.term) _ (true_T _ hl.1) (true_T _ hk.1))
          (unless_of _ 22 _ (eqb_of b)
          (unless_of _ 18 _ (and_both (not (decided_at tr l.term)) _ (false_T _ sl) (false_T _ sk))
          (unless_of _ 23 _
          (and_both (not (eqb l.term k.term)) _ (neqb_of ne)
          (holds_of tr (intersection (why_at tr l.term) (why_at tr k.term)) (first_order ts (level_of tr E)) d (dl.0, both)
          (first_order_of ts (level_of tr E) d fo (e ∙ sym c)))) refl))))
          ∙ (λ i. allowed (searching (decision_at l.term (v i) (1 + g i) ∷ t i)))

      learn_answer : {rest : Trail} {H : List Premise} {t v m n k : ℕ} → Members ts tr E H → ClausalForm ts H t v → Absent tr t
          → Level tr (without E (map row_of H)) n → n ≤ m → Level tr (has (map row_of H)) k → m < k → Restricted m tr rest
          → steps.learn ts tr E t m (map row_of H) ≡ allowed (searching (justified_at t v n (without E (map row_of H)) ∷ rest))
      unfolding steps.learn steps.learn_refusal
      learn_answer {rest} {H} {t} {v} {m} {n} M form off z low y high r =
          let hs = map row_of H in
          let S = without E hs in
          let p = premises_of R H M.on_trail in
          let c = clausal_test M.several form in
          let e = level_of_lem z in
          let d = level_of_lem y in
          let g : level_of (kept_to m tr) S ≡ n = level_kept m tr S (omega arith) ∙ e in
          answer_of_lem _ _
          (unless_of _ 17 _ (all_of E hs (λ q i. let o = Memᴰ.of_map row_of H i in subst (λ t. T (E t)) o.2 (true_T _ (M.in_conflict o.0 o.1))))
          (unless_of _ 22 _ (and_both (all (prop ts) hs) _
          (all_of (prop ts) hs (λ q i. let o = Memᴰ.of_map row_of H i in subst (λ t. T (prop ts t)) o.2 (eqb_of (M.boolean o.0 o.1)))) c.0)
          (unless_of _ 25 _ (and_both (different hs) _ (different_of M.different) (rw p.1 c.1))
          (unless_of _ 14 _ (off_of tr t off)
          (unless_of _ 21 _
          (and_both (leb (level_of tr S) m) _ (le→leb (level_of tr S) m (omega arith)) (lt→ltb m (level_of tr (has hs)) (omega arith))) refl)))))
          ∙ (λ i. allowed (searching (justified_at t (c.2 i) (g i) S ∷ restricted_of r i)))

  -- ---- rows of the sheet

  pub premise_rows : {tr : Trail} {r : Rule} {J : List Premise} {l v w : ℕ} → WellFormed (term_rows ts) tr → Inferred ts tr r J l v w
      → (p : ℕ) → Memᴰ p (map row_of J) → p < term_rows ts
  premise_rows {J = ps} R i p m =
      let y = Memᴰ.of_map row_of ps m in
      subst (λ t. t < term_rows ts) y.2 (assigned_row R (i.on_trail y.0 y.1))

  no_rows : (p : ℕ) → Memᴰ p [] → p < term_rows ts
  no_rows p m = absurd (Memᴰ.not-nil m)

  inference_shaped_lem : {r : Rule} {J : List Premise} {l v w : ℕ} {tr : Trail} {k : Kind} {ps : List ℕ} (x : Step) → Inferred ts tr r J l v w
      → Columns x k l ps → rule_of x.rule ≡ r → Filled x.value v → T (inference_shaped x)
  inference_shaped_lem {v = v} x i c e f =
      and_both (rule_listed x.rule) _ (listed x.rule (λ q. infers_listed i.inference (sym e ∙ q)))
      (and_both (is_filled x.term) _ (filled_test c.subject)
      (and_both (leb x.value 1) _ (le→leb _ _ (subst (λ n. n ≤ 1) (sym f.0) (opposite_small i.other))) (left_of c.rows)))

  module _ {ss : List ℕ} (W : WellSorted ss ts) where
    pub forth : {s : State} {a : Action} {r : Result} → Coherent ts s → Transition ts s a r → (x : Step) → Spells x a → step ts s x ≡ answer_of r
    unfolding WellFormedState shaped ready step_by
    forth h (Decide {tr} {t} {v} b s a l) x (p) =
        let c = p.0 in
        step_of (searching tr) x kinds.Decide c.kind
        (and_both (is_blank x.rule) _ (eqb_of p.1)
        (and_both (is_filled x.term) _ (filled_test c.subject)
        (and_both (is_filled x.value) _ (filled_test p.2) (blanks_of c.rows)))) tt (known_of c b no_rows)
        ∙ (λ i. steps.decide ts tr (c.subject.0 i) (p.2.0 i))
        ∙ decide_answer h.well_formed h.truths W b (search) a (search)
    forth h (Deduce {tr} {l = l} {v} b i n z) x (p) =
        let c = p.0 in
        step_of (searching tr) x kinds.Deduce c.kind (inference_shaped_lem x i c p.1 p.2) tt (known_of c b (premise_rows h.well_formed i))
        ∙ (λ j. steps.deduce ts tr x.rule (c.subject.0 j) (p.2.0 j) (premises_as c j))
        ∙ deduce_answer h.well_formed h.truths x.rule i p.1 (search) (search)
    forth h (Fail {tr} i a z) x (p) =
        let c = p.0 in
        step_of (searching tr) x kinds.Fail c.kind (inference_shaped_lem x i c p.1 p.2) tt
        (known_of c (assigned_row h.well_formed a) (premise_rows h.well_formed i))
        ∙ (λ j. steps.fail ts tr x.rule (c.subject.0 j) (p.2.0 j) (premises_as c j))
        ∙ fail_answer h.well_formed h.truths x.rule i p.1 (search) z
    forth h (Conflict {tr} i a z m) x (p) =
        let c = p.0 in
        step_of (searching tr) x kinds.Clash c.kind (inference_shaped_lem x i c p.1 p.2) tt
        (known_of c (assigned_row h.well_formed a) (premise_rows h.well_formed i))
        ∙ (λ j. steps.clash ts tr x.rule (c.subject.0 j) (p.2.0 j) (premises_as c j))
        ∙ clash_answer h.well_formed h.truths x.rule i p.1 (search) z (omega arith)
    forth h (Resolve {tr} {E} a j z f) x (p) =
        let c = p.0 in
        let R = h.well_formed.0 in
        step_of (conflict tr E) x kinds.Resolve c.kind (alone_shaped x c.subject p.1 p.2 c.rows) tt
        (known_of c (below_row tr _ R a.0) no_rows)
        ∙ (λ i. steps.resolve ts tr E (c.subject.0 i))
        ∙ resolve_answer R h.truths E a (search) z (search)
    forth h (Undo {tr} {E = E} a o e z l r) x (p) =
        let c = p.0 in
        let R = h.well_formed.0 in
        step_of (conflict tr E) x kinds.Clear c.kind (alone_shaped x c.subject p.1 p.2 c.rows) tt
        (known_of c (below_row tr _ R a.0) no_rows)
        ∙ (λ i. steps.clear ts tr E (c.subject.0 i))
        ∙ clear_answer R h.truths E a (search) (omega arith) z (omega arith) r
    forth h (Backjump {tr} {E = E} a b o z l r) x (p) =
        let c = p.0 in
        let R = h.well_formed.0 in
        step_of (conflict tr E) x kinds.Jump c.kind (alone_shaped x c.subject p.1 p.2 c.rows) tt
        (known_of c (below_row tr _ R a.0) no_rows)
        ∙ (λ i. steps.jump ts tr E (c.subject.0 i))
        ∙ jump_answer R h.truths E a (search) (search) (search) (omega arith) r
    forth h (UndoDecide {tr} {E = E} {k = k} hl jl b o hk jk ne dl dk fo e z r y) x (p) =
        let c = p.0 in
        let R = h.well_formed.0 in
        let f = first_column c.rows in
        step_of (conflict tr E) x kinds.Flip c.kind (pair_shaped_lem x c.subject p.1 p.2 f.0 f.1) tt
        (known_of c (below_row tr _ R hl.0) (λ t m. subst (λ t. t < term_rows ts) (sym (Memᴰ.eq_of_singleton m)) (below_row tr _ R hk.0)))
        ∙ (λ i. steps.flip ts tr E (c.subject.0 i) (f.0.0 i))
        ∙ flip_answer R h.truths E hl (search) (search) (search) hk (search) (omega arith) dl dk (search) (omega arith) z r y
    forth h (LearnBackjump {tr} {E = E} {H = H} M b form a z low y high r) x (p) =
        let c = p.0 in
        let R = h.well_formed.0 in
        let n = length-map H row_of in
        let two = M.several in
        let four = M.few in
        step_of (conflict tr E) x kinds.Learn c.kind (learn_shaped_lem x c p.1 p.2 (omega arith) (omega arith)) tt
        (known_of c b (λ q m. let o = Memᴰ.of_map row_of H m in subst (λ t. t < term_rows ts) o.2 (assigned_row R (M.on_trail o.0 o.1))))
        ∙ (λ i. steps.learn ts tr E (c.subject.0 i) (p.2.0 i) (premises_as c i))
        ∙ learn_answer R h.truths E M form a z low y high r
