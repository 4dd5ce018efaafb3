-- A row by its kind: what its tests say, what its step finds, and its answer in the calculus.
use mathlib.Core.Path.{◌≡◌, refl, sym, ap, subst, ◌∙◌}
use mathlib.Core.Bool.{Bool, true, false, not, cond}
use mathlib.Core.List.{List, [], ◌∷◌}
use mathlib.Core.Logic.{inl, inr}
use Prim.Native.Nat.{ℕ, ◌<◌}
use native.Mathlib.Omega.{arith}
use lib.Dec.{T, eqb, leb, ltb, leb→le, ltb→lt}
use Rattle.calculus.specs.declared.Step.{Step}
use Rattle.calculus.specs.declared.Kind.{Kind}
use Rattle.calculus.specs.declared.Kind.TheVariants.{Decide, Resolve, Clear, Jump, Flip, Learn, Unlisted}
use Rattle.calculus.specs.declared.Refusal.{Refusal}
use Rattle.calculus.specs.declared.Refusal.TheVariants.{Columns, State, NoRow}
use Rattle.calculus.specs.Lists.{all}
use Rattle.calculus.specs.Numbers.{unless, number, place, number_in, place_in}
use Rattle.calculus.specs.Sheets.{blank, term_rows}
use Rattle.calculus.specs.Trail.{Set, Trail}
use Rattle.calculus.specs.Terms.{filled}
use Rattle.calculus.specs.Steps as calculus
use Rattle.calculus.specs.Steps.{is_filled, premises, inference_shaped, pair_shaped, learn_shaped, shaped}
use Rattle.calculus.specs.Steps.{needs_conflict, ready, known, step_by, row_refusal, kind_of, step}
use Rattle.calculus.specs.Place.{strange_place, place_of}
use Rattle.calculus.proofs.Unplaced.{Unplaced, decide_nowhere, resolve_nowhere, clear_nowhere, jump_nowhere, flip_nowhere, learn_nowhere}
use Rattle.calculus.proofs.Facts.{facts, true_T, T_true, both_true, unless_ok}
use Rattle.trail.specs.Words.{trail_in}
use Rattle.moves.specs.Post.{conflict_in}
use Rattle.state.specs.declared.Status.{Status}
use Rattle.std.specs.Prelude.{Result, Ok, Err}
use Rattle.std.specs.Result.{IsErrAnd}
use Rattle.state.specs.declared.Next.TheVariants.{On, Refuted}
use Rattle.state.specs.States.{state_in, Standing, nowhere, Answer, Answers}
use Rattle.state.proofs.States.{in_conflict_lem, in_search, trail_there, conflict_there, refused_with, passed_by}
use Rattle.state.proofs.Tests.{told_not, told_yes, past, stops}
use Rattle.search_steps.specs.Searches.{Searching, Inferring, Inference}
use Rattle.conflicts.specs.Conflicts.{Conflicted}
use Rattle.learning.specs.Learns.{ToLearn}
use Rattle.steps.specs.Rows.{RowRefused}

-- ---- the kinds that infer

-- they have one shape of row
infers_shape : (x : Step) {k : Kind} → Inference k → shaped x k ≡ inference_shaped x
unfolding shaped
infers_shape x (inl e) = rw e
infers_shape x (inr (inl e)) = rw e
infers_shape x (inr (inr e)) = rw e

pub infers_shaped : (x : Step) {k : Kind} {a : Bool} → Inference k → a ≡ inference_shaped x → a ≡ shaped x k
infers_shaped x i e = e ∙ sym (infers_shape x i)

-- and need a search
infers_in_search : {k : Kind} → Inference k → needs_conflict k ≡ false
infers_in_search (inl e) = rw e
infers_in_search (inr (inl e)) = rw e
infers_in_search (inr (inr e)) = rw e

pub infers_ready : {k : Kind} (b : Bool) → Inference k → not b ≡ cond (needs_conflict k) b (not b)
infers_ready b i = rw (infers_in_search i)

-- ---- what the tests say

-- the term is a row
known_term : (ts : List ℕ) (x : Step) → known ts x ≡ true → x.term < term_rows ts
unfolding known
known_term ts x e = ltb→lt _ _ (true_T _ (both_true (ltb x.term (term_rows ts)) _ e).0)

-- flip's p is filled, so it is a row
known_p : (ts : List ℕ) (x : Step) → shaped x Flip ≡ true → known ts x ≡ true → x.p < term_rows ts
unfolding shaped known premises
known_p ts x s k =
    let h : T (pair_shaped x) = true_T _ s in
    let p : T (is_filled x.p) = search facts depth 12 in
    go (eqb x.p blank) p (both_true (ltb x.term (term_rows ts)) _ k).1
  where
    rest : List ℕ
    rest = filled (x.q ∷ x.r ∷ x.s ∷ x.t ∷ [])

    go : (b : Bool) → T (not b) → all (λ q. ltb q (term_rows ts)) (cond b [] (x.p ∷ rest)) ≡ true → x.p < term_rows ts
    go true n h = absurd n
    go false n h = ltb→lt _ _ (true_T _ (both_true (ltb x.p (term_rows ts)) _ h).0)

module _ (w n : ℕ) (ts ws : List ℕ) (st : Status) (k : Kind) where
  -- the state suits the kind
  ready_there : ready (state_in w n ws st) k ≡ cond (needs_conflict k) st.conflict (not st.conflict)
  unfolding ready
  ready_there = ap (λ b. cond (needs_conflict k) b (not b)) (conflict_there w n ws st)

-- ---- the number of each test of a row

module _ (ts : List ℕ) (x : Step) {a b : Bool} where
  pub row_9 : a ≡ false → RowRefused ts x a b (Err Columns)
  unfolding place_of
  row_9 h = record { number = stops _ _ h; place = λ tr. refl }

  module _ (a_in : a ≡ true) where
    pub row_10 : b ≡ false → RowRefused ts x a b (Err State)
    unfolding place_of
    row_10 h = record { number = past _ _ a_in (stops _ _ h); place = λ tr. refl }

    module _ (b_in : b ≡ true) {c : Bool} (c_is : c ≡ known ts x) where
      pub row_11 : {p : ℕ} → c ≡ false → p ≡ strange_place ts x → RowRefused ts x a b (Err (NoRow p))
      unfolding place_of
      row_11 h q = record { number = past _ _ a_in (past _ _ b_in (stops _ _ (told_not c_is h))); place = λ tr. q }

      pub row_0 : c ≡ true → RowRefused ts x a b (Ok tt)
      unfolding place_of
      row_0 h = record { number = past _ _ a_in (past _ _ b_in (past _ _ (told_yes c_is h) refl)); place = λ tr. refl }

-- ---- a row of kind k

module _ (w n : ℕ) (ts ws : List ℕ) (st : Status) (x : Step) (k : Kind) (s : Standing w n ts ws st) (e : k ≡ kind_of x.step) where
  abbrev here : Trail
  here = trail_in w n ws st.count

  abbrev set : Set
  set = conflict_in w n ws

  abbrev at : ℕ → ℕ
  at = place_of ts here x

  abbrev the_step : calculus.Answer
  the_step = step ts (state_in w n ws st) x

  -- its refusal is c
  module _ {a b : Bool} {c : Result (Unit {0}) Refusal} (c_is : RowRefused ts x a b c) (a_is : a ≡ shaped x k)
      (b_is : b ≡ cond (needs_conflict k) st.conflict (not st.conflict)) where
    row_number : number_in c ≡ row_refusal ts (state_in w n ws st) x
    unfolding row_refusal
    row_number = c_is.number ∙ rw (sym e, a_is, b_is, ready_there w n ts ws st k)

    pub row_refused : {r : Refusal} (q : Answer) → c ≡ Err r → IsErrAnd q (λ p. p ≡ r) → Answers w n ts ws ws at the_step q
    unfolding Answers step
    row_refused (Ok y) z h = absurd h
    row_refused (Err p) z h =
        let n_is : number p ≡ number_in c = ap number h ∙ ap number_in (sym z) in
        let p_is : place p ≡ place_in c = ap place h ∙ ap place_in (sym z) in
        (refused_with p _ _ (n_is ∙ row_number), p_is ∙ c_is.place _ ∙ ap at (sym n_is), refl)

    -- or there is none
    module _ (c_no : c ≡ Ok tt) where
      none : 0 ≡ row_refusal ts (state_in w n ws st) x
      none = ap number_in (sym c_no) ∙ row_number

      passed : (shaped x k ≡ true) × (ready (state_in w n ws st) k ≡ true) × (known ts x ≡ true)
      unfolding row_refusal
      passed =
          let t = unless_ok _ 9 _ (omega arith) (sym none) in
          let u = unless_ok _ 10 _ (omega arith) t.1 in
          let v = unless_ok _ 11 _ (omega arith) u.1 in
          (ap (shaped x) e ∙ T_true _ t.0, ap (ready (state_in w n ws st)) e ∙ T_true _ u.0, T_true _ v.0)

      suits_there : cond (needs_conflict k) st.conflict (not st.conflict) ≡ true
      suits_there = sym (ready_there w n ts ws st k) ∙ passed.1

      term_row : x.term < n
      term_row = let h = known_term ts x passed.2 in omega (arith, s.held.rows)

      -- ---- what its step finds

      pub row_search : needs_conflict k ≡ false → Searching w n ts ws st x.term
      row_search q = record { standing = s; search = go st.conflict (rw q at suits_there); row = term_row }
        where
          go : (b : Bool) → not b ≡ true → b ≡ false
          go true h = sym h
          go false h = refl

      pub row_infers : Inference k → Inferring w n ts ws st x
      row_infers i =
          let h : T (inference_shaped x) = true_T _ (sym (infers_shape x i) ∙ passed.0) in
          let v : T (leb x.value 1) = search facts depth 12 in
          record { searching = row_search (infers_in_search i); truth = leb→le _ _ v }

      pub row_conflict : needs_conflict k ≡ true → Conflicted w n ts ws st x.term
      row_conflict q = record { standing = s; conflict = rw q at suits_there; row = term_row }

      pub row_p : k ≡ Flip → x.p < n
      row_p q = let h = known_p ts x (ap (shaped x) (sym q) ∙ passed.0) passed.2 in omega (arith, s.held.rows)

      pub row_learns : k ≡ Learn → ToLearn w n ts ws st x
      unfolding known shaped
      row_learns q =
          let h : all (λ p. ltb p (term_rows ts)) (premises x) ≡ true = (both_true (ltb x.term (term_rows ts)) _ passed.2).1 in
          let l : T (learn_shaped x) = true_T _ (ap (shaped x) (sym q) ∙ passed.0) in
          let t : x.t ≡ blank = search facts depth 12 in
          record { conflicted = row_conflict (ap needs_conflict q); known = rw s.held.rows h; four = t }

      -- ---- the answer of each kind

      module _ (vs : List ℕ) (r : Answer) where
        abbrev Answered : calculus.Answer → Type 0
        Answered a = Answers w n ts ws vs at a r

        -- of a step whose own numbers have no place
        abbrev Said : calculus.Answer → Type 0
        Said a = Answers w n ts ws vs nowhere a r

        told : (a : calculus.Answer) → Unplaced ts here x a → Said a → Answered a
        unfolding Answers
        told a u h = go r h
          where
            go : (b : Answer) → Answers w n ts ws vs nowhere a b → Answers w n ts ws vs at a b
            go (Ok (On next)) h = h
            go (Ok Refuted) h = h
            go (Err c) h = (h.0, h.1 ∙ sym (subst (Unplaced ts here x) h.0 u).none, h.2)

        -- the row's answer is that of its step
        by : {a : calculus.Answer} → step_by ts k (state_in w n ws st) x ≡ a → Answered a → Answered the_step
        unfolding step
        by q h =
            let on = passed_by _ none refl ∙ ap (λ j. step_by ts j (state_in w n ws st) x) (sym e) in
            subst Answered (sym (on ∙ q)) h

        pub decide_by : k ≡ Decide → Said (calculus.decide ts here x.term x.value) → Answered the_step
        unfolding step_by
        decide_by q h = by (rw (q, trail_there w n ws st)) (told _ (decide_nowhere ts here x x.term _) h)

        pub infer_by : Inference k → Answered (step_by ts k (calculus.searching here) x) → Answered the_step
        infer_by i h = by (ap (λ y. step_by ts k y x) (in_search w n ws st (row_search (infers_in_search i)).search)) h

        -- a step that needs a conflict finds one
        in_a_conflict : needs_conflict k ≡ true → state_in w n ws st ≡ calculus.conflict here set
        in_a_conflict q = in_conflict_lem w n ws st (row_conflict q).conflict

        pub resolve_by : k ≡ Resolve → Said (calculus.resolve ts here set x.term) → Answered the_step
        unfolding step_by
        resolve_by q h = by (rw (in_a_conflict (ap needs_conflict q), q)) (told _ (resolve_nowhere ts here x x.term set) h)

        pub clear_by : k ≡ Clear → Said (calculus.clear ts here set x.term) → Answered the_step
        unfolding step_by
        clear_by q h = by (rw (in_a_conflict (ap needs_conflict q), q)) (told _ (clear_nowhere ts here x x.term set) h)

        pub jump_by : k ≡ Jump → Said (calculus.jump ts here set x.term) → Answered the_step
        unfolding step_by
        jump_by q h = by (rw (in_a_conflict (ap needs_conflict q), q)) (told _ (jump_nowhere ts here x x.term set) h)

        pub flip_by : k ≡ Flip → Said (calculus.flip ts here set x.term x.p) → Answered the_step
        unfolding step_by
        flip_by q h = by (rw (in_a_conflict (ap needs_conflict q), q)) (told _ (flip_nowhere ts here x x.term set _) h)

        pub learn_by : k ≡ Learn → Said (calculus.learn ts here set x.term x.value (premises x)) → Answered the_step
        unfolding step_by
        learn_by q h = by (rw (in_a_conflict (ap needs_conflict q), q)) (told _ (learn_nowhere ts here x x.term set _ _) h)

-- a row that is not listed
pub unlisted_row : (w n : ℕ) (ts ws : List ℕ) (st : Status) (x : Step) {k : Kind} → k ≡ kind_of x.step → k ≡ Unlisted
    → Answers w n ts ws ws (place_of ts (trail_in w n ws st.count) x) (step ts (state_in w n ws st) x) (Err Columns)
unfolding Answers step row_refusal calculus.answer shaped unless place_of
unlisted_row w n ts ws st x e q = (rw (sym e ∙ q), refl, refl)
