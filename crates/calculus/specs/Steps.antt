-- The nine steps: the numbers 9 to 23 and 25 to 27 in their order, and what an allowed step makes of trail and conflict.
-- Beside each step stands the name of its transition: learn's is from figure 1 of the journal article, the others' from figure 3 of the CADE 2017 paper.
use Rattle.std.specs.Prelude.{Bool, true, false, not, ◌&&◌, ◌||◌, cond, List, [], ◌∷◌, ℕ, zero, suc, ◌+◌, ◌-◌, ◌*◌, get_or, eqb, leb, ltb}
use Rattle.calculus.specs.declared.Step.{Step}
use Rattle.calculus.specs.declared.Kind.{Kind}
use Rattle.calculus.specs.declared.Kind.TheVariants.{Decide, Deduce, Clash, Resolve, Clear, Jump, Flip, Fail, Learn, Unlisted}
use Rattle.calculus.specs.Lists.{all, has, num, opposite}
use Rattle.calculus.specs.Numbers.{unless}
use Rattle.calculus.specs.Sheets.{blank, term_rows}
use Rattle.calculus.specs.Terms.{arg, prop, filled, left_filled, eq_head}
use Rattle.calculus.specs.Trail.{Set, Entry, Trail, empty, everything, remove, without, union, intersection, on, value_at, level_at, decided_at, why_at, assigned, premises_at, holds, first_order, level_of, kept_to, decision, justified}
use Rattle.calculus.specs.Inputs.{value_suits}
use Rattle.calculus.specs.Rules.{is_head, fits, rule_of, rule_listed}
use Rattle.calculus.specs.Clauses.{different, is_clause, clause_value, clausal}

-- ---- states and answers

-- a trail in search, or a trail with a conflict: a set of assignments on it
pub data State : Type 0 where
  searching : Trail → State
  conflict : Trail → Set → State

abbrev pub trail_of : State → Trail
trail_of (searching tr) = tr
trail_of (conflict tr E) = tr

abbrev pub conflict_of : State → Set
conflict_of (searching tr) = empty
conflict_of (conflict tr E) = E

abbrev pub in_conflict : State → Bool
in_conflict (searching tr) = false
in_conflict (conflict tr E) = true

pub data Answer : Type 0 where
  allowed : State → Answer
  refuted : Answer
  refused : ℕ → Answer

-- refused with the number c, or the answer a where c is 0
unfoldable pub answer : ℕ → Answer → Answer
answer zero a = a
answer (suc c) a = refused (suc c)

-- ---- step rows

-- row n of the step sheet: step, rule, term, value and five premises
abbrev pub step_at : List ℕ → ℕ → Step
step_at log n =
    record {
      step = get_or log (n * 9) 0;
      rule = get_or log (n * 9 + 1) 0;
      term = get_or log (n * 9 + 2) 0;
      value = get_or log (n * 9 + 3) 0;
      p = get_or log (n * 9 + 4) 0;
      q = get_or log (n * 9 + 5) 0;
      r = get_or log (n * 9 + 6) 0;
      s = get_or log (n * 9 + 7) 0;
      t = get_or log (n * 9 + 8) 0;
    }

abbrev pub premise_cells : Step → List ℕ
premise_cells x = x.p ∷ x.q ∷ x.r ∷ x.s ∷ x.t ∷ []

unfoldable pub premises : Step → List ℕ
premises x = filled (premise_cells x)

-- decide, deduce, clash, resolve, clear, jump, flip, fail, learn
abbrev pub kinds : List Kind
kinds = Decide ∷ Deduce ∷ Clash ∷ Resolve ∷ Clear ∷ Jump ∷ Flip ∷ Fail ∷ Learn ∷ []

unfoldable pub kind_of : ℕ → Kind
kind_of n = get_or kinds n Unlisted

-- ---- number 9: the step is listed, its columns are filled, and no others

abbrev pub is_blank : ℕ → Bool
is_blank x = eqb x blank

abbrev pub is_filled : ℕ → Bool
is_filled x = not (eqb x blank)

-- term and value
abbrev pub decision_shaped : Step → Bool
decision_shaped x = is_blank x.rule && (is_filled x.term && (is_filled x.value && all is_blank (premise_cells x)))

-- rule, term, a truth value, and premises from the left
abbrev pub inference_shaped : Step → Bool
inference_shaped x = rule_listed x.rule && (is_filled x.term && (leb x.value 1 && left_filled (premise_cells x)))

-- the term alone
abbrev pub term_shaped : Step → Bool
term_shaped x = is_blank x.rule && (is_filled x.term && (is_blank x.value && all is_blank (premise_cells x)))

-- the term and p
abbrev pub pair_shaped : Step → Bool
pair_shaped x =
    is_blank x.rule
    && (is_filled x.term
    && (is_blank x.value
    && (is_filled x.p && all is_blank (x.q ∷ x.r ∷ x.s ∷ x.t ∷ []))))

-- the term, a level as its value, and from the left two to four members
abbrev pub learn_shaped : Step → Bool
learn_shaped x =
    is_blank x.rule
    && (is_filled x.term
    && (is_filled x.value
    && (is_filled x.p && (is_filled x.q && (is_blank x.t && left_filled (premise_cells x))))))

unfoldable pub shaped : Step → Kind → Bool
shaped x Decide = decision_shaped x
shaped x Deduce = inference_shaped x
shaped x Clash = inference_shaped x
shaped x Resolve = term_shaped x
shaped x Clear = term_shaped x
shaped x Jump = term_shaped x
shaped x Flip = pair_shaped x
shaped x Fail = inference_shaped x
shaped x Learn = learn_shaped x
shaped x Unlisted = false

-- ---- number 10: decide, deduce, clash and fail need a search state, the others a conflict

abbrev pub needs_conflict : Kind → Bool
needs_conflict Decide = false
needs_conflict Deduce = false
needs_conflict Clash = false
needs_conflict Resolve = true
needs_conflict Clear = true
needs_conflict Jump = true
needs_conflict Flip = true
needs_conflict Fail = false
needs_conflict Learn = true
needs_conflict Unlisted = false

unfoldable pub ready : State → Kind → Bool
ready s k = cond (needs_conflict k) (in_conflict s) (not (in_conflict s))

-- ---- what steps make of the trail

-- premises and opposite of a clash or a fail
abbrev pub clash_set : ℕ → List ℕ → Set
clash_set l ps = has (l ∷ ps)

-- all of them at level 0
abbrev pub at_base : Trail → Set → Bool
at_base tr E = eqb (level_of tr E) 0

-- the trail kept to m, then t with the value v, which s justifies
abbrev pub backjumped : Trail → Set → ℕ → ℕ → ℕ → Trail
backjumped tr s t v m = justified (kept_to m tr) t v s ∷ kept_to m tr

-- the same of l with the opposite of its value
abbrev pub jumped : Trail → Set → ℕ → ℕ → Trail
jumped tr s l m = backjumped tr s l (opposite (value_at tr l)) m

-- the trail kept to m, then the opposite of l as a decision
abbrev pub flipped : Trail → ℕ → ℕ → Trail
flipped tr l m = decision (kept_to m tr) l (opposite (value_at tr l)) ∷ kept_to m tr

-- a and b have values, but v is not what same or differ would give a = b: 1 where the values are equal, else 0
abbrev pub misfits : Trail → ℕ → ℕ → ℕ → Bool
misfits tr a b v = on tr a && (on tr b && not (eqb v (num (eqb (value_at tr a) (value_at tr b)))))

module _ (ts : List ℕ) where
  -- ---- number 11: the term and the premises are rows

  unfoldable pub known : Step → Bool
  known x = ltb x.term (term_rows ts) && all (λ p. ltb p (term_rows ts)) (premises x)

  -- ---- steps of the search

  -- an entry t = u or u = t, where u has a value, t itself included, whose value is not what same or differ would give it
  abbrev pub opposes : Trail → ℕ → Entry → Bool
  opposes tr t e =
      let a = arg ts e.term 0 in
      let b = arg ts e.term 1 in
      is_head ts e.term eq_head && ((eqb a t || eqb b t) && misfits tr a b e.value)

  -- t with the value v is acceptable (Definition 3 of the CADE 2017 paper): t is a prop, or the trail with the decision added has no such entry
  unfoldable pub acceptable : Trail → ℕ → ℕ → Bool
  acceptable tr t v =
      let added = decision tr t v ∷ tr in
      prop ts t || not (holds added everything (opposes added t))

  -- decide (Decide): the term with its value as a decision
  unfoldable pub decide_refusal : Trail → ℕ → ℕ → ℕ
  decide_refusal tr t v =
      unless (value_suits ts t v) 22 (
      unless (not (on tr t)) 14 (
      unless (acceptable tr t v) 27 0))

  unfoldable pub decide : Trail → ℕ → ℕ → Answer
  decide tr t v = answer (decide_refusal tr t v) (allowed (searching (decision tr t v ∷ tr)))

  -- rule r gives the prop l the value v from the rows ps; the rest is the step's own
  unfoldable pub inference_refusal : Trail → ℕ → ℕ → ℕ → List ℕ → ℕ → ℕ
  inference_refusal tr r l v ps rest =
      unless (prop ts l) 22 (
      unless (all (on tr) ps) 12 (
      unless (fits ts (rule_of r) l v (premises_at tr ps)) 13 rest))

  -- deduce (Deduce): the premises justify l; neither value is there
  unfoldable pub deduce_refusal : Trail → ℕ → ℕ → ℕ → List ℕ → ℕ
  deduce_refusal tr r l v ps =
      inference_refusal tr r l v ps (
      unless (not (assigned tr l v)) 14 (
      unless (not (on tr l)) 15 0))

  unfoldable pub deduce : Trail → ℕ → ℕ → ℕ → List ℕ → Answer
  deduce tr r l v ps = answer (deduce_refusal tr r l v ps) (allowed (searching (justified tr l v (has ps) ∷ tr)))

  -- a contradiction, which clash and fail share: the opposite is there; whether the level suits is the step's own
  unfoldable pub contradiction_refusal : Trail → ℕ → ℕ → ℕ → List ℕ → Bool → ℕ
  contradiction_refusal tr r l v ps level_suits =
      inference_refusal tr r l v ps (
      unless (assigned tr l (opposite v)) 16 (
      unless level_suits 26 0))

  -- clash (the opening of ConflictSolve): above level 0, premises and opposite are the conflict
  unfoldable pub clash_refusal : Trail → ℕ → ℕ → ℕ → List ℕ → ℕ
  clash_refusal tr r l v ps = contradiction_refusal tr r l v ps (not (at_base tr (clash_set l ps)))

  unfoldable pub clash : Trail → ℕ → ℕ → ℕ → List ℕ → Answer
  clash tr r l v ps = answer (clash_refusal tr r l v ps) (allowed (conflict tr (clash_set l ps)))

  -- fail (Fail): at level 0 they refute the input
  unfoldable pub fail_refusal : Trail → ℕ → ℕ → ℕ → List ℕ → ℕ
  fail_refusal tr r l v ps = contradiction_refusal tr r l v ps (at_base tr (clash_set l ps))

  unfoldable pub fail : Trail → ℕ → ℕ → ℕ → List ℕ → Answer
  fail tr r l v ps = answer (fail_refusal tr r l v ps) refuted

  -- ---- steps of a conflict E

  -- resolve (Resolve): a's justification, which holds no first-order decision at E's level, takes a's place in E
  unfoldable pub resolve_refusal : Trail → Set → ℕ → ℕ
  resolve_refusal tr E a =
      unless (E a) 17 (
      unless (not (decided_at tr a)) 18 (
      unless (not (holds tr (why_at tr a) (first_order ts (level_of tr E)))) 19 0))

  unfoldable pub resolve : Trail → Set → ℕ → Answer
  resolve tr E a = answer (resolve_refusal tr E a) (allowed (conflict tr (union (remove E a) (why_at tr a))))

  -- clear (Undo): a first-order decision above the rest of E is undone, with all of its level and above
  unfoldable pub clear_refusal : Trail → Set → ℕ → ℕ
  clear_refusal tr E a =
      unless (E a) 17 (
      unless (decided_at tr a && not (prop ts a)) 20 (
      unless (ltb (level_of tr (remove E a)) (level_at tr a)) 21 0))

  unfoldable pub clear : Trail → Set → ℕ → Answer
  clear tr E a = answer (clear_refusal tr E a) (allowed (searching (kept_to (level_at tr a - 1) tr)))

  -- jump (Backjump): back to the level of the rest of E, which justifies the opposite of l
  unfoldable pub jump_refusal : Trail → Set → ℕ → ℕ
  jump_refusal tr E l =
      unless (E l) 17 (
      unless (prop ts l) 22 (
      unless (ltb (level_of tr (remove E l)) (level_at tr l)) 21 0))

  unfoldable pub jump : Trail → Set → ℕ → Answer
  jump tr E l = answer (jump_refusal tr E l) (allowed (searching (jumped tr (remove E l) l (level_of tr (remove E l)))))

  -- flip (UndoDecide): l and k share a first-order decision at E's level; below that level the opposite of l is decided
  unfoldable pub flip_refusal : Trail → Set → ℕ → ℕ → ℕ
  flip_refusal tr E l k =
      unless (E l && E k) 17 (
      unless (prop ts l) 22 (
      unless (not (decided_at tr l) && not (decided_at tr k)) 18 (
      unless (not (eqb l k) && holds tr (intersection (why_at tr l) (why_at tr k)) (first_order ts (level_of tr E))) 23 0)))

  unfoldable pub flip : Trail → Set → ℕ → ℕ → Answer
  flip tr E l k = answer (flip_refusal tr E l k) (allowed (searching (flipped tr l (level_of tr E - 1))))

  -- learn (LearnBackjump): back to a level m from that of the rest of E to below that of its members hs; the rest justifies t, a clausal form of hs
  unfoldable pub learn_refusal : Trail → Set → ℕ → ℕ → List ℕ → ℕ
  learn_refusal tr E t m hs =
      unless (all E hs) 17 (
      unless (all (prop ts) hs && is_clause ts t) 22 (
      unless (different hs && clausal ts t (premises_at tr hs)) 25 (
      unless (not (on tr t)) 14 (
      unless (leb (level_of tr (without E hs)) m && ltb m (level_of tr (has hs))) 21 0))))

  unfoldable pub learn : Trail → Set → ℕ → ℕ → List ℕ → Answer
  learn tr E t m hs = answer (learn_refusal tr E t m hs) (allowed (searching (backjumped tr (without E hs) t (clause_value ts t) m)))

  -- ---- a step

  unfoldable pub row_refusal : State → Step → ℕ
  row_refusal s x =
      unless (shaped x (kind_of x.step)) 9 (
      unless (ready s (kind_of x.step)) 10 (
      unless (known x) 11 0))

  unfoldable pub step_by : Kind → State → Step → Answer
  step_by Decide s x = decide (trail_of s) x.term x.value
  step_by Deduce s x = deduce (trail_of s) x.rule x.term x.value (premises x)
  step_by Clash s x = clash (trail_of s) x.rule x.term x.value (premises x)
  step_by Resolve s x = resolve (trail_of s) (conflict_of s) x.term
  step_by Clear s x = clear (trail_of s) (conflict_of s) x.term
  step_by Jump s x = jump (trail_of s) (conflict_of s) x.term
  step_by Flip s x = flip (trail_of s) (conflict_of s) x.term x.p
  step_by Fail s x = fail (trail_of s) x.rule x.term x.value (premises x)
  step_by Learn s x = learn (trail_of s) (conflict_of s) x.term x.value (premises x)
  step_by Unlisted s x = refused 9

  unfoldable pub step : State → Step → Answer
  step s x = answer (row_refusal s x) (step_by (kind_of x.step) s x)
