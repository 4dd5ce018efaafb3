-- The step definition is the paper's relation: at every state that a list of steps can reach, over every sheet that passes its checks.
use mathlib.Core.Path.{◌≡◌, refl, ap, ◌∙◌}
use mathlib.Core.List.Memᴰ
use mathlib.Core.List.{List, [], ◌∷◌, map, Memᴰ}
use Prim.Native.Nat.{ℕ, zero, suc, ◌≤◌, ◌<◌}
use native.Mathlib.Omega.{arith}
use lib.ListN.{length, get_or, length-map}
use Rattle.calculus.specs.declared.Step.{Step}
use Rattle.calculus.specs.declared.Kind.{Kind}
use Rattle.calculus.specs.declared.Premise.{Premise}
use Rattle.calculus.specs.declared.Rule.{Rule}
use Rattle.calculus.specs.Lists.{has}
use Rattle.calculus.specs.Sheets.{Call, blank, term_rows, length_refusal}
use Rattle.calculus.specs.Sorts.{sorts_refusal}
use Rattle.calculus.specs.Terms.{terms_refusal}
use Rattle.calculus.specs.Trail.{Trail}
use Rattle.calculus.specs.Rules.{row_of, rule_of}
use Rattle.calculus.specs.WellFormed.{WellFormed, WellFormedState, Coherent}
use Rattle.calculus.specs.Steps.{State, kind_of}
use Rattle.calculus.specs.Run.{run, start, sheets_refusal, call_refusal}
use Rattle.calculus.proofs.Facts.{true_T, T_true, unless_ok, or_else_ok, facts}
use Rattle.calculus.proofs.WellFormed.{level_small}
use Rattle.figure.specs.Transitions.{Inferred, Action, Result, Transition}
use Rattle.figure.specs.Transitions.{Decide, Deduce, Fail, Conflict, Resolve, Undo, Backjump, UndoDecide, LearnBackjump}
use Rattle.figure.specs.Spelling.{Filled, FromLeft, no_column, blank_column, filled_column, Columns, Spells, SixteenBits, FiveColumns, Writable}
use Rattle.figure.specs.Faithful.{RulesFaithful, Faithful}
use Rattle.calculus.proofs.WellSorted.{well_sorted}
use Rattle.calculus.proofs.Truths.{run_coherent, start_coherent}
use Rattle.figure.proofs.Connectives.{opposite_sum}
use Rattle.figure.proofs.Rules.{fits_infers, infers_fits, infers_short}
use Rattle.figure.proofs.Trails.{level_of_lem, below_row, assigned_row}
use Rattle.figure.proofs.Spelling.{rule_number}
use Rattle.figure.proofs.Forth.{forth, premise_rows}
use Rattle.figure.proofs.Back.{back}

-- ---- a row for an action

abbrev Small : List ℕ → Type 0
Small ps = (p : ℕ) → Memᴰ p ps → p < blank

full : (p : ℕ) → p < blank → Filled p p
full p l = (refl, λ q. omega arith)

-- f 0, f 1, .., f (n - 1)
abbrev up_to : ℕ → (ℕ → ℕ) → List ℕ
up_to zero f = []
up_to (suc n) f = f 0 ∷ up_to n (λ k. f (suc k))

-- ps from the left in n columns
cells_left : (n : ℕ) (ps : List ℕ) → length ps ≤ n → Small ps → FromLeft (up_to n (λ k. get_or ps k blank)) ps
cells_left zero [] l s = no_column
cells_left zero (p ∷ ps) l s = absurd (omega arith)
cells_left (suc n) [] l s = blank_column refl (cells_left n [] (omega arith) s)
cells_left (suc n) (p ∷ ps) l s = filled_column (full p (s p (Memᴰ.head refl))) (cells_left n ps (omega arith) (λ q m. s q (Memᴰ.tail m)))

cell_small : (ps : List ℕ) (k : ℕ) → Small ps → get_or ps k blank ≤ blank
cell_small [] k s = omega arith
cell_small (p ∷ ps) zero s = let l = s p (Memᴰ.head refl) in omega arith
cell_small (p ∷ ps) (suc k) s = cell_small ps k (λ q m. s q (Memᴰ.tail m))

-- a row with these columns, each of 16 bits
record Written (k : Kind) (n t v : ℕ) (ps : List ℕ) : Type 0 where
  pub row : Step
  pub sheet : SixteenBits row
  pub cols : Columns row k t ps
  pub rule : row.rule ≡ n
  pub value : row.value ≡ v

write : (k : ℕ) (n t v : ℕ) (ps : List ℕ) → k ≤ 8 → n ≤ blank → t < blank → v ≤ blank → length ps ≤ 5 → Small ps → Written (kind_of k) n t v ps
write k n t v ps i j l m f s =
    let cell : ℕ → ℕ = λ i. get_or ps i blank in
    record {
      row = record { step = k; rule = n; term = t; value = v; p = cell 0; q = cell 1; r = cell 2; s = cell 3; t = cell 4 };
      sheet = record {
        step = omega arith;
        rule = j;
        term = omega arith;
        value = m;
        p = cell_small ps 0 s;
        q = cell_small ps 1 s;
        r = cell_small ps 2 s;
        s = cell_small ps 3 s;
        t = cell_small ps 4 s;
      };
      cols = record { kind = refl; subject = full t l; rows = cells_left 5 ps f s };
      rule = refl;
      value = refl;
    }

module _ (ts : List ℕ) (short : term_rows ts ≤ 256) where
  abbrev Row : Action → Type 0
  Row a = (x : Step) × SixteenBits x × Spells x a

  no_premises : Small []
  no_premises p m = absurd (Memᴰ.not-nil m)

  -- the term alone
  alone : (k t : ℕ) → k ≤ 8 → t < term_rows ts → Written (kind_of k) blank t blank []
  alone k t i l = write k blank t blank [] i (omega arith) (omega arith) (omega arith) (omega arith) no_premises

  -- the rule, its premises, the term and its value
  inference_row : {tr : Trail} {r : Rule} {J : List Premise} {l v w : ℕ} (k : ℕ) → k ≤ 8 → WellFormed (term_rows ts) tr → l < term_rows ts
      → Inferred ts tr r J l v w → FiveColumns r (map row_of J)
      → (x : Step) × SixteenBits x × (Columns x (kind_of k) l (map row_of J) × (rule_of x.rule ≡ r) × Filled x.value v)
  inference_row {r = r} {J = ps} {l} {v} k i R b h five =
      let m = length-map ps row_of in
      let s = infers_short h.inference (λ e. let f = five e in omega arith) in
      let o = opposite_sum h.other in
      let n = rule_number r in
      let y = write k n.0 l v (map row_of ps) i (omega (arith, n.2)) (omega arith) (omega arith) (omega arith)
      (λ p q. let z = premise_rows ts R h p q in omega arith) in
      (y.row, y.sheet, (y.cols, ap rule_of y.rule ∙ n.1, (y.value, λ q. omega arith)))

  row_of_lem : {s : State} {a : Action} {r : Result} → Coherent ts s → Writable a → Transition ts s a r → Row a
  unfolding WellFormedState kind_of
  row_of_lem h w (Decide {t = t} {v} b s a l) =
      let y = write 0 blank t v [] (omega arith) (omega arith) (omega arith) (omega arith) (omega arith) no_premises in
      (y.row, y.sheet, (y.cols, y.rule, (y.value, λ q. omega arith)))
  row_of_lem h w (Deduce b i n z) = inference_row 1 (omega arith) h.well_formed b i w
  row_of_lem h w (Fail i a z) = inference_row 7 (omega arith) h.well_formed (assigned_row h.well_formed a) i w
  row_of_lem h w (Conflict i a z m) = inference_row 2 (omega arith) h.well_formed (assigned_row h.well_formed a) i w
  row_of_lem h w (Resolve {tr} a j z f) =
      let y = alone 3 _ (omega arith) (below_row tr _ h.well_formed.0 a.0) in
      (y.row, y.sheet, (y.cols, y.rule, y.value))
  row_of_lem h w (Undo {tr} a o e z l r) =
      let y = alone 4 _ (omega arith) (below_row tr _ h.well_formed.0 a.0) in
      (y.row, y.sheet, (y.cols, y.rule, y.value))
  row_of_lem h w (Backjump {tr} a b o z l r) =
      let y = alone 5 _ (omega arith) (below_row tr _ h.well_formed.0 a.0) in
      (y.row, y.sheet, (y.cols, y.rule, y.value))
  row_of_lem h w (UndoDecide {tr} {l = l} {k = k} hl jl b o hk jk ne dl dk fo e z r u) =
      let i = below_row tr l h.well_formed.0 hl.0 in
      let j = below_row tr k h.well_formed.0 hk.0 in
      let y = write 6 blank l.term blank (k.term ∷ []) (omega arith) (omega arith) (omega arith) (omega arith) (omega arith)
      (λ p m. let q = Memᴰ.eq_of_singleton m in omega arith) in
      (y.row, y.sheet, (y.cols, y.rule, y.value))
  row_of_lem h w (LearnBackjump {tr} {H = H} {t = t} {m = m} M b form a z low y high r) =
      let R = h.well_formed.0 in
      let n = length-map H row_of in
      let four = M.few in
      let d = level_of_lem y in
      let s = level_small tr (has (map row_of H)) R in
      let u = write 8 blank t m (map row_of H) (omega arith) (omega arith) (omega arith) (omega arith) (omega arith)
      (λ q i. let o = Memᴰ.of_map row_of H i in let e = assigned_row R (M.on_trail o.0 o.1) in let g = o.2 in omega arith) in
      (u.row, u.sheet, (u.cols, u.rule, (u.value, λ q. omega arith)))

  -- ---- the theorem

  pub rules_faithful : (ss : List ℕ) → terms_refusal ss ts ≡ 0 → RulesFaithful ts
  rules_faithful ss ok r J l v k rows truths =
      (λ h. fits_infers (well_sorted ss ts ok) l v k r J (true_T _ h) rows truths, λ i. T_true _ (infers_fits i))

  pub faithful : (ss : List ℕ) → terms_refusal ss ts ≡ 0 → (s : State) → Coherent ts s → Faithful ts s
  faithful ss ok s h =
      let W = well_sorted ss ts ok in
      record {
        exact = λ x r. (back ts W x r s h, λ y. forth ts W h y.2 x y.1);
        complete = λ a r w t. (let y = row_of_lem h w t in (y.0, y.1, y.2, forth ts W h t y.0 y.2));
      }

-- over the sheets of a call that get no number, at every state that a list of steps can reach: after the first k rows of a log, whatever it holds
pub call_faithful : (x : Call) → call_refusal x ≡ 0 → (log : List ℕ) (k : ℕ) → Faithful x.terms (run x.terms log (start x) 0 k).state
unfolding call_refusal sheets_refusal length_refusal
call_faithful x e log k =
    let a = or_else_ok (length_refusal x) _ e in
    let b = or_else_ok (sorts_refusal x.sorts) _ a.1 in
    let c = or_else_ok (terms_refusal x.sorts x.terms) _ b.1 in
    let d = unless_ok _ 31 _ (omega arith) a.0 in
    let f = unless_ok _ 30 _ (omega arith) d.1 in
    let g = f.0 in
    let short : term_rows x.terms ≤ 256 = search facts in
    faithful x.terms short x.sorts c.0 _ (run_coherent x.terms log (start x) 0 k (start_coherent x.terms x.inputs c.1))
