-- The walks of a row and of its arguments, by what is found below.
use mathlib.Core.Path.{◌≡◌, refl, sym, ap, subst, ◌∙◌}
use mathlib.Core.Logic.{◌≢◌, ◌⊎◌, inl, inr}
use mathlib.Core.Bool.{Bool, true, false, not, ◌&&◌, ◌||◌, cond, and-false}
use mathlib.Core.List.{List, [], ◌∷◌}
use Prim.Native.Nat.{ℕ, zero, suc, ◌+◌, ◌-◌, ◌/◌, ◌≤◌}
use native.Mathlib.Omega.{arith}
use lib.Dec.{eqb, leb}
use Rattle.std.specs.Prelude.{reverse}
use Rattle.std.specs.List.{fold}
use Rattle.std.proofs.lemmas.List.{reverse-append}
use Rattle.std.proofs.lemmas.List.Sums.{fold-append}
use borrow.Author.Tests.{eqb-true, eqb-false, eq-eqb, ne_eqb, leb-true, not-true, not-false}
use Rattle.calculus.specs.declared.Premise.{Premise}
use Rattle.calculus.specs.declared.Term.{Term}
use Rattle.calculus.specs.declared.Rule.TheVariants.{Deep}
use Rattle.calculus.specs.Lists.{all, num}
use Rattle.calculus.specs.Sheets.{blank}
use Rattle.calculus.specs.Terms.{head, args, cells, args_of, term_at, filled}
use Rattle.calculus.specs.Rules.{layers, is_premise, premise_value, is_connective, grounded, fits}
use Rattle.calculus.proofs.Facts.{true_T, is_or_not, none_true}
use Rattle.calculus.proofs.Deep.{value_here}
use Rattle.rule_claims.specs.Claims.{stated}
use Rattle.rule_deep.specs.declared.Walked.{Walked}
use Rattle.rule_deep.specs.Walks.{marked, every_one, same_row, unpacked, Small, Says, no_argument, joined, chain, Notes, recalled, Remembered}
use Rattle.rule_deep.specs.Walks.{FindsRow, FindsArgs, Knows, WalksRow, WalksArgs}
use Rattle.rule_deep.proofs.Bits.{on_premise}
use Rattle.rule_deep.proofs.Numbers.{risen, rises, premised_none, premised_met}
use Rattle.rule_deep.proofs.Finds.{at_premise, above, no_argument_lem, one_more, value_num, fits_found, met_short}
use Rattle.rule_deep.proofs.Memory.{recalled_first, recalled_found, recalled_none, knows_premises, knows_more}

-- ---- tests passed

-- a connective may lie below, and the row is one
pub goes_on : (n : ℕ) (b : Bool) → (eqb n 0 || not b) ≡ false → (1 ≤ n) × (b ≡ true)
goes_on n b h =
    let e = none_true (eqb n 0) (not b) h in
    (go n (eqb-false n 0 e.0), not-false b e.1)
  where
    go : (n : ℕ) → n ≢ 0 → 1 ≤ n
    go zero z = absurd (z refl)
    go (suc n) z = omega arith

-- an argument has a value, and another one follows
pub follows : (a x : ℕ) → (eqb a 0 || eqb x blank) ≡ false → (a ≢ 0) × (x ≢ blank)
follows a x h = let e = none_true (eqb a 0) (eqb x blank) h in (eqb-false a 0 e.0, eqb-false x blank e.1)

-- it has one, and none follows
ends : (a x : ℕ) → (eqb a 0 || eqb x blank) ≡ true → a ≢ 0 → x ≡ blank
ends a x h n = eqb-true x blank (rw (ne_eqb a 0 n) at h)

module _ (ts : List ℕ) (ps : List Premise) where
  -- ---- the walk of a row

  -- one that something is known of
  pub row_known : (memo : List ℕ) (n t : ℕ) {c a : ℕ} → Knows ts ps memo → c ≡ recalled ps memo t → c ≢ 0 → a ≡ cond (leb (unpacked c).height n) c 0
      → WalksRow ts ps memo n t a
  row_known memo n t {c} k c_is some a_is = subst (WalksRow ts ps memo n t) (sym a_is) (go (leb (unpacked c).height n) refl)
    where
      f : FindsRow ts ps t (unpacked c)
      f = recalled_found ts ps memo k t c c_is some

      go : (b : Bool) → leb (unpacked c).height n ≡ b → WalksRow ts ps memo n t (cond b c 0)
      go true e = record { lost = λ z. absurd (some z); found = λ m. (f, leb-true _ n e); knows = k }
      go false e = record { lost = λ z. f.reach n ∙ e; found = λ m. absurd (m refl); knows = k }

  module _ (memo : List ℕ) (n t : ℕ) (e : Term) (e_is : e ≡ term_at ts t) (off : is_premise ps t ≡ false) where
    -- no connective may lie below, or the row is none
    pub row_lost : {b : Bool} → b ≡ is_connective e.head → (eqb n 0 || not b) ≡ true → Knows ts ps memo → WalksRow ts ps memo n t 0
    unfolding grounded
    row_lost b_is h k = record { lost = λ z. go n there; found = λ m. absurd (m refl); knows = k }
      where
        there : (eqb n 0 || not (is_connective (head ts t))) ≡ true
        there = subst (λ (z : Term). (eqb n 0 || not (is_connective z.head)) ≡ true) e_is (rw b_is at h)

        go : (n : ℕ) → (eqb n 0 || not (is_connective (head ts t))) ≡ true → grounded ts ps n t ≡ false
        go zero h = off
        go (suc n) h = rw (off, not-true (is_connective (head ts t)) (rw (ne_eqb (suc n) 0 (λ (q : suc n ≡ 0). omega arith)) at h))

    module _ (some : 1 ≤ n) {b : ℕ} (w : WalksArgs ts ps memo (n - 1) e.head (args_of e) b) where
      -- an argument leads nowhere
      pub row_stopped : b ≡ 0 → WalksRow ts ps memo n t 0
      unfolding grounded cells args
      row_stopped z = record { lost = λ u. go n some there; found = λ m. absurd (m refl); knows = w.knows }
        where
          there : all (grounded ts ps (n - 1)) (args_of (term_at ts t)) ≡ false
          there = subst (λ (z : Term). all (grounded ts ps (n - 1)) (args_of z) ≡ false) e_is (w.lost z)

          go : (n : ℕ) → 1 ≤ n → all (grounded ts ps (n - 1)) (args_of (term_at ts t)) ≡ false → grounded ts ps n t ≡ false
          go zero l f = absurd (omega arith)
          go (suc n) l f =
              let q : suc n - 1 ≡ n = omega arith in
              rw (off, rw q at f, and-false (is_connective (head ts t)))

      -- all are grounded, and what is found is remembered
      pub row_found : n ≤ layers → is_connective e.head ≡ true → b ≢ 0 → (after : List ℕ) → Remembered memo after t (b + 4) → WalksRow ts ps after n t (b + 4)
      unfolding cells args
      row_found low c m after r =
          record { lost = λ z. absurd (some_number z); found = λ z. (f, high); knows = knows_more ts ps memo after t (b + 4) w.knows f some_number r }
        where
          some_number : b + 4 ≢ 0
          some_number z = omega arith

          up : unpacked (b + 4) ≡ risen (unpacked b)
          up = rises b (omega (arith, (w.found m).1))

          high : (unpacked (b + 4)).height ≤ n
          high = subst (λ (r : Walked). r.height ≤ n) (sym up) (omega (arith, (w.found m).1))

          f : FindsRow ts ps t (unpacked (b + 4))
          f =
              subst (FindsRow ts ps t) (sym up)
              (above ts ps t (unpacked b) off (subst (λ (z : Term). is_connective z.head ≡ true) e_is c)
              (subst (λ (z : Term). FindsArgs ts ps z.head (args_of z) (unpacked b)) e_is (w.found m).0))

  -- ---- the walks of its arguments

  module _ (n h : ℕ) (h_on : is_connective h ≡ true) where
    -- the numbers cs say what was found of the rows xs, of which each has at most n connectives on a path
    abbrev Good : List ℕ → List ℕ → Type 0
    Good xs cs = FindsArgs ts ps h xs (chain h cs) × ((chain h cs).height ≤ n)

    good_none : Good [] []
    good_none = (no_argument_lem ts ps h h_on, omega arith)

    good_end : (x : ℕ) (xs : List ℕ) → x ≡ blank → Good (filled (x ∷ xs)) []
    good_end x xs e = rw (eq-eqb x blank e) good_none

    good_more : (x a : ℕ) (xs cs : List ℕ) → x ≢ blank → FindsRow ts ps x (unpacked a) × ((unpacked a).height ≤ n) → Good (filled xs) cs
        → Good (filled (x ∷ xs)) (a ∷ cs)
    good_more x a xs cs d f g =
        rw (ne_eqb x blank d) (one_more ts ps h h_on x (unpacked a) f.0 (filled xs) (chain h cs) g.0, omega (arith, f.1, g.1))

    lost_here : (x : ℕ) (xs : List ℕ) → x ≢ blank → grounded ts ps n x ≡ false → all (grounded ts ps n) (filled (x ∷ xs)) ≡ false
    lost_here x xs d e = rw (ne_eqb x blank d, e)

    lost_later : (x : ℕ) (xs : List ℕ) → x ≢ blank → all (grounded ts ps n) (filled xs) ≡ false → all (grounded ts ps n) (filled (x ∷ xs)) ≡ false
    lost_later x xs d e = rw (ne_eqb x blank d, e) (and-false (grounded ts ps n x))

    said : (memo : List ℕ) (xs cs : List ℕ) {last r : ℕ} → Says (chain h cs) last r → (last ≡ 0 → all (grounded ts ps n) xs ≡ false)
        → (last ≢ 0 → Good xs cs) → Knows ts ps memo → WalksArgs ts ps memo n h xs r
    said memo xs cs {last} {r} s lost good k = go (is_or_not (eqb last 0))
      where
        go : (eqb last 0 ≡ true) ⊎ (eqb last 0 ≡ false) → WalksArgs ts ps memo n h xs r
        go (inl e) =
            let z = s.lost (eqb-true last 0 e) in
            record { lost = λ u. lost (eqb-true last 0 e); found = λ m. absurd (m z); knows = k }
        go (inr e) =
            let y = s.said (eqb-false last 0 e) in
            let g = good (eqb-false last 0 e) in
            record {
              lost = λ z. absurd (y.1 z);
              found = λ m. (subst (FindsArgs ts ps h xs) (sym y.0) g.0, subst (λ (w : Walked). w.height ≤ n) (sym y.0) g.1);
              knows = k;
            }

    -- a number that says none
    pub none_said : (memo : List ℕ) (t : Term) {r : ℕ} → t.a ≡ blank → (unpacked r ≡ no_argument h) × (r ≢ 0) → Knows ts ps memo
        → WalksArgs ts ps memo n h (args_of t) r
    none_said memo t e s k =
        let g = good_end t.a (t.b ∷ t.c ∷ t.d ∷ []) e in
        record {
          lost = λ z. absurd (s.1 z);
          found = λ m. (subst (FindsArgs ts ps h (args_of t)) (sym s.0) g.0, subst (λ (w : Walked). w.height ≤ n) (sym s.0) (omega arith));
          knows = k;
        }

    -- one argument, two, three, four, of which the last is found or lost; no other follows
    module _ (t : Term) (a_in : t.a ≢ blank) {a : ℕ} {after_a : List ℕ} (wa : WalksRow ts ps after_a n t.a a) where
      pub one_good : a ≢ 0 → Good (filled (t.a ∷ [])) (a ∷ [])
      one_good u = good_more t.a a [] [] a_in (wa.found u) good_none

      pub one_said : {r : ℕ} → (eqb a 0 || eqb t.b blank) ≡ true → Says (chain h (a ∷ [])) a r → WalksArgs ts ps after_a n h (args_of t) r
      one_said stop s =
          let xs = t.b ∷ t.c ∷ t.d ∷ [] in
          said after_a (filled (t.a ∷ xs)) (a ∷ []) s (λ z. lost_here t.a xs a_in (wa.lost z))
          (λ u. good_more t.a a xs [] a_in (wa.found u) (good_end t.b (t.c ∷ t.d ∷ []) (ends a t.b stop u))) wa.knows

      module _ (a_on : a ≢ 0) (b_in : t.b ≢ blank) {b : ℕ} {after_b : List ℕ} (wb : WalksRow ts ps after_b n t.b b) where
        -- the arguments from the second on, and the first in front
        with_a : (xs cs : List ℕ) → Good (filled xs) cs → Good (filled (t.a ∷ xs)) (a ∷ cs)
        with_a xs cs g = good_more t.a a xs cs a_in (wa.found a_on) g

        pub two_good : b ≢ 0 → Good (filled (t.a ∷ t.b ∷ [])) (a ∷ b ∷ [])
        two_good u = with_a (t.b ∷ []) (b ∷ []) (good_more t.b b [] [] b_in (wb.found u) good_none)

        pub two_said : {r : ℕ} → (eqb b 0 || eqb t.c blank) ≡ true → Says (chain h (a ∷ b ∷ [])) b r → WalksArgs ts ps after_b n h (args_of t) r
        two_said stop s =
            let xs = t.c ∷ t.d ∷ [] in
            said after_b (filled (t.a ∷ t.b ∷ xs)) (a ∷ b ∷ []) s (λ z. lost_later t.a (t.b ∷ xs) a_in (lost_here t.b xs b_in (wb.lost z)))
            (λ u. with_a (t.b ∷ xs) (b ∷ []) (good_more t.b b xs [] b_in (wb.found u) (good_end t.c (t.d ∷ []) (ends b t.c stop u)))) wb.knows

        module _ (b_on : b ≢ 0) (c_in : t.c ≢ blank) {c : ℕ} {after_c : List ℕ} (wc : WalksRow ts ps after_c n t.c c) where
          with_b : (xs cs : List ℕ) → Good (filled xs) cs → Good (filled (t.a ∷ t.b ∷ xs)) (a ∷ b ∷ cs)
          with_b xs cs g = with_a (t.b ∷ xs) (b ∷ cs) (good_more t.b b xs cs b_in (wb.found b_on) g)

          lost_b : (xs : List ℕ) → all (grounded ts ps n) (filled xs) ≡ false → all (grounded ts ps n) (filled (t.a ∷ t.b ∷ xs)) ≡ false
          lost_b xs e = lost_later t.a (t.b ∷ xs) a_in (lost_later t.b xs b_in e)

          pub three_good : c ≢ 0 → Good (filled (t.a ∷ t.b ∷ t.c ∷ [])) (a ∷ b ∷ c ∷ [])
          three_good u = with_b (t.c ∷ []) (c ∷ []) (good_more t.c c [] [] c_in (wc.found u) good_none)

          pub three_said : {r : ℕ} → (eqb c 0 || eqb t.d blank) ≡ true → Says (chain h (a ∷ b ∷ c ∷ [])) c r
              → WalksArgs ts ps after_c n h (args_of t) r
          three_said stop s =
              said after_c (args_of t) (a ∷ b ∷ c ∷ []) s (λ z. lost_b (t.c ∷ t.d ∷ []) (lost_here t.c (t.d ∷ []) c_in (wc.lost z)))
              (λ u.
              with_b (t.c ∷ t.d ∷ []) (c ∷ [])
              (good_more t.c c (t.d ∷ []) [] c_in (wc.found u) (good_end t.d [] (ends c t.d stop u))))
              wc.knows

          module _ (c_on : c ≢ 0) (d_in : t.d ≢ blank) {d : ℕ} {after_d : List ℕ} (wd : WalksRow ts ps after_d n t.d d) where
            pub four_good : d ≢ 0 → Good (args_of t) (a ∷ b ∷ c ∷ d ∷ [])
            four_good u =
                with_b (t.c ∷ t.d ∷ []) (c ∷ d ∷ [])
                (good_more t.c c (t.d ∷ []) (d ∷ []) c_in (wc.found c_on) (good_more t.d d [] [] d_in (wd.found u) good_none))

            pub four_said : {r : ℕ} → Says (chain h (a ∷ b ∷ c ∷ d ∷ [])) d r → WalksArgs ts ps after_d n h (args_of t) r
            four_said s =
                said after_d (args_of t) (a ∷ b ∷ c ∷ d ∷ []) s
                (λ z. lost_b (t.c ∷ t.d ∷ []) (lost_later t.c (t.d ∷ []) c_in (lost_here t.d [] d_in (wd.lost z)))) four_good wd.knows

-- ---- what was found of the arguments, from the last one on

pub folds : (h : ℕ) (cs : List ℕ) → fold (λ rest c. joined h (unpacked c) rest) (no_argument h) (reverse cs) ≡ chain h cs
folds h [] = refl
folds h (c ∷ cs) =
    let more : Walked → ℕ → Walked = λ rest c. joined h (unpacked c) rest in
    ap (fold more (no_argument h)) (reverse-append (c ∷ []) cs) ∙ fold-append more (no_argument h) (reverse cs) (c ∷ [])
    ∙ ap (λ rest. more rest c) (folds h cs)

-- ---- five premises, and at most eight connectives, have room in a number

pub smalls : (ts : List ℕ) (p q r s t : Premise) (n h : ℕ) (xs cs : List ℕ) → n ≤ layers
    → FindsArgs ts (stated (p ∷ q ∷ r ∷ s ∷ t ∷ [])) h xs (chain h cs) × ((chain h cs).height ≤ n) → Small (chain h cs)
smalls ts p q r s t n h xs cs l g = record { met = met_short ts p q r s t h xs (chain h cs) g.0; height = omega (arith, g.1) }

-- a number that says what was found is no larger
pub said_small : (ts : List ℕ) (p q r s t : Premise) (h : ℕ) (xs : List ℕ) (c : ℕ) → FindsArgs ts (stated (p ∷ q ∷ r ∷ s ∷ t ∷ [])) h xs (unpacked c) → c ≤ 2047
unfolding unpacked
said_small ts p q r s t h xs c f = omega (arith, met_short ts p q r s t h xs (unpacked c) f)

-- ---- the rule

module _ (ts : List ℕ) (ps : List Premise) (l v : ℕ) (noted : List ℕ) {all : ℕ} (notes : Notes 1 ps noted all) where
  all_is : all ≡ marked every_one ps
  all_is = omega (arith, notes.counted)

  -- the term is a premise
  pub deep_own : {own w : ℕ} → own ≡ recalled ps noted l → own ≢ 0 → w ≡ premise_value ps l → (eqb (own / 64) all && eqb v w) ≡ fits ts Deep l v ps
  deep_own {own} own_is some w-is =
      let e = own_is ∙ recalled_first ps noted all l notes in
      let on : marked (same_row l) ps ≢ 0 = λ z. some (e ∙ premised_none _ (premise_value ps l) z) in
      let met : own / 64 ≡ marked (same_row l) ps = ap (λ c. c / 64) e ∙ premised_met _ (premise_value ps l) in
      let value = value_here ts ps layers l (true_T _ (on_premise ps l on)) in
      rw (met, all_is) (fits_found ts ps l v _ (at_premise ts ps l on) (omega arith) (w-is ∙ sym value))

  -- it is none
  pub own_none : {own : ℕ} → own ≡ recalled ps noted l → own ≡ 0 → is_premise ps l ≡ false
  own_none own_is z = recalled_none ts ps noted (knows_premises ts ps noted all notes) l _ own_is z

  module _ (memo : List ℕ) {c : ℕ} (w : WalksRow ts ps memo layers l c) where
    pub deep_lost : c ≡ 0 → false ≡ fits ts Deep l v ps
    unfolding fits
    deep_lost z = rw (w.lost z)

    pub deep_found : {own x : ℕ} {r : Walked} → own ≡ recalled ps noted l → own ≡ 0 → c ≢ 0 → r ≡ unpacked c → x ≡ num r.truth
        → (eqb r.met all && eqb v x) ≡ fits ts Deep l v ps
    deep_found own_is z n r_is x_is =
        let f = w.found n in
        let value = value_num ts ps (layers - 1) l (own_none own_is z) in
        let truth = ap num (ap (λ (r : Walked). r.truth) r_is ∙ sym (f.0.truths layers f.1)) in
        rw (all_is, ap (λ (r : Walked). r.met) r_is) (fits_found ts ps l v (unpacked c) f.0 f.1 (x_is ∙ truth ∙ value))
