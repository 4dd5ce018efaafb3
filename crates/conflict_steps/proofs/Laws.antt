-- Rows of a conflict in the words: where they stand, and their justifications there.
use mathlib.Core.Path.{◌≡◌, refl, sym, ap, subst, ◌∙◌}
use mathlib.Core.Bool.{Bool, true, false, ◌||◌, cond}
use mathlib.Core.List.{List, [], ◌∷◌}
use Prim.Native.Nat.{ℕ, suc, ◌+◌, ◌*◌, ◌≤◌, ◌<◌, max}
use native.Mathlib.Omega.{arith}
use lib.ListN.{length}
use lib.Dec.{T, eqb, ltb}
use borrow.Author.Tests.{ltb-true, ltb-false}
use Rattle.std.proofs.lemmas.Bool.Decides.{nat_tests}
use Rattle.calculus.specs.Numbers.{unless}
use Rattle.calculus.specs.Steps.{resolve_refusal, clear_refusal, jump_refusal, flip_refusal}
use Rattle.calculus.specs.Sheets.{term_rows}
use Rattle.calculus.specs.Trail.{Set, Trail, intersection, on, entry, level_at, decided_at, why_at, level_of, top_level, holds, first_order}
use Rattle.calculus.specs.WellFormed.{Within, WellFormed}
use Rattle.calculus.proofs.Facts.{true_T, true_or_false}
use Rattle.calculus.proofs.Entries.{level_top, level_at_lem}
use Rattle.calculus.proofs.WellFormed.{newest, why_well_formed, shared_high, top_length}
use Rattle.bitset.specs.Windows.{set_at}
use Rattle.trail.specs.Words.{trail_in}
use Rattle.trail.proofs.Laws.{why_in_lem, trail_length, room_all}
use Rattle.calculus.proofs.Trails.{holds_wider}
use Rattle.trail.proofs.Frames.{why_words}
use Rattle.moves.specs.Post.{conflict_in, Above, rest_level, lower_level}
use Rattle.state.specs.declared.Status.{Status}
use Rattle.state.proofs.Tests.{told, told_yes}
use Rattle.conflict_moves.specs.Back.{ToResolve, ToClear}
use Rattle.conflicts.proofs.Laws.{found}
use Rattle.conflicts.specs.Conflicts.{Conflicted, Found, Member, Justified, why_in, conflict_level, holds_first_order}

-- what cannot be true is false
never : (b : Bool) → (b ≡ true → ⊥) → b ≡ false
never true f = absurd (f refl)
never false f = refl

-- ---- levels are small

-- where an entry is justified the greatest level is below the trail's length
pub top_less : {n : ℕ} (tr : Trail) (t : ℕ) → WellFormed n tr → on tr t ≡ true → decided_at tr t ≡ false → top_level tr < length tr
unfolding level_of on entry
top_less [] t r o d = absurd (true_or_false o refl)
top_less (x ∷ older) t r o d =
    let q = newest x older r in
    let h = top_length older q.1 in
    go q.0.level h (level_top older x.why) (λ a b. top_less older t q.1 a b) (eqb x.term t) o d
  where
    low : (b : Bool) → level_of older x.why ≤ top_level older → x.level ≡ cond b (1 + top_level older) (level_of older x.why) → x.level ≤ 1 + top_level older
    low true k e = omega arith
    low false k e = omega arith

    go : x.level ≡ cond x.decided (1 + top_level older) (level_of older x.why) → top_level older ≤ length older → level_of older x.why ≤ top_level older
        → (on older t ≡ true → decided_at older t ≡ false → top_level older < length older) → (b : Bool) → (b || on older t) ≡ true
        → (cond b x (entry older t)).decided ≡ false → max (top_level older) x.level < suc (length older)
    go e h k f true o d = let z : x.level ≡ level_of older x.why = e ∙ rw d in omega arith
    go e h k f false o d = let z = low x.decided k e in omega (arith, f o d)

-- ---- rows and their justifications

module _ (w n : ℕ) (ws : List ℕ) (count : ℕ) where
  abbrev here : Trail
  here = trail_in w n ws count

  abbrev level : ℕ
  level = conflict_level w n ws count

  -- a row that was found in the conflict
  pub member : (t : ℕ) {b : Bool} → Found w n ws count → t < n → b ≡ conflict_in w n ws t → b ≡ true → Member w n ws count t
  member t f l e h = record { found = f; row = l; inside = told_yes e h }

  -- and is no decision
  pub justified : (t : ℕ) {d : Bool} → Member w n ws count t → d ≡ decided_at here t → d ≡ false → Justified w n ws count t
  justified t p e h = record { member = p; justified = told e h }

  -- a member of the conflict stands on the trail
  pub stands : (t : ℕ) → Member w n ws count t → on here t ≡ true
  stands t p = p.found.within t p.inside

  -- the conflict's level is at most the trail's greatest
  pub not_above : level ≤ top_level here
  not_above = level_top here (conflict_in w n ws)

  -- where the justifications of l and k share a first-order decision of the conflict's level, that level is above 0 and not above l's own
  pub held_high : (ts : List ℕ) (l k : ℕ) → n ≡ term_rows ts → Found w n ws count
      → T (holds_first_order w n ts ws count (intersection (why_at here l) (why_at here k))) → (level ≤ level_at here l) × (0 < level)
  held_high ts l k e f h =
      shared_high ts here (conflict_in w n ws) (subst (λ (x : ℕ). WellFormed x here) e f.well_formed) f.within l k _ h

  module _ (t : ℕ) (j : Justified w n ws count t) where
    -- the words of a row lie before the tables
    pub why_fits : t * w + w ≤ length ws
    why_fits = let e = j.member.found.laid.enough in omega (arith, why_in_lem w t n j.member.row)

    -- its words are its justification
    pub why_there : why_at here t ≡ set_at ws (t * w) w
    why_there = why_words w n ws count t j.member.found.laid j.member.row (stands t j.member) j.justified

    -- whose members stand on the trail
    pub why_within : Within (set_at ws (t * w) w) here
    why_within u h = (why_well_formed here t u j.member.found.well_formed (ap (λ (s : Set). s u) why_there ∙ h)).0

    -- levels fit sixteen bits
    pub top_fits : top_level here < 65536
    top_fits =
        let d = j.member.found.laid in
        let h = top_less here t j.member.found.well_formed (stands t j.member) j.justified in
        omega (arith, h, trail_length w n ws count, room_all w n ws count d, d.wide, d.narrow)

    -- the row, a member of the conflict, is not above its level
    pub not_higher : level_at here t ≤ level
    not_higher = level_at_lem here (conflict_in w n ws) t (stands t j.member) j.member.inside

    -- there is no first-order decision of the conflict's level in its justification unless that level is above 0 and not above the row's own
    pub none_held : (ts : List ℕ) → n ≡ term_rows ts → (level ≤ level_at here t → 0 < level → ⊥)
        → holds_first_order w n ts ws count (why_in w n ws count t) ≡ false
    none_held ts rows f =
        never _ (λ h.
        let both = holds_wider here (why_at here t) (intersection (why_at here t) (why_at here t)) _ (λ u i. rw i) h in
        let q = held_high ts t t rows j.member.found (true_T _ both) in
        f q.0 q.1)

    module _ (ts : List ℕ) (rows : n ≡ term_rows ts) {m : ℕ} (m_is : on here t ≡ true → m ≡ level_at here t) where
      -- m is the row's own level
      own : m ≡ level_at here t
      own = m_is (stands t j.member)

      -- so there is none where the row's own level is 0
      pub barred_at_base : m ≡ 0 → false ≡ holds_first_order w n ts ws count (why_in w n ws count t)
      barred_at_base z = sym (none_held ts rows (λ l p. omega (arith, own)))

      -- nor where the conflict's is above it
      pub barred_below : {b : Bool} → b ≡ ltb m level → b ≡ true → false ≡ holds_first_order w n ts ws count (why_in w n ws count t)
      barred_below e h = sym (none_held ts rows (λ l p. omega (arith, own, ltb-true m level (told e h))))

      -- otherwise the row, a member of the conflict, is of the conflict's level, and its words tell
      pub barred_by : {b c : Bool} → c ≡ ltb m level → c ≡ false → b ≡ holds here (set_at ws (t * w) w) (first_order ts m)
          → b ≡ holds_first_order w n ts ws count (why_in w n ws count t)
      barred_by e h q =
          let same : m ≡ level = omega (arith, not_higher, own, ltb-false m level (told e h)) in
          rw (q, same, why_there)

  -- of two justified rows their words tell
  pub shared_by : (ts : List ℕ) (l k : ℕ) {b : Bool} {m : ℕ} → Justified w n ws count l → Justified w n ws count k → m ≡ level
      → b ≡ holds here (intersection (set_at ws (l * w) w) (set_at ws (k * w) w)) (first_order ts m)
      → b ≡ holds_first_order w n ts ws count (intersection (why_in w n ws count l) (why_in w n ws count k))
  shared_by ts l k i j q e = rw (e, q, why_there l i, why_there k j)

-- ---- what the moves ask, where the number is 0

module _ (w n : ℕ) (ts ws : List ℕ) (st : Status) where
  abbrev trail : Trail
  trail = trail_in w n ws st.count

  abbrev set : Set
  set = conflict_in w n ws

  pub to_resolve : (a : ℕ) → Conflicted w n ts ws st a → 0 ≡ resolve_refusal ts trail set a → ToResolve w n ws st.count a
  unfolding resolve_refusal unless
  to_resolve a g e =
      let f = found w n ts ws st g in
      record { laid = f.laid; well_formed = f.well_formed; row = g.row; stands = f.within a (grind arith); justified = grind arith }

  pub to_clear : (a : ℕ) → Conflicted w n ts ws st a → 0 ≡ clear_refusal ts trail set a → ToClear w n ws st.count a
  unfolding clear_refusal unless
  to_clear a g e = let f = found w n ts ws st g in (f.laid, g.row, f.within a (grind arith), f.well_formed)

  pub to_jump : (l : ℕ) → Conflicted w n ts ws st l → 0 ≡ jump_refusal ts trail set l → Above w n ws st.count l (rest_level w n ws st.count l)
  unfolding jump_refusal unless
  to_jump l g e =
      let f = found w n ts ws st g in
      record { laid = f.laid; well_formed = f.well_formed; row = g.row; within = f.within; member = grind arith; above = grind (arith, nat_tests) }

  module _ (l k : ℕ) (g : Conflicted w n ts ws st l) (e : 0 ≡ flip_refusal ts trail set l k) where
    -- l is a member, no decision, and shares one with k
    flip_ok : (set l ≡ true) × (decided_at trail l ≡ false) × (holds_first_order w n ts ws st.count (intersection (why_at trail l) (why_at trail k)) ≡ true)
    unfolding flip_refusal unless
    flip_ok = (grind arith, grind arith, grind arith)

    pub to_flip : Above w n ws st.count l (lower_level w n ws st.count)
    to_flip =
        let f = found w n ts ws st g in
        let y = held_high w n ws st.count ts l k g.standing.held.rows f (true_T _ flip_ok.2) in
        record { laid = f.laid; well_formed = f.well_formed; row = g.row; within = f.within; member = flip_ok.0; above = omega (arith, y.0, y.1) }

    pub flip_small : top_level trail < 65536
    flip_small =
        let p : Member w n ws st.count l = record { found = found w n ts ws st g; row = g.row; inside = flip_ok.0 } in
        top_fits w n ws st.count l (record { member = p; justified = flip_ok.1 })
