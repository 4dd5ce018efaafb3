-- What is remembered: premises noted one after the other, and what is known of a row then and later.
use mathlib.Core.Path.{◌≡◌, refl, sym, ap, subst, subst₂, ◌∙◌}
use mathlib.Core.Logic.{◌≢◌, ◌⊎◌, inl, inr}
use mathlib.Core.Bool.{Bool, true, false, cond}
use mathlib.Core.List.{List, [], ◌∷◌}
use Prim.Native.Nat.{ℕ, zero, suc, ◌+◌, ◌*◌, ◌/◌, ◌≤◌, ◌<◌}
use native.Mathlib.Nat.{mul-add, mul_assoc}
use native.Mathlib.Omega.{arith}
use native.Mathlib.Decide.{dec_lt}
use lib.Dec.{eqb, ltb}
use lib.ListN.{length, length-set, get_or, set}
use lib.Seq.{set_out, get_or-set_same, get_or-set_other}
use borrow.Author.Tests.{eqb-true, eqb-false, eq-eqb, ne_eqb, lt-ltb, le-ltb}
use Rattle.calculus.specs.declared.Premise.{Premise}
use Rattle.calculus.specs.Lists.{all, num, is_true}
use Rattle.calculus.specs.Sheets.{blank}
use Rattle.calculus.specs.Rules.{is_premise, premise_value}
use Rattle.calculus.proofs.Facts.{num_le, is_or_not, both_true}
use Rattle.rule_claims.specs.Claims.{stated}
use Rattle.rule_deep.specs.Walks.{marked, every_one, same_row, unpacked, premised, FindsRow, Empty, Noted, Notes, recalled, Remembered, Knows}
use Rattle.rule_deep.proofs.Bits.{off_premise}
use Rattle.rule_deep.proofs.Numbers.{premised_none, premised_some, premised_says, premised_met, premised_zero}
use Rattle.rule_deep.proofs.Finds.{at_premise}

-- ---- premises noted

-- one premise more in front, the bits being multiples of c
shifted : (c m : ℕ) (b : Bool) → c * (num b + 2 * m) ≡ c * num b + (c + c) * m
shifted c m b =
    let e : c * 2 ≡ c + c = omega arith in
    mul-add c (num b) (2 * m) ∙ ap (λ k. c * num b + k) (sym (mul_assoc c 2 m) ∙ ap (λ k. k * m) e)

-- as the code writes it
pub noted_near : (before : List ℕ) (p : Premise) {bit n : ℕ} → p.row < 256 → n ≡ num (is_true p.value)
    → Noted before (set before p.row ((get_or before p.row 0 / 64 + bit) * 64 + n * 2 + 1)) p bit
noted_near before p {bit} l e =
    record {
      near = λ k. ap (λ n. set before p.row ((get_or before p.row 0 / 64 + bit) * 64 + n * 2 + 1)) e;
      far = λ (k : 256 ≤ p.row). absurd (omega arith);
    }

pub noted_far : (memo : List ℕ) (p : Premise) {bit : ℕ} → 256 ≤ p.row → Noted memo memo p bit
noted_far memo p l = record { near = λ (k : p.row < 256). absurd (omega arith); far = λ k. refl }

-- no premise
notes_none : (bit : ℕ) (memo : List ℕ) → bit ≤ 32 → Empty memo → Notes bit [] memo 0
unfolding marked
notes_none bit memo l h = record { long = h.long; room = room; noted = noted; counted = sym (none bit) }
  where
    none : (c : ℕ) → c * 0 ≡ 0
    none c = omega arith

    room : (t : ℕ) → get_or memo t 0 / 64 + bit ≤ 32
    room t = omega (arith, h.zeros t)

    noted : (t : ℕ) → get_or memo t 0 ≡ cond (ltb t 256) (premised (bit * 0) 0) 0
    noted t = h.zeros t ∙ sym (go (ltb t 256))
      where
        go : (b : Bool) → cond b (premised (bit * 0) 0) 0 ≡ 0
        go true = premised_none (bit * 0) 0 (none bit)
        go false = refl

pub none_noted : (bit : ℕ) (memo : List ℕ) → bit ≤ 32 → Empty memo → Notes bit (stated []) memo 0
unfolding stated
none_noted bit memo l h = notes_none bit memo l h

pub notes_end : (bit : ℕ) (memo : List ℕ) → bit ≤ 32 → Empty memo → (p : Premise) (ps : List Premise) → p.row ≡ blank → Notes bit (stated (p ∷ ps)) memo 0
unfolding stated
notes_end bit memo l h p ps e = rw (eq-eqb p.row blank e) (notes_none bit memo l h)

-- one more in front
pub notes_more : (bit : ℕ) (before after : List ℕ) (p : Premise) (ps : List Premise) (m : ℕ) → 1 ≤ bit → p.row ≢ blank
    → Notes (bit + bit) (stated ps) before m → Noted before after p bit → Notes bit (stated (p ∷ ps)) after (m + bit)
unfolding stated marked
notes_more bit before after p ps m low filled h n = rw (ne_eqb p.row blank filled) (go (dec_lt p.row 256))
  where
    qs : List Premise
    qs = stated ps

    -- the number at a row, before
    at : (t : ℕ) → ℕ
    at t = get_or before t 0

    code : ℕ
    code = (at p.row / 64 + bit) * 64 + num (is_true p.value) * 2 + 1

    counted : m + bit ≡ bit * (1 + 2 * marked every_one qs)
    counted = omega (arith, h.counted, shifted bit (marked every_one qs) true)

    -- what is to stand at row t
    due : ℕ → ℕ
    due t = cond (ltb t 256) (premised (bit * (num (eqb p.row t) + 2 * marked (same_row t) qs)) (premise_value (p ∷ qs) t)) 0

    -- at another row, or one from 256 on
    other : (t : ℕ) → (p.row ≢ t) ⊎ (256 ≤ t) → at t ≡ due t
    other t (inl d) =
        rw (ne_eqb p.row t d)
        (h.noted t ∙ ap (λ k. cond (ltb t 256) (premised k (premise_value qs t)) 0) (omega (arith, shifted bit (marked (same_row t) qs) false)))
    other t (inr l) = let e = le-ltb t 256 l in h.noted t ∙ rw e

    -- at its own
    own : (t : ℕ) → t < 256 → p.row ≡ t → code ≡ due t
    own t l e =
        let k = marked (same_row t) qs in
        let there : at t ≡ premised ((bit + bit) * k) (premise_value qs t) = h.noted t ∙ rw (lt-ltb t 256 l) in
        let old : at p.row / 64 ≡ (bit + bit) * k = ap (λ u. at u / 64) e ∙ ap (λ c. c / 64) there ∙ premised_met _ (premise_value qs t) in
        let new = premised_some (bit * (1 + 2 * k)) p.value (λ (z : bit * (1 + 2 * k) ≡ 0). omega (arith, shifted bit k true)) in
        rw (lt-ltb t 256 l, eq-eqb p.row t e) (omega (arith, old, new, shifted bit k true))

    -- of each row, that it has the number, or is as it was
    Written : List ℕ → ℕ → Type 0
    Written memo t = ((t < 256) × (p.row ≡ t) × (get_or memo t 0 ≡ code)) ⊎ (((p.row ≢ t) ⊎ (256 ≤ t)) × (get_or memo t 0 ≡ at t))

    all_written : (memo : List ℕ) → length memo ≡ 256 → ((t : ℕ) → Written memo t) → Notes bit (p ∷ qs) memo (m + bit)
    all_written memo long r = record { long = long; room = λ t. room t (r t); noted = λ t. noted t (r t); counted = counted }
      where
        room : (t : ℕ) → Written memo t → get_or memo t 0 / 64 + bit ≤ 32
        room t (inl y) = omega (arith, y.2, h.room p.row, num_le (is_true p.value))
        room t (inr y) = omega (arith, y.1, h.room t)

        noted : (t : ℕ) → Written memo t → get_or memo t 0 ≡ due t
        noted t (inl y) = y.2 ∙ own t y.0 y.1
        noted t (inr y) = y.1 ∙ other t y.0

    near : p.row < 256 → (t : ℕ) → (eqb p.row t ≡ true) ⊎ (eqb p.row t ≡ false) → Written (set before p.row code) t
    near l t (inl e) =
        let q = eqb-true p.row t e in
        let same = get_or-set_same before p.row code 0 (subst (λ k. p.row < k) (sym h.long) l) in
        inl (subst (λ u. u < 256) q l, q, subst (λ u. get_or (set before p.row code) u 0 ≡ code) q same)
    near l t (inr e) = let d = eqb-false p.row t e in inr (inl d, get_or-set_other before p.row t code 0 (λ q. d (sym q)))

    far : 256 ≤ p.row → (t : ℕ) → Dec (t < 256) → Written before t
    far l t (yes k) = inr (inl (λ (q : p.row ≡ t). omega arith), refl)
    far l t (no k) = inr (inr (omega arith), refl)

    go : Dec (p.row < 256) → Notes bit (p ∷ qs) after (m + bit)
    go (yes l) =
        subst (λ memo. Notes bit (p ∷ qs) memo (m + bit)) (sym (n.near l))
        (all_written (set before p.row code) (length-set before p.row code ∙ h.long) (λ t. near l t (is_or_not (eqb p.row t))))
    go (no l) =
        let k : 256 ≤ p.row = omega arith in
        subst (λ memo. Notes bit (p ∷ qs) memo (m + bit)) (sym (n.far k)) (all_written before h.long (λ t. far k t (dec_lt t 256)))

-- ---- what is known of a row

recalled_near : (ps : List Premise) (memo : List ℕ) (t : ℕ) → t < 256 → recalled ps memo t ≡ get_or memo t 0
unfolding recalled
recalled_near ps memo t l = rw (lt-ltb t 256 l)

recalled_far : (ps : List Premise) (memo : List ℕ) (t : ℕ) → 256 ≤ t → recalled ps memo t ≡ premised (marked (same_row t) ps) (premise_value ps t)
unfolding recalled
recalled_far ps memo t l = rw (le-ltb t 256 l)

-- as the code reads it
pub recalled_read : (ps : List Premise) (memo : List ℕ) (t : ℕ) → t < 256 → get_or memo t 0 ≡ recalled ps memo t
recalled_read ps memo t l = sym (recalled_near ps memo t l)

pub recalled_marks : (ps : List Premise) (memo : List ℕ) (t : ℕ) {m v r : ℕ} → 256 ≤ t → m ≡ marked (same_row t) ps → v ≡ premise_value ps t → r ≡ premised m v
    → r ≡ recalled ps memo t
recalled_marks ps memo t l a b c = rw (recalled_far ps memo t l, c, a, b)

-- the premises alone are noted
pub recalled_first : (ps : List Premise) (memo : List ℕ) (all t : ℕ) → Notes 1 ps memo all
    → recalled ps memo t ≡ premised (marked (same_row t) ps) (premise_value ps t)
recalled_first ps memo all t h = go (dec_lt t 256)
  where
    go : Dec (t < 256) → recalled ps memo t ≡ premised (marked (same_row t) ps) (premise_value ps t)
    go (yes l) =
        let e : 1 * marked (same_row t) ps ≡ marked (same_row t) ps = omega arith in
        recalled_near ps memo t l ∙ h.noted t ∙ rw (lt-ltb t 256 l) (ap (λ k. premised k (premise_value ps t)) e)
    go (no l) = recalled_far ps memo t (omega arith)

module _ (ts : List ℕ) (ps : List Premise) where
  -- of a row on which premises are, these
  premised_found : (t c : ℕ) → c ≡ premised (marked (same_row t) ps) (premise_value ps t) → c ≢ 0 → FindsRow ts ps t (unpacked c)
  premised_found t c e n =
      let some : marked (same_row t) ps ≢ 0 = λ z. n (e ∙ premised_none _ (premise_value ps t) z) in
      subst (FindsRow ts ps t) (sym (ap unpacked e ∙ premised_says (marked (same_row t) ps) (premise_value ps t) some)) (at_premise ts ps t some)

  premised_off : (t c : ℕ) → c ≡ premised (marked (same_row t) ps) (premise_value ps t) → c ≡ 0 → is_premise ps t ≡ false
  premised_off t c e z = off_premise ps t (premised_zero _ (premise_value ps t) (sym e ∙ z))

  pub recalled_found : (memo : List ℕ) → Knows ts ps memo → (t c : ℕ) → c ≡ recalled ps memo t → c ≢ 0 → FindsRow ts ps t (unpacked c)
  recalled_found memo k t c e n = go (dec_lt t 256)
    where
      go : Dec (t < 256) → FindsRow ts ps t (unpacked c)
      go (yes l) =
          let q = e ∙ recalled_near ps memo t l in
          subst (λ c. FindsRow ts ps t (unpacked c)) (sym q) (k.remembers t (λ z. n (q ∙ z)))
      go (no l) = premised_found t c (e ∙ recalled_far ps memo t (omega arith)) n

  pub recalled_none : (memo : List ℕ) → Knows ts ps memo → (t c : ℕ) → c ≡ recalled ps memo t → c ≡ 0 → is_premise ps t ≡ false
  recalled_none memo k t c e z = go (dec_lt t 256)
    where
      go : Dec (t < 256) → is_premise ps t ≡ false
      go (yes l) = k.premises t l (sym (e ∙ recalled_near ps memo t l) ∙ z)
      go (no l) = premised_off t c (e ∙ recalled_far ps memo t (omega arith)) z

  -- at first
  pub knows_premises : (memo : List ℕ) (all : ℕ) → Notes 1 ps memo all → Knows ts ps memo
  knows_premises memo all h =
      record {
        remembers = λ t n. near t n (dec_lt t 256);
        premises = λ t l z. premised_off t _ (sym (recalled_near ps memo t l) ∙ recalled_first ps memo all t h) z;
      }
    where
      near : (t : ℕ) → get_or memo t 0 ≢ 0 → Dec (t < 256) → FindsRow ts ps t (unpacked (get_or memo t 0))
      near t n (yes l) = premised_found t _ (sym (recalled_near ps memo t l) ∙ recalled_first ps memo all t h) n
      near t n (no l) = let k : 256 ≤ t = omega arith in absurd (n (h.noted t ∙ rw (le-ltb t 256 k)))

  -- and with a row more
  pub knows_more : (before after : List ℕ) (t c : ℕ) → Knows ts ps before → FindsRow ts ps t (unpacked c) → c ≢ 0 → Remembered before after t c
      → Knows ts ps after
  knows_more before after t c k f n r = record { remembers = λ u d. found u (r u) d; premises = λ u l z. none u l (r u) z }
    where
      found : (u : ℕ) → (get_or after u 0 ≡ get_or before u 0) ⊎ ((u ≡ t) × (get_or after u 0 ≡ c)) → get_or after u 0 ≢ 0
          → FindsRow ts ps u (unpacked (get_or after u 0))
      found u (inl e) d = subst (λ c. FindsRow ts ps u (unpacked c)) (sym e) (k.remembers u (λ z. d (e ∙ z)))
      found u (inr e) d = subst₂ (λ u c. FindsRow ts ps u (unpacked c)) (sym e.0) (sym e.1) f

      none : (u : ℕ) → u < 256 → (get_or after u 0 ≡ get_or before u 0) ⊎ ((u ≡ t) × (get_or after u 0 ≡ c)) → get_or after u 0 ≡ 0 → is_premise ps u ≡ false
      none u l (inl e) z = k.premises u l (sym e ∙ z)
      none u l (inr e) z = absurd (n (sym e.1 ∙ z))

-- a number written in a row, or in none
pub remembered : (memo : List ℕ) (t c : ℕ) → Remembered memo (set memo t c) t c
remembered memo t c u = go (dec_lt t (length memo)) (is_or_not (eqb u t))
  where
    go : Dec (t < length memo) → (eqb u t ≡ true) ⊎ (eqb u t ≡ false)
        → (get_or (set memo t c) u 0 ≡ get_or memo u 0) ⊎ ((u ≡ t) × (get_or (set memo t c) u 0 ≡ c))
    go (yes l) (inl q) =
        let z = eqb-true u t q in
        inr (z, ap (λ k. get_or (set memo t c) k 0) z ∙ get_or-set_same memo t c 0 l)
    go (no l) (inl q) = inl (ap (λ xs. get_or xs u 0) (set_out memo t c (omega arith)))
    go l (inr q) = inl (get_or-set_other memo t u c 0 (eqb-false u t q))

-- nothing is remembered in an array of zeros
pub empties : (memo : List ℕ) → length memo ≡ 256 → all (λ c. eqb c 0) memo ≡ true → Empty memo
empties memo l h = record { long = l; zeros = zeros memo h }
  where
    zeros : (xs : List ℕ) → all (λ c. eqb c 0) xs ≡ true → (t : ℕ) → get_or xs t 0 ≡ 0
    zeros [] h t = refl
    zeros (x ∷ xs) h zero = eqb-true x 0 (both_true (eqb x 0) (all (λ c. eqb c 0) xs) h).0
    zeros (x ∷ xs) h (suc t) = zeros xs (both_true (eqb x 0) (all (λ c. eqb c 0) xs) h).1 t
