-- One input row, and the sheet row by row.
use mathlib.Core.Path.{◌≡◌, refl, sym, ap, subst, ◌∙◌}
use mathlib.Core.Bool.{Bool, false, not}
use mathlib.Core.List.{List, ◌∷◌}
use Prim.Native.Nat.{ℕ, zero, suc, ◌+◌, ◌*◌, ◌/◌, ◌<◌}
use lib.ListN.{length, get_or, take, drop}
use Rattle.std.specs.Simd.{first_chunks}
use native.Mathlib.Omega.{arith}
use Rattle.std.proofs.lemmas.List.{drop-drop, get_or-take}
use Rattle.std.proofs.lemmas.Grind.{common_steps}
use native.Mathlib.Numerals.{add-one}
use Rattle.std.specs.Prelude.{Ok, Err}
use Rattle.calculus.specs.declared.Refusal.{Refusal}
use Rattle.calculus.specs.Numbers.{number, first_refusal}
use Rattle.calculus.specs.Sheets.{input_rows}
use Rattle.calculus.specs.Trail.{on, level_of}
use Rattle.calculus.specs.Inputs.{given, input_term, input_value, input_trail, input_refusal, inputs_refusal}
use Rattle.calculus.proofs.Facts.{T_false, unless_ok}
use Rattle.sheets.specs.Rows.{fit_refusal, given_refusal, input_row_refusal, input_row}
use Rattle.sheets.proofs.Laws.{number_some, first_none, first_more, first_found}
use Rattle.sheets.proofs.Lengths.{row_fits, row_unfit}
use Rattle.trail.specs.Words.{trail_in, Laid}
use Rattle.moves.specs.Post.{Stands}
use Rattle.inputs.specs.Loaded.{RowLoaded, Loaded}

-- ---- one row

-- a term that passes number 8 is not on the trail
pub not_given : (b : Bool) → given_refusal b ≡ 0 → b ≡ false
unfolding given_refusal
not_given b e = T_false b (unless_ok (not b) 8 0 (omega arith) e).0

module _ (w n : ℕ) (ts ws vs : List ℕ) (k t v : ℕ) where
  -- refused with 6 or 7
  pub row_refused : (r : Refusal) → number r ≡ fit_refusal ts t v → RowLoaded w n ts ws vs k t v (Err r)
  unfolding RowLoaded
  row_refused r e = row_unfit ts t v _ (λ z. number_some r (e ∙ z)) ∙ sym e

  module _ (fits : fit_refusal ts t v ≡ 0) {b : Bool} (o : b ≡ on (trail_in w n ws k) t) where
    number_8 : input_row_refusal ts t v (on (trail_in w n ws k) t) ≡ given_refusal b
    number_8 = row_fits ts t v _ fits ∙ ap given_refusal (sym o)

    -- refused with 8
    pub row_given : (r : Refusal) → number r ≡ given_refusal b → RowLoaded w n ts ws vs k t v (Err r)
    unfolding RowLoaded
    row_given r e = number_8 ∙ sym e

    -- one entry more
    pub row_loaded : given_refusal b ≡ 0 → Stands w n vs (k + 1) 0 (given t v ∷ trail_in w n ws k) → RowLoaded w n ts ws vs k t v (Ok tt)
    unfolding RowLoaded
    row_loaded e s = (number_8 ∙ e, s)

-- ---- the sheet

longer : (is : List ℕ) (k : ℕ) → input_trail is (k + 1) ≡ given (input_term is k) (input_value is k) ∷ input_trail is k
unfolding input_trail
longer is k = rw add-one

module _ (w n : ℕ) (ts is : List ℕ) where
  -- the first k rows are no trouble, and their entries are on the trail
  pub record Loading (ws : List ℕ) (k : ℕ) : Type 0 where
    pub fine : first_refusal k (input_refusal ts is) ≡ 0
    pub stands : Stands w n ws k 0 (input_trail is k)

  pub loading_none : (ws : List ℕ) → Laid w n ws 0 → Loading ws 0
  unfolding trail_in input_trail level_of
  loading_none ws l = record { fine = first_none _; stands = record { laid = l; trail = refl; greatest = refl } }

  module _ (ws vs : List ℕ) (k : ℕ) (l : Loading ws k) where
    number_there : input_refusal ts is k ≡ input_row_refusal ts (input_term is k) (input_value is k) (on (trail_in w n ws k) (input_term is k))
    number_there = input_row ts is k ∙ ap (λ tr. input_row_refusal ts (input_term is k) (input_value is k) (on tr (input_term is k))) (sym l.stands.trail)

    pub loading_more : RowLoaded w n ts ws vs k (input_term is k) (input_value is k) (Ok tt) → Loading vs (k + 1)
    unfolding RowLoaded
    loading_more r = record { fine = first_more (input_refusal ts is) k l.fine (number_there ∙ r.0); stands = next }
      where
        grown : given (input_term is k) (input_value is k) ∷ trail_in w n ws k ≡ input_trail is (k + 1)
        grown = ap (λ tr. given (input_term is k) (input_value is k) ∷ tr) l.stands.trail ∙ sym (longer is k)

        next : Stands w n vs (k + 1) 0 (input_trail is (k + 1))
        next = subst (Stands w n vs (k + 1) 0) grown r.1

    pub loading_stop : (c : Refusal) → k < input_rows is → RowLoaded w n ts ws vs k (input_term is k) (input_value is k) (Err c) → Loaded w n ts is vs (Err c)
    unfolding RowLoaded Loaded inputs_refusal
    loading_stop c h r =
        let e = number_there ∙ r in
        first_found (input_refusal ts is) (input_rows is) k l.fine (λ z. number_some c (sym e ∙ z)) h ∙ e

  pub loading_all : (ws : List ℕ) (k : ℕ) → k ≡ input_rows is → Loading ws k → Loaded w n ts is ws (Ok tt)
  unfolding Loaded inputs_refusal
  loading_all ws k e l = subst (λ j. (first_refusal j (input_refusal ts is) ≡ 0) × Stands w n ws j 0 (input_trail is j)) e (l.fine, l.stands)

-- ---- the sheet as rows of two

chunk_at : (c : ℕ) (xs : List ℕ) (k : ℕ) (d : List ℕ) → k < c → get_or (first_chunks 2 c xs) k d ≡ take 2 (drop (k * 2) xs)
chunk_at zero xs k d h = absurd (omega arith)
chunk_at (suc c) xs zero d h = refl
chunk_at (suc c) xs (suc k) d h = chunk_at c (drop 2 xs) k d (omega arith) ∙ ap (take 2) (drop-drop (k * 2) 2 xs) ∙ ap (λ n. take 2 (drop n xs)) (omega arith)

pub row_term : (xs : List ℕ) (k : ℕ) (d : List ℕ) → k < input_rows xs → get_or (get_or (first_chunks 2 (length xs / 2) xs) k d) 0 0 ≡ input_term xs k
row_term xs k d h = rw (chunk_at (length xs / 2) xs k d h) (grind (arith, common_steps, get_or-take))

pub row_value : (xs : List ℕ) (k : ℕ) (d : List ℕ) → k < input_rows xs → get_or (get_or (first_chunks 2 (length xs / 2) xs) k d) 1 0 ≡ input_value xs k
row_value xs k d h = rw (chunk_at (length xs / 2) xs k d h) (grind (arith, common_steps, get_or-take))
