-- What a term sheet that gets no number says of its rows: how many arguments a head has, and that they are earlier rows.
use mathlib.Core.Path.{◌≡◌, sym, ap, subst, ◌∙◌}
use mathlib.Core.Bool.{Bool, true, false, ◌&&◌, cond}
use mathlib.Core.List.{List, [], ◌∷◌}
use Prim.Native.Nat.{ℕ, zero, suc, ◌<◌}
use native.Mathlib.Omega.{arith}
use lib.ListN.{length, get_or}
use lib.Dec.{T, eqb, leb, leb→le, le→leb, ltb→lt, lt→ltb, eqb_refl}
use Rattle.calculus.specs.declared.Head.TheVariants.{Free, Unlisted}
use Rattle.calculus.specs.Lists.{eq_list}
use Rattle.calculus.specs.Sheets.{blank, term_rows}
use Rattle.calculus.specs.Terms.{head, args, arg, head_of, eq_head, not_head, select_head, store_head, first_free}
use Rattle.calculus.specs.Terms as terms
use Rattle.calculus.proofs.Facts.{and_l, and_r, and_both, or_r}
use Rattle.calculus.proofs.Forms.{free_number, free_numbers, function_numbers}
use Rattle.figure.specs.Inferences.{Applied, FreeHead, FunctionHead, is_select, is_store, is_free}
use Rattle.calculus.proofs.WellSorted.{arg_is, arg_mem, WellSorted, row_args}
use Rattle.calculus.proofs.Rows.{one_arg, two_args, three_args, is_equality, not_count, is_select_lem, is_store_lem}

-- ---- lists

pub eq_list_refl : (xs : List ℕ) → T (eq_list xs xs)
eq_list_refl [] = tt
eq_list_refl (x ∷ xs) = and_both (eqb x x) _ (eqb_refl x) (eq_list_refl xs)

-- ---- the arguments of a row

-- an argument of a known list of them, as its column
pub column : (ts : List ℕ) (t k : ℕ) {xs : List ℕ} → args ts t ≡ xs → k < length xs → arg ts t k ≡ get_or xs k blank
column ts t k e h = sym (arg_is ts t k (subst (λ l. k < length l) (sym e) h)) ∙ ap (λ l. get_or l k blank) e

-- heads as numbers

-- a free head's number lies between two bounds
free_between : (h : ℕ) → T (free_number h) → FreeHead h
free_between h t = record { from_first = leb→le _ _ (and_l (leb first_free h) _ t); before_blank = ltb→lt _ _ (and_r (leb first_free h) _ t) }

between_free : {h : ℕ} → FreeHead h → T (free_number h)
between_free {h} f = and_both (leb first_free h) _ (le→leb _ _ f.from_first) (lt→ltb _ _ f.before_blank)

pub free_head : (h : ℕ) → T (terms.is_free (head_of h)) → FreeHead h
free_head h t = free_between h (subst T (free_numbers h) t)

pub free_test : {h : ℕ} → FreeHead h → T (terms.is_free (head_of h))
free_test {h} f = subst T (sym (free_numbers h)) (between_free f)

-- the head of a function: select, store, or a free one
pub function_head : (h : ℕ) → T (terms.is_function (head_of h)) → FunctionHead h
function_head zero t = absurd t
function_head (suc zero) t = absurd t
function_head (suc (suc zero)) t = absurd t
function_head (suc (suc (suc zero))) t = absurd t
function_head (suc (suc (suc (suc zero)))) t = is_select
function_head (suc (suc (suc (suc (suc zero))))) t = is_store
function_head (suc (suc (suc (suc (suc (suc k)))))) t =
    let h = suc (suc (suc (suc (suc (suc k))))) in is_free (free_between h (go (free_number h) t))
  where
    go : (b : Bool) → T (terms.is_function (cond b Free Unlisted)) → T b
    go true t = tt
    go false t = t

pub function_test : {h : ℕ} → FunctionHead h → T (terms.is_function (head_of h))
function_test is_select = tt
function_test is_store = tt
function_test (is_free {h} f) = subst T (sym (function_numbers h)) (or_r (leb select_head h && leb h store_head) _ (between_free f))

module _ {ss ts : List ℕ} (W : WellSorted ss ts) where
  -- the k-th column of a row with more than k arguments is a row of the sheet
  arg_row : (t k : ℕ) → t < term_rows ts → k < length (args ts t) → arg ts t k < term_rows ts
  arg_row t k l h = let q = row_args W t l _ (arg_mem ts t k h) in omega arith

  -- ---- a row by its head: its arguments as columns, which are rows of the sheet

  pub record Two (t h : ℕ) : Type 0 where
    pub shape : Applied ts t h (arg ts t 0 ∷ arg ts t 1 ∷ [])
    pub first : arg ts t 0 < term_rows ts
    pub second : arg ts t 1 < term_rows ts

  two_arguments : (t h : ℕ) → t < term_rows ts → head ts t ≡ h → length (args ts t) ≡ 2 → Two t h
  two_arguments t h l e n =
      record {
        shape = record { headed = e; arguments = two_args ts t n };
        first = arg_row t 0 l (omega arith);
        second = arg_row t 1 l (omega arith);
      }

  pub equation_row : (t : ℕ) → t < term_rows ts → head ts t ≡ eq_head → Two t eq_head
  equation_row t l e = two_arguments t eq_head l e (is_equality W t l (ap head_of e)).count

  pub select_row : (t : ℕ) → t < term_rows ts → head ts t ≡ select_head → Two t select_head
  select_row t l e = two_arguments t select_head l e (is_select_lem W t l (ap head_of e)).count

  pub store_row : (t : ℕ) → t < term_rows ts → head ts t ≡ store_head → Applied ts t store_head (arg ts t 0 ∷ arg ts t 1 ∷ arg ts t 2 ∷ [])
  store_row t l e = record { headed = e; arguments = three_args ts t (is_store_lem W t l (ap head_of e)).count }

  pub not_row : (t : ℕ) → t < term_rows ts → head ts t ≡ not_head → Applied ts t not_head (arg ts t 0 ∷ [])
  not_row t l e = record { headed = e; arguments = one_arg ts t (not_count W t l (ap head_of e)) }
