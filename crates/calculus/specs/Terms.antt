-- The term sheet: head, sort and four arguments a row, rows counted from 0; the numbers 3, 4, 5.
use Rattle.std.specs.Prelude.{Bool, true, false, not, ◌&&◌, ◌||◌, cond, List, [], ◌∷◌, map, ℕ, ◌+◌, ◌*◌, length, get_or, eqb, leb, ltb}
use Rattle.calculus.specs.declared.Term.{Term}
use Rattle.calculus.specs.declared.Head.{Head}
use Rattle.calculus.specs.declared.Head.TheVariants.{Equality, Negation, Conjunction, Disjunction, Select, Store, Free, Unlisted}
use Rattle.calculus.specs.Lists.{all, below, eq_list, first_where}
use Rattle.calculus.specs.Numbers.{unless, first_refusal}
use Rattle.calculus.specs.Sheets.{blank, sort_rows, term_rows}
use Rattle.calculus.specs.Sorts.{index_sort, value_sort, is_array}

-- ---- a row's columns

abbrev pub head : List ℕ → ℕ → ℕ
head ts t = get_or ts (t * 6) 0

abbrev pub sort : List ℕ → ℕ → ℕ
sort ts t = get_or ts (t * 6 + 1) 0

-- the four argument columns
unfoldable pub cells : List ℕ → ℕ → List ℕ
cells ts t = get_or ts (t * 6 + 2) 0 ∷ get_or ts (t * 6 + 3) 0 ∷ get_or ts (t * 6 + 4) 0 ∷ get_or ts (t * 6 + 5) 0 ∷ []

-- those before the first blank
abbrev pub filled : List ℕ → List ℕ
filled [] = []
filled (x ∷ xs) = cond (eqb x blank) [] (x ∷ filled xs)

-- after a blank there are blanks only
abbrev pub left_filled : List ℕ → Bool
left_filled [] = true
left_filled (x ∷ xs) = cond (eqb x blank) (all (λ y. eqb y blank) xs) (left_filled xs)

-- the arguments
unfoldable pub args : List ℕ → ℕ → List ℕ
args ts t = filled (cells ts t)

-- the k-th argument column, blank or not
unfoldable pub arg : List ℕ → ℕ → ℕ → ℕ
arg ts t k = get_or (cells ts t) k blank

abbrev pub prop : List ℕ → ℕ → Bool
prop ts t = eqb (sort ts t) 0

-- a row as the code holds it
abbrev pub term_at : List ℕ → ℕ → Term
term_at ts t =
    record {
      head = head ts t;
      sort = sort ts t;
      a = get_or ts (t * 6 + 2) 0;
      b = get_or ts (t * 6 + 3) 0;
      c = get_or ts (t * 6 + 4) 0;
      d = get_or ts (t * 6 + 5) 0;
    }

abbrev pub cells_of : Term → List ℕ
cells_of e = e.a ∷ e.b ∷ e.c ∷ e.d ∷ []

abbrev pub args_of : Term → List ℕ
args_of e = filled (cells_of e)

-- ---- heads

abbrev pub eq_head : ℕ
eq_head = 0

abbrev pub not_head : ℕ
not_head = 1

abbrev pub and_head : ℕ
and_head = 2

abbrev pub or_head : ℕ
or_head = 3

abbrev pub select_head : ℕ
select_head = 4

abbrev pub store_head : ℕ
store_head = 5

-- free heads are those from here to the one before blank
abbrev pub first_free : ℕ
first_free = 16

-- eq, not, and, or, select, store
abbrev pub heads : List Head
heads = Equality ∷ Negation ∷ Conjunction ∷ Disjunction ∷ Select ∷ Store ∷ []

abbrev pub head_of : ℕ → Head
head_of h = get_or heads h (cond (leb first_free h && ltb h blank) Free Unlisted)

abbrev pub is_free : Head → Bool
is_free Equality = false
is_free Negation = false
is_free Conjunction = false
is_free Disjunction = false
is_free Select = false
is_free Store = false
is_free Free = true
is_free Unlisted = false

-- a head that congruence is for: select, store, or free
abbrev pub is_function : Head → Bool
is_function Equality = false
is_function Negation = false
is_function Conjunction = false
is_function Disjunction = false
is_function Select = true
is_function Store = true
is_function Free = true
is_function Unlisted = false

-- ---- number 3: a filled argument is an earlier row

unfoldable pub earlier : List ℕ → ℕ → Bool
earlier ts t = all (λ x. eqb x blank || ltb x t) (cells ts t)

-- ---- number 4: head, sort and arguments fit each other

-- two uses of one free head agree in their own sort and in the count and sorts of their arguments
unfoldable pub same_use : List ℕ → ℕ → ℕ → Bool
same_use ts u t = eqb (sort ts u) (sort ts t) && eq_list (map (sort ts) (args ts u)) (map (sort ts) (args ts t))

-- the first row with the head of row t
unfoldable pub first_use : List ℕ → ℕ → ℕ
first_use ts t = first_where t (λ u. eqb (head ts u) (head ts t))

-- a prop with enough arguments, all of them props
abbrev pub connective : List ℕ → ℕ → Bool → Bool
connective ts t enough = prop ts t && enough && all (prop ts) (args ts t)

unfoldable pub suits : List ℕ → List ℕ → ℕ → Head → Bool
suits ss ts t Equality =
    prop ts t
    && eqb (length (args ts t)) 2
    && not (prop ts (arg ts t 0))
    && eqb (sort ts (arg ts t 0)) (sort ts (arg ts t 1))
suits ss ts t Negation = connective ts t (eqb (length (args ts t)) 1)
suits ss ts t Conjunction = connective ts t (leb 2 (length (args ts t)))
suits ss ts t Disjunction = connective ts t (leb 2 (length (args ts t)))
suits ss ts t Select =
    let array = sort ts (arg ts t 0) in
    eqb (length (args ts t)) 2
    && is_array ss array
    && eqb (sort ts (arg ts t 1)) (index_sort ss array)
    && eqb (sort ts t) (value_sort ss array)
suits ss ts t Store =
    let array = sort ts t in
    eqb (length (args ts t)) 3
    && is_array ss array
    && eqb (sort ts (arg ts t 0)) array
    && eqb (sort ts (arg ts t 1)) (index_sort ss array)
    && eqb (sort ts (arg ts t 2)) (value_sort ss array)
suits ss ts t Free =
    leb (sort ts t) (sort_rows ss)
    && all (λ a. not (prop ts a)) (args ts t)
    && same_use ts (first_use ts t) t
suits ss ts t Unlisted = false

-- ---- number 5: no earlier row has the same head and arguments

-- rows t and u have the same head and the same arguments
unfoldable pub twins : List ℕ → ℕ → ℕ → Bool
twins ts t u = eqb (head ts t) (head ts u) && eq_list (cells ts t) (cells ts u)

unfoldable pub fresh : List ℕ → ℕ → Bool
fresh ts t = below t (λ u. not (twins ts t u))

-- ---- the number of a row, and of the sheet

unfoldable pub term_refusal : List ℕ → List ℕ → ℕ → ℕ
term_refusal ss ts t =
    unless (earlier ts t) 3 (
    unless (left_filled (cells ts t) && suits ss ts t (head_of (head ts t))) 4 (
    unless (fresh ts t) 5 0))

unfoldable pub terms_refusal : List ℕ → List ℕ → ℕ
terms_refusal ss ts = first_refusal (term_rows ts) (term_refusal ss ts)
