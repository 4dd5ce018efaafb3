-- The first row with a head, the first row that repeats an earlier one, and the tables of slots that both are sought by.
use Rattle.std.specs.Prelude.{◌≡◌, Bool, true, false, not, cond, List, ℕ, zero, suc, ◌+◌, ◌*◌, ◌%◌, ◌≤◌, ◌<◌, length, get_or, set, eqb, ltb}
use Rattle.calculus.specs.Lists.{below}
use Rattle.calculus.specs.Sheets.{blank}
use Rattle.calculus.specs.Terms.{head, first_use, fresh}

-- the most rows that a term sheet has
abbrev pub most_rows : ℕ
most_rows = 256

-- ---- what is found

-- row u is the first with the head of row t
pub record FirstUse (ts : List ℕ) (t u : ℕ) : Type 0 where
  pub first : u ≡ first_use ts t
  pub low : u ≤ t
  pub like : head ts u ≡ head ts t

-- r is the first of the first n rows that is not fresh; n, if all are
pub record FirstRepeat (ts : List ℕ) (n r : ℕ) : Type 0 where
  pub low : r ≤ n
  pub before : below r (fresh ts) ≡ true
  pub found : r < n → fresh ts r ≡ false

-- ---- 1,024 slots

abbrev pub slot : ℕ → ℕ
slot k = k % 1024

-- the least row in the slot of key k, row t among them; and the slots once it stands there
abbrev pub smaller : ℕ → ℕ → ℕ
smaller a b = cond (ltb b a) b a

abbrev pub least : List ℕ → ℕ → ℕ → ℕ
least xs k t = smaller (get_or xs (slot k) 0) t

unfoldable pub noted : List ℕ → ℕ → ℕ → List ℕ
noted xs k t = set xs (slot k) (least xs k t)

-- the rows before t are noted: the slot of a row's key holds that row or an earlier one
pub record Noted (key : ℕ → ℕ) (t : ℕ) (xs : List ℕ) : Type 0 where
  pub size : length xs ≡ 1024
  pub rows : (u : ℕ) → u < t → get_or xs (slot (key u)) 0 ≤ u

-- row u has another head than row t
abbrev pub other_head : List ℕ → ℕ → ℕ → Bool
other_head ts t u = not (eqb (head ts u) (head ts t))

-- ---- rows of one slot, each with the one before it

-- the last row before row n in slot s; blank where there is none
unfoldable pub last_in : (ℕ → ℕ) → ℕ → ℕ → ℕ
last_in key s zero = blank
last_in key s (suc n) = cond (eqb (slot (key n)) s) n (last_in key s n)

-- the rows before t are chained: xs has the last one of each slot, and ys for each row the last one of its slot before it
pub record Chained (key : ℕ → ℕ) (t : ℕ) (xs ys : List ℕ) : Type 0 where
  pub slots : length xs ≡ 1024
  pub rows : length ys ≡ most_rows
  pub lasts : (s : ℕ) → s < 1024 → get_or xs s 0 ≡ last_in key s t
  pub backs : (u : ℕ) → u < t → get_or ys u 0 ≡ last_in key (slot (key u)) u

-- row t, whose key is k, is chained to r, the last row of its slot
pub record Linked (xs xs' ys ys' : List ℕ) (k t r : ℕ) : Type 0 where
  pub back : r ≡ get_or xs (slot k) 0
  pub lasts : xs' ≡ set xs (slot k) t
  pub backs : ys' ≡ set ys t r

-- ---- rows with the same head and arguments

-- the columns that two rows are compared by, in the order of the search: the arguments, then the head
abbrev pub column : ℕ → ℕ
column k = cond (eqb k 4) 0 (k + 2)

-- rows t and u agree in the k-th of these
abbrev pub agree : List ℕ → ℕ → ℕ → ℕ → Bool
agree ts t u k = eqb (get_or ts (t * 6 + column k) 0) (get_or ts (u * 6 + column k) 0)

-- the key that equal rows are sought by: a row's head and arguments with odd weights,
-- so that rows which differ in one column alone, by less than 1,024, have different slots
abbrev pub mixed : ℕ → ℕ → ℕ → ℕ → ℕ → ℕ
mixed h a b c d = h + 3 * a + 5 * b + 7 * c + 11 * d

unfoldable pub mix : List ℕ → ℕ → ℕ
mix ts t = mixed (head ts t) (get_or ts (t * 6 + 2) 0) (get_or ts (t * 6 + 3) 0) (get_or ts (t * 6 + 4) 0) (get_or ts (t * 6 + 5) 0)
