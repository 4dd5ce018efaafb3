-- The arguments of a row, column by column, and what is known of a row before its head is tested.
use Rattle.std.specs.Prelude.{◌≡◌, Bool, true, not, ◌&&◌, List, map, ℕ, ◌≤◌, ◌<◌, length, eqb}
use Rattle.calculus.specs.declared.Term.{Term}
use Rattle.calculus.specs.Lists.{all, eq_list}
use Rattle.calculus.specs.Terms.{head, sort, prop, filled, args_of, term_at, head_of, first_use, suits}
use Rattle.rows.specs.Rows.{Whole}

-- the arguments in the columns xs are props
abbrev pub all_props : List ℕ → List ℕ → Bool
all_props ts xs = all (prop ts) (filled xs)

-- none of them is one
abbrev pub all_plain : List ℕ → List ℕ → Bool
all_plain ts xs = all (λ a. not (prop ts a)) (filled xs)

-- the arguments in the columns xs and ys are as many and of the same sorts
abbrev pub same_sorts : List ℕ → List ℕ → List ℕ → Bool
same_sorts ts xs ys = eq_list (map (sort ts) (filled xs)) (map (sort ts) (filled ys))

-- row e is a prop with two arguments of one sort, which is not prop
abbrev pub equates : List ℕ → Term → Bool
equates ts e = eqb e.sort 0 && eqb (length (args_of e)) 2 && not (prop ts e.a) && eqb (sort ts e.a) (sort ts e.b)

-- row e is a prop with enough arguments, all of them props
abbrev pub connects : List ℕ → Term → Bool → Bool
connects ts e enough = eqb e.sort 0 && enough && all (prop ts) (args_of e)

-- what is known of row t: it is whole and reads e, and row u is the first with its head, which row u suits where it is an earlier row
pub record Known (ss ts : List ℕ) (t : ℕ) (e : Term) (u : ℕ) : Type 0 where
  pub whole : Whole ts t
  pub row : e ≡ term_at ts t
  pub first : u ≡ first_use ts t
  pub low : u ≤ t
  pub like : head ts u ≡ head ts t
  pub suit : u < t → suits ss ts u (head_of (head ts u)) ≡ true
