-- Clausal forms (Definition 1 of the journal article): an or that is true, or an and that is false, just where one of some truth assignments is not.
use Rattle.std.specs.Prelude.{Bool, true, false, not, ◌&&◌, ◌||◌, cond, List, [], ◌∷◌, ℕ, eqb}
use Rattle.calculus.specs.declared.Premise.{Premise}
use Rattle.calculus.specs.Lists.{has, num}
use Rattle.calculus.specs.Terms.{args, arg, not_head, and_head, or_head}
use Rattle.calculus.specs.Rules.{is_head}

-- no number stands twice
abbrev pub different : List ℕ → Bool
different [] = true
different (x ∷ xs) = not (has xs x) && different xs

-- f holds of some member of xs and the others in their order
abbrev pub taking_one : List ℕ → (ℕ → List ℕ → Bool) → Bool
taking_one [] f = false
taking_one (x ∷ xs) f = f x xs || taking_one xs (λ y rest. f y (x ∷ rest))

module _ (ts : List ℕ) where
  -- a clause is an or, or an and; the or becomes true, the and false
  abbrev pub is_clause : ℕ → Bool
  is_clause t = is_head ts t or_head || is_head ts t and_head

  abbrev pub clause_value : ℕ → ℕ
  clause_value t = num (is_head ts t or_head)

  -- x is not(l)
  abbrev pub is_not : ℕ → ℕ → Bool
  is_not x l = is_head ts x not_head && eqb (arg ts x 0) l

  -- in a clause that becomes v the assignment p appears as x: negated where v is its value, as itself where it has the other
  unfoldable pub literal : ℕ → Premise → ℕ → Bool
  literal v p x = cond (eqb p.value v) (is_not x p.row) (eqb x p.row)

  -- assignments and arguments are paired one to one, in any order, each assignment appearing as its argument
  unfoldable pub paired : ℕ → List Premise → List ℕ → Bool
  paired v [] [] = true
  paired v [] (x ∷ xs) = false
  paired v (p ∷ ps) xs = taking_one xs (λ x rest. literal v p x && paired v ps rest)

  -- the clause t with its value is a clausal form of the assignments
  abbrev pub clausal : ℕ → List Premise → Bool
  clausal t ps = paired (clause_value t) ps (args ts t)
