-- The fourteen rules: when a rule gives term l the value v from the premises ps. The order of the premises counts, but not for deep.
use Rattle.std.specs.Prelude.{Bool, true, false, not, ◌&&◌, ◌||◌, cond, List, [], ◌∷◌, ◌++◌, map, ℕ, zero, suc, ◌+◌, length, get_or, take, drop, eqb, ltb}
use Rattle.calculus.specs.declared.Premise.{Premise}
use Rattle.calculus.specs.declared.Rule.{Rule}
use Rattle.calculus.specs.declared.Rule.TheVariants.{Same, Differ, Reflexivity, Symmetry, Transitivity, Negated, Part, Unit, Evaluation, Congruence, Predicate, Read, Skip, Deep, Unlisted}
use Rattle.calculus.specs.Lists.{all, any, has, eq_list, somewhere, num, is_true}
use Rattle.calculus.specs.Sheets.{blank}
use Rattle.calculus.specs.Terms.{head, args, arg, head_of, is_free, is_function, eq_head, not_head, and_head, or_head, select_head, store_head}

-- ---- the rules' numbers

-- same, differ, refl, sym, trans, neg, part, unit, eval, cong, pred, read, skip, deep
abbrev pub rules : List Rule
rules =
    Same ∷ Differ ∷ Reflexivity ∷ Symmetry ∷ Transitivity ∷ Negated ∷ Part ∷ Unit ∷ Evaluation ∷ Congruence ∷ Predicate ∷ Read ∷ Skip ∷ Deep
    ∷ []

unfoldable pub rule_of : ℕ → Rule
rule_of n = get_or rules n Unlisted

abbrev pub rule_listed : ℕ → Bool
rule_listed n = ltb n (length rules)

-- ---- premises

abbrev pub row_of : Premise → ℕ
row_of p = p.row

abbrev pub value_of : Premise → ℕ
value_of p = p.value

-- p is row a with value w
abbrev pub gives : ℕ → ℕ → Premise → Bool
gives a w p = eqb p.row a && eqb p.value w

-- no premise
unfoldable pub bare : List Premise → Bool → Bool
bare [] b = b
bare (p ∷ ps) b = false

-- one premise, p
unfoldable pub single : List Premise → (Premise → Bool) → Bool
single [] f = false
single (p ∷ []) f = f p
single (p ∷ q ∷ ps) f = false

-- two premises, p and q
unfoldable pub double : List Premise → (Premise → Premise → Bool) → Bool
double [] f = false
double (p ∷ []) f = false
double (p ∷ q ∷ []) f = f p q
double (p ∷ q ∷ r ∷ ps) f = false

-- p, and any number more
unfoldable pub leading : List Premise → (Premise → List Premise → Bool) → Bool
leading [] f = false
leading (p ∷ ps) f = f p ps

-- ---- what not, and, or make of truth values

abbrev pub not_of : List ℕ → Bool
not_of xs = not (is_true (get_or xs 0 0))

abbrev pub and_of : List ℕ → Bool
and_of xs = all is_true xs

abbrev pub or_of : List ℕ → Bool
or_of xs = any is_true xs

-- h is the head of a connective
abbrev pub is_connective : ℕ → Bool
is_connective h = eqb h not_head || (eqb h and_head || eqb h or_head)

-- head h over the truth values xs has the value v
abbrev pub evaluates : ℕ → List ℕ → ℕ → Bool
evaluates h xs v =
    (eqb h not_head && eqb v (num (not_of xs)))
    || ((eqb h and_head && eqb v (num (and_of xs)))
    || (eqb h or_head && eqb v (num (or_of xs))))

-- ---- the arguments at all positions but one

-- ps are the rows xs, each with value w
abbrev pub others : ℕ → List ℕ → List Premise → Bool
others w [] [] = true
others w [] (p ∷ ps) = false
others w (a ∷ xs) [] = false
others w (a ∷ xs) (p ∷ ps) = gives a w p && others w xs ps

-- xs without the one at position k
abbrev pub all_but : ℕ → List ℕ → List ℕ
all_but k xs = take k xs ++ drop (suc k) xs

-- at some position of xs stands l, and ps are the rows at all other positions, each with value w
unfoldable pub unit_at : ℕ → ℕ → List ℕ → List Premise → Bool
unit_at w l xs ps = somewhere (length xs) (λ k. eqb (get_or xs k blank) l && others w (all_but k xs) ps)

-- ---- the walk of deep: down from a formula through not, and, or, to premises

-- so many connectives may lie on a path, that of the formula being the first
abbrev pub layers : ℕ
layers = 8

-- some premise is on t
abbrev pub is_premise : List Premise → ℕ → Bool
is_premise ps t = any (λ p. eqb p.row t) ps

-- the value that the first of these gives it; on a trail they all give the same
abbrev pub premise_value : List Premise → ℕ → ℕ
premise_value [] t = 0
premise_value (p ∷ ps) t = cond (eqb p.row t) p.value (premise_value ps t)

-- ---- the rules

module _ (ts : List ℕ) where
  abbrev pub is_head : ℕ → ℕ → Bool
  is_head t h = eqb (head ts t) h

  -- e is the term a = b
  abbrev pub is_eq : ℕ → ℕ → ℕ → Bool
  is_eq e a b = is_head e eq_head && (eqb (arg ts e 0) a && eqb (arg ts e 1) b)

  -- p is the term a = b, with value w
  abbrev pub equates : ℕ → ℕ → ℕ → Premise → Bool
  equates a b w p = is_eq p.row a b && eqb p.value w

  -- ps are true equalities between xs and ys, one at every position
  abbrev pub pairs : List ℕ → List ℕ → List Premise → Bool
  pairs [] [] [] = true
  pairs [] [] (p ∷ ps) = false
  pairs [] (b ∷ ys) ps = false
  pairs (a ∷ xs) [] ps = false
  pairs (a ∷ xs) (b ∷ ys) [] = false
  pairs (a ∷ xs) (b ∷ ys) (p ∷ ps) = equates a b 1 p && pairs xs ys ps

  -- within n connectives, every path of the walk down from t ends at a premise
  unfoldable pub grounded : List Premise → ℕ → ℕ → Bool
  grounded ps zero t = is_premise ps t
  grounded ps (suc n) t = is_premise ps t || (is_connective (head ts t) && all (grounded ps n) (args ts t))

  -- the value that the walk gives t: a premise's own, a connective's by those of its arguments
  unfoldable pub walk_value : List Premise → ℕ → ℕ → ℕ
  walk_value ps zero t = premise_value ps t
  walk_value ps (suc n) t =
      cond (is_premise ps t) (premise_value ps t) (num (evaluates (head ts t) (map (walk_value ps n) (args ts t)) 1))

  -- the walk down from t comes to u; below a premise it does not go on
  unfoldable pub comes_to : List Premise → ℕ → ℕ → ℕ → Bool
  comes_to ps zero u t = eqb t u
  comes_to ps (suc n) u t = eqb t u || (not (is_premise ps t) && any (comes_to ps n u) (args ts t))

  unfoldable pub fits : Rule → ℕ → ℕ → List Premise → Bool
  -- t, u with equal values give t = u true
  fits Same l v ps = double ps (λ p q. is_eq l p.row q.row && (eqb p.value q.value && eqb v 1))
  -- t, u with unequal values give t = u false
  fits Differ l v ps = double ps (λ p q. is_eq l p.row q.row && (not (eqb p.value q.value) && eqb v 0))
  -- t = t
  fits Reflexivity l v ps = bare ps (is_head l eq_head && (eqb (arg ts l 0) (arg ts l 1) && eqb v 1))
  -- t = u gives u = t
  fits Symmetry l v ps = single ps (λ p. is_head l eq_head && (equates (arg ts l 1) (arg ts l 0) 1 p && eqb v 1))
  -- t = u, u = w give t = w
  fits Transitivity l v ps =
      double ps (λ p q.
      let u = arg ts p.row 1 in
      is_head l eq_head && (equates (arg ts l 0) u 1 p && (equates u (arg ts l 1) 1 q && eqb v 1)))
  -- not(l) gives l the other value
  fits Negated l v ps = single ps (λ p. is_head p.row not_head && (eqb (arg ts p.row 0) l && eqb (p.value + v) 1))
  -- or false gives an argument false, and true gives one true
  fits Part l v ps =
      single ps (λ p.
      has (args ts p.row) l
      && ((is_head p.row or_head && (eqb p.value 0 && eqb v 0))
      || (is_head p.row and_head && (eqb p.value 1 && eqb v 1))))
  -- or true with all other arguments false gives the remaining one true; and false with the others true gives it false
  fits Unit l v ps =
      leading ps (λ p qs.
      ((is_head p.row or_head && (eqb p.value 1 && eqb v 1)) && unit_at 0 l (args ts p.row) qs)
      || ((is_head p.row and_head && (eqb p.value 0 && eqb v 0)) && unit_at 1 l (args ts p.row) qs))
  -- all arguments give not, and, or its value
  fits Evaluation l v ps = eq_list (map row_of ps) (args ts l) && evaluates (head ts l) (map value_of ps) v
  -- equalities at every position give f(t..) = f(u..), where f is free, select or store
  fits Congruence l v ps =
      let f = arg ts l 0 in
      let g = arg ts l 1 in
      is_head l eq_head
      && (eqb (head ts f) (head ts g)
      && (is_function (head_of (head ts f))
      && (pairs (args ts f) (args ts g) ps && eqb v 1)))
  -- p(t..) with value v, then the equalities, give p(u..) value v, where p is free
  fits Predicate l v ps =
      leading ps (λ p qs.
      is_free (head_of (head ts l))
      && (eqb (head ts p.row) (head ts l)
      && (eqb p.value v && pairs (args ts p.row) (args ts l) qs)))
  -- select(store(a, i, x), i) = x
  fits Read l v ps =
      let s = arg ts l 0 in
      let a = arg ts s 0 in
      bare ps (is_head l eq_head
      && (is_head s select_head
      && (is_head a store_head
      && (eqb (arg ts s 1) (arg ts a 1)
      && (eqb (arg ts l 1) (arg ts a 2) && eqb v 1)))))
  -- i = j false gives select(store(a, i, x), j) = select(a, j)
  fits Skip l v ps =
      let s = arg ts l 0 in
      let r = arg ts l 1 in
      let a = arg ts s 0 in
      single ps (λ p.
      is_head l eq_head
      && (is_head s select_head
      && (is_head r select_head
      && (is_head a store_head
      && (eqb (arg ts r 0) (arg ts a 0)
      && (eqb (arg ts r 1) (arg ts s 1)
      && (equates (arg ts a 1) (arg ts s 1) 0 p && eqb v 1)))))))
  -- the walk down from l meets every premise and gives l its value
  fits Deep l v ps = grounded ps layers l && (all (λ p. comes_to ps layers p.row l) ps && eqb v (walk_value ps layers l))
  fits Unlisted l v ps = false
