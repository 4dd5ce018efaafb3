-- The inference rules as a relation: which assignments give which term its value, stated over terms.
use Rattle.std.specs.Prelude.{◌≡◌, ◌≢◌, ℕ, suc, ◌≤◌, ◌<◌}
use mathlib.Core.List.{List, [], ◌∷◌, ◌++◌, map, Memᴰ}
use Rattle.calculus.specs.declared.Premise.{Premise}
use Rattle.calculus.specs.declared.Rule.{Rule}
use Rattle.calculus.specs.declared.Rule.TheVariants.{Same, Differ, Reflexivity, Symmetry, Transitivity, Negated, Part, Unit, Evaluation}
use Rattle.calculus.specs.declared.Rule.TheVariants.{Congruence, Predicate, Read, Skip, Deep}
use Rattle.calculus.specs.Sheets.{blank}
use Rattle.calculus.specs.Terms.{head, args, eq_head, not_head, and_head, or_head, select_head, store_head, first_free}
use Rattle.calculus.specs.Rules.{row_of, value_of, layers}

-- ---- assignments

-- the assignment of value v to row t
abbrev pub assign : ℕ → ℕ → Premise
assign v t = record { row = t; value = v }

-- a truth value and the other one
pub data Opposite : ℕ → ℕ → Type 0 where
  opposite_of_true : Opposite 1 0
  opposite_of_false : Opposite 0 1

-- ---- terms

-- row t is the head h applied to the rows xs
pub record Applied (ts : List ℕ) (t h : ℕ) (xs : List ℕ) : Type 0 where
  pub headed : head ts t ≡ h
  pub arguments : args ts t ≡ xs

-- row e is the term a = b
abbrev pub Equation : List ℕ → ℕ → ℕ → ℕ → Type 0
Equation ts e a b = Applied ts e eq_head (a ∷ b ∷ [])

-- a free head
pub record FreeHead (h : ℕ) : Type 0 where
  pub from_first : first_free ≤ h
  pub before_blank : h < blank

-- the head of a function: free, select or store
pub data FunctionHead : ℕ → Type 0 where
  is_select : FunctionHead select_head
  is_store : FunctionHead store_head
  is_free : {h : ℕ} → FreeHead h → FunctionHead h

-- ---- and, or

-- one argument of value w settles the head h, which then has value w; u is the other value
pub data Settles : ℕ → ℕ → ℕ → Type 0 where
  or_by_true : Settles or_head 1 0
  and_by_false : Settles and_head 0 1

-- the head h over arguments of the values vs has the value v
pub data Evaluates : ℕ → List ℕ → ℕ → Type 0 where
  negation : {x v : ℕ} → Opposite x v → Evaluates not_head (x ∷ []) v
  settled : {h w u : ℕ} {vs : List ℕ} → Settles h w u → Memᴰ w vs → Evaluates h vs w
  unsettled : {h w u : ℕ} {vs : List ℕ} → Settles h w u → ((x : ℕ) → Memᴰ x vs → x ≡ u) → Evaluates h vs u

-- ---- the walk of deep: down from a term through not, and, or, to the assignments J

-- the first of J on t gives it the value v; on a trail they all give t one value
pub data FirstOn : List Premise → ℕ → ℕ → Type 0 where
  itself : {t v : ℕ} {J : List Premise} → FirstOn (assign v t ∷ J) t v
  further : {p : Premise} {t v : ℕ} {J : List Premise} → p.row ≢ t → FirstOn J t v → FirstOn (p ∷ J) t v

-- none of J is on t
abbrev pub NoneOn : List Premise → ℕ → Type 0
NoneOn J t = (p : Premise) → Memᴰ p J → p.row ≢ t

mutual
  -- the walk down from t, with at most n connectives on each path, gives t the value v
  pub data Walk (ts : List ℕ) (J : List Premise) : ℕ → ℕ → ℕ → Type 0 where
    -- a path ends at a term on which J has an assignment
    at_premise : {n t v : ℕ} → FirstOn J t v → Walk ts J n t v
    -- any other term is a connective, which has its value from those of its arguments
    at_connective : {n t h v : ℕ} {xs vs : List ℕ}
        → NoneOn J t → Applied ts t h xs → Walks ts J n xs vs → Evaluates h vs v → Walk ts J (suc n) t v

  -- the walks down from the arguments xs give them the values vs
  pub data Walks (ts : List ℕ) (J : List Premise) : ℕ → List ℕ → List ℕ → Type 0 where
    no_argument : {n : ℕ} → Walks ts J n [] []
    one_argument : {n t v : ℕ} {xs vs : List ℕ} → Walk ts J n t v → Walks ts J n xs vs → Walks ts J n (t ∷ xs) (v ∷ vs)

-- the walk down from t comes to u; it does not go on below a term on which J has an assignment
pub data ComesTo (ts : List ℕ) (J : List Premise) : ℕ → ℕ → ℕ → Type 0 where
  arrived : {n t : ℕ} → ComesTo ts J n t t
  onward : {n u t x : ℕ} → NoneOn J t → Memᴰ x (args ts t) → ComesTo ts J n u x → ComesTo ts J (suc n) u t

-- ---- lists of equations

-- true equations between xs and ys, one at every position
pub data Pointwise (ts : List ℕ) : List ℕ → List ℕ → List Premise → Type 0 where
  no_position : Pointwise ts [] [] []
  position : {e a b : ℕ} {xs ys : List ℕ} {J : List Premise}
      → Equation ts e a b → Pointwise ts xs ys J → Pointwise ts (a ∷ xs) (b ∷ ys) (assign 1 e ∷ J)

-- ---- the rules

-- the premises, in their order, give the term the value by the rule
pub data Infers (ts : List ℕ) : Rule → List Premise → ℕ → ℕ → Type 0 where
  -- t and u with one value give t = u
  same : {l t u v : ℕ} → Equation ts l t u → Infers ts Same (assign v t ∷ assign v u ∷ []) l 1
  -- t and u with different values give t = u false
  differ : {l t u v w : ℕ} → Equation ts l t u → v ≢ w → Infers ts Differ (assign v t ∷ assign w u ∷ []) l 0
  -- t = t
  reflexivity : {l t : ℕ} → Equation ts l t t → Infers ts Reflexivity [] l 1
  -- t = u gives u = t
  symmetry : {l e t u : ℕ} → Equation ts e t u → Equation ts l u t → Infers ts Symmetry (assign 1 e ∷ []) l 1
  -- t = u and u = w give t = w
  transitivity : {l d e t u w : ℕ} → Equation ts d t u → Equation ts e u w → Equation ts l t w
      → Infers ts Transitivity (assign 1 d ∷ assign 1 e ∷ []) l 1
  -- not(l) gives l the other value
  negated : {l n v w : ℕ} → Applied ts n not_head (l ∷ []) → Opposite w v → Infers ts Negated (assign w n ∷ []) l v
  -- or false gives an argument false, and true gives one true
  part : {l c h w u : ℕ} {xs : List ℕ} → Settles h w u → Applied ts c h xs → Memᴰ l xs → Infers ts Part (assign u c ∷ []) l u
  -- or true with the arguments at all other positions false gives the remaining one true; and false with the others true gives it false
  unit : {l c h w u : ℕ} (xs ys : List ℕ) → Settles h w u → Applied ts c h (xs ++ (l ∷ ys))
      → Infers ts Unit (assign w c ∷ map (assign u) (xs ++ ys)) l w
  -- all arguments give not, and, or its value
  evaluation : {l h v : ℕ} {J : List Premise} → Applied ts l h (map row_of J) → Evaluates h (map value_of J) v → Infers ts Evaluation J l v
  -- equations at every position give f(t..) = f(u..)
  congruence : {l f g h : ℕ} {xs ys : List ℕ} {J : List Premise}
      → Equation ts l f g → Applied ts f h xs → Applied ts g h ys → FunctionHead h → Pointwise ts xs ys J → Infers ts Congruence J l 1
  -- p(t..) with its value, then the equations, give p(u..) that value
  predicate : {l p h v : ℕ} {xs ys : List ℕ} {J : List Premise}
      → Applied ts p h xs → Applied ts l h ys → FreeHead h → Pointwise ts xs ys J → Infers ts Predicate (assign v p ∷ J) l v
  -- select(store(a, i, x), i) = x
  read : {l s b a i x : ℕ} → Equation ts l s x → Applied ts s select_head (b ∷ i ∷ []) → Applied ts b store_head (a ∷ i ∷ x ∷ [])
      → Infers ts Read [] l 1
  -- i = j false gives select(store(a, i, x), j) = select(a, j)
  skip : {l e s r b a i j x : ℕ}
      → Equation ts l s r → Applied ts s select_head (b ∷ j ∷ []) → Applied ts b store_head (a ∷ i ∷ x ∷ []) → Applied ts r select_head (a ∷ j ∷ [])
      → Equation ts e i j → Infers ts Skip (assign 0 e ∷ []) l 1
  -- the walk down from l, with at most eight connectives on each path, gives l its value and comes to every premise
  deep : {l v : ℕ} {J : List Premise}
      → Walk ts J layers l v → ((p : Premise) → Memᴰ p J → ComesTo ts J layers p.row l) → Infers ts Deep J l v
