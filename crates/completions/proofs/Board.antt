-- Places by computation: for each rule a row for each place that it can have, and rows of deep, whose place is the term.
use mathlib.Core.Path.{◌≡◌, refl, ◌∙◌}
use mathlib.Core.Bool.{Bool, false, not, ◌&&◌}
use mathlib.Core.List.{List, [], ◌∷◌, ◌++◌, map}
use Prim.Native.Nat.{ℕ}
use lib.Dec.{T, eqb, leb}
use Rattle.calculus.specs.declared.Premise.{Premise}
use Rattle.calculus.specs.declared.Rule.{Rule}
use Rattle.calculus.specs.declared.Rule.TheVariants.{Same, Differ, Reflexivity, Symmetry, Transitivity, Negated, Part, Unit, Evaluation, Congruence, Predicate, Read, Skip, Deep}
use Rattle.calculus.specs.Lists
use Rattle.calculus.specs.Lists.{all}
use Rattle.calculus.specs.Numbers
use Rattle.calculus.specs.Sorts
use Rattle.calculus.specs.Terms
use Rattle.calculus.specs.Terms.{terms_refusal}
use Rattle.calculus.specs.Rules
use Rattle.calculus.specs.Rules.{fits}
use Rattle.calculus.specs.Place
use Rattle.calculus.specs.Place.{at_term, with, unfit_place}
use Rattle.calculus.proofs.Boards.{plain, row}
use Rattle.calculus.proofs.Facts.{and_l, and_r, T_false, facts}
use Rattle.completions.specs.Needs
use Rattle.completions.specs.Search
use Rattle.completions.specs.Search.{small, is_row, found_place, Legible}
use Rattle.completions.proofs.Theorem.{search_finds_places}

-- ---- two boards

-- 0 a, 1 b; 2 a = b, 3 b = a, 4 a = a; 5 not(a = b)
-- 6 F(a, b, a, a), 7 F(b, a, a, b), 8 their equation; 9 P(a, b, a, a), 10 P(b, a, a, b)
-- 11 or, 12 and of the rows 2, 3, 4, 8; 13 or of row 9 and row 9
abbrev board : List ℕ
board =
    row 16 1 []
    ++ row 17 1 []
    ++ row 0 0 (0 ∷ 1 ∷ [])
    ++ row 0 0 (1 ∷ 0 ∷ [])
    ++ row 0 0 (0 ∷ 0 ∷ [])
    ++ row 1 0 (2 ∷ [])
    ++ row 18 1 (0 ∷ 1 ∷ 0 ∷ 0 ∷ [])
    ++ row 18 1 (1 ∷ 0 ∷ 0 ∷ 1 ∷ [])
    ++ row 0 0 (6 ∷ 7 ∷ [])
    ++ row 19 0 (0 ∷ 1 ∷ 0 ∷ 0 ∷ [])
    ++ row 19 0 (1 ∷ 0 ∷ 0 ∷ 1 ∷ [])
    ++ row 3 0 (2 ∷ 3 ∷ 4 ∷ 8 ∷ [])
    ++ row 2 0 (2 ∷ 3 ∷ 4 ∷ 8 ∷ [])
    ++ row 3 0 (9 ∷ 9 ∷ [])

-- 0 the array a, 1 and 2 the indices i, j, 3 x; 4 s: store(a, i, x), 5 select(s, i), 6 select(s, j), 7 select(a, j), 8 select(a, i)
-- 9 select(s, i) = x, 10 select(s, j) = select(a, j), 11 select(s, i) = select(a, i), 12 i = j
abbrev arrays : List ℕ
arrays =
    row 16 3 []
    ++ row 17 1 []
    ++ row 18 1 []
    ++ row 19 2 []
    ++ row 5 3 (0 ∷ 1 ∷ 3 ∷ [])
    ++ row 4 2 (4 ∷ 1 ∷ [])
    ++ row 4 2 (4 ∷ 2 ∷ [])
    ++ row 4 2 (0 ∷ 2 ∷ [])
    ++ row 4 2 (0 ∷ 1 ∷ [])
    ++ row 0 0 (5 ∷ 3 ∷ [])
    ++ row 0 0 (6 ∷ 7 ∷ [])
    ++ row 0 0 (5 ∷ 8 ∷ [])
    ++ row 0 0 (1 ∷ 2 ∷ [])

-- both are term sheets that are taken
boards_taken : map (terms_refusal (plain ++ plain ++ (1 ∷ 2 ∷ []))) (board ∷ arrays ∷ []) ≡ 0 ∷ 0 ∷ []
unfolding Lists.first_where Numbers.unless Numbers.or_else Numbers.first_refusal Sorts.is_array Terms.cells Terms.args Terms.arg Terms.earlier Terms.same_use Terms.first_use Terms.suits Terms.twins Terms.fresh Terms.term_refusal Terms.terms_refusal
boards_taken = refl

-- ---- rows

-- a row that does not fit, and its place
record Slip : Type 0 where
  terms : List ℕ
  rule : Rule
  term : ℕ
  value : ℕ
  given : List Premise
  place : ℕ

abbrev slip : List ℕ → Rule → ℕ → ℕ → List Premise → ℕ → Slip
slip ts k l v ps c = record { terms = ts; rule = k; term = l; value = v; given = ps; place = c }

-- the rule gives the term true, or false
abbrev true_by : Rule → ℕ → List Premise → ℕ → Slip
true_by k l ps c = slip board k l 1 ps c

abbrev false_by : Rule → ℕ → List Premise → ℕ → Slip
false_by k l ps c = slip board k l 0 ps c

-- a row that is true, or false, on the trail
abbrev yes_of : ℕ → Premise
yes_of a = with 1 a

abbrev no_of : ℕ → Premise
no_of a = with 0 a

abbrev values : List Slip
values =
    -- same: no equality; false; the sides turned; two values; a third premise
    true_by Same 9 (with 7 0 ∷ with 7 1 ∷ []) 3
    ∷ false_by Same 2 (with 7 0 ∷ with 7 1 ∷ []) 4
    ∷ true_by Same 2 (with 7 1 ∷ with 7 0 ∷ []) 5
    ∷ true_by Same 2 (with 7 0 ∷ with 8 1 ∷ []) 6
    ∷ true_by Same 2 (with 7 0 ∷ with 7 1 ∷ with 7 1 ∷ []) 7
    -- differ: no equality; true; no premise; a against itself, whose second column had a free value; a third premise
    ∷ false_by Differ 9 (with 7 0 ∷ with 8 1 ∷ []) 3
    ∷ true_by Differ 2 (with 7 0 ∷ with 8 1 ∷ []) 4
    ∷ false_by Differ 2 [] 5
    ∷ false_by Differ 4 (with 7 0 ∷ with 7 0 ∷ []) 6
    ∷ false_by Differ 2 (with 7 0 ∷ with 8 1 ∷ with 8 1 ∷ []) 7
    ∷ []

abbrev equalities : List Slip
equalities =
    -- refl: two terms; false; a premise
    true_by Reflexivity 2 [] 3
    ∷ false_by Reflexivity 4 [] 4
    ∷ true_by Reflexivity 4 (yes_of 4 ∷ []) 5
    -- sym: the turned equality is no row; false; the equality itself; a second premise
    ∷ true_by Symmetry 8 (yes_of 8 ∷ []) 3
    ∷ false_by Symmetry 2 (yes_of 3 ∷ []) 4
    ∷ true_by Symmetry 2 (yes_of 2 ∷ []) 5
    ∷ true_by Symmetry 2 (yes_of 3 ∷ yes_of 3 ∷ []) 6
    -- trans: no rows lead from side to side; false; it starts elsewhere; its second half is false; a third premise
    ∷ true_by Transitivity 8 (yes_of 8 ∷ yes_of 8 ∷ []) 3
    ∷ false_by Transitivity 2 (yes_of 4 ∷ yes_of 2 ∷ []) 4
    ∷ true_by Transitivity 2 (yes_of 3 ∷ yes_of 2 ∷ []) 5
    ∷ true_by Transitivity 2 (yes_of 4 ∷ no_of 2 ∷ []) 6
    ∷ true_by Transitivity 2 (yes_of 4 ∷ yes_of 2 ∷ yes_of 2 ∷ []) 7
    ∷ []

abbrev connectives : List Slip
connectives =
    -- neg (either value can be given): the negation is no row; it has the value that is given; a second premise
    true_by Negated 3 (no_of 5 ∷ []) 3
    ∷ true_by Negated 2 (yes_of 5 ∷ []) 5
    ∷ true_by Negated 2 (no_of 5 ∷ no_of 5 ∷ []) 6
    -- part: an argument of nothing; of an or alone, and true; from a true or; a second premise
    ∷ true_by Part 10 (yes_of 12 ∷ []) 3
    ∷ true_by Part 9 (no_of 13 ∷ []) 4
    ∷ true_by Part 2 (yes_of 11 ∷ []) 5
    ∷ true_by Part 2 (yes_of 12 ∷ yes_of 12 ∷ []) 6
    -- unit: an argument of nothing; of an or alone, and false; a false or; the others out of order; two of them left out; the last one false; the term too
    ∷ true_by Unit 10 (yes_of 11 ∷ []) 3
    ∷ false_by Unit 9 (yes_of 13 ∷ no_of 9 ∷ []) 4
    ∷ true_by Unit 8 (no_of 11 ∷ no_of 2 ∷ no_of 3 ∷ no_of 4 ∷ []) 5
    ∷ true_by Unit 8 (yes_of 11 ∷ no_of 3 ∷ no_of 2 ∷ no_of 4 ∷ []) 6
    ∷ true_by Unit 8 (yes_of 11 ∷ no_of 2 ∷ []) 7
    ∷ false_by Unit 8 (no_of 12 ∷ yes_of 2 ∷ yes_of 3 ∷ no_of 4 ∷ []) 8
    ∷ true_by Unit 8 (yes_of 11 ∷ no_of 2 ∷ no_of 3 ∷ no_of 4 ∷ no_of 8 ∷ []) 9
    -- eval (either value can be given): no connective; a true argument of a false or; or(p, p) true of p false, whose second column had a free value;
    -- two arguments left out though one is false; the last argument of a true or false; a fifth premise
    ∷ true_by Evaluation 9 [] 3
    ∷ false_by Evaluation 11 (yes_of 2 ∷ no_of 3 ∷ no_of 4 ∷ no_of 8 ∷ []) 5
    ∷ true_by Evaluation 13 (no_of 9 ∷ no_of 9 ∷ []) 6
    ∷ false_by Evaluation 12 (no_of 2 ∷ yes_of 3 ∷ []) 7
    ∷ true_by Evaluation 11 (no_of 2 ∷ no_of 3 ∷ no_of 4 ∷ no_of 8 ∷ []) 8
    ∷ true_by Evaluation 12 (yes_of 2 ∷ yes_of 3 ∷ yes_of 4 ∷ yes_of 8 ∷ yes_of 8 ∷ []) 9
    ∷ []

abbrev functions : List Slip
functions =
    -- cong: two heads; false; the first equality false; the second one turned; two left out; another one for the last; a fifth premise
    true_by Congruence 2 (yes_of 2 ∷ []) 3
    ∷ false_by Congruence 8 (yes_of 2 ∷ yes_of 3 ∷ yes_of 4 ∷ yes_of 2 ∷ []) 4
    ∷ true_by Congruence 8 (no_of 2 ∷ yes_of 3 ∷ yes_of 4 ∷ yes_of 2 ∷ []) 5
    ∷ true_by Congruence 8 (yes_of 2 ∷ yes_of 2 ∷ yes_of 4 ∷ yes_of 2 ∷ []) 6
    ∷ true_by Congruence 8 (yes_of 2 ∷ yes_of 3 ∷ []) 7
    ∷ true_by Congruence 8 (yes_of 2 ∷ yes_of 3 ∷ yes_of 4 ∷ yes_of 4 ∷ []) 8
    ∷ true_by Congruence 8 (yes_of 2 ∷ yes_of 3 ∷ yes_of 4 ∷ yes_of 2 ∷ yes_of 2 ∷ []) 9
    -- pred (either value can be given): no predicate; the other value; the first equality turned; three left out; the third false; another one for the last
    ∷ true_by Predicate 8 (yes_of 9 ∷ []) 3
    ∷ true_by Predicate 10 (no_of 9 ∷ yes_of 2 ∷ yes_of 3 ∷ yes_of 4 ∷ yes_of 2 ∷ []) 5
    ∷ true_by Predicate 10 (yes_of 9 ∷ yes_of 3 ∷ yes_of 3 ∷ yes_of 4 ∷ yes_of 2 ∷ []) 6
    ∷ false_by Predicate 10 (no_of 9 ∷ yes_of 2 ∷ []) 7
    ∷ true_by Predicate 10 (yes_of 9 ∷ yes_of 2 ∷ yes_of 3 ∷ no_of 4 ∷ yes_of 2 ∷ []) 8
    ∷ true_by Predicate 10 (yes_of 9 ∷ yes_of 2 ∷ yes_of 3 ∷ yes_of 4 ∷ yes_of 4 ∷ []) 9
    -- read: not the element that was stored; false; a premise
    ∷ slip arrays Read 11 1 [] 3
    ∷ slip arrays Read 9 0 [] 4
    ∷ slip arrays Read 9 1 (yes_of 12 ∷ []) 5
    -- skip: i = i is no row; false; i = j true; a second premise
    ∷ slip arrays Skip 11 1 (no_of 12 ∷ []) 3
    ∷ slip arrays Skip 10 0 (no_of 12 ∷ []) 4
    ∷ slip arrays Skip 10 1 (yes_of 12 ∷ []) 5
    ∷ slip arrays Skip 10 1 (no_of 12 ∷ no_of 12 ∷ []) 6
    ∷ []

abbrev table : List Slip
table = values ++ equalities ++ connectives ++ functions

-- ---- the statement

-- the place that document 02 means, and the place that the search finds
abbrev meant : Slip → ℕ
meant x = unfit_place x.terms x.rule x.term x.value x.given

abbrev sought : Slip → ℕ
sought x = found_place x.terms x.rule x.term x.value x.given

-- the row is legible, and its place is found
abbrev found : Slip → Bool
found x =
    let ps = x.given in
    all (is_row x.terms) ps && (all small ps && (leb x.value 1 && (not (at_term x.rule) && eqb (sought x) x.place)))

place_is : (x : Slip) → T (found x) → meant x ≡ x.place
place_is x h =
    let G : Legible x.terms x.value x.given = record { rows = search facts; values = search facts; truth = search facts } in
    let e : sought x ≡ x.place = search facts in
    let a : at_term x.rule ≡ false = T_false _ (search facts) in
    search_finds_places x.terms x.rule x.term x.value x.given a G ∙ e

places_are : (xs : List Slip) → T (all found xs) → map meant xs ≡ map (λ x. x.place) xs
places_are [] h = refl
places_are (x ∷ xs) h =
    let e = place_is x (and_l (found x) _ h) in
    let f = places_are xs (and_r (found x) _ h) in
    λ i. e i ∷ f i

all_found : T (all found table)
unfolding Lists.first_where Terms.cells Terms.args Terms.arg Rules.bare Rules.single Rules.double Rules.leading Rules.unit_at Rules.fits Place.free_values Needs.equation Needs.needs Search.followed Search.extensible Search.findable Search.found_place
all_found = tt

pub places : map meant table ≡ map (λ x. x.place) table
places = places_are table all_found

-- ---- deep

abbrev deeps : List Slip
deeps =
    -- the other value; arguments with no premise; a premise that the walk does not come to
    true_by Deep 5 (yes_of 2 ∷ []) 3
    ∷ true_by Deep 11 (yes_of 2 ∷ []) 3
    ∷ true_by Deep 5 (no_of 2 ∷ no_of 3 ∷ []) 3
    ∷ []

deeps_unfit : map (λ x. fits x.terms x.rule x.term x.value x.given) deeps ≡ false ∷ false ∷ false ∷ []
unfolding Terms.cells Terms.args Rules.grounded Rules.walk_value Rules.comes_to Rules.fits
deeps_unfit = refl

-- `deep_later` says that by the columns each would have another place
pub deep_places : map meant deeps ≡ map (λ x. x.place) deeps
unfolding Place.unfit_place
deep_places = refl
