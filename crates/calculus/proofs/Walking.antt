-- deep on a board of formulas: what it allows, every number with its place, and each order of its tests, as one table and one statement.
use mathlib.Core.Path.{◌≡◌, refl}
use mathlib.Core.List.{List, [], ◌∷◌, ◌++◌, map}
use Prim.Native.Nat.{ℕ}
use Rattle.calculus.specs.Lists
use Rattle.calculus.specs.Numbers
use Rattle.calculus.specs.Sheets
use Rattle.calculus.specs.Sorts
use Rattle.calculus.specs.Terms
use Rattle.calculus.specs.Trail
use Rattle.calculus.specs.Inputs
use Rattle.calculus.specs.Rules
use Rattle.calculus.specs.Steps
use Rattle.calculus.specs.Place
use Rattle.calculus.specs.Run
use Rattle.calculus.specs.Run.{outcome}
use Rattle.calculus.proofs.Boards.{Case, sheets, call_of, asked, shown, plain, row, eval, deep, decide, deduce, clash, fail, remains, refutes, refuses}

-- ---- the board

abbrev p : ℕ
p = 0

abbrev q : ℕ
q = 1

abbrev r : ℕ
r = 2

-- two terms and their equation
abbrev a : ℕ
a = 3

abbrev e : ℕ
e = 5

abbrev not_p : ℕ
not_p = 6

-- and(not(p), q), or(and(not(p), q), r), and(or(and(not(p), q), r), e)
abbrev inner : ℕ
inner = 7

abbrev outer : ℕ
outer = 8

abbrev outmost : ℕ
outmost = 9

-- or(p, p), and(p, q, r, e)
abbrev p_twice : ℕ
p_twice = 10

abbrev four : ℕ
four = 11

-- or(and(p, q, r, e), not(p))
abbrev five : ℕ
five = 12

-- p under eight nots, and under nine
abbrev eighth : ℕ
eighth = 19

abbrev ninth : ℕ
ninth = 20

-- not(t)
abbrev negation : ℕ → List ℕ
negation t = row 1 0 (t ∷ [])

abbrev board : List ℕ
board =
    row 16 0 []
    ++ row 17 0 []
    ++ row 18 0 []
    ++ row 19 1 []
    ++ row 20 1 []
    ++ row 0 0 (3 ∷ 4 ∷ [])
    ++ negation p
    ++ row 2 0 (not_p ∷ q ∷ [])
    ++ row 3 0 (inner ∷ r ∷ [])
    ++ row 2 0 (outer ∷ e ∷ [])
    ++ row 3 0 (p ∷ p ∷ [])
    ++ row 2 0 (p ∷ q ∷ r ∷ e ∷ [])
    ++ row 3 0 (four ∷ not_p ∷ [])
    ++ negation not_p
    ++ negation 13
    ++ negation 14
    ++ negation 15
    ++ negation 16
    ++ negation 17
    ++ negation 18
    ++ negation 19

-- ---- a case: p false, q true, r true, e false and a with the value 7 by input, and more of it; the result with its place

abbrev by_input : List ℕ → List ℕ → List ℕ → ℕ → Case
by_input more log result place = sheets plain board (p ∷ 0 ∷ q ∷ 1 ∷ r ∷ 1 ∷ e ∷ 0 ∷ a ∷ 7 ∷ more) log (result ++ (place ∷ []))

abbrev placed : Case → List ℕ
placed x = let o = outcome (call_of x) in shown o ++ (o.place ∷ [])

-- one row is allowed, or refused with the number and its place
abbrev allowed : List ℕ → Case
allowed log = by_input [] log (remains 1 6) 0

abbrev refused : List ℕ → ℕ → ℕ → Case
refused log n place = by_input [] log (refuses 0 n 5) place

-- with one more assignment by input
abbrev given : ℕ → ℕ → List ℕ → List ℕ → ℕ → Case
given t v log result place = by_input (t ∷ v ∷ []) log result place

-- ---- the table

abbrev stands : List Case
stands =
    -- three layers, the premises in every order
    allowed (deduce deep outer 1 (p ∷ q ∷ r ∷ []))
    ∷ allowed (deduce deep outer 1 (r ∷ q ∷ p ∷ []))
    ∷ allowed (deduce deep outer 1 (q ∷ p ∷ r ∷ []))
    -- four layers, one of the premises an equation
    ∷ allowed (deduce deep outmost 0 (r ∷ e ∷ p ∷ q ∷ []))
    -- what eval allows
    ∷ allowed (deduce deep not_p 1 (p ∷ []))
    ∷ allowed (deduce deep four 0 (p ∷ q ∷ r ∷ e ∷ []))
    ∷ allowed (deduce deep p_twice 0 (p ∷ p ∷ []))
    -- a premise that two arguments are, named once; one that is named twice; five of them
    ∷ allowed (deduce deep p_twice 0 (p ∷ []))
    ∷ allowed (deduce deep outer 1 (p ∷ q ∷ r ∷ q ∷ []))
    ∷ allowed (deduce deep five 1 (p ∷ q ∷ e ∷ r ∷ p ∷ []))
    -- a formula in the middle is a premise, or the walk goes on through it
    ∷ given inner 0 (deduce deep outer 1 (inner ∷ r ∷ [])) (remains 1 7) 0
    ∷ given inner 1 (deduce deep outer 1 (p ∷ q ∷ r ∷ [])) (remains 1 7) 0
    -- eight layers; a premise on the way leaves less of them
    ∷ allowed (deduce deep eighth 0 (p ∷ []))
    ∷ given not_p 1 (deduce deep ninth 1 (not_p ∷ [])) (remains 1 7) 0
    -- after an eval, and before one
    ∷ by_input [] (deduce eval not_p 1 (p ∷ []) ++ deduce deep outer 1 (not_p ∷ q ∷ r ∷ [])) (remains 2 7) 0
    ∷ by_input [] (deduce deep inner 1 (q ∷ p ∷ []) ++ deduce eval outer 1 (inner ∷ r ∷ [])) (remains 2 7) 0
    -- in a fail, and above a decision in a clash
    ∷ given outer 0 (fail deep outer 1 (p ∷ q ∷ r ∷ [])) (refutes 1 6) 0
    ∷ by_input [] (decide outer 0 ++ clash deep outer 1 (r ∷ p ∷ q ∷ [])) (remains 2 6) 0
    ∷ []

abbrev turned_away : List Case
turned_away =
    -- 13: another value
    refused (deduce deep outer 0 (p ∷ q ∷ r ∷ [])) 13 3
    ∷ refused (deduce deep eighth 1 (p ∷ [])) 13 3
    -- a leaf has no value: a prop, an equation, though r alone settles the or
    ∷ refused (deduce deep outer 1 (r ∷ [])) 13 3
    ∷ refused (deduce deep outmost 0 (p ∷ q ∷ r ∷ [])) 13 3
    ∷ refused (deduce deep outmost 0 (e ∷ [])) 13 3
    ∷ refused (deduce deep not_p 1 []) 13 3
    ∷ refused (deduce deep e 0 []) 13 3
    -- a premise is not met: it is no node, no prop, lies below another premise, is above the term
    ∷ refused (deduce deep outer 1 (p ∷ q ∷ r ∷ e ∷ [])) 13 3
    ∷ refused (deduce deep outer 1 (p ∷ a ∷ q ∷ r ∷ [])) 13 3
    ∷ given inner 1 (deduce deep outer 1 (inner ∷ r ∷ p ∷ [])) (refuses 0 13 6) 3
    ∷ given outer 1 (deduce deep inner 1 (p ∷ q ∷ outer ∷ [])) (refuses 0 13 6) 3
    -- a ninth layer
    ∷ refused (deduce deep ninth 1 (p ∷ [])) 13 3
    -- in a clash and in a fail
    ∷ refused (clash deep outer 0 (p ∷ q ∷ r ∷ [])) 13 3
    ∷ refused (fail deep outer 1 (p ∷ q ∷ [])) 13 3
    -- before 14, 15, 16
    ∷ given outer 1 (deduce deep outer 1 (p ∷ q ∷ [])) (refuses 0 13 6) 3
    ∷ given outer 0 (deduce deep outer 1 (p ∷ q ∷ [])) (refuses 0 13 6) 3
    ∷ given outer 1 (clash deep outer 1 (p ∷ q ∷ [])) (refuses 0 13 6) 3
    -- the term as its own premise fits with its value: 14, in a clash and a fail 16; with others they are not met, and another value is another
    ∷ refused (deduce deep p 0 (p ∷ [])) 14 0
    ∷ refused (deduce deep p 0 (p ∷ p ∷ [])) 14 0
    ∷ refused (clash deep e 0 (e ∷ [])) 16 0
    ∷ refused (fail deep q 1 (q ∷ [])) 16 0
    ∷ refused (deduce deep p 1 (p ∷ [])) 13 3
    ∷ refused (deduce deep p 0 (p ∷ q ∷ [])) 13 3
    ∷ given outer 1 (deduce deep outer 1 (outer ∷ r ∷ [])) (refuses 0 13 6) 3
    -- 14, 15, 16, 26 of a row that fits
    ∷ given outer 1 (deduce deep outer 1 (p ∷ q ∷ r ∷ [])) (refuses 0 14 6) 0
    ∷ given outer 0 (deduce deep outer 1 (p ∷ q ∷ r ∷ [])) (refuses 0 15 6) 0
    ∷ refused (clash deep outer 1 (p ∷ q ∷ r ∷ [])) 16 0
    ∷ given outer 0 (clash deep outer 1 (p ∷ q ∷ r ∷ [])) (refuses 0 26 6) 0
    ∷ by_input [] (decide outer 0 ++ fail deep outer 1 (p ∷ q ∷ r ∷ [])) (refuses 1 26 6) 0
    -- 22 before 12, 12 before 13
    ∷ refused (deduce deep a 1 (not_p ∷ [])) 22 0
    ∷ refused (deduce deep outer 0 (not_p ∷ q ∷ r ∷ [])) 12 5
    ∷ refused (deduce deep outer 1 (p ∷ inner ∷ [])) 12 6
    -- 9: no rule has the number after it
    ∷ refused (deduce 14 outer 1 (p ∷ q ∷ r ∷ [])) 9 0
    ∷ []

abbrev table : List Case
table = stands ++ turned_away

pub walking : map placed table ≡ map asked table
unfolding Lists.first_where Numbers.unless Numbers.or_else Numbers.first_refusal Sheets.length_refusal Sorts.is_array Sorts.is_plain Sorts.sort_refusal Sorts.sorts_refusal Terms.cells Terms.args Terms.arg Terms.earlier Terms.same_use Terms.first_use Terms.suits Terms.twins Terms.fresh Terms.term_refusal Terms.terms_refusal Trail.on Trail.entry Trail.holds Trail.level_of Trail.kept_to Inputs.input_trail Inputs.input_refusal Inputs.inputs_refusal Rules.rule_of Rules.bare Rules.single Rules.double Rules.leading Rules.unit_at Rules.grounded Rules.walk_value Rules.comes_to Rules.fits Steps.answer Steps.premises Steps.kind_of Steps.shaped Steps.ready Steps.known Steps.acceptable Steps.decide_refusal Steps.decide Steps.inference_refusal Steps.deduce_refusal Steps.deduce Steps.contradiction_refusal Steps.clash_refusal Steps.clash Steps.fail_refusal Steps.fail Steps.resolve_refusal Steps.resolve Steps.clear_refusal Steps.clear Steps.jump_refusal Steps.jump Steps.flip_refusal Steps.flip Steps.row_refusal Steps.step_by Steps.step Place.absent_place Place.unfit_place Place.place_of Run.follow Run.run Run.sheets_refusal Run.call_refusal Run.ending_of Run.ending Run.outcome
walking = refl
