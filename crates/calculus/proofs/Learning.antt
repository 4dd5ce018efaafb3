-- learn on a board of props: every number, each order of its tests, and the trail that an allowed one leaves, as one table and one statement.
use mathlib.Core.Path.{◌≡◌, refl}
use mathlib.Core.List.{List, [], ◌∷◌, ◌++◌, map}
use Prim.Native.Nat.{ℕ}
use Rattle.calculus.specs.Lists
use Rattle.calculus.specs.Numbers
use Rattle.calculus.specs.Sheets
use Rattle.calculus.specs.Sorts
use Rattle.calculus.specs.Terms
use Rattle.calculus.specs.Trail
use Rattle.calculus.specs.Trail.{trail_numbers_of}
use Rattle.calculus.specs.Inputs
use Rattle.calculus.specs.Rules
use Rattle.calculus.specs.Clauses
use Rattle.calculus.specs.Steps
use Rattle.calculus.specs.Steps.{trail_of}
use Rattle.calculus.specs.Run
use Rattle.calculus.specs.Run.{ending}
use Rattle.calculus.proofs.Boards.{Case, sheets, call_of, given, asked, nothing, plain, row, differ, unit, eval, decide, deduce, clash, resolve, learn, remains, refuses, entry}

-- ---- the board

abbrev p : ℕ
p = 0

abbrev q : ℕ
q = 1

abbrev r : ℕ
r = 2

abbrev s : ℕ
s = 3

abbrev not_p : ℕ
not_p = 4

abbrev not_q : ℕ
not_q = 5

abbrev not_r : ℕ
not_r = 6

-- and(p, q, r, s), or(p, q, r, s)
abbrev all_four : ℕ
all_four = 8

abbrev some : ℕ
some = 9

-- or(not(r), not(q)), and(r, q), or(q, not(r))
abbrev not_both : ℕ
not_both = 10

abbrev both : ℕ
both = 11

abbrev mixed : ℕ
mixed = 12

-- or(not(q), not(r), not(p)), or(not(s), not(p), not(r), not(q)), and(s, r, q, p)
abbrev not_three : ℕ
not_three = 13

abbrev not_four : ℕ
not_four = 14

abbrev four : ℕ
four = 15

-- or(q, r), and(not(q), not(r))
abbrev either : ℕ
either = 16

abbrev neither : ℕ
neither = 17

-- and(p, not(p)), or(not(p), not(p)), not(not(p)), or(not(not(p)), p), or(p, p)
abbrev p_and_not : ℕ
p_and_not = 18

abbrev not_p_twice : ℕ
not_p_twice = 19

abbrev not_not_p : ℕ
not_not_p = 20

abbrev p_or_not_not : ℕ
p_or_not_not = 21

abbrev p_twice : ℕ
p_twice = 22

-- or(and(r, q), not(r), not(q)), or(not(q), not(q))
abbrev whole : ℕ
whole = 23

abbrev not_q_twice : ℕ
not_q_twice = 24

-- two terms and their equation
abbrev a : ℕ
a = 25

abbrev b : ℕ
b = 26

abbrev e : ℕ
e = 27

-- no row
abbrev no_row : ℕ
no_row = 28

abbrev board : List ℕ
board =
    row 16 0 []
    ++ row 17 0 []
    ++ row 18 0 []
    ++ row 19 0 []
    ++ row 1 0 (p ∷ [])
    ++ row 1 0 (q ∷ [])
    ++ row 1 0 (r ∷ [])
    ++ row 1 0 (s ∷ [])
    ++ row 2 0 (p ∷ q ∷ r ∷ s ∷ [])
    ++ row 3 0 (p ∷ q ∷ r ∷ s ∷ [])
    ++ row 3 0 (not_r ∷ not_q ∷ [])
    ++ row 2 0 (r ∷ q ∷ [])
    ++ row 3 0 (q ∷ not_r ∷ [])
    ++ row 3 0 (not_q ∷ not_r ∷ not_p ∷ [])
    ++ row 3 0 (7 ∷ not_p ∷ not_r ∷ not_q ∷ [])
    ++ row 2 0 (s ∷ r ∷ q ∷ p ∷ [])
    ++ row 3 0 (q ∷ r ∷ [])
    ++ row 2 0 (not_q ∷ not_r ∷ [])
    ++ row 2 0 (p ∷ not_p ∷ [])
    ++ row 3 0 (not_p ∷ not_p ∷ [])
    ++ row 1 0 (not_p ∷ [])
    ++ row 3 0 (not_not_p ∷ p ∷ [])
    ++ row 3 0 (p ∷ p ∷ [])
    ++ row 3 0 (both ∷ not_r ∷ not_q ∷ [])
    ++ row 3 0 (not_q ∷ not_q ∷ [])
    ++ row 20 1 []
    ++ row 21 1 []
    ++ row 0 0 (a ∷ b ∷ [])

-- ---- a case: the call, and the entries left

abbrev Example : Type 0
Example = record { call : Case; left : List ℕ }

abbrev example : List ℕ → List ℕ → List ℕ → List ℕ → Example
example is log result left = record { call = sheets plain board is log result; left = left }

abbrev seen : Example → List ℕ
seen x = given x.call ++ trail_numbers_of (trail_of (ending (call_of x.call)).state)

abbrev expected : Example → List ℕ
expected x = asked x.call ++ x.left

-- ---- conflicts

-- s, p, q, r decided with the value v, at the levels 1 to 4
abbrev decided : ℕ → List ℕ
decided v = decide s v ++ decide p v ++ decide q v ++ decide r v

abbrev standing : ℕ → List ℕ
standing v = entry s v 1 1 ++ entry p v 2 1 ++ entry q v 3 1 ++ entry r v 4 1

-- and(p, q, r, s) false, by input; the four are true
abbrev of_true : List ℕ → List ℕ → List ℕ → Example
of_true log result left = example (all_four ∷ 0 ∷ []) (decided 1 ++ clash eval all_four 1 (p ∷ q ∷ r ∷ s ∷ []) ++ log) result (entry all_four 0 0 0 ++ left)

-- or(p, q, r, s) true, by input; the four are false
abbrev of_false : List ℕ → List ℕ → List ℕ → Example
of_false log result left = example (some ∷ 1 ∷ []) (decided 0 ++ clash eval some 0 (p ∷ q ∷ r ∷ s ∷ []) ++ log) result (entry some 1 0 0 ++ left)

-- and(p, not(p)) true, by input; p has the value v, not(p) the value w
abbrev of_p : ℕ → ℕ → List ℕ → List ℕ → List ℕ → Example
of_p v w log result left =
    example (p_and_not ∷ 1 ∷ []) (decide p v ++ decide not_p w ++ clash eval p_and_not 0 (p ∷ not_p ∷ []) ++ log) result (entry p_and_not 1 0 0 ++ left)

-- and(r, q), q, r all decided: the conflict has nothing else
abbrev of_three : List ℕ → List ℕ → List ℕ → Example
of_three log result left = example [] (decide both 0 ++ decide q 1 ++ decide r 1 ++ clash eval both 1 (r ∷ q ∷ []) ++ log) result left

-- a and b have different values, and then a = b is decided true
abbrev of_terms : List ℕ → ℕ → Example
of_terms log n =
    example [] (decide a 7 ++ decide b 8 ++ decide e 1 ++ clash differ e 0 (a ∷ b ∷ []) ++ log) (refuses 4 n 3)
    (entry a 7 1 1 ++ entry b 8 2 1 ++ entry e 1 3 1)

-- the clause t has the value v before the conflict, at level 5 above the others
abbrev with_clause : ℕ → ℕ → List ℕ → ℕ → Example
with_clause t v log n =
    example (all_four ∷ 0 ∷ []) (decided 1 ++ decide t v ++ clash eval all_four 1 (p ∷ q ∷ r ∷ s ∷ []) ++ log) (refuses 6 n 6)
    (entry all_four 0 0 0 ++ standing 1 ++ entry t v 5 1)

-- a row that is refused leaves the trail alone
abbrev refused : List ℕ → ℕ → Example
refused log n = of_true log (refuses 5 n 5) (standing 1)

-- one that is refused in a search
abbrev searched : List ℕ → ℕ → Example
searched log n = example (all_four ∷ 0 ∷ []) (decided 1 ++ log) (refuses 4 n 5) (entry all_four 0 0 0 ++ standing 1)

-- ---- the table

abbrev allowed : List Example
allowed =
    -- back to the level of the rest, 2; to level 3, where q stays and the clause is at level 2 all the same
    of_true (learn not_both 2 (q ∷ r ∷ [])) (remains 6 4) (entry s 1 1 1 ++ entry p 1 2 1 ++ entry not_both 1 2 0)
    ∷ of_true (learn not_both 3 (q ∷ r ∷ [])) (remains 6 5) (entry s 1 1 1 ++ entry p 1 2 1 ++ entry q 1 3 1 ++ entry not_both 1 2 0)
    -- members in the arguments' order
    ∷ of_true (learn not_both 2 (r ∷ q ∷ [])) (remains 6 4) (entry s 1 1 1 ++ entry p 1 2 1 ++ entry not_both 1 2 0)
    -- an and becomes false; true members appear as themselves
    ∷ of_true (learn both 2 (q ∷ r ∷ [])) (remains 6 4) (entry s 1 1 1 ++ entry p 1 2 1 ++ entry both 0 2 0)
    -- three members, four members
    ∷ of_true (learn not_three 1 (p ∷ q ∷ r ∷ [])) (remains 6 3) (entry s 1 1 1 ++ entry not_three 1 1 0)
    ∷ of_true (learn not_four 0 (p ∷ q ∷ r ∷ s ∷ [])) (remains 6 2) (entry not_four 1 0 0)
    ∷ of_true (learn four 1 (p ∷ q ∷ r ∷ s ∷ [])) (remains 6 3) (entry s 1 1 1 ++ entry four 0 0 0)
    -- false members appear as themselves in an or, negated in an and
    ∷ of_false (learn either 2 (q ∷ r ∷ [])) (remains 6 4) (entry s 0 1 1 ++ entry p 0 2 1 ++ entry either 1 2 0)
    ∷ of_false (learn neither 2 (q ∷ r ∷ [])) (remains 6 4) (entry s 0 1 1 ++ entry p 0 2 1 ++ entry neither 0 2 0)
    -- one row at two positions stands for two members; a true not(p) appears as not(not(p))
    ∷ of_p 1 0 (learn not_p_twice 0 (p ∷ not_p ∷ [])) (remains 4 2) (entry not_p_twice 1 0 0)
    ∷ of_p 0 1 (learn p_or_not_not 1 (p ∷ not_p ∷ [])) (remains 4 3) (entry p 0 1 1 ++ entry p_or_not_not 1 0 0)
    -- no rest: level 0, wherever the trail is kept to
    ∷ of_three (learn whole 0 (both ∷ q ∷ r ∷ [])) (remains 5 1) (entry whole 1 0 0)
    ∷ of_three (learn whole 2 (both ∷ q ∷ r ∷ [])) (remains 5 3) (entry both 0 1 1 ++ entry q 1 2 1 ++ entry whole 1 0 0)
    -- the search goes on with the clause: q is true, so not(r)
    ∷ of_true (learn not_both 3 (q ∷ r ∷ []) ++ deduce eval not_q 0 (q ∷ []) ++ deduce unit not_r 1 (not_both ∷ not_q ∷ [])) (remains 8 7)
    (entry s 1 1 1 ++ entry p 1 2 1 ++ entry q 1 3 1 ++ entry not_both 1 2 0 ++ entry not_q 0 3 0 ++ entry not_r 1 3 0)
    ∷ of_true (learn not_both 2 (q ∷ r ∷ []) ++ resolve p) (refuses 6 10 4) (entry s 1 1 1 ++ entry p 1 2 1 ++ entry not_both 1 2 0)
    ∷ []

abbrev turned_away : List Example
turned_away =
    -- 9: rule or t filled; term, level, p or q blank; a gap
    refused (8 ∷ 0 ∷ not_both ∷ 2 ∷ q ∷ r ∷ nothing 3) 9
    ∷ refused (8 ∷ 65535 ∷ not_both ∷ 2 ∷ q ∷ r ∷ p ∷ s ∷ s ∷ []) 9
    ∷ refused (8 ∷ 65535 ∷ not_both ∷ 2 ∷ q ∷ r ∷ 65535 ∷ 65535 ∷ s ∷ []) 9
    ∷ refused (learn 65535 2 (q ∷ r ∷ [])) 9
    ∷ refused (learn not_both 65535 (q ∷ r ∷ [])) 9
    ∷ refused (learn not_both 2 (65535 ∷ r ∷ [])) 9
    ∷ refused (learn not_both 2 (q ∷ [])) 9
    ∷ refused (learn not_both 2 []) 9
    ∷ refused (learn not_both 2 (q ∷ r ∷ 65535 ∷ s ∷ [])) 9
    -- before 10
    ∷ searched (learn not_both 2 (q ∷ [])) 9
    -- 10, and before 11
    ∷ searched (learn not_both 2 (q ∷ r ∷ [])) 10
    ∷ searched (learn no_row 2 (q ∷ no_row ∷ [])) 10
    -- 11: the term or a member is no row; before 17
    ∷ refused (learn no_row 2 (q ∷ r ∷ [])) 11
    ∷ refused (learn not_both 2 (q ∷ no_row ∷ [])) 11
    ∷ refused (learn not_four 0 (p ∷ q ∷ r ∷ no_row ∷ [])) 11
    ∷ refused (learn no_row 2 (q ∷ a ∷ [])) 11
    -- 17: any member is outside the conflict; before 22 of the member and of the term
    ∷ refused (learn not_both 2 (q ∷ not_r ∷ [])) 17
    ∷ refused (learn not_four 0 (p ∷ q ∷ r ∷ e ∷ [])) 17
    ∷ refused (learn not_both 2 (q ∷ a ∷ [])) 17
    ∷ refused (learn not_q 2 (q ∷ not_r ∷ [])) 17
    -- 22: any member is no prop; the term is no clause; before 25
    ∷ of_terms (learn not_both 1 (e ∷ a ∷ [])) 22
    ∷ of_terms (learn not_both 1 (b ∷ e ∷ [])) 22
    ∷ refused (learn not_q 2 (q ∷ r ∷ [])) 22
    ∷ refused (learn a 2 (q ∷ r ∷ [])) 22
    ∷ refused (learn not_q 2 (q ∷ q ∷ [])) 22
    -- 25: a member twice, even where the arguments are
    ∷ refused (learn not_both 2 (q ∷ q ∷ [])) 25
    ∷ refused (learn not_q_twice 2 (q ∷ q ∷ [])) 25
    ∷ refused (learn not_three 1 (q ∷ r ∷ q ∷ [])) 25
    -- q as itself in an or, negated in an and; an argument or a member too many
    ∷ refused (learn mixed 2 (q ∷ r ∷ [])) 25
    ∷ refused (learn either 2 (q ∷ r ∷ [])) 25
    ∷ refused (learn neither 2 (q ∷ r ∷ [])) 25
    ∷ refused (learn not_three 1 (q ∷ r ∷ [])) 25
    ∷ refused (learn not_both 1 (p ∷ q ∷ r ∷ [])) 25
    ∷ of_false (learn not_both 2 (q ∷ r ∷ [])) (refuses 5 25 5) (standing 0)
    ∷ of_false (learn both 2 (q ∷ r ∷ [])) (refuses 5 25 5) (standing 0)
    -- one position serves one member; a true not(p) never appears as p
    ∷ refused (learn not_q_twice 2 (q ∷ r ∷ [])) 25
    ∷ of_p 0 1 (learn p_twice 1 (p ∷ not_p ∷ [])) (refuses 3 25 3) (entry p 0 1 1 ++ entry not_p 1 2 1)
    -- before 14: and(p, q, r, s) is on the trail
    ∷ refused (learn all_four 2 (q ∷ r ∷ [])) 25
    -- 14: the clause has a value, either one, though it would not be kept; before 21
    ∷ with_clause not_both 1 (learn not_both 2 (q ∷ r ∷ [])) 14
    ∷ with_clause not_both 0 (learn not_both 2 (q ∷ r ∷ [])) 14
    ∷ with_clause both 0 (learn both 2 (q ∷ r ∷ [])) 14
    ∷ with_clause not_both 1 (learn not_both 0 (q ∷ r ∷ [])) 14
    ∷ refused (learn all_four 0 (p ∷ q ∷ r ∷ s ∷ [])) 14
    -- 21: below the rest; at the level of the members, above it, far above it
    ∷ refused (learn not_both 1 (q ∷ r ∷ [])) 21
    ∷ refused (learn not_both 4 (q ∷ r ∷ [])) 21
    ∷ refused (learn not_both 5 (q ∷ r ∷ [])) 21
    ∷ refused (learn not_both 65534 (q ∷ r ∷ [])) 21
    -- the rest is and(r, q), decided at level 1
    ∷ of_three (learn not_both 1 (q ∷ r ∷ [])) (remains 5 2) (entry both 0 1 1 ++ entry not_both 1 1 0)
    ∷ of_three (learn not_both 0 (q ∷ r ∷ [])) (refuses 4 21 3) (entry both 0 1 1 ++ entry q 1 2 1 ++ entry r 1 3 1)
    ∷ []

abbrev table : List Example
table = allowed ++ turned_away

pub learning : map seen table ≡ map expected table
unfolding Lists.first_where Numbers.unless Numbers.or_else Numbers.first_refusal Sheets.length_refusal Sorts.is_array Sorts.is_plain Sorts.sort_refusal Sorts.sorts_refusal Terms.cells Terms.args Terms.arg Terms.earlier Terms.same_use Terms.first_use Terms.suits Terms.twins Terms.fresh Terms.term_refusal Terms.terms_refusal Trail.on Trail.entry Trail.holds Trail.level_of Trail.kept_to Trail.trail_numbers_of Inputs.input_trail Inputs.input_refusal Inputs.inputs_refusal Rules.rule_of Rules.bare Rules.single Rules.double Rules.leading Rules.unit_at Rules.fits Clauses.literal Clauses.paired Steps.answer Steps.premises Steps.kind_of Steps.shaped Steps.ready Steps.known Steps.acceptable Steps.decide_refusal Steps.decide Steps.inference_refusal Steps.deduce_refusal Steps.deduce Steps.contradiction_refusal Steps.clash_refusal Steps.clash Steps.fail_refusal Steps.fail Steps.resolve_refusal Steps.resolve Steps.clear_refusal Steps.clear Steps.jump_refusal Steps.jump Steps.flip_refusal Steps.flip Steps.learn_refusal Steps.learn Steps.row_refusal Steps.step_by Steps.step Run.follow Run.run Run.sheets_refusal Run.call_refusal Run.ending_of Run.ending Run.outcome
learning = refl
