-- Every number under its own condition, and each order of tests: one table and one statement.
-- Where two faults are neighbours in an order of document 01, a row has both of them, and gets the first.
use mathlib.Core.Path.{◌≡◌, refl}
use mathlib.Core.Bool.{true, false}
use mathlib.Core.List.{List, [], ◌∷◌, ◌++◌, map}
use Prim.Native.Nat.{ℕ}
use lib.ListN.{length}
use Rattle.calculus.specs.Lists
use Rattle.calculus.specs.Numbers
use Rattle.calculus.specs.Sheets
use Rattle.calculus.specs.Sorts
use Rattle.calculus.specs.Terms
use Rattle.calculus.specs.Trail
use Rattle.calculus.specs.Inputs
use Rattle.calculus.specs.Rules
use Rattle.calculus.specs.Rules.{fits}
use Rattle.calculus.specs.Steps
use Rattle.calculus.specs.Run
use Rattle.calculus.specs.Run.{outcome}
use Rattle.calculus.specs.declared.Premise.{Premise}
use Rattle.calculus.specs.declared.Rule.TheVariants.{Congruence, Predicate}
use Rattle.calculus.proofs.Boards.{Case, lent, sheets, given, asked, away, nothing, plain, row, same, differ, refl_rule, neg, unit, eval, cong, pred, decide, deduce, clash, fail, resolve, clear, jump, flip, remains, refutes, refuses}

-- ---- 31, 30, 32, in this order

-- a sort row that breaks the sort rule
abbrev ill : List ℕ
ill = 7 ∷ 7 ∷ []

abbrev lengths : List Case
lengths =
    -- no whole number of rows, in each sheet
    sheets (nothing 3) [] [] [] (away 31)
    ∷ sheets [] (nothing 5) [] [] (away 31)
    ∷ sheets [] [] (nothing 1) [] (away 31)
    ∷ sheets [] [] [] (nothing 8) (away 31)
    -- one row more than a ceiling; just as many pass, and get the number of what is wrong besides
    ∷ sheets (nothing 66) [] [] [] (away 30)
    ∷ sheets (nothing 64) [] [] [] (remains 0 0)
    ∷ sheets ill (nothing 1542) [] [] (away 30)
    ∷ sheets ill (nothing 1536) [] [] (away 1)
    ∷ sheets ill [] (nothing 514) [] (away 30)
    ∷ sheets ill [] (nothing 512) [] (away 1)
    -- a buffer is short: 8N+12 words and 4N numbers are enough, one less is not; N is 0, 1 and 256
    ∷ lent 12 0 [] [] [] [] (remains 0 0)
    ∷ lent 11 0 [] [] [] [] (away 32)
    ∷ lent 20 4 plain (row 16 1 []) [] [] (remains 0 0)
    ∷ lent 19 4 plain (row 16 1 []) [] [] (away 32)
    ∷ lent 20 3 plain (row 16 1 []) [] [] (away 32)
    ∷ lent 2060 1024 ill (nothing 1536) [] [] (away 1)
    ∷ lent 2059 1024 ill (nothing 1536) [] [] (away 32)
    ∷ lent 2060 1023 ill (nothing 1536) [] [] (away 32)
    -- the order
    ∷ sheets (nothing 66) [] [] (nothing 8) (away 31)
    ∷ lent 11 0 [] [] [] (nothing 8) (away 31)
    ∷ lent 11 0 (nothing 66) [] [] [] (away 30)
    ∷ lent 11 0 ill [] [] [] (away 32)
    ∷ []

-- ---- sort rows: 1

abbrev sort_rows : List Case
sort_rows =
    -- an array sort of earlier sorts; of itself, of prop, of a blank
    sheets (plain ++ (1 ∷ 1 ∷ [])) [] [] [] (remains 0 0)
    ∷ sheets (plain ++ (2 ∷ 1 ∷ [])) [] [] [] (away 1)
    ∷ sheets (plain ++ (1 ∷ 2 ∷ [])) [] [] [] (away 1)
    ∷ sheets (plain ++ (0 ∷ 1 ∷ [])) [] [] [] (away 1)
    ∷ sheets (plain ++ (1 ∷ 0 ∷ [])) [] [] [] (away 1)
    ∷ sheets (plain ++ (65535 ∷ 1 ∷ [])) [] [] [] (away 1)
    ∷ sheets (plain ++ (1 ∷ 65535 ∷ [])) [] [] [] (away 1)
    -- before the term rows
    ∷ sheets ill (row 6 0 []) [] [] (away 1)
    ∷ []

-- ---- term rows: 3, 4, 5

-- index sort 1, value sort 2, their array sort 3
abbrev arrays : List ℕ
arrays = plain ++ plain ++ (1 ∷ 2 ∷ [])

-- i, x, the prop p, j, the array a
abbrev leaves : List ℕ
leaves = row 16 1 [] ++ row 17 2 [] ++ row 18 0 [] ++ row 19 1 [] ++ row 20 3 []

-- one row more, and two, get the number c
abbrev more : List ℕ → ℕ → Case
more r c = sheets arrays (leaves ++ r) [] [] (away c)

abbrev fine : List ℕ → Case
fine r = sheets arrays (leaves ++ r) [] [] (remains 0 0)

abbrev term_rows : List Case
term_rows =
    -- 3: the row itself, a later one; before 4: an unlisted head, a gap
    more (row 21 1 (5 ∷ [])) 3
    ∷ more (row 21 1 (6 ∷ [])) 3
    ∷ more (row 6 0 (5 ∷ [])) 3
    ∷ more (21 ∷ 1 ∷ 65535 ∷ 5 ∷ nothing 2) 3
    -- 4: heads that are not listed; a gap
    ∷ more (row 6 0 []) 4
    ∷ more (row 15 1 []) 4
    ∷ fine (row 65534 1 [])
    ∷ more (row 65535 1 []) 4
    ∷ more (21 ∷ 1 ∷ 65535 ∷ 0 ∷ nothing 2) 4
    -- eq
    ∷ fine (row 0 0 (0 ∷ 3 ∷ []))
    ∷ more (row 0 0 (0 ∷ 1 ∷ [])) 4
    ∷ more (row 0 0 (2 ∷ 2 ∷ [])) 4
    ∷ more (row 0 1 (0 ∷ 3 ∷ [])) 4
    ∷ more (row 0 0 (0 ∷ [])) 4
    ∷ more (row 0 0 (0 ∷ 3 ∷ 0 ∷ [])) 4
    -- not, and, or
    ∷ fine (row 1 0 (2 ∷ []))
    ∷ more (row 1 0 (0 ∷ [])) 4
    ∷ more (row 1 0 (2 ∷ 2 ∷ [])) 4
    ∷ more (row 1 1 (2 ∷ [])) 4
    ∷ fine (row 2 0 (2 ∷ 2 ∷ 2 ∷ 2 ∷ []))
    ∷ more (row 2 0 (2 ∷ [])) 4
    ∷ more (row 2 0 (2 ∷ 0 ∷ [])) 4
    ∷ fine (row 3 0 (2 ∷ 2 ∷ []))
    ∷ more (row 3 0 (2 ∷ [])) 4
    ∷ more (row 3 1 (2 ∷ 2 ∷ [])) 4
    -- select, store
    ∷ fine (row 4 2 (4 ∷ 0 ∷ []))
    ∷ more (row 4 2 (4 ∷ 1 ∷ [])) 4
    ∷ more (row 4 1 (4 ∷ 0 ∷ [])) 4
    ∷ more (row 4 2 (0 ∷ 0 ∷ [])) 4
    ∷ more (row 4 2 (4 ∷ [])) 4
    ∷ more (row 4 2 (4 ∷ 0 ∷ 0 ∷ [])) 4
    ∷ fine (row 5 3 (4 ∷ 0 ∷ 1 ∷ []))
    ∷ more (row 5 3 (4 ∷ 1 ∷ 1 ∷ [])) 4
    ∷ more (row 5 3 (4 ∷ 0 ∷ 0 ∷ [])) 4
    ∷ more (row 5 2 (4 ∷ 0 ∷ 1 ∷ [])) 4
    ∷ more (row 5 3 (4 ∷ 0 ∷ [])) 4
    ∷ more (row 5 3 (4 ∷ 0 ∷ 1 ∷ 0 ∷ [])) 4
    ∷ more (row 5 3 (0 ∷ 0 ∷ 1 ∷ [])) 4
    -- a free head: its sort is there, no argument is a prop
    ∷ fine (row 21 0 (0 ∷ 1 ∷ 3 ∷ 4 ∷ []))
    ∷ more (row 21 4 []) 4
    ∷ more (row 21 1 (2 ∷ [])) 4
    -- own sort, count and sorts of the arguments are those of its first use
    ∷ fine (row 21 1 (0 ∷ []) ++ row 21 1 (3 ∷ []))
    ∷ more (row 21 1 (0 ∷ []) ++ row 21 2 (3 ∷ [])) 4
    ∷ more (row 21 1 (0 ∷ []) ++ row 21 1 (3 ∷ 3 ∷ [])) 4
    ∷ more (row 21 1 (0 ∷ []) ++ row 21 1 (1 ∷ [])) 4
    -- 5, and 4 before it
    ∷ more (row 16 1 []) 5
    ∷ more (row 21 1 (0 ∷ 3 ∷ []) ++ row 21 1 (0 ∷ 3 ∷ [])) 5
    ∷ fine (row 21 1 (0 ∷ 3 ∷ []) ++ row 21 1 (3 ∷ 0 ∷ []))
    ∷ more (row 16 2 []) 4
    -- the first row with a fault decides
    ∷ more (row 16 1 [] ++ row 6 0 (9 ∷ [])) 5
    -- before the input rows
    ∷ sheets plain (row 6 0 []) (9 ∷ 65535 ∷ []) [] (away 4)
    ∷ []

-- ---- input rows: 6, 7, 8

-- a term c and a prop p
abbrev inputs_case : List ℕ → List ℕ → Case
inputs_case is r = sheets plain (row 16 1 [] ++ row 17 0 []) is (nothing 9) r

abbrev input_rows : List Case
input_rows =
    inputs_case (2 ∷ 1 ∷ []) (away 6)
    ∷ inputs_case (2 ∷ 65535 ∷ []) (away 6)
    ∷ inputs_case (1 ∷ 2 ∷ []) (away 7)
    ∷ inputs_case (1 ∷ 65535 ∷ []) (away 7)
    ∷ inputs_case (0 ∷ 65535 ∷ []) (away 7)
    ∷ inputs_case (1 ∷ 1 ∷ 1 ∷ 2 ∷ []) (away 7)
    ∷ inputs_case (1 ∷ 1 ∷ 1 ∷ 0 ∷ []) (away 8)
    ∷ inputs_case (1 ∷ 1 ∷ 1 ∷ 1 ∷ 2 ∷ 1 ∷ []) (away 8)
    -- without a fault the step row is read
    ∷ inputs_case (0 ∷ 65534 ∷ 1 ∷ 1 ∷ []) (refuses 0 9 2)
    ∷ []

-- ---- step rows: 9, 10, 11

-- a, b, c; e: a = b, d: a = c, their or, not(e)
abbrev few : List ℕ
few =
    row 16 1 []
    ++ row 17 1 []
    ++ row 18 1 []
    ++ row 0 0 (0 ∷ 1 ∷ [])
    ++ row 0 0 (0 ∷ 2 ∷ [])
    ++ row 3 0 (3 ∷ 4 ∷ [])
    ++ row 1 0 (3 ∷ [])

abbrev a : ℕ
a = 0

abbrev b : ℕ
b = 1

abbrev c : ℕ
c = 2

abbrev e : ℕ
e = 3

abbrev d : ℕ
d = 4

abbrev e_or_d : ℕ
e_or_d = 5

abbrev not_e : ℕ
not_e = 6

-- no row
abbrev no_row : ℕ
no_row = 9

abbrev steps : List ℕ → List ℕ → List ℕ → Case
steps is log r = sheets plain few is log r

-- e has the value v, at level 0, since not(e) has the other one there
abbrev neg_e : ℕ → List ℕ
neg_e v = deduce neg e v (not_e ∷ [])

-- three decisions, then e true, and the conflict e, a, b, whose level is b's
abbrev unlike : List ℕ
unlike = decide a 7 ++ decide b 8 ++ decide c 9 ++ neg_e 1 ++ clash differ e 0 (a ∷ b ∷ [])

abbrev in_conflict_lem : List ℕ → ℕ → Case
in_conflict_lem log n = steps (not_e ∷ 0 ∷ []) (unlike ++ log) (refuses 5 n 5)

abbrev columns : List Case
columns =
    -- 9: a step or a rule that is not listed
    steps [] (9 ∷ 65535 ∷ a ∷ 7 ∷ nothing 5) (away 9)
    ∷ steps [] (deduce 14 e 1 []) (away 9)
    -- a needed column is blank
    ∷ steps [] (decide 65535 1) (away 9)
    ∷ steps [] (decide a 65535) (away 9)
    ∷ steps [] (deduce 65535 e 1 []) (away 9)
    ∷ steps [] (deduce refl_rule 65535 1 []) (away 9)
    ∷ in_conflict_lem (clear 65535) 9
    ∷ in_conflict_lem (flip e 65535) 9
    ∷ in_conflict_lem (flip 65535 a) 9
    -- one that is not needed is filled
    ∷ steps [] (0 ∷ 0 ∷ a ∷ 7 ∷ nothing 5) (away 9)
    ∷ steps [] (0 ∷ 65535 ∷ a ∷ 7 ∷ b ∷ nothing 4) (away 9)
    ∷ steps [] (0 ∷ 65535 ∷ a ∷ 7 ∷ nothing 4 ++ (b ∷ [])) (away 9)
    ∷ in_conflict_lem (3 ∷ 0 ∷ e ∷ nothing 6) 9
    ∷ in_conflict_lem (4 ∷ 65535 ∷ b ∷ 0 ∷ nothing 5) 9
    ∷ in_conflict_lem (5 ∷ 65535 ∷ e ∷ 65535 ∷ a ∷ nothing 4) 9
    ∷ in_conflict_lem (6 ∷ 0 ∷ e ∷ 65535 ∷ a ∷ nothing 4) 9
    ∷ in_conflict_lem (6 ∷ 65535 ∷ e ∷ 0 ∷ a ∷ nothing 4) 9
    ∷ in_conflict_lem (6 ∷ 65535 ∷ e ∷ 65535 ∷ a ∷ a ∷ nothing 3) 9
    -- premises not from the left; a value above 1
    ∷ steps [] (1 ∷ same ∷ e ∷ 1 ∷ 65535 ∷ a ∷ nothing 3) (away 9)
    ∷ steps [] (1 ∷ same ∷ e ∷ 1 ∷ a ∷ 65535 ∷ b ∷ nothing 2) (away 9)
    ∷ steps [] (deduce refl_rule e 2 []) (away 9)
    ∷ steps [] (clash refl_rule e 2 []) (away 9)
    ∷ steps [] (fail refl_rule e 2 []) (away 9)
    ∷ steps [] (fail refl_rule e 65535 []) (away 9)
    ∷ in_conflict_lem (fail refl_rule e 2 []) 9
    -- before 10
    ∷ steps [] (resolve 65535) (away 9)
    ∷ in_conflict_lem (decide a 65535) 9
    -- 10: the state is the wrong one; before 11
    ∷ steps [] (resolve e) (away 10)
    ∷ steps [] (clear a) (away 10)
    ∷ steps [] (jump e) (away 10)
    ∷ steps [] (flip e d) (away 10)
    ∷ in_conflict_lem (decide e_or_d 1) 10
    ∷ in_conflict_lem (deduce neg e 1 (not_e ∷ [])) 10
    ∷ in_conflict_lem (clash neg e 1 (not_e ∷ [])) 10
    ∷ in_conflict_lem (fail neg e 1 (not_e ∷ [])) 10
    ∷ in_conflict_lem (fail neg e 1 (no_row ∷ [])) 10
    ∷ steps [] (resolve no_row) (away 10)
    ∷ in_conflict_lem (decide no_row 1) 10
    -- 11: the term, a premise or p is no row; before 22, 12 and 17
    ∷ steps [] (decide no_row 7) (away 11)
    ∷ steps [] (deduce same no_row 1 (a ∷ b ∷ [])) (away 11)
    ∷ steps [] (deduce same a 1 (b ∷ no_row ∷ [])) (away 11)
    ∷ steps [] (clash same a 1 (no_row ∷ [])) (away 11)
    ∷ steps [] (fail same a 1 (no_row ∷ [])) (away 11)
    ∷ in_conflict_lem (resolve no_row) 11
    ∷ in_conflict_lem (flip e no_row) 11
    ∷ []

-- ---- decide 22, 14, 27 (it has a table of its own); deduce 22, 12, 13, 14, 15; clash and fail 22, 12, 13, 16, 26

abbrev equal : List ℕ
equal = a ∷ 7 ∷ b ∷ 7 ∷ []

abbrev unequal : List ℕ
unequal = a ∷ 7 ∷ b ∷ 8 ∷ []

abbrev same_e : List ℕ
same_e = deduce same e 1 (a ∷ b ∷ [])

abbrev clash_e : List ℕ
clash_e = clash same e 1 (a ∷ b ∷ [])

abbrev fail_e : List ℕ
fail_e = fail same e 1 (a ∷ b ∷ [])

-- a and b as decisions, with these values
abbrev decided : ℕ → ℕ → List ℕ
decided v w = decide a v ++ decide b w

abbrev search_steps : List Case
search_steps =
    steps [] (decide e 2) (away 22)
    ∷ steps (e ∷ 1 ∷ []) (decide e 2) (refuses 0 22 1)
    ∷ steps (e ∷ 1 ∷ []) (decide e 0) (refuses 0 14 1)
    ∷ steps (a ∷ 7 ∷ []) (decide a 8) (refuses 0 14 1)
    ∷ steps (equal ++ (e ∷ 0 ∷ [])) (decide a 7) (refuses 0 14 3)
    ∷ steps (e ∷ 0 ∷ []) (decided 7 7) (refuses 1 27 2)
    -- deduce
    ∷ steps [] (deduce same a 1 (b ∷ c ∷ [])) (away 22)
    ∷ steps [] (deduce same e 1 (b ∷ c ∷ [])) (away 12)
    ∷ steps (a ∷ 7 ∷ []) same_e (refuses 0 12 1)
    ∷ steps unequal same_e (refuses 0 13 2)
    ∷ steps equal (deduce same e 1 (a ∷ [])) (refuses 0 13 2)
    ∷ steps equal (deduce same e 1 (a ∷ b ∷ b ∷ [])) (refuses 0 13 2)
    ∷ steps (unequal ++ (e ∷ 1 ∷ [])) same_e (refuses 0 13 3)
    ∷ steps (unequal ++ (e ∷ 0 ∷ [])) same_e (refuses 0 13 3)
    ∷ steps (equal ++ (e ∷ 1 ∷ [])) same_e (refuses 0 14 3)
    ∷ steps (equal ++ (e ∷ 0 ∷ [])) same_e (refuses 0 15 3)
    ∷ steps equal same_e (remains 1 3)
    -- clash; before 26, at level 0
    ∷ steps [] (clash same a 1 (b ∷ c ∷ [])) (away 22)
    ∷ steps [] (clash same e 1 (b ∷ c ∷ [])) (away 12)
    ∷ steps unequal clash_e (refuses 0 13 2)
    ∷ steps (unequal ++ (e ∷ 0 ∷ [])) clash_e (refuses 0 13 3)
    ∷ steps equal clash_e (refuses 0 16 2)
    ∷ steps (equal ++ (e ∷ 1 ∷ [])) clash_e (refuses 0 16 3)
    ∷ steps (equal ++ (e ∷ 0 ∷ [])) clash_e (refuses 0 26 3)
    ∷ steps (not_e ∷ 1 ∷ []) (decided 7 7 ++ neg_e 0 ++ clash_e) (remains 4 4)
    -- fail; before 26, above level 0
    ∷ steps [] (fail same a 1 (b ∷ c ∷ [])) (away 22)
    ∷ steps [] (fail same e 1 (b ∷ c ∷ [])) (away 12)
    ∷ steps [] (decided 7 8 ++ fail_e) (refuses 2 13 2)
    ∷ steps (e ∷ 0 ∷ []) (decided 7 8 ++ fail_e) (refuses 2 13 3)
    ∷ steps [] (decided 7 7 ++ fail_e) (refuses 2 16 2)
    ∷ steps (e ∷ 1 ∷ []) (decided 7 7 ++ fail_e) (refuses 2 16 3)
    ∷ steps (not_e ∷ 1 ∷ []) (decided 7 7 ++ neg_e 0 ++ fail_e) (refuses 3 26 4)
    -- one premise above level 0, the opposite alone, and none of them with a decision beside
    ∷ steps (not_e ∷ 1 ∷ a ∷ 7 ∷ []) (decide b 7 ++ neg_e 0 ++ fail_e) (refuses 2 26 4)
    ∷ steps equal (decide e 0 ++ fail_e) (refuses 1 26 3)
    ∷ steps equal (decide e 0 ++ clash_e) (remains 2 3)
    ∷ steps (equal ++ (e ∷ 0 ∷ [])) (decide c 9 ++ clash_e) (refuses 1 26 4)
    -- a refutation ends the run, and the row after it is unread
    ∷ steps (equal ++ (e ∷ 0 ∷ [])) (decide c 9 ++ fail_e) (refutes 2 4)
    ∷ steps (equal ++ (e ∷ 0 ∷ [])) (fail_e ++ nothing 9) (refutes 1 3)
    ∷ []

-- ---- resolve 17, 18, 19; clear 17, 20, 21; jump 17, 22, 21; flip 17, 22, 18, 23 (learn has a table of its own)

-- decisions, a last, then e and d false: both rest on a, whose level is the greatest
abbrev both_false : List ℕ
both_false = decide b 8 ++ decide c 9 ++ decide a 7 ++ deduce differ e 0 (a ∷ b ∷ []) ++ deduce differ d 0 (a ∷ c ∷ [])

-- not(e) false: the conflict not(e), e
abbrev of_e : List ℕ → List ℕ → Case
of_e log r = steps (not_e ∷ 0 ∷ []) (both_false ++ clash eval not_e 1 (e ∷ []) ++ log) r

-- or(e, d) true: the conflict or(e, d), e, d
abbrev of_both : List ℕ → List ℕ → Case
of_both log r = steps (e_or_d ∷ 1 ∷ []) (both_false ++ clash eval e_or_d 0 (e ∷ d ∷ []) ++ log) r

-- the same, where e is false by a and b, and d by decision
abbrev decided_d : List ℕ → List ℕ → Case
decided_d log r =
    steps (e_or_d ∷ 1 ∷ [])
    (decide a 7 ++ decide b 8 ++ deduce differ e 0 (a ∷ b ∷ []) ++ decide d 0 ++ clash eval e_or_d 0 (e ∷ d ∷ []) ++ log) r

-- the same, where d is false by input
abbrev given_d : List ℕ → List ℕ → Case
given_d log r =
    steps (e_or_d ∷ 1 ∷ d ∷ 0 ∷ [])
    (decide a 7 ++ decide b 8 ++ deduce differ e 0 (a ∷ b ∷ []) ++ clash eval e_or_d 0 (e ∷ d ∷ []) ++ log) r

abbrev conflict_steps : List Case
conflict_steps =
    -- resolve: c is a decision outside the conflict, d barred and outside
    in_conflict_lem (resolve c) 17
    ∷ of_e (resolve d) (refuses 6 17 6)
    ∷ in_conflict_lem (resolve a) 18
    ∷ of_e (resolve e) (refuses 6 19 6)
    ∷ of_e (resolve not_e) (remains 7 6)
    -- its decisions are below the conflict's level
    ∷ decided_d (resolve e) (remains 6 5)
    -- by a decision on a prop it is not barred
    ∷ steps (unequal ++ (e_or_d ∷ 1 ∷ [])) (decide d 0 ++ deduce unit e 1 (e_or_d ∷ d ∷ []) ++ clash differ e 0 (a ∷ b ∷ []) ++ resolve e) (remains 4 5)
    -- what is resolved is out, its justification is in
    ∷ of_e (resolve not_e ++ resolve not_e) (refuses 7 17 6)
    ∷ decided_d (resolve e ++ resolve a) (refuses 6 18 5)
    -- clear: d is no decision and outside; not(e) no decision, and not above the rest
    ∷ of_e (clear d) (refuses 6 17 6)
    ∷ in_conflict_lem (clear c) 17
    ∷ of_e (clear not_e) (refuses 6 20 6)
    ∷ decided_d (clear d) (refuses 5 20 5)
    ∷ in_conflict_lem (clear a) 21
    ∷ steps (not_e ∷ 0 ∷ []) (unlike ++ clear b) (remains 6 3)
    -- what is below its level stays, c too
    ∷ steps (not_e ∷ 0 ∷ []) (decide a 7 ++ decide c 9 ++ decide b 8 ++ neg_e 1 ++ clash differ e 0 (a ∷ b ∷ []) ++ clear b) (remains 6 4)
    -- jump: c is outside and no prop; a no prop, and not above the rest
    ∷ in_conflict_lem (jump c) 17
    ∷ in_conflict_lem (jump a) 22
    ∷ in_conflict_lem (jump b) 22
    ∷ in_conflict_lem (jump e) 21
    ∷ of_e (jump d) (refuses 6 17 6)
    ∷ decided_d (jump d) (remains 6 5)
    -- flip: either is outside, and the first no prop
    ∷ in_conflict_lem (flip a c) 17
    ∷ in_conflict_lem (flip c a) 17
    ∷ in_conflict_lem (flip e c) 17
    -- no prop, and a decision
    ∷ in_conflict_lem (flip a b) 22
    -- either is a decision, and none is shared
    ∷ in_conflict_lem (flip e a) 18
    ∷ decided_d (flip d e) (refuses 5 18 5)
    ∷ decided_d (flip e d) (refuses 5 18 5)
    -- none is shared; one term twice
    ∷ given_d (flip e d) (refuses 4 23 5)
    ∷ given_d (flip e e) (refuses 4 23 5)
    ∷ of_both (flip e d) (remains 7 4)
    ∷ []

-- ---- unit, at every position

-- the props p, q, r; their or, their and, or(p, p, q)
abbrev props : List ℕ
props =
    row 16 0 []
    ++ row 17 0 []
    ++ row 18 0 []
    ++ row 3 0 (0 ∷ 1 ∷ 2 ∷ [])
    ++ row 2 0 (0 ∷ 1 ∷ 2 ∷ [])
    ++ row 3 0 (0 ∷ 0 ∷ 1 ∷ [])

abbrev unit_of : List ℕ → List ℕ → List ℕ → Case
unit_of is log r = sheets [] props is log r

abbrev units : List Case
units =
    -- the first, the middle and the last argument of the or
    unit_of (3 ∷ 1 ∷ 1 ∷ 0 ∷ 2 ∷ 0 ∷ []) (deduce unit 0 1 (3 ∷ 1 ∷ 2 ∷ [])) (remains 1 4)
    ∷ unit_of (3 ∷ 1 ∷ 0 ∷ 0 ∷ 2 ∷ 0 ∷ []) (deduce unit 1 1 (3 ∷ 0 ∷ 2 ∷ [])) (remains 1 4)
    ∷ unit_of (3 ∷ 1 ∷ 0 ∷ 0 ∷ 1 ∷ 0 ∷ []) (deduce unit 2 1 (3 ∷ 0 ∷ 1 ∷ [])) (remains 1 4)
    -- another one; the others in another order, one of them twice, one of them left out
    ∷ unit_of (3 ∷ 1 ∷ 0 ∷ 0 ∷ 1 ∷ 0 ∷ []) (deduce unit 1 1 (3 ∷ 0 ∷ 1 ∷ [])) (refuses 0 13 3)
    ∷ unit_of (3 ∷ 1 ∷ 0 ∷ 0 ∷ 1 ∷ 0 ∷ []) (deduce unit 2 1 (3 ∷ 1 ∷ 0 ∷ [])) (refuses 0 13 3)
    ∷ unit_of (3 ∷ 1 ∷ 0 ∷ 0 ∷ 1 ∷ 0 ∷ []) (deduce unit 2 1 (3 ∷ 0 ∷ 0 ∷ [])) (refuses 0 13 3)
    ∷ unit_of (3 ∷ 1 ∷ 0 ∷ 0 ∷ 1 ∷ 0 ∷ []) (deduce unit 2 1 (3 ∷ 0 ∷ [])) (refuses 0 13 3)
    ∷ unit_of (3 ∷ 1 ∷ 0 ∷ 0 ∷ 1 ∷ 0 ∷ []) (deduce unit 2 1 (3 ∷ 1 ∷ [])) (refuses 0 13 3)
    -- another value: of one of the others, of the or, of the conclusion
    ∷ unit_of (3 ∷ 1 ∷ 0 ∷ 0 ∷ 1 ∷ 1 ∷ []) (deduce unit 2 1 (3 ∷ 0 ∷ 1 ∷ [])) (refuses 0 13 3)
    ∷ unit_of (3 ∷ 0 ∷ 0 ∷ 0 ∷ 1 ∷ 0 ∷ []) (deduce unit 2 1 (3 ∷ 0 ∷ 1 ∷ [])) (refuses 0 13 3)
    ∷ unit_of (3 ∷ 1 ∷ 0 ∷ 0 ∷ 1 ∷ 0 ∷ []) (deduce unit 2 0 (3 ∷ 0 ∷ 1 ∷ [])) (refuses 0 13 3)
    -- the and
    ∷ unit_of (4 ∷ 0 ∷ 1 ∷ 1 ∷ 2 ∷ 1 ∷ []) (deduce unit 0 0 (4 ∷ 1 ∷ 2 ∷ [])) (remains 1 4)
    ∷ unit_of (4 ∷ 0 ∷ 0 ∷ 1 ∷ 2 ∷ 1 ∷ []) (deduce unit 1 0 (4 ∷ 0 ∷ 2 ∷ [])) (remains 1 4)
    ∷ unit_of (4 ∷ 0 ∷ 0 ∷ 1 ∷ 2 ∷ 0 ∷ []) (deduce unit 1 0 (4 ∷ 0 ∷ 2 ∷ [])) (refuses 0 13 3)
    ∷ unit_of (4 ∷ 1 ∷ 1 ∷ 1 ∷ 2 ∷ 1 ∷ []) (deduce unit 0 0 (4 ∷ 1 ∷ 2 ∷ [])) (refuses 0 13 3)
    ∷ unit_of (4 ∷ 0 ∷ 1 ∷ 1 ∷ 2 ∷ 1 ∷ []) (deduce unit 0 1 (4 ∷ 1 ∷ 2 ∷ [])) (refuses 0 13 3)
    -- each by the other's values
    ∷ unit_of (4 ∷ 1 ∷ 1 ∷ 0 ∷ 2 ∷ 0 ∷ []) (deduce unit 0 1 (4 ∷ 1 ∷ 2 ∷ [])) (refuses 0 13 3)
    ∷ unit_of (3 ∷ 0 ∷ 1 ∷ 1 ∷ 2 ∷ 1 ∷ []) (deduce unit 0 0 (3 ∷ 1 ∷ 2 ∷ [])) (refuses 0 13 3)
    -- an argument at two positions is asked for at each, and either may be the one that is left
    ∷ unit_of (5 ∷ 1 ∷ 0 ∷ 0 ∷ []) (deduce unit 1 1 (5 ∷ 0 ∷ 0 ∷ [])) (remains 1 3)
    ∷ unit_of (5 ∷ 1 ∷ 0 ∷ 0 ∷ []) (deduce unit 1 1 (5 ∷ 0 ∷ [])) (refuses 0 13 2)
    ∷ unit_of (5 ∷ 1 ∷ 0 ∷ 0 ∷ 1 ∷ 0 ∷ []) (fail unit 0 1 (5 ∷ 0 ∷ 1 ∷ [])) (refutes 1 3)
    ∷ []

-- ---- cong on select, store and free heads; pred on free ones

-- a, b; i, j; x, y; their equations; select of each, store of each, their equations; P(i), P(j); j = i; R of the two selects; Q(j)
abbrev functions : List ℕ
functions =
    row 16 3 []
    ++ row 17 3 []
    ++ row 18 1 []
    ++ row 19 1 []
    ++ row 20 2 []
    ++ row 21 2 []
    ++ row 0 0 (0 ∷ 1 ∷ [])
    ++ row 0 0 (2 ∷ 3 ∷ [])
    ++ row 0 0 (4 ∷ 5 ∷ [])
    ++ row 4 2 (0 ∷ 2 ∷ [])
    ++ row 4 2 (1 ∷ 3 ∷ [])
    ++ row 0 0 (9 ∷ 10 ∷ [])
    ++ row 5 3 (0 ∷ 2 ∷ 4 ∷ [])
    ++ row 5 3 (1 ∷ 3 ∷ 5 ∷ [])
    ++ row 0 0 (12 ∷ 13 ∷ [])
    ++ row 22 0 (2 ∷ [])
    ++ row 22 0 (3 ∷ [])
    ++ row 0 0 (3 ∷ 2 ∷ [])
    ++ row 23 0 (9 ∷ 10 ∷ [])
    ++ row 24 0 (3 ∷ [])

abbrev cong_of : List ℕ → List ℕ → Case
cong_of log r = sheets arrays functions (6 ∷ 1 ∷ 7 ∷ 1 ∷ 8 ∷ 1 ∷ 15 ∷ 1 ∷ 17 ∷ 1 ∷ []) log r

abbrev congs : List Case
congs =
    cong_of (deduce cong 11 1 (6 ∷ 7 ∷ [])) (remains 1 6)
    ∷ cong_of (deduce cong 14 1 (6 ∷ 7 ∷ 8 ∷ [])) (remains 1 6)
    ∷ cong_of (deduce cong 14 1 (6 ∷ 7 ∷ [])) (refuses 0 13 5)
    ∷ cong_of (deduce cong 11 1 (6 ∷ 17 ∷ [])) (refuses 0 13 5)
    ∷ cong_of (deduce cong 11 0 (6 ∷ 7 ∷ [])) (refuses 0 13 5)
    ∷ cong_of (deduce cong 8 1 []) (refuses 0 13 5)
    ∷ cong_of (deduce cong 18 1 (6 ∷ 7 ∷ [])) (refuses 0 13 5)
    ∷ cong_of (deduce pred 16 1 (15 ∷ 7 ∷ [])) (remains 1 6)
    ∷ cong_of (deduce pred 16 0 (15 ∷ 7 ∷ [])) (refuses 0 13 5)
    ∷ cong_of (deduce pred 16 1 (15 ∷ [])) (refuses 0 13 5)
    ∷ cong_of (deduce pred 19 1 (15 ∷ 7 ∷ [])) (refuses 0 13 5)
    -- eq is no free head
    ∷ cong_of (deduce pred 17 1 (7 ∷ 7 ∷ 17 ∷ [])) (refuses 0 13 5)
    ∷ []

-- ---- the statement

abbrev table : List Case
table =
    lengths ++ sort_rows ++ term_rows ++ input_rows ++ columns ++ search_steps ++ conflict_steps ++ units ++ congs

pub ordered : map given table ≡ map asked table
unfolding Lists.first_where Numbers.unless Numbers.or_else Numbers.first_refusal Sheets.length_refusal Sorts.is_array Sorts.is_plain Sorts.sort_refusal Sorts.sorts_refusal Terms.cells Terms.args Terms.arg Terms.earlier Terms.same_use Terms.first_use Terms.suits Terms.twins Terms.fresh Terms.term_refusal Terms.terms_refusal Trail.on Trail.entry Trail.holds Trail.level_of Trail.kept_to Inputs.input_trail Inputs.input_refusal Inputs.inputs_refusal Rules.rule_of Rules.bare Rules.single Rules.double Rules.leading Rules.unit_at Rules.fits Steps.answer Steps.premises Steps.kind_of Steps.shaped Steps.ready Steps.known Steps.acceptable Steps.decide_refusal Steps.decide Steps.inference_refusal Steps.deduce_refusal Steps.deduce Steps.contradiction_refusal Steps.clash_refusal Steps.clash Steps.fail_refusal Steps.fail Steps.resolve_refusal Steps.resolve Steps.clear_refusal Steps.clear Steps.jump_refusal Steps.jump Steps.flip_refusal Steps.flip Steps.row_refusal Steps.step_by Steps.step Run.follow Run.run Run.sheets_refusal Run.call_refusal Run.ending_of Run.ending Run.outcome
ordered = refl

-- ---- the ceiling of the step sheet: 65,535 rows pass, and get the number of the sort row; one more is too many

module _ (log : List ℕ) where
  pub steps_most : length log ≡ 589815 → given (sheets ill [] [] log []) ≡ away 1
  unfolding Numbers.unless Numbers.or_else Numbers.first_refusal Sheets.length_refusal Sorts.is_array Sorts.is_plain Sorts.sort_refusal Sorts.sorts_refusal Run.sheets_refusal Run.call_refusal Run.ending_of Run.ending Run.outcome
  steps_most e = rw e

  pub steps_above : length log ≡ 589824 → given (sheets ill [] [] log []) ≡ away 30
  unfolding Numbers.unless Numbers.or_else Sheets.length_refusal Run.call_refusal Run.ending_of Run.ending Run.outcome
  steps_above e = rw e

-- ---- which heads cong and pred are for

-- a row with any head h over the leaf 0; equations of that row, and of the leaf, with itself
abbrev headed : ℕ → List ℕ
headed h = row 16 1 [] ++ row h 1 (0 ∷ 0 ∷ []) ++ row 0 0 (1 ∷ 1 ∷ []) ++ row 0 0 (0 ∷ 0 ∷ [])

abbrev true_row : ℕ → Premise
true_row t = record { row = t; value = 1 }

-- eq, not, and, or; select, store; unlisted; free; blank
abbrev head_numbers : List ℕ
head_numbers = 0 ∷ 1 ∷ 2 ∷ 3 ∷ 4 ∷ 5 ∷ 6 ∷ 15 ∷ 16 ∷ 65534 ∷ 65535 ∷ []

pub cong_heads : map (λ h. fits (headed h) Congruence 2 1 (true_row 3 ∷ true_row 3 ∷ [])) head_numbers
    ≡ false ∷ false ∷ false ∷ false ∷ true ∷ true ∷ false ∷ false ∷ true ∷ true ∷ false ∷ []
unfolding Terms.cells Terms.args Terms.arg Rules.fits
cong_heads = refl

pub pred_heads : map (λ h. fits (headed h) Predicate 1 1 (true_row 1 ∷ true_row 3 ∷ true_row 3 ∷ [])) head_numbers
    ≡ false ∷ false ∷ false ∷ false ∷ false ∷ false ∷ false ∷ false ∷ true ∷ true ∷ false ∷ []
unfolding Terms.cells Terms.args Terms.arg Rules.leading Rules.fits
pred_heads = refl
