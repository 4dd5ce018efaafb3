-- decide on a board of equations: every number, each order of its tests, and the trail that an allowed one leaves, as one table and one statement.
use mathlib.Core.Path.{◌≡◌, refl}
use mathlib.Core.List.{List, [], ◌∷◌, ◌++◌, map}
use Prim.Native.Nat.{ℕ, ◌+◌, ◌/◌}
use lib.ListN.{length}
use Rattle.calculus.specs.Lists
use Rattle.calculus.specs.Numbers
use Rattle.calculus.specs.Sheets
use Rattle.calculus.specs.Sorts
use Rattle.calculus.specs.Terms
use Rattle.calculus.specs.Trail
use Rattle.calculus.specs.Trail.{trail_numbers_of}
use Rattle.calculus.specs.Inputs
use Rattle.calculus.specs.Rules
use Rattle.calculus.specs.Steps
use Rattle.calculus.specs.Steps.{trail_of}
use Rattle.calculus.specs.Run
use Rattle.calculus.specs.Run.{ending}
use Rattle.calculus.proofs.Boards.{Case, sheets, call_of, given, asked, plain, row, same, differ, refl_rule, neg, part, eval, decide, deduce, clash, clear, jump, flip, remains, refuses, entry}

-- ---- the board

abbrev a : ℕ
a = 0

abbrev b : ℕ
b = 1

abbrev c : ℕ
c = 2

-- a = b, b = a, a = a, b = c
abbrev ab : ℕ
ab = 3

abbrev ba : ℕ
ba = 4

abbrev aa : ℕ
aa = 5

abbrev bc : ℕ
bc = 6

-- P(a, b), not(a = b), or(a = b, b = c)
abbrev p_ab : ℕ
p_ab = 7

abbrev not_ab : ℕ
not_ab = 8

abbrev either : ℕ
either = 9

-- no row
abbrev no_row : ℕ
no_row = 10

abbrev board : List ℕ
board =
    row 16 1 []
    ++ row 17 1 []
    ++ row 18 1 []
    ++ row 0 0 (a ∷ b ∷ [])
    ++ row 0 0 (b ∷ a ∷ [])
    ++ row 0 0 (a ∷ a ∷ [])
    ++ row 0 0 (b ∷ c ∷ [])
    ++ row 19 0 (a ∷ b ∷ [])
    ++ row 1 0 (ab ∷ [])
    ++ row 3 0 (ab ∷ bc ∷ [])

-- ---- a case: the call, and the entries left

abbrev Example : Type 0
Example = record { call : Case; left : List ℕ }

-- the input's entries, at level 0
abbrev standing : List ℕ → List ℕ
standing [] = []
standing (t ∷ []) = []
standing (t ∷ v ∷ is) = entry t v 0 0 ++ standing is

-- an input and a log; the result, and what is left behind the input
abbrev example : List ℕ → List ℕ → List ℕ → List ℕ → Example
example is log result left = record { call = sheets plain board is log result; left = standing is ++ left }

-- one decision over an input: it is allowed, or refused with the number n
abbrev takes : List ℕ → ℕ → ℕ → Example
takes is t v = example is (decide t v) (remains 1 (length is / 2 + 1)) (entry t v 1 1)

abbrev refused : ℕ → List ℕ → ℕ → ℕ → Example
refused n is t v = example is (decide t v) (refuses 0 n (length is / 2)) []

abbrev bars : List ℕ → ℕ → ℕ → Example
bars is t v = refused 27 is t v

abbrev seen : Example → List ℕ
seen x = given x.call ++ trail_numbers_of (trail_of (ending (call_of x.call)).state)

abbrev expected : Example → List ℕ
expected x = asked x.call ++ x.left

-- ---- the table

abbrev orders : List Example
orders =
    -- 22: a prop has no other value than 0 and 1; before 14
    refused 22 [] ab 2
    ∷ refused 22 (ab ∷ 1 ∷ []) ab 2
    -- 14: there is a value, the same or another; before 27, for the value decided, the one that is there, or both
    ∷ refused 14 (a ∷ 7 ∷ []) a 7
    ∷ refused 14 (a ∷ 7 ∷ []) a 8
    ∷ refused 14 (ab ∷ 1 ∷ []) ab 0
    ∷ refused 14 (ab ∷ 0 ∷ a ∷ 7 ∷ b ∷ 7 ∷ []) b 7
    ∷ refused 14 (ab ∷ 1 ∷ a ∷ 7 ∷ b ∷ 7 ∷ []) b 8
    ∷ refused 14 (ab ∷ 1 ∷ a ∷ 7 ∷ b ∷ 8 ∷ []) b 7
    ∷ refused 14 (aa ∷ 0 ∷ a ∷ 7 ∷ []) a 7
    -- 9, of a term that can have no value, and 11
    ∷ refused 9 (aa ∷ 0 ∷ []) a 65535
    ∷ refused 11 (aa ∷ 0 ∷ []) no_row 7
    ∷ []

abbrev sides : List Example
sides =
    -- the term is the right side: where a = b is false it may not have the other's value, where it is true it may have no other
    bars (ab ∷ 0 ∷ a ∷ 7 ∷ []) b 7
    ∷ takes (ab ∷ 0 ∷ a ∷ 7 ∷ []) b 8
    ∷ bars (ab ∷ 1 ∷ a ∷ 7 ∷ []) b 8
    ∷ takes (ab ∷ 1 ∷ a ∷ 7 ∷ []) b 7
    -- the left side
    ∷ bars (ab ∷ 0 ∷ b ∷ 7 ∷ []) a 7
    ∷ takes (ab ∷ 0 ∷ b ∷ 7 ∷ []) a 8
    ∷ bars (ab ∷ 1 ∷ b ∷ 7 ∷ []) a 8
    ∷ takes (ab ∷ 1 ∷ b ∷ 7 ∷ []) a 7
    -- the equation behind the value; values that truth values could be taken for, and the largest one
    ∷ bars (a ∷ 7 ∷ ab ∷ 0 ∷ []) b 7
    ∷ bars (ab ∷ 0 ∷ a ∷ 0 ∷ []) b 0
    ∷ takes (ab ∷ 0 ∷ a ∷ 0 ∷ []) b 1
    ∷ bars (ab ∷ 1 ∷ a ∷ 1 ∷ []) b 0
    ∷ takes (ab ∷ 1 ∷ a ∷ 1 ∷ []) b 1
    ∷ bars (ab ∷ 0 ∷ a ∷ 65534 ∷ []) b 65534
    ∷ takes (ab ∷ 1 ∷ a ∷ 65534 ∷ []) b 65534
    -- a = a false bars every value of a, and none of another term; true it bars none
    ∷ bars (aa ∷ 0 ∷ []) a 7
    ∷ bars (aa ∷ 0 ∷ []) a 0
    ∷ bars (aa ∷ 0 ∷ []) a 1
    ∷ takes (aa ∷ 0 ∷ []) b 7
    ∷ takes (aa ∷ 1 ∷ []) a 7
    ∷ takes (aa ∷ 1 ∷ []) a 0
    -- one misfit among equations that fit: the oldest, one in the middle, the newest; none
    ∷ bars (bc ∷ 0 ∷ ab ∷ 1 ∷ ba ∷ 1 ∷ a ∷ 7 ∷ c ∷ 7 ∷ []) b 7
    ∷ bars (ab ∷ 1 ∷ a ∷ 7 ∷ bc ∷ 0 ∷ c ∷ 7 ∷ ba ∷ 1 ∷ []) b 7
    ∷ bars (a ∷ 7 ∷ c ∷ 7 ∷ ab ∷ 1 ∷ ba ∷ 1 ∷ bc ∷ 0 ∷ []) b 7
    ∷ takes (ab ∷ 1 ∷ ba ∷ 1 ∷ bc ∷ 0 ∷ a ∷ 7 ∷ c ∷ 8 ∷ []) b 7
    -- a = b and b = a with two values leave no value
    ∷ bars (ab ∷ 1 ∷ ba ∷ 0 ∷ a ∷ 7 ∷ []) b 7
    ∷ bars (ab ∷ 1 ∷ ba ∷ 0 ∷ a ∷ 7 ∷ []) b 8
    ∷ []

abbrev others : List Example
others =
    -- the other side has no value, even if a third term has one
    takes (ab ∷ 1 ∷ []) a 7
    ∷ takes (ab ∷ 1 ∷ []) b 7
    ∷ takes (ab ∷ 0 ∷ []) a 7
    ∷ takes (ab ∷ 0 ∷ []) b 7
    ∷ takes (ab ∷ 0 ∷ c ∷ 7 ∷ []) a 7
    -- an equation of two other terms, whose values it contradicts (an input is not asked); beside it the term's own equation is asked as ever
    ∷ takes (ab ∷ 0 ∷ a ∷ 7 ∷ b ∷ 7 ∷ []) c 7
    ∷ takes (ab ∷ 1 ∷ a ∷ 7 ∷ b ∷ 8 ∷ []) c 9
    ∷ takes (aa ∷ 0 ∷ a ∷ 7 ∷ []) b 7
    ∷ takes (ab ∷ 0 ∷ a ∷ 7 ∷ b ∷ 7 ∷ bc ∷ 1 ∷ []) c 7
    ∷ bars (ab ∷ 0 ∷ a ∷ 7 ∷ b ∷ 7 ∷ bc ∷ 1 ∷ []) c 8
    -- the equation itself is not on the trail, or it is none
    ∷ takes (a ∷ 7 ∷ []) b 7
    ∷ takes (not_ab ∷ 1 ∷ a ∷ 7 ∷ []) b 7
    ∷ takes (p_ab ∷ 0 ∷ a ∷ 7 ∷ []) b 7
    ∷ takes (p_ab ∷ 1 ∷ a ∷ 7 ∷ []) b 8
    -- a prop is not asked: an equation that contradicts the values of its sides, and any prop beside such a one
    ∷ takes (a ∷ 7 ∷ b ∷ 7 ∷ []) ab 0
    ∷ takes (a ∷ 7 ∷ b ∷ 8 ∷ []) ab 1
    ∷ takes (a ∷ 7 ∷ []) aa 0
    ∷ takes (ab ∷ 0 ∷ a ∷ 7 ∷ b ∷ 7 ∷ []) ba 0
    ∷ takes (ab ∷ 0 ∷ a ∷ 7 ∷ b ∷ 7 ∷ []) not_ab 0
    ∷ takes (ab ∷ 0 ∷ a ∷ 7 ∷ b ∷ 7 ∷ []) p_ab 1
    ∷ []

-- ---- the equation by a decision or a rule

abbrev not_so : List ℕ
not_so = not_ab ∷ 1 ∷ []

-- a = b has the value v by that of not(a = b)
abbrev turned : ℕ → List ℕ
turned v = deduce neg ab v (not_ab ∷ [])

abbrev made : List Example
made =
    -- decided, before the values and between them
    example [] (decide ab 0 ++ decide a 7 ++ decide b 7) (refuses 2 27 2) (entry ab 0 1 1 ++ entry a 7 2 1)
    ∷ example [] (decide ab 0 ++ decide a 7 ++ decide b 8) (remains 3 3) (entry ab 0 1 1 ++ entry a 7 2 1 ++ entry b 8 3 1)
    ∷ example [] (decide a 7 ++ decide ab 1 ++ decide b 8) (refuses 2 27 2) (entry a 7 1 1 ++ entry ab 1 2 1)
    ∷ example [] (decide a 7 ++ decide ab 1 ++ decide b 7) (remains 3 3) (entry a 7 1 1 ++ entry ab 1 2 1 ++ entry b 7 3 1)
    ∷ example [] (decide aa 0 ++ decide a 7) (refuses 1 27 1) (entry aa 0 1 1)
    -- behind both values it bars neither
    ∷ example [] (decide a 7 ++ decide b 7 ++ decide ab 0 ++ decide c 7) (remains 4 4) (entry a 7 1 1 ++ entry b 7 2 1 ++ entry ab 0 3 1 ++ entry c 7 4 1)
    -- deduced at level 0
    ∷ example not_so (turned 0 ++ decide a 7 ++ decide b 7) (refuses 2 27 3) (entry ab 0 0 0 ++ entry a 7 1 1)
    ∷ example not_so (turned 0 ++ decide a 7 ++ decide b 8) (remains 3 4) (entry ab 0 0 0 ++ entry a 7 1 1 ++ entry b 8 2 1)
    ∷ example [] (deduce refl_rule aa 1 [] ++ decide a 7) (remains 2 2) (entry aa 1 0 0 ++ entry a 7 1 1)
    -- and above it
    ∷ example [] (decide not_ab 0 ++ turned 1 ++ decide a 7 ++ decide b 8) (refuses 3 27 3) (entry not_ab 0 1 1 ++ entry ab 1 1 0 ++ entry a 7 2 1)
    ∷ example [] (decide not_ab 0 ++ turned 1 ++ decide a 7 ++ decide b 7) (remains 4 4)
    (entry not_ab 0 1 1 ++ entry ab 1 1 0 ++ entry a 7 2 1 ++ entry b 7 3 1)
    ∷ []

-- ---- after a conflict

-- a = b decided true against the input, and back: it is false
abbrev jumped : List ℕ
jumped = decide ab 1 ++ clash neg ab 0 (not_ab ∷ []) ++ jump ab

-- a = b decided true, then b = c against the input, and back: a = b is gone
abbrev dropped : List ℕ
dropped = decide ab 1 ++ decide bc 1 ++ clash part bc 0 (either ∷ []) ++ jump bc

-- a and b with one value, and then a = b false
abbrev alike : List ℕ
alike = decide a 7 ++ decide b 7 ++ turned 0 ++ clash same ab 1 (a ∷ b ∷ [])

-- a = b and b = c both false by the value of b: the first is decided true, and b has no value
abbrev flipped : List ℕ
flipped =
    decide a 7 ++ decide c 9 ++ decide b 8 ++ deduce differ ab 0 (a ∷ b ∷ []) ++ deduce differ bc 0 (b ∷ c ∷ [])
    ++ clash eval either 0 (ab ∷ bc ∷ []) ++ flip ab bc

abbrev on_jump : List ℕ → List ℕ → List ℕ → Example
on_jump log result left = example (a ∷ 7 ∷ not_ab ∷ 1 ∷ []) log result left

abbrev on_drop : List ℕ → List ℕ → List ℕ → Example
on_drop log result left = example (a ∷ 7 ∷ either ∷ 0 ∷ []) log result left

abbrev on_clear : List ℕ → List ℕ → List ℕ → Example
on_clear log result left = example (not_ab ∷ 1 ∷ bc ∷ 0 ∷ []) log result left

abbrev on_flip : List ℕ → List ℕ → List ℕ → Example
on_flip log result left = example (either ∷ 1 ∷ []) log result left

abbrev after : List Example
after =
    -- the jump turns the equation: the value that it barred is free, and the other one is barred
    on_jump (decide ab 1 ++ decide b 8) (refuses 1 27 3) (entry ab 1 1 1)
    ∷ on_jump (jumped ++ decide b 8) (remains 4 4) (entry ab 0 0 0 ++ entry b 8 1 1)
    ∷ on_jump (jumped ++ decide b 7) (refuses 3 27 3) (entry ab 0 0 0)
    -- the jump undoes it
    ∷ on_drop (decide ab 1 ++ decide b 8) (refuses 1 27 3) (entry ab 1 1 1)
    ∷ on_drop (dropped ++ decide b 8) (remains 5 4) (entry bc 0 0 0 ++ entry b 8 1 1)
    -- the value of b bars one of c, and after the clear it is gone; 10 comes first
    ∷ on_clear (decide a 7 ++ decide b 7 ++ decide c 7) (refuses 2 27 4) (entry a 7 1 1 ++ entry b 7 2 1)
    ∷ on_clear (alike ++ clear b ++ decide c 7) (remains 6 5) (entry a 7 1 1 ++ entry ab 0 0 0 ++ entry c 7 2 1)
    ∷ on_clear (alike ++ decide c 7) (refuses 4 10 5) (entry a 7 1 1 ++ entry b 7 2 1 ++ entry ab 0 0 0)
    -- b cannot have the value again that was undone, and can have another
    ∷ on_clear (alike ++ clear b ++ decide b 7) (refuses 5 27 4) (entry a 7 1 1 ++ entry ab 0 0 0)
    ∷ on_clear (alike ++ clear b ++ decide b 8) (remains 6 5) (entry a 7 1 1 ++ entry ab 0 0 0 ++ entry b 8 2 1)
    -- the equation that flip decides
    ∷ on_flip (flipped ++ decide b 8) (refuses 7 27 4) (entry a 7 1 1 ++ entry c 9 2 1 ++ entry ab 1 3 1)
    ∷ on_flip (flipped ++ decide b 7) (remains 8 5) (entry a 7 1 1 ++ entry c 9 2 1 ++ entry ab 1 3 1 ++ entry b 7 4 1)
    ∷ []

abbrev table : List Example
table = orders ++ sides ++ others ++ made ++ after

pub accepting : map seen table ≡ map expected table
unfolding Lists.first_where Numbers.unless Numbers.or_else Numbers.first_refusal Sheets.length_refusal Sorts.is_array Sorts.is_plain Sorts.sort_refusal Sorts.sorts_refusal Terms.cells Terms.args Terms.arg Terms.earlier Terms.same_use Terms.first_use Terms.suits Terms.twins Terms.fresh Terms.term_refusal Terms.terms_refusal Trail.on Trail.entry Trail.holds Trail.level_of Trail.kept_to Trail.trail_numbers_of Inputs.input_trail Inputs.input_refusal Inputs.inputs_refusal Rules.rule_of Rules.bare Rules.single Rules.double Rules.leading Rules.unit_at Rules.fits Steps.answer Steps.premises Steps.kind_of Steps.shaped Steps.ready Steps.known Steps.acceptable Steps.decide_refusal Steps.decide Steps.inference_refusal Steps.deduce_refusal Steps.deduce Steps.contradiction_refusal Steps.clash_refusal Steps.clash Steps.resolve_refusal Steps.resolve Steps.clear_refusal Steps.clear Steps.jump_refusal Steps.jump Steps.flip_refusal Steps.flip Steps.row_refusal Steps.step_by Steps.step Run.follow Run.run Run.sheets_refusal Run.call_refusal Run.ending_of Run.ending Run.outcome
accepting = refl
