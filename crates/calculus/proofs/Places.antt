-- The places of 11 and 12 at every column that they can name, and of other numbers none: one table and one statement.
-- The places of 13 stand in crate `completions`.
use mathlib.Core.Path.{◌≡◌, refl}
use mathlib.Core.List.{List, [], ◌∷◌, ◌++◌, map}
use Prim.Native.Nat.{ℕ}
use Rattle.calculus.specs.Lists
use Rattle.calculus.specs.Numbers
use Rattle.calculus.specs.Sheets
use Rattle.calculus.specs.Sorts
use Rattle.calculus.specs.Terms
use Rattle.calculus.specs.Trail
use Rattle.calculus.specs.Inputs
use Rattle.calculus.specs.Rules
use Rattle.calculus.specs.Clauses
use Rattle.calculus.specs.Steps
use Rattle.calculus.specs.Place
use Rattle.calculus.specs.Run
use Rattle.calculus.specs.Run.{outcome}
use Rattle.calculus.proofs.Boards.{Case, sheets, call_of, asked, plain, terms, a, b, e, g, not_e, e_or_g, clash_g, cong, same, decide, deduce, clash, fail, resolve, clear, jump, flip, learn}

-- number and place of a call
abbrev placed : Case → List ℕ
placed x = let o = outcome (call_of x) in o.number ∷ o.place ∷ []

-- on the small board, with e true
abbrev searching : List ℕ → ℕ → ℕ → Case
searching log n place = sheets plain terms (e ∷ 1 ∷ []) log (n ∷ place ∷ [])

-- with g false and the conflict e, g
abbrev conflicting : List ℕ → ℕ → ℕ → Case
conflicting log n place = sheets plain terms (g ∷ 0 ∷ []) (decide e 1 ++ clash_g ++ log) (n ∷ place ∷ [])

-- no row
abbrev no_row : ℕ
no_row = 8

abbrev strange : List Case
strange =
    -- the term, in every step
    searching (decide no_row 1) 11 3
    ∷ searching (deduce cong no_row 1 (e ∷ [])) 11 3
    ∷ searching (clash cong no_row 1 (e ∷ [])) 11 3
    ∷ searching (fail cong no_row 1 (e ∷ [])) 11 3
    ∷ conflicting (resolve no_row) 11 3
    ∷ conflicting (clear no_row) 11 3
    ∷ conflicting (jump no_row) 11 3
    ∷ conflicting (flip no_row e) 11 3
    ∷ conflicting (learn no_row 0 (e ∷ g ∷ [])) 11 3
    -- p to t
    ∷ searching (deduce cong g 1 (no_row ∷ [])) 11 5
    ∷ searching (deduce cong g 1 (e ∷ no_row ∷ [])) 11 6
    ∷ searching (deduce cong g 1 (e ∷ e ∷ no_row ∷ [])) 11 7
    ∷ searching (deduce cong g 1 (e ∷ e ∷ e ∷ no_row ∷ [])) 11 8
    ∷ searching (deduce cong g 1 (e ∷ e ∷ e ∷ e ∷ no_row ∷ [])) 11 9
    ∷ searching (clash cong g 1 (no_row ∷ [])) 11 5
    ∷ searching (fail cong g 1 (e ∷ no_row ∷ [])) 11 6
    ∷ conflicting (flip e no_row) 11 5
    ∷ conflicting (learn e_or_g 0 (no_row ∷ g ∷ [])) 11 5
    ∷ conflicting (learn e_or_g 0 (e ∷ no_row ∷ [])) 11 6
    ∷ conflicting (learn e_or_g 0 (e ∷ g ∷ no_row ∷ [])) 11 7
    ∷ conflicting (learn e_or_g 0 (e ∷ g ∷ not_e ∷ no_row ∷ [])) 11 8
    -- of two, the first
    ∷ searching (deduce cong no_row 1 (no_row ∷ [])) 11 3
    ∷ searching (deduce cong g 1 (e ∷ no_row ∷ no_row ∷ [])) 11 6
    -- before a premise that is not on the trail
    ∷ searching (deduce cong g 1 (a ∷ no_row ∷ [])) 11 6
    ∷ []

abbrev absent : List Case
absent =
    searching (deduce cong g 1 (not_e ∷ [])) 12 5
    ∷ searching (deduce cong g 1 (e ∷ not_e ∷ [])) 12 6
    ∷ searching (deduce cong g 1 (e ∷ e ∷ not_e ∷ [])) 12 7
    ∷ searching (deduce cong g 1 (e ∷ e ∷ e ∷ not_e ∷ [])) 12 8
    ∷ searching (deduce cong g 1 (e ∷ e ∷ e ∷ e ∷ not_e ∷ [])) 12 9
    ∷ searching (clash cong g 1 (e ∷ not_e ∷ [])) 12 6
    ∷ searching (fail cong g 1 (not_e ∷ [])) 12 5
    -- of two, the first; and before a rule that does not fit at an earlier column
    ∷ searching (deduce cong g 1 (e ∷ a ∷ b ∷ [])) 12 6
    ∷ searching (deduce same e 1 (e ∷ not_e ∷ [])) 12 6
    ∷ []

abbrev others : List Case
others =
    -- no refusal; 9, 10, 22, 14, 27, 16, 26, 17, 20
    searching [] 0 0
    ∷ searching (deduce cong g 2 (no_row ∷ [])) 9 0
    ∷ searching (resolve no_row) 10 0
    ∷ searching (deduce cong a 1 (not_e ∷ [])) 22 0
    ∷ searching (decide e 1) 14 0
    ∷ searching (decide a 7 ++ decide b 8) 27 0
    ∷ searching (clash cong g 1 (e ∷ [])) 16 0
    ∷ sheets plain terms (e ∷ 1 ∷ g ∷ 0 ∷ []) clash_g (26 ∷ 0 ∷ [])
    ∷ conflicting (resolve a) 17 0
    ∷ conflicting (clear e) 20 0
    -- refused before any step
    ∷ sheets plain terms (e ∷ 2 ∷ []) (decide no_row 1) (7 ∷ 0 ∷ [])
    ∷ sheets plain (4 ∷ terms) [] [] (31 ∷ 0 ∷ [])
    ∷ []

abbrev table : List Case
table = strange ++ absent ++ others

pub places : map placed table ≡ map asked table
unfolding Lists.first_where Numbers.unless Numbers.or_else Numbers.first_refusal Sheets.length_refusal Sorts.is_array Sorts.is_plain Sorts.sort_refusal Sorts.sorts_refusal Terms.cells Terms.args Terms.arg Terms.earlier Terms.same_use Terms.first_use Terms.suits Terms.twins Terms.fresh Terms.term_refusal Terms.terms_refusal Trail.on Trail.entry Trail.holds Trail.level_of Trail.kept_to Trail.trail_numbers_of Inputs.input_trail Inputs.input_refusal Inputs.inputs_refusal Rules.rule_of Rules.bare Rules.single Rules.double Rules.leading Rules.unit_at Rules.fits Clauses.literal Clauses.paired Steps.answer Steps.premises Steps.kind_of Steps.shaped Steps.ready Steps.known Steps.acceptable Steps.decide_refusal Steps.decide Steps.inference_refusal Steps.deduce_refusal Steps.deduce Steps.contradiction_refusal Steps.clash_refusal Steps.clash Steps.fail_refusal Steps.fail Steps.resolve_refusal Steps.resolve Steps.clear_refusal Steps.clear Steps.jump_refusal Steps.jump Steps.flip_refusal Steps.flip Steps.learn_refusal Steps.learn Steps.row_refusal Steps.step_by Steps.step Place.strange_place Place.absent_place Place.place_of Run.follow Run.run Run.sheets_refusal Run.call_refusal Run.ending_of Run.ending Run.outcome
places = refl
