-- The starred runs of document 01 on the small board, and runs of document 02, as one table and one statement.
use mathlib.Core.Path.{◌≡◌, refl}
use mathlib.Core.List.{List, [], ◌∷◌, ◌++◌, map}
use Prim.Native.Nat.{ℕ, ◌-◌, ◌/◌, ◌%◌, ◌≤◌}
use lib.ListN.{length, replicate}
use borrow.Author.Tests.{le-leb}
use Rattle.calculus.specs.Lists
use Rattle.calculus.specs.Numbers
use Rattle.calculus.specs.Sheets
use Rattle.calculus.specs.Sheets.{Call, length_refusal}
use Rattle.calculus.specs.Sorts
use Rattle.calculus.specs.Terms
use Rattle.calculus.specs.Trail
use Rattle.calculus.specs.Inputs
use Rattle.calculus.specs.Rules
use Rattle.calculus.specs.Steps
use Rattle.calculus.specs.Run
use Rattle.calculus.specs.Run.{call_refusal, outcome, trail_after, work_after}
use Rattle.calculus.proofs.Boards.{same, neg, unit, decide, deduce, clash, fail, resolve, clear, jump, remains, refutes, refuses, entry, shown, sorts, terms, a, b, e, g, not_e, e_or_g, clash_g, fail_g}

-- ---- logs

abbrev same_e : List ℕ
same_e = decide a 7 ++ decide b 7 ++ deduce same e 1 (a ∷ b ∷ []) ++ clash_g

abbrev neg_e : List ℕ
neg_e = decide a 7 ++ decide b 7 ++ deduce neg e 0 (not_e ∷ []) ++ clash same e 1 (a ∷ b ∷ [])

-- ---- the table

abbrev Example : Type 0
Example = record { input : List ℕ; log : List ℕ; result : List ℕ; left : List ℕ }

abbrev example : List ℕ → List ℕ → List ℕ → List ℕ → Example
example i l r t = record { input = i; log = l; result = r; left = t }

-- each run's input and steps, its result, and the entries left
abbrev table : List Example
table =
    example [] [] (remains 0 0) []
    ∷ example (e ∷ 1 ∷ g ∷ 0 ∷ []) fail_g (refutes 1 2) (entry e 1 0 0 ++ entry g 0 0 0)
    ∷ example (e ∷ 1 ∷ []) fail_g (refuses 0 16 1) (entry e 1 0 0)
    ∷ example (g ∷ 0 ∷ []) (decide e 1 ++ clash_g ++ jump e) (remains 3 2) (entry g 0 0 0 ++ entry e 0 0 0)
    ∷ example [] (decide a 7 ++ decide a 7) (refuses 1 14 1) (entry a 7 1 1)
    ∷ example [] (resolve a) (refuses 0 10 0) []
    ∷ example (g ∷ 0 ∷ []) (same_e ++ resolve e) (refuses 4 19 4) (entry g 0 0 0 ++ entry a 7 1 1 ++ entry b 7 2 1 ++ entry e 1 2 0)
    ∷ example (g ∷ 0 ∷ []) (same_e ++ jump e) (remains 5 2) (entry g 0 0 0 ++ entry e 0 0 0)
    ∷ example (not_e ∷ 1 ∷ []) (neg_e ++ clear b) (remains 5 3) (entry not_e 1 0 0 ++ entry a 7 1 1 ++ entry e 0 0 0)
    ∷ example (not_e ∷ 1 ∷ []) (neg_e ++ clear a) (refuses 4 21 4) (entry not_e 1 0 0 ++ entry a 7 1 1 ++ entry b 7 2 1 ++ entry e 0 0 0)
    ∷ example (e_or_g ∷ 1 ∷ e ∷ 0 ∷ []) (deduce unit g 1 (e_or_g ∷ e ∷ [])) (remains 1 3) (entry e_or_g 1 0 0 ++ entry e 0 0 0 ++ entry g 1 0 0)
    ∷ example (e ∷ 2 ∷ []) (decide a 7) (refuses 0 7 0) []
    -- clash at level 0 and fail above it: each is the other's line
    ∷ example (e ∷ 1 ∷ g ∷ 0 ∷ []) clash_g (refuses 0 26 2) (entry e 1 0 0 ++ entry g 0 0 0)
    ∷ example (g ∷ 0 ∷ []) (decide e 1 ++ fail_g) (refuses 1 26 2) (entry g 0 0 0 ++ entry e 1 1 1)
    ∷ example (e ∷ 1 ∷ []) (decide g 0 ++ fail_g) (refuses 1 26 2) (entry e 1 0 0 ++ entry g 0 1 1)
    -- a conflict, back to level 0, and the input is refuted there; the row after it is unread
    ∷ example (g ∷ 0 ∷ not_e ∷ 0 ∷ []) (decide e 1 ++ clash_g ++ jump e ++ fail neg e 1 (not_e ∷ []) ++ clash_g) (refutes 4 3)
    (entry g 0 0 0 ++ entry not_e 0 0 0 ++ entry e 0 0 0)
    ∷ []

-- the call: workspace and trail buffer just long enough, full of old numbers
abbrev pub call : List ℕ → List ℕ → Call
call input log =
    record {
      sorts = sorts;
      terms = terms;
      inputs = input;
      steps = log;
      work = replicate 76 9;
      trail = replicate 32 9;
    }

-- result, trail buffer and workspace of a call, as one list
abbrev seen : Call → List ℕ
seen x = shown (outcome x) ++ trail_after x ++ work_after x

-- the result, the entries with the old numbers behind them, a workspace of zeros
abbrev asked : List ℕ → List ℕ → List ℕ
asked result left = result ++ (left ++ replicate (32 - length left) 9) ++ replicate 76 0

-- each run gives what the table asks
pub starred : map (λ (r : Example). seen (call r.input r.log)) table ≡ map (λ (r : Example). asked r.result r.left) table
unfolding Lists.first_where Numbers.unless Numbers.or_else Numbers.first_refusal Sheets.length_refusal Sorts.is_array Sorts.is_plain Sorts.sort_refusal Sorts.sorts_refusal Terms.cells Terms.args Terms.arg Terms.earlier Terms.same_use Terms.first_use Terms.suits Terms.twins Terms.fresh Terms.term_refusal Terms.terms_refusal Trail.on Trail.entry Trail.holds Trail.level_of Trail.kept_to Trail.trail_numbers_of Inputs.input_trail Inputs.input_refusal Inputs.inputs_refusal Rules.rule_of Rules.bare Rules.single Rules.double Rules.leading Rules.unit_at Rules.fits Steps.answer Steps.premises Steps.kind_of Steps.shaped Steps.ready Steps.known Steps.acceptable Steps.decide_refusal Steps.decide Steps.inference_refusal Steps.deduce_refusal Steps.deduce Steps.contradiction_refusal Steps.clash_refusal Steps.clash Steps.fail_refusal Steps.fail Steps.resolve_refusal Steps.resolve Steps.clear_refusal Steps.clear Steps.jump_refusal Steps.jump Steps.flip_refusal Steps.flip Steps.row_refusal Steps.step_by Steps.step Run.follow Run.run Run.sheets_refusal Run.call_refusal Run.ending_of Run.ending Run.outcome Run.trail_after Run.work_after
starred = refl

-- ---- the last starred run: e 2, and any log

module _ (log : List ℕ) (whole : length log % 9 ≡ 0) (few : length log / 9 ≤ 65535) where
  lengths_pass : length_refusal (call (e ∷ 2 ∷ []) log) ≡ 0
  unfolding Sheets.length_refusal Numbers.unless
  lengths_pass = rw (whole, le-leb (length log / 9) 65535 few)

  pub starred_any : seen (call (e ∷ 2 ∷ []) log) ≡ asked (refuses 0 7 0) []
  unfolding Lists.first_where Numbers.unless Numbers.or_else Numbers.first_refusal Sorts.is_array Sorts.is_plain Sorts.sort_refusal Sorts.sorts_refusal Terms.cells Terms.args Terms.arg Terms.earlier Terms.same_use Terms.first_use Terms.suits Terms.twins Terms.fresh Terms.term_refusal Terms.terms_refusal Trail.on Trail.trail_numbers_of Inputs.input_trail Inputs.input_refusal Inputs.inputs_refusal Run.sheets_refusal Run.call_refusal Run.ending_of Run.ending Run.outcome Run.trail_after Run.work_after
  starred_any = rw lengths_pass
