-- Rows and calls for the tables, written out in document 01's numbers, 65535 where nothing is filled in; and the small board.
use mathlib.Core.List.{List, [], ◌∷◌, ◌++◌}
use Prim.Native.Nat.{ℕ, ◌+◌, ◌-◌, ◌*◌, ◌/◌}
use lib.ListN.{length, replicate}
use Rattle.calculus.specs.declared.Outcome.{Outcome}
use Rattle.calculus.specs.Sheets.{Call}
use Rattle.calculus.specs.Run.{outcome}

abbrev pub nothing : ℕ → List ℕ
nothing n = replicate n 65535

-- ---- sort and term rows

abbrev pub plain : List ℕ
plain = 65535 ∷ 65535 ∷ []

-- head, sort and arguments
abbrev pub row : ℕ → ℕ → List ℕ → List ℕ
row h s xs = h ∷ s ∷ xs ++ nothing (4 - length xs)

-- ---- rules, by number

abbrev pub same : ℕ
same = 0

abbrev pub differ : ℕ
differ = 1

abbrev pub refl_rule : ℕ
refl_rule = 2

abbrev pub sym : ℕ
sym = 3

abbrev pub trans : ℕ
trans = 4

abbrev pub neg : ℕ
neg = 5

abbrev pub part : ℕ
part = 6

abbrev pub unit : ℕ
unit = 7

abbrev pub eval : ℕ
eval = 8

abbrev pub cong : ℕ
cong = 9

abbrev pub pred : ℕ
pred = 10

abbrev pub read : ℕ
read = 11

abbrev pub skip : ℕ
skip = 12

abbrev pub deep : ℕ
deep = 13

-- ---- step rows

abbrev pub decide : ℕ → ℕ → List ℕ
decide t v = 0 ∷ 65535 ∷ t ∷ v ∷ nothing 5

-- rule, term, value and premises
abbrev pub deduce : ℕ → ℕ → ℕ → List ℕ → List ℕ
deduce r l v ps = 1 ∷ r ∷ l ∷ v ∷ ps ++ nothing (5 - length ps)

abbrev pub clash : ℕ → ℕ → ℕ → List ℕ → List ℕ
clash r l v ps = 2 ∷ r ∷ l ∷ v ∷ ps ++ nothing (5 - length ps)

abbrev pub fail : ℕ → ℕ → ℕ → List ℕ → List ℕ
fail r l v ps = 7 ∷ r ∷ l ∷ v ∷ ps ++ nothing (5 - length ps)

abbrev pub resolve : ℕ → List ℕ
resolve t = 3 ∷ 65535 ∷ t ∷ nothing 6

abbrev pub clear : ℕ → List ℕ
clear t = 4 ∷ 65535 ∷ t ∷ nothing 6

abbrev pub jump : ℕ → List ℕ
jump t = 5 ∷ 65535 ∷ t ∷ nothing 6

abbrev pub flip : ℕ → ℕ → List ℕ
flip t k = 6 ∷ 65535 ∷ t ∷ 65535 ∷ k ∷ nothing 4

-- clause, level and members
abbrev pub learn : ℕ → ℕ → List ℕ → List ℕ
learn t m hs = 8 ∷ 65535 ∷ t ∷ m ∷ hs ++ nothing (5 - length hs)

-- ---- results: verdict, steps, number, entries

abbrev pub remains : ℕ → ℕ → List ℕ
remains steps entries = 0 ∷ steps ∷ 0 ∷ entries ∷ []

abbrev pub refutes : ℕ → ℕ → List ℕ
refutes steps entries = 1 ∷ steps ∷ 0 ∷ entries ∷ []

abbrev pub refuses : ℕ → ℕ → ℕ → List ℕ
refuses steps number entries = 2 ∷ steps ∷ number ∷ entries ∷ []

abbrev pub shown : Outcome → List ℕ
shown o = o.verdict ∷ o.steps ∷ o.number ∷ o.entries ∷ []

-- ---- a call and its result

-- the sheets, the lengths of workspace and trail buffer, and the result: verdict, steps, number, entries
abbrev pub Case : Type 0
Case = record { sorts : List ℕ; terms : List ℕ; inputs : List ℕ; log : List ℕ; work : ℕ; trail : ℕ; result : List ℕ }

-- workspace and trail buffer of these lengths
abbrev pub lent : ℕ → ℕ → List ℕ → List ℕ → List ℕ → List ℕ → List ℕ → Case
lent w t ss ts is log r = record { sorts = ss; terms = ts; inputs = is; log = log; work = w; trail = t; result = r }

-- 8N+12 words and 4N numbers
abbrev pub sheets : List ℕ → List ℕ → List ℕ → List ℕ → List ℕ → Case
sheets ss ts is log r = lent (8 * (length ts / 6) + 12) (4 * (length ts / 6)) ss ts is log r

abbrev pub call_of : Case → Call
call_of x =
    record {
      sorts = x.sorts;
      terms = x.terms;
      inputs = x.inputs;
      steps = x.log;
      work = replicate x.work 0;
      trail = replicate x.trail 0;
    }

abbrev pub given : Case → List ℕ
given x = shown (outcome (call_of x))

abbrev pub asked : Case → List ℕ
asked x = x.result

-- an entry that is left: term, value, level, decision or not
abbrev pub entry : ℕ → ℕ → ℕ → ℕ → List ℕ
entry t v m d = t ∷ v ∷ m ∷ d ∷ []

-- refused before any step
abbrev pub away : ℕ → List ℕ
away c = refuses 0 c 0

-- ---- the small board

abbrev pub sorts : List ℕ
sorts = plain

-- a, b, e: a = b, fa: F(a), fb: F(b), g: fa = fb, not(e), or(e, g)
abbrev pub terms : List ℕ
terms =
    row 16 1 []
    ++ row 17 1 []
    ++ row 0 0 (0 ∷ 1 ∷ [])
    ++ row 18 1 (0 ∷ [])
    ++ row 18 1 (1 ∷ [])
    ++ row 0 0 (3 ∷ 4 ∷ [])
    ++ row 1 0 (2 ∷ [])
    ++ row 3 0 (2 ∷ 5 ∷ [])

abbrev pub a : ℕ
a = 0

abbrev pub b : ℕ
b = 1

abbrev pub e : ℕ
e = 2

abbrev pub g : ℕ
g = 5

abbrev pub not_e : ℕ
not_e = 6

abbrev pub e_or_g : ℕ
e_or_g = 7

abbrev pub clash_g : List ℕ
clash_g = clash cong g 1 (e ∷ [])

abbrev pub fail_g : List ℕ
fail_g = fail cong g 1 (e ∷ [])
