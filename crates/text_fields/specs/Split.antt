-- How a text is cut: bytes into lines, and a line into fields.
use Rattle.std.specs.Prelude.{ℕ, suc, Bool, true, false, List, [], ◌∷◌, eqb, map}
use Rattle.std.specs.Borrow.{Bor}
use Prim.Native.Char.{code}
use Prim.Native.String.{String, [] as none, ◌∷◌ as ◌then◌}

-- a or b, by a test
abbrev pub pick : {A : Type 0} → Bool → A → A → A
pick true a b = a
pick false a b = b

-- the bytes of a word
abbrev pub bytes : String → List ℕ
bytes none = []
bytes (c then s) = code c ∷ bytes s

-- how many bytes stand before the first byte `c`, all of them where there is none
abbrev pub before : ℕ → List ℕ → ℕ
before c [] = 0
before c (b ∷ bs) = pick (eqb b c) 0 (suc (before c bs))

-- b goes in front of the first piece
abbrev pub prepend : ℕ → List (List ℕ) → List (List ℕ)
prepend b [] = (b ∷ []) ∷ []
prepend b (p ∷ ps) = (b ∷ p) ∷ ps

-- the pieces between bytes `c`: one more than there are such bytes
abbrev pub pieces : ℕ → List ℕ → List (List ℕ)
pieces c [] = [] ∷ []
pieces c (b ∷ bs) = pick (eqb b c) ([] ∷ pieces c bs) (prepend b (pieces c bs))

-- the bytes of slices, one after the other
abbrev pub contents : List (Bor (List ℕ)) → List (List ℕ)
contents = map (λ f. f.now)

-- whether two lists of bytes are the same, all bytes of them
abbrev pub same : List ℕ → List ℕ → Bool
same [] [] = true
same [] (y ∷ ys) = false
same (x ∷ xs) [] = false
same (x ∷ xs) (y ∷ ys) = pick (eqb x y) (same xs ys) false
