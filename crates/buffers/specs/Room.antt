-- What a lent buffer holds.
use Rattle.std.specs.Prelude.{ℕ, zero, suc, List, [], ◌∷◌}

-- n numbers: those of l, and zeros
abbrev pub pad_to : ℕ → List ℕ → List ℕ
pad_to zero l = []
pad_to (suc n) [] = 0 ∷ pad_to n []
pad_to (suc n) (x ∷ xs) = x ∷ pad_to n xs
