-- A window of w words at b in a workspace, the set that it holds, and what a change leaves alone; for every width w.
use Rattle.std.specs.Prelude.{ℕ, ◌+◌, ◌/◌, ◌%◌, ◌^◌, ◌≤◌, ◌<◌, ◌≡◌, ◌⊎◌, Bool, ◌&&◌, List, eqb, ltb, length, get_or}
use Rattle.calculus.specs.Trail.{Set}

-- bit k of a word
unfoldable pub bit_at : ℕ → ℕ → Bool
bit_at x k = eqb (x / 2 ^ k % 2) 1

-- the set in the w words at b: row t is bit t % 64 of word t / 64
unfoldable pub set_at : List ℕ → ℕ → ℕ → Set
set_at ws b w = λ t. ltb (t / 64) w && bit_at (get_or ws (b + t / 64) 0) (t % 64)

-- `after` differs from `before` in the w words at b alone
pub record Only (before after : List ℕ) (b w : ℕ) : Type 0 where
  pub long : length after ≡ length before
  pub rest : (k : ℕ) → (k < b) ⊎ (b + w ≤ k) → get_or after k 0 ≡ get_or before k 0

-- so that the window holds the set s
pub record Holds (before after : List ℕ) (b w : ℕ) (s : Set) : Type 0 where
  pub only : Only before after b w
  pub set : set_at after b w ≡ s
