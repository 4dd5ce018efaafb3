-- Four bytes at a time.
use Rattle.std.specs.Prelude.{ℕ, ◌+◌, ◌≤◌, ◌<◌, ◌≡◌, List, drop}

-- f tells how many bytes a search passes; of the four bytes from place i on it passes r, and where that are fewer than four it ends there
pub record Passes (f : List ℕ → ℕ) (l : List ℕ) (i r : ℕ) : Type 0 where
  pub most : r ≤ 4
  pub on : r + f (drop (i + r) l) ≡ f (drop i l)
  pub stops : r < 4 → f (drop (i + r) l) ≡ 0
