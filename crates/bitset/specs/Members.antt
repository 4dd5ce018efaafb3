-- The members of a set word by word.
use Rattle.std.specs.Prelude.{ℕ, ◌+◌, ◌*◌, ◌/◌, ◌%◌, ◌≡◌, ◌&&◌, eqb}
use Rattle.std.specs.Int.Count.{count_trailing_zeros}
use Rattle.calculus.specs.Trail.{Set}
use Rattle.bitset.specs.Windows.{bit_at}

-- the rows that x stands for as word k of a set
unfoldable pub word_of : ℕ → ℕ → Set
word_of k x = λ u. eqb (u / 64) k && bit_at x (u % 64)

-- the first of them, where x is not 0
abbrev pub first_of : ℕ → ℕ → ℕ
first_of k x = 64 * k + count_trailing_zeros 64 x

-- x is word k of the set s
abbrev pub IsWord : Set → ℕ → ℕ → Type 0
IsWord s k x = (u : ℕ) → u / 64 ≡ k → s u ≡ bit_at x (u % 64)
