-- The bucket of a term row: a mix of its six numbers.
use Rattle.std.specs.Prelude.{ℕ, ◌+◌, ◌*◌, ◌/◌, ◌%◌, ◌^◌}
use Rattle.calculus.specs.declared.Term.{Term}

-- two numbers of 16 bits as one word of 32
abbrev pub word : ℕ → ℕ → ℕ
word low high = low + 65536 * high

-- a mix with one word more in it: their sum, and its product with an odd number, each modulo 2 ^ 32
abbrev pub factor : ℕ
factor = 3266489909

abbrev pub mixed_in : ℕ → ℕ → ℕ
mixed_in m w = (m + w) % 2 ^ 32 * factor % 2 ^ 32

-- the mix of a row: head and sort, then the arguments, two at a time
unfoldable pub mix : Term → ℕ
mix e = mixed_in (mixed_in (mixed_in 0 (word e.head e.sort)) (word e.a e.b)) (word e.c e.d)

-- 1,024 buckets, by the ten highest bits of the mix: of a product, those hang on all bits of what is multiplied
abbrev pub buckets : ℕ
buckets = 1024

unfoldable pub bucket : Term → ℕ
bucket e = mix e / 4194304
