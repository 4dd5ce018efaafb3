-- The mix of a row, word by word.
use Rattle.std.proofs.Common.{◌≡◌, ℕ}
use Rattle.calculus.specs.declared.Term.{Term}
use Rattle.term_buckets.specs.Buckets.{word, mixed_in, mix}

-- a row's words, mixed in one after the other
pub row_mixed : (e : Term) {u v w l m n : ℕ} → u ≡ word e.head e.sort → l ≡ mixed_in 0 u → v ≡ word e.a e.b → m ≡ mixed_in l v
    → w ≡ word e.c e.d → n ≡ mixed_in m w → n ≡ mix e
unfolding mix
row_mixed e p q r s t z = rw (z, s, q, t, r, p)
