-- A walk over the members of one word of a set on the trail, from its lowest bit up. Assumes nothing.
use Prim.Native.Nat.{ℕ, ◌-◌, ◌^◌, ◌<◌}
use native.Mathlib.Omega.{arith}
use mathlib.Core.Path.{◌≡◌}
use mathlib.Core.Bool.{true}
use lib.Bits.{bit_and}
use Rattle.calculus.specs.Trail.{Set, Trail, on}
use Rattle.calculus.specs.WellFormed.{Within, Below}
use Rattle.bitset.specs.Members.{word_of, first_of, IsWord}
use Rattle.bitset.proofs.Members.{first_member, rest_less, rest_in, word_in}
use Rattle.calculus.proofs.Trails.{on_below}

-- the rows of a word of a set on the trail are on the trail
pub word_within : (tr : Trail) (s : Set) (k x : ℕ) → IsWord s k x → Within s tr → Within (word_of k x) tr
word_within tr s k x w h u m = h u (word_in s k x u w m)

-- what is left of word k: a number of 64 bits, whose rows are on the trail
pub record Rest (tr : Trail) (k rest : ℕ) : Type 0 where
  pub small : rest < 2 ^ 64
  pub within : Within (word_of k rest) tr

module _ {tr : Trail} {k rest : ℕ} (r : Rest tr k rest) (p : 0 < rest) where
  pub first_on : on tr (first_of k rest) ≡ true
  first_on = r.within _ (first_member k rest p r.small)

  pub first_row : {n : ℕ} → Below n tr → first_of k rest < n
  first_row b = on_below _ _ tr b first_on

  pub rest_next : Rest tr k (bit_and rest (rest - 1))
  rest_next =
      record {
        small = omega (arith, rest_less k rest p r.small, r.small);
        within = λ u m. r.within u (rest_in k rest p r.small u m);
      }
