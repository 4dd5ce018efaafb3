-- Laws of the kind of a term.
use Prim.Native.Nat.{ℕ}
use mathlib.Core.Path.{◌≡◌, ap₂}
use mathlib.Core.Bool.{Bool, true, false, cond}
use mathlib.Core.List.{◌∷◌}
use lib.Dec.{eqb}
use borrow.Author.Tests.{eq-eqb}
use Rattle.calculus.specs.Trail.{Trail, Entry, on, decided_at}
use Rattle.calculus.proofs.Entries.{entry_here, entry_older}
use Rattle.calculus.proofs.Trails.{on_here, on_older}
use Rattle.trail.specs.Words.{kind_at}

abbrev kind_for : Bool → Entry → ℕ
kind_for b e = cond b (cond e.decided 2 1) 0

pub kind_here : (t : ℕ) (e : Entry) (older : Trail) → e.term ≡ t → kind_at (e ∷ older) t ≡ cond e.decided 2 1
unfolding kind_at
kind_here t e older h = ap₂ kind_for (on_here t e older h) (entry_here e older t (eq-eqb e.term t h))

pub kind_older : (t : ℕ) (e : Entry) (older : Trail) → eqb e.term t ≡ false → kind_at (e ∷ older) t ≡ kind_at older t
unfolding kind_at
kind_older t e older h = ap₂ kind_for (on_older t e older h) (entry_older e older t h)

pub kind_off : (t : ℕ) (tr : Trail) → on tr t ≡ false → kind_at tr t ≡ 0
unfolding kind_at
kind_off t tr h = rw h

pub kind_on : (t : ℕ) (tr : Trail) → on tr t ≡ true → kind_at tr t ≡ cond (decided_at tr t) 2 1
unfolding kind_at
kind_on t tr h = rw h
