-- How the changes of a step compose. Assumes nothing.
use Prim.Native.Nat.{ℕ, ◌+◌, ◌*◌, ◌/◌, ◌<◌, max}
use native.Mathlib.Omega.{arith}
use mathlib.Core.Path.{◌≡◌, ap, ◌∙◌}
use mathlib.Core.Bool.{true, false}
use mathlib.Core.List.{List, ◌∷◌}
use Rattle.calculus.specs.Lists.{has}
use Rattle.calculus.specs.Trail.{Set, Trail, empty, insert, level_of, top_level, decision, justified}
use Rattle.calculus.specs.WellFormed.{Within}
use Rattle.bitset.specs.Windows.{set_at, Holds}
use Rattle.bitset.proofs.Windows.{holds_twice}
use Rattle.trail.specs.Words.{conflict, entry_of, trail_in, Laid, Pushed}
use Rattle.calculus.proofs.Trails.{top_more, on_below}
use Rattle.trail.proofs.Frames.{beside}
use Rattle.calculus.specs.Inputs.{given}
use Rattle.moves.proofs.Gathers.{has_front}
use Rattle.moves.specs.Post.{conflict_in, Stands, Conflicts}

-- rows on the trail have a word in every set
pub rows_in : (w N : ℕ) (ws : List ℕ) (n : ℕ) (s : Set) → Laid w N ws n → Within s (trail_in w N ws n) → (u : ℕ) → s u ≡ true → u / 64 < w
rows_in w N ws n s laid h u m = let l = on_below N u (trail_in w N ws n) laid.below (h u m) in omega (arith, laid.wide)

-- ---- one entry more

-- a decision
pub decided_stands : (w N : ℕ) (us vs : List ℕ) (r t v top : ℕ) (tr : Trail) → trail_in w N us r ≡ tr → top ≡ top_level tr
    → Pushed w N us vs r (entry_of t v (1 + top) true empty) → Stands w N vs (r + 1) (1 + top) (decision tr t v ∷ tr)
unfolding level_of
decided_stands w N us vs r t v top tr q h p =
    record {
      laid = p.laid;
      trail = p.trail ∙ (λ i. entry_of t v (1 + h i) true empty ∷ q i);
      greatest = omega (arith, h);
    }

-- an entry of the input
pub given_stands : (w N : ℕ) (us vs : List ℕ) (r t v : ℕ) (tr : Trail) → trail_in w N us r ≡ tr → top_level tr ≡ 0
    → set_at us (t * w) w ≡ empty → Pushed w N us vs r (entry_of t v 0 false (set_at us (t * w) w)) → Stands w N vs (r + 1) 0 (given t v ∷ tr)
unfolding level_of
given_stands w N us vs r t v tr q h e p =
    record { laid = p.laid; trail = p.trail ∙ (λ i. entry_of t v 0 false (e i) ∷ q i); greatest = omega (arith, h) }

-- a justified entry, whose justification stands in its words
pub justified_stands : (w N : ℕ) (us vs : List ℕ) (r t v l top : ℕ) (s : Set) (tr : Trail) → trail_in w N us r ≡ tr → top ≡ top_level tr
    → set_at us (t * w) w ≡ s → l ≡ level_of tr s → Pushed w N us vs r (entry_of t v l false (set_at us (t * w) w))
    → Stands w N vs (r + 1) (max top l) (justified tr t v s ∷ tr)
justified_stands w N us vs r t v l top s tr q h e k p =
    record {
      laid = p.laid;
      trail = p.trail ∙ (λ i. entry_of t v (k i) false (e i) ∷ q i);
      greatest = ap (max top) k ∙ top_more (justified tr t v s) tr top h;
    }

-- ---- the conflict

pub conflict_made : (w N : ℕ) (ws us vs : List ℕ) (n : ℕ) (s r : Set) → Laid w N ws n → Holds ws us (conflict w N) w s → Holds us vs (conflict w N) w r
    → Conflicts w N vs n (trail_in w N ws n) r
conflict_made w N ws us vs n s r laid one two =
    let both = holds_twice ws us vs (conflict w N) w s r one two in
    let b = beside w N ws vs n (conflict w N) w laid (omega arith) both.only in
    record { laid = b.laid; trail = b.trail; conflict = both.set }

pub conflict_clash : (w N : ℕ) (ws us vs : List ℕ) (n l : ℕ) (ps : List ℕ) → Laid w N ws n → Holds ws us (conflict w N) w (has ps)
    → Holds us vs (conflict w N) w (insert (conflict_in w N us) l) → Conflicts w N vs n (trail_in w N ws n) (has (l ∷ ps))
conflict_clash w N ws us vs n l ps laid one two =
    let c = conflict_made w N ws us vs n (has ps) (insert (conflict_in w N us) l) laid one two in
    record { laid = c.laid; trail = c.trail; conflict = c.conflict ∙ has_front (conflict_in w N us) l ps one.set }
