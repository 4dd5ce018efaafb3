-- How the changes of a step in a conflict compose. Assumes nothing.
use Prim.Native.Nat.{ℕ, ◌+◌, ◌*◌, ◌≤◌, ◌<◌, max}
use native.Mathlib.Omega.{arith}
use mathlib.Core.Path.{◌≡◌, sym, ap, ◌∙◌}
use mathlib.Core.Logic.{inr}
use mathlib.Core.Bool.{false}
use mathlib.Core.List.{List, [], ◌∷◌}
use lib.Dec.{leb}
use borrow.Author.Tests.{ne_eqb}
use Rattle.calculus.specs.Sheets.{blank}
use Rattle.calculus.specs.Terms.{filled}
use Rattle.calculus.specs.Trail.{Set, Trail, remove, without, union, on, level_at, why_at, level_of, top_level, kept_to}
use Rattle.calculus.proofs.Facts.{cond_case}
use Rattle.calculus.proofs.Entries.{level_kept}
use Rattle.bitset.specs.Windows.{set_at, Holds}
use Rattle.bitset.proofs.Windows.{same_set}
use Rattle.trail.specs.Words.{conflict, entry_of, trail_in, Laid, Still, Pushed, Cut}
use Rattle.calculus.proofs.Trails.{without_one, remove_union, kept_gone}
use Rattle.calculus.proofs.WellFormed.{why_not_own}
use Rattle.trail.proofs.Frames.{built, why_words}
use Rattle.moves.specs.Post.{conflict_in, Stands, Conflicts}
use Rattle.conflict_moves.specs.Back.{resolved_in, rest_in, backjumped_in, ToResolve, ToBackjump, ToJump}
use Rattle.moves.proofs.Laws.{conflict_made, justified_stands}

-- ---- the conflict

-- the justification of t, then without t
pub resolved : (w N : ℕ) (ws us vs : List ℕ) (n t : ℕ) → ToResolve w N ws n t
    → Holds ws us (conflict w N) w (union (conflict_in w N ws) (set_at ws (t * w) w))
    → Holds us vs (conflict w N) w (remove (conflict_in w N us) t)
    → Conflicts w N vs n (trail_in w N ws n) (resolved_in w N ws n t)
resolved w N ws us vs n t to one two =
    let tr = trail_in w N ws n in
    let c = conflict_made w N ws us vs n (union (conflict_in w N ws) (set_at ws (t * w) w)) (remove (conflict_in w N us) t) to.laid one two in
    let why = why_words w N ws n t to.laid to.row to.stands to.justified in
    record {
      laid = c.laid;
      trail = c.trail;
      conflict =
          c.conflict
          ∙ ap (λ (s : Set). remove s t) (one.set ∙ ap (union (conflict_in w N ws)) (sym why))
          ∙ remove_union (conflict_in w N ws) (why_at tr t) t (why_not_own tr t to.well_formed);
    }

-- ---- back to a level

-- cut and copy: the trail is kept to m, t is not on it, and its words hold the rest of the conflict
pub record Readied (w N : ℕ) (ws us : List ℕ) (n t m : ℕ) (ps : List ℕ) (r : ℕ) : Type 0 where
  pub trail : trail_in w N us r ≡ kept_to m (trail_in w N ws n)
  pub laid : Laid w N us r
  pub off : on (trail_in w N us r) t ≡ false
  pub why : set_at us (t * w) w ≡ rest_in w N ws ps

module _ {w N : ℕ} {ws : List ℕ} {n t m : ℕ} {ps : List ℕ} {level : ℕ} (to : ToBackjump w N ws n t m ps level) where
  pub readied : (us₁ us₂ : List ℕ) (r top : ℕ) → Cut w N ws us₁ n m r top
      → Holds us₁ us₂ (t * w) w (without (set_at us₁ (conflict w N) w) (filled ps)) → Readied w N ws us₂ n t m ps r
  readied us₁ us₂ r top cut copy =
      let off : on (trail_in w N us₁ r) t ≡ false = rw cut.trail to.gone in
      let a : Still w N us₁ us₂ r = built w N us₁ us₂ r t cut.laid to.row off copy.only in
      record {
        trail = a.trail ∙ cut.trail;
        laid = a.laid;
        off = rw a.trail off;
        why =
            copy.set
            ∙ ap (λ (s : Set). without s (filled ps))
            (same_set us₁ ws (conflict w N) (conflict w N) w (λ k q. cut.only.rest _ (inr (omega arith))));
      }

  pub landed : (us vs : List ℕ) (v r top : ℕ) → Readied w N ws us n t m ps r → top ≡ top_level (kept_to m (trail_in w N ws n))
      → Pushed w N us vs r (entry_of t v level false (set_at us (t * w) w)) → Stands w N vs (r + 1) (max top level) (backjumped_in w N ws n t v m ps)
  landed us vs v r top a g p =
      justified_stands w N us vs r t v level top (rest_in w N ws ps) (kept_to m (trail_in w N ws n)) a.trail g a.why
      (to.level_is ∙ sym (level_kept m (trail_in w N ws n) (rest_in w N ws ps) (omega (arith, to.level_is, to.low)))) p

pub top_kept : (m : ℕ) (tr : Trail) → top_level (kept_to m tr) ≤ top_level tr
unfolding kept_to level_of
top_kept m [] = omega arith
top_kept m (e ∷ older) =
    let r = top_kept m older in
    cond_case (λ (l : Trail). top_level l ≤ max (top_level older) e.level) (leb e.level m) _ _ (λ q. omega (arith, r)) (λ q. omega (arith, r))

-- ---- the same result, said of the trail at entry

-- jump: the rest is the conflict without one row
module _ (w N : ℕ) (ws : List ℕ) (n l m : ℕ) (p : ToJump w N ws n l m) where
  one_row : filled (l ∷ []) ≡ l ∷ []
  one_row = rw (ne_eqb l blank (omega (arith, p.0.row, p.0.laid.wide, p.0.laid.narrow)))

  rest_is : rest_in w N ws (l ∷ []) ≡ remove (conflict_in w N ws) l
  rest_is = ap (without (conflict_in w N ws)) one_row ∙ without_one (conflict_in w N ws) l

  pub jump_back : ToBackjump w N ws n l m (l ∷ []) m
  jump_back =
      record {
        laid = p.0.laid;
        well_formed = p.0.well_formed;
        row = p.0.row;
        gone = kept_gone l m (trail_in w N ws n) p.0.laid.distinct (omega (arith, p.0.above, p.1));
        level_is = p.1 ∙ ap (level_of (trail_in w N ws n)) (sym rest_is);
        low = omega arith;
      }

-- after a cut
pub gone_after : (w N : ℕ) (ws us : List ℕ) (n m r top t : ℕ) → Laid w N ws n → Cut w N ws us n m r top → m < level_at (trail_in w N ws n) t
    → on (trail_in w N us r) t ≡ false
gone_after w N ws us n m r top t laid c h = rw c.trail (kept_gone t m (trail_in w N ws n) laid.distinct h)

pub top_after : (w N : ℕ) (ws us : List ℕ) (n m r top : ℕ) → Cut w N ws us n m r top → top_level (trail_in w N ws n) < 65536 → top < 65536
top_after w N ws us n m r top c h = omega (arith, h, c.greatest, ap top_level c.trail, top_kept m (trail_in w N ws n))
