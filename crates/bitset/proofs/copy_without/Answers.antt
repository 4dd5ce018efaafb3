-- `bitset::copy_without` meets its contract. The words passed are those of the set, and nothing else has changed. Assumes nothing.
use Prim.Native.Nat.{◌+◌}
use mathlib.Core.Path.{◌≡◌}
use native.Mathlib.Omega.{arith}
use mathlib.Core.Logic.{inr}
use Rattle.bitset.proofs.Windows.{filled_none, filled_more, still, stored, set_past}
use Rattle.bitset.proofs.Members.{set_word, part_word}
use Rattle.bitset.proofs.copy_without.Goals as goal

pub loop-j-init : goal.loop-j-init
loop-j-init c = filled_none _ _ _

pub loop-j-preserved : goal.loop-j-preserved
loop-j-preserved c =
    let u = c.loop-j.invariant in
    let k = c.loop-j-test.true in
    let word = still _ _ _ _ _ u (c.args.from + c.loop-j.j) (inr (omega (arith, c.requires.0))) in
    let whole = set_word _ c.args.from c.args.w _ k in
    filled_more _ _ _ _ _ _ (omega arith) u (part_word _ _ _ _ _ whole (rw word at c.word_without_all.ensures))

pub returns : goal.returns
returns c =
    let e : c.loop-j.j ≡ c.args.w = omega arith in
    stored _ _ _ _ _ (rw e at c.loop-j.invariant) (λ u l. rw (set_past _ c.args.from c.args.w u l))
