-- `levels::level_of` meets its contract. Assumes nothing.
use Prim.Native.Nat.{◌+◌}
use mathlib.Core.Path.{◌≡◌}
use borrow.Author.Rules.{rules}
use lib.ListN.{get_or}
use Rattle.bitset.proofs.Windows.{set_past}
use Rattle.bitset.proofs.Members.{set_word}
use Rattle.levels.proofs.level_of.Goals as goal

pub level_by-requires : goal.level_by-requires
level_by-requires c κs within = (
  search rules,
  (
    c.requires.0,
    c.requires.2,
    set_past _ _ _,
    (λ k l. search rules),
    (λ k x l p.
        let e : x ≡ get_or c.args.work.now (c.args.e + k) 0 = search rules in
        rw e (set_word c.args.work.now c.args.e c.args.w k l)),
  ),
)
