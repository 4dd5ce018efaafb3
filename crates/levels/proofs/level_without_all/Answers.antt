-- `levels::level_without_all` meets its contract. Assumes nothing.
use Prim.Native.Nat.{◌+◌}
use mathlib.Core.Path.{◌≡◌}
use borrow.Author.Rules.{rules, lives}
use lib.ListN.{get_or}
use Rattle.calculus.specs.Terms.{filled}
use Rattle.calculus.specs.Trail.{without}
use Rattle.bitset.specs.Members.{word_of}
use Rattle.bitset.proofs.Members.{set_word, part_word}
use Rattle.levels.proofs.Laws.{part_within, part_past}
use Rattle.levels.proofs.level_without_all.Goals as goal

pub level_by-requires : goal.level_by-requires
level_by-requires c κs within = (
  search lives depth 12 fits 4000,
  (
    c.requires.0,
    part_within _ _ _ c.requires.2,
    part_past _ _ _ _,
    (λ k l. search rules),
    (λ k x l p.
        let e : word_of k x ≡ without (word_of k (get_or c.args.work.now (c.args.e + k) 0)) (filled c.args.ps.now) = search rules in
        part_word _ _ _ _ _ (set_word c.args.work.now c.args.e c.args.w k l) e),
  ),
)
