-- The cycle of calls {walk, found, walk_args}. `walk` calls `walk_args` with one connective less left, `walk_args` calls `found` and `found` calls
-- `walk` with as many left: so the measures are three times the connectives left, one more for `found`, and two for `walk_args`.
use Rattle.std.proofs.Common.{◌+◌, ◌*◌}
use Rattle.rule_deep.proofs.+walk_walk_args.Given as goal

abbrev pub decreases-walk : goal.decreases-walk
decreases-walk l = l.left * 3

abbrev pub decreases-found : goal.decreases-found
decreases-found l = l.left * 3 + 1

abbrev pub decreases-walk_args : goal.decreases-walk_args
decreases-walk_args l = l.left * 3 + 2
