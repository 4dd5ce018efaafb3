-- The cycle of calls {matched, paired}. `paired` calls `matched` with the members from k on, and `matched` calls `paired` with one fewer, so that the
-- measures are twice their number, and one more for `paired`.
use Rattle.std.proofs.Common.{ℕ, ◌+◌, length}
use Rattle.clauses.specs.declared.Members.{Members}
use Rattle.clauses.specs.Pairs.{members_of, from}
use Rattle.clauses.proofs.+matched_paired.Given as goal

abbrev twice : Members → ℕ
twice h = length (members_of h) + length (members_of h)

abbrev pub decreases-matched : goal.decreases-matched
decreases-matched l = twice (from l.k l.h)

abbrev pub decreases-paired : goal.decreases-paired
decreases-paired l = twice (from l.k l.h) + 1
