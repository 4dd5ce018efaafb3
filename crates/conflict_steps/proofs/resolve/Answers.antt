-- `conflict_steps::resolve` meets its contract.
use Rattle.std.proofs.Common.{rules}
use Rattle.conflicts.proofs.Laws.{found}
use Rattle.conflict_steps.proofs.Laws.{to_resolve}
use Rattle.conflict_steps.proofs.resolve.Goals as goal

pub resolve_refusal-requires : goal.resolve_refusal-requires
resolve_refusal-requires c = search (rules, found)

pub resolve-requires : goal.resolve-requires
resolve-requires c = to_resolve _ _ _ _ _ _ c.requires c.in_ok-resolve_refusal.ensures.number
