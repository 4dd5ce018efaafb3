-- What is left to store says the same as the whole row.
use Rattle.std.proofs.Common.{◌≡◌, ◌+◌, ◌≤◌, length, drop}
use Rattle.std.proofs.lemmas.List.Edits.{sets}
use Rattle.text_lines.proofs.store_all.Given as goal

abbrev pub invariant-loop-j : goal.invariant-loop-j
invariant-loop-j l = (l.j ≤ l.n) × (length l.sheet ≡ length l.initial.sheet)
    × (sets l.sheet (l.from + l.j) (drop l.j l.row) ≡ sets l.initial.sheet l.from l.row)
