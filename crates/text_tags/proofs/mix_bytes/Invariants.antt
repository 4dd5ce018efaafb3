-- The bytes of a name are mixed, byte after byte.
use Prim.Native.Nat.{◌≤◌, ◌*◌}
use mathlib.Core.Path.{◌≡◌}
use Rattle.text_tags.specs.Tags.{mix_bytes}
use Rattle.text_tags.proofs.mix_bytes.Given as goal

abbrev pub invariant-loop-b : goal.invariant-loop-b
invariant-loop-b l = (l.h ≤ 4294967295 * 2654435761) × (l.h ≡ mix_bytes l.name l.b-index)
