-- Laws of what a line does.
use Prim.Native.Nat.{ℕ, ◌<◌}
use mathlib.Core.Path.{◌≡◌, refl, sym}
use mathlib.Core.Bool.{Bool, true, false}
use mathlib.Core.List.{List, [], ◌∷◌}
use native.Mathlib.Omega.{arith}
use borrow.Author.Tests.{ne_eqb, lt-leb, leb-true, leb-false}
use lib.Dec.{eqb, leb}
use lib.ListN.{length, take, length-take}
use lib.Seq.{take_all}
use Rattle.text_fields.specs.Split.{pick, same}
use Rattle.text_lines.specs.Lines.{Control, quiet, bad, read_line, numbered, line_effect}
use Rattle.text_faults.specs.declared.Why.TheVariants.{Long}

-- an empty line
pub same_empty : (l : List ℕ) → same l [] ≡ eqb (length l) 0
same_empty [] = refl
same_empty (x ∷ xs) = sym (ne_eqb (length (x ∷ xs)) 0 (λ e. omega arith))

-- after a bad line nothing is done
pub effect_late : (c : Control) (n : ℕ) (l : List ℕ) → (c.number ≡ 0 → ⊥) → quiet c ≡ line_effect c n l
unfolding line_effect
effect_late c n l h = rw (ne_eqb c.number 0 h)

-- of a line that is too long the first 526 bytes say so
pub effect_cut : (c : Control) (n : ℕ) (p : List ℕ) → line_effect c n (take 526 p) ≡ line_effect c n p
unfolding line_effect
effect_cut c n p = go (leb (length p) 525) refl where
  go : (t : Bool) → leb (length p) 525 ≡ t
      → pick (eqb c.number 0) (pick (leb (length (take 526 p)) 525) (read_line (numbered c n) (take 526 p)) (bad (numbered c n) Long)) (quiet c)
      ≡ pick (eqb c.number 0) (pick (leb (length p) 525) (read_line (numbered c n) p) (bad (numbered c n) Long)) (quiet c)
  go true e = let h = leb-true (length p) 525 e in rw (take_all 526 p (omega arith))
  go false e =
      let h = leb-false (length p) 525 e in
      let k : 525 < length (take 526 p) = rw length-take (omega arith) in
      rw (lt-leb (length (take 526 p)) 525 k, e)
