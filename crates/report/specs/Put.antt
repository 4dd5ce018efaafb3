-- Text in a lent buffer.
use Rattle.std.specs.Prelude.{ℕ, ◌≡◌, List, length, flat_map}
use Rattle.std.specs.Borrow.{Bor}
use Rattle.buffers.specs.Room.{pad_to}

-- parts one behind the other
abbrev pub joined : List (Bor (List ℕ)) → List ℕ
joined parts = flat_map (λ p. p.now) parts

-- a text is laid into a buffer of n bytes: r tells how long the text is, and the buffer holds it, cut where it is short, and then zeros
pub record Laid (n : ℕ) (text : List ℕ) (r : ℕ) (out' : List ℕ) : Type 0 where
  pub length_is : r ≡ length text
  pub out_is : out' ≡ pad_to n text
