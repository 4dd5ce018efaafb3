-- The reader's line number and its place in that line.
use Rattle.std.specs.Prelude.{ℕ, ◌+◌, ltb}
use Rattle.text_fields.specs.Split.{pick}
use Rattle.text_fields.specs.Class.{class_of, is_newline}
use Rattle.text_position.specs.declared.Position.{Position}

-- the number of the next line; it stops at the largest number of 64 bits
abbrev pub next_line : ℕ → ℕ
next_line n = pick (ltb n 18446744073709551615) (n + 1) n

-- the start of the next line
abbrev pub next_start : Position → Position
next_start p = record { line = next_line p.line; at = 0 }

-- the position after a byte: a newline starts the next line; the place stops at 526
abbrev pub advanced : Position → ℕ → Position
advanced p b =
    pick (is_newline (class_of b))
    (next_start p)
    (record { line = p.line; at = pick (ltb p.at 526) (p.at + 1) p.at })
