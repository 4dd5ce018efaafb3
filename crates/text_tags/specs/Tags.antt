-- The tag of a name: its bytes, mixed to a number below 1,024. A name of four bytes or more is mixed four bytes at a time, and its last four at the end.
use Rattle.std.specs.Prelude.{ℕ, zero, suc, ◌+◌, ◌-◌, ◌*◌, ◌/◌, ◌%◌, List, ltb, length, get_or}
use Rattle.text_fields.specs.Split.{pick}

-- four bytes from place i on as a number, the first the least, and eight
abbrev pub word_at : List ℕ → ℕ → ℕ
word_at l i = get_or l i 0 + get_or l (i + 1) 0 * 256 + get_or l (i + 2) 0 * 65536 + get_or l (i + 3) 0 * 16777216

abbrev pub wide_at : List ℕ → ℕ → ℕ
wide_at l i = word_at l i + word_at l (i + 4) * 4294967296

-- a number with another one mixed in
abbrev pub mixed : ℕ → ℕ → ℕ
mixed h w = (h + w) % 4294967296 * 2654435761

-- the first m bytes, mixed
unfoldable pub mix_bytes : List ℕ → ℕ → ℕ
mix_bytes name zero = 0
mix_bytes name (suc m) = mixed (mix_bytes name m) (get_or name m 0)

-- the first m words of four bytes, mixed
unfoldable pub mix_words : List ℕ → ℕ → ℕ
mix_words name zero = 0
mix_words name (suc m) = mixed (mix_words name m) (word_at name (m * 4))

-- a name's bytes, mixed: the words that leave at least a byte, and then the last four bytes; one byte at a time where there are no four
unfoldable pub mix_name : List ℕ → ℕ
mix_name name =
    pick (ltb (length name) 4) (mix_bytes name (length name))
    (mixed (mix_words name ((length name - 1) / 4)) (word_at name (length name - 4)))

-- the tag of a name
unfoldable pub tag_of : List ℕ → ℕ
tag_of name = mix_name name / 1073741824 % 1024
