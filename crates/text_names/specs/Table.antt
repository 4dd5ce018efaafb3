-- Tables of names in one list of bytes. Each name has a slot of 67 bytes: its length, its tag in two bytes, and 64 bytes for the name. Behind the 544 slots
-- stands, for each table and each tag, the number of the first name of that tag; behind those, for each slot, sixteen numbers of names below it. So names
-- of one tag are a tree: a name that is not in a slot is looked for below it, by the next digit of the name.
use Rattle.std.specs.Prelude.{Option, Some, None, Result, Ok, Err, ℕ, zero, suc, ◌+◌, ◌*◌, ◌/◌, ◌%◌, Bool, false, List, [], ◌∷◌, eqb, leb, ltb, length, take, drop, get_or, set}
use Rattle.std.specs.Result.{result_ok}
use Rattle.std.proofs.Math.Seq.{paste}
use Rattle.text_fields.specs.Split.{pick, same}
use Rattle.text_tags.specs.Tags.{tag_of}

-- ---- slots

-- the length and the tag of slot s, and where its name begins
abbrev pub length_at : List ℕ → ℕ → ℕ
length_at t s = get_or t (s * 67) 0

abbrev pub tag_at : List ℕ → ℕ → ℕ
tag_at t s = get_or t (s * 67 + 1) 0 + get_or t (s * 67 + 2) 0 * 256

abbrev pub name_from : ℕ → ℕ
name_from s = s * 67 + 3

-- whether slot s holds a name
unfoldable pub held : List ℕ → ℕ → List ℕ → Bool
held t s name = pick (eqb (length_at t s) (length name)) (same (take (length name) (drop (name_from s) t)) name) false

-- what is written in slot s
unfoldable pub written : List ℕ → ℕ → List ℕ
written t s = take (length_at t s) (take 64 (drop (name_from s) t))

-- the bytes of a name's slot
unfoldable pub slot_of : List ℕ → List ℕ
slot_of name = length name ∷ tag_of name % 256 ∷ tag_of name / 256 ∷ name

-- a name's slot written at slot s
abbrev pub slot_put : List ℕ → ℕ → List ℕ → List ℕ
slot_put t s name = paste t (s * 67) (slot_of name) (length (slot_of name))

-- ---- the search

-- where the number of a tag's first name stands, in the table that begins at slot `base`
abbrev pub first_place : ℕ → ℕ → ℕ
first_place base tag = 36448 + base * 32 + tag

-- where the number of the name below slot s by digit x stands
abbrev pub below_place : ℕ → ℕ → ℕ
below_place s x = 46688 + s * 16 + x

-- digit d of a name: two for each byte, the low one first; 0 past its end
abbrev pub digit_of : List ℕ → ℕ → ℕ
digit_of name d = pick (eqb (d % 2) 0) (get_or name (d / 2) 0 % 16) (get_or name (d / 2) 0 / 16 % 16)

-- whether number e leads to one of n names: it is not below `low`, and its slot has the tag
unfoldable pub leads_on : List ℕ → ℕ → ℕ → ℕ → ℕ → ℕ → Bool
leads_on t base n tag low e = pick (leb low e) (pick (ltb e n) (eqb (tag_at t (base + e)) tag) false) false

-- the number that stands at a place
abbrev pub number_at : List ℕ → ℕ → ℕ
number_at t place = get_or t place 0

-- where the search for a name goes on below the name whose number stands at a place
abbrev pub next_place : List ℕ → ℕ → List ℕ → ℕ → ℕ → ℕ
next_place t base name place d = below_place (base + number_at t place) (digit_of name d)

-- where a search ends: at the number of the name, or at the place for the number of a new one
abbrev pub Spot : Type 0
Spot = Result ℕ ℕ

-- where the search for a name among n names ends, from the number at `place` on, which is not below `low`, and from digit d on; each name that is met has a
-- higher number than the one before it, so that n of them are the most that can be
abbrev pub seek_from : List ℕ → ℕ → ℕ → List ℕ → ℕ → ℕ → ℕ → ℕ → Spot
seek_from t base n name zero low place d = Err place
seek_from t base n name (suc m) low place d =
    pick (leads_on t base n (tag_of name) low (number_at t place))
    (pick (held t (base + number_at t place) name) (Ok (number_at t place))
    (seek_from t base n name m (suc (number_at t place)) (next_place t base name place d) (suc d)))
    (Err place)

unfoldable pub spot_of : List ℕ → ℕ → ℕ → List ℕ → Spot
spot_of t base n name = seek_from t base n name n 0 (first_place base (tag_of name)) 0

-- where a name is found among the n names of a table
abbrev pub found : List ℕ → ℕ → ℕ → List ℕ → Option ℕ
found t base n name = result_ok (spot_of t base n name)

-- ---- the names

abbrev pub is_number : Option ℕ → ℕ → Bool
is_number (Some k) j = eqb k j
is_number None j = false

-- name j of n names: what is written in its slot; what is not found there counts as a name that no text has
unfoldable pub name_at : List ℕ → ℕ → ℕ → ℕ → List ℕ
name_at t base n j = pick (is_number (found t base n (written t (base + j))) j) (written t (base + j)) (256 ∷ [])

-- m of n names, from name j on
abbrev pub names_on : List ℕ → ℕ → ℕ → ℕ → ℕ → List (List ℕ)
names_on t base n j zero = []
names_on t base n j (suc m) = name_at t base n j ∷ names_on t base n (suc j) m

-- the n names of the table that begins at slot `base`
abbrev pub names_from : List ℕ → ℕ → ℕ → List (List ℕ)
names_from t base n = names_on t base n 0 n

-- ---- a name that is put

-- a name put as name n into the table that begins at slot `base`, where the search for it ends; one that is there already is not put again
abbrev pub put_at : List ℕ → ℕ → ℕ → List ℕ → Spot → List ℕ
put_at t base n name (Ok e) = t
put_at t base n name (Err place) = set (slot_put t (base + n) name) place n

unfoldable pub with_name : List ℕ → ℕ → ℕ → List ℕ → List ℕ
with_name t base n name = put_at t base n name (spot_of t base n name)
