-- What is printed is short, and so stands whole in the buffers that are lent for it.
use Prim.Native.Nat.{ℕ, zero, suc, ◌+◌, ◌/◌, ◌%◌, ◌≤◌}
use mathlib.Core.Path.{◌≡◌, refl, ap, sym, ◌∙◌}
use mathlib.Core.Bool.{Bool, true, false, true≢false}
use mathlib.Core.List.{List, [], ◌∷◌, ◌++◌}
use native.Mathlib.Omega.{arith}
use borrow.Author.Tests.{leb-true}
use lib.Dec.{eqb, leb, ltb}
use lib.ListN.{length, take, length-append}
use Rattle.buffers.proofs.Room.{length_pad_to, take_pad}
use Rattle.text_fields.specs.Split.{pick, bytes}
use Rattle.report.specs.Put.{Laid}
use Rattle.report.specs.Printed.{digits_of, decimal, verdict_word, number_field, printed}
use Rattle.report.specs.Words.{Meaning, words_of, meanings, meaning, causes, cause}
use Rattle.report.specs.Complaint.{field_part, where_part, what_part, why_part, complained}
use Rattle.report.specs.Short.{ResultsAreShort, ComplaintsAreShort}

-- two parts, of at most so many bytes each
both : (a b : List ℕ) (m n : ℕ) → length a ≤ m → length b ≤ n → length (a ++ b) ≤ m + n
both a b m n h k = rw (length-append a b) (omega arith)

-- one part or none
either : (b : Bool) (a : List ℕ) (n : ℕ) → length a ≤ n → length (pick b [] a) ≤ n
either true a n h = omega arith
either false a n h = h

digits_short : (k n : ℕ) → length (digits_of k n) ≤ k
unfolding digits_of
digits_short zero n = omega arith
digits_short (suc k) n = go (digits_short k (n / 10)) (ltb n 10) where
  go : length (digits_of k (n / 10)) ≤ k → (b : Bool) → length (pick b ((48 + n) ∷ []) (digits_of k (n / 10) ++ ((48 + n % 10) ∷ []))) ≤ suc k
  go h true = omega arith
  go h false = rw (length-append (digits_of k (n / 10)) ((48 + n % 10) ∷ [])) (omega arith)

decimal_short : (n : ℕ) → length (decimal n) ≤ 20
unfolding decimal
decimal_short n = digits_short 20 n

-- the words of a list have at most 80 bytes
all_short : List Meaning → Bool
all_short [] = true
all_short (m ∷ ms) = pick (leb (length m.words) 80) (all_short ms) false

taken : (b r : Bool) → pick b r false ≡ true → (b ≡ true) × (r ≡ true)
taken true r e = (refl, e)
taken false r e = absurd (true≢false (sym e))

words_short : (ms : List Meaning) (n : ℕ) → all_short ms ≡ true → length (words_of ms n) ≤ 80
unfolding all_short
words_short [] n e = omega arith
words_short (m ∷ ms) n e =
    let both = taken (leb (length m.words) 80) (all_short ms) e in
    go (leb-true (length m.words) 80 both.0) (words_short ms n both.1) (eqb m.number n) where
      go : length m.words ≤ 80 → length (words_of ms n) ≤ 80 → (b : Bool) → length (pick b m.words (words_of ms n)) ≤ 80
      go h k true = h
      go h k false = k

meaning_short : (n : ℕ) → length (meaning n) ≤ 80
unfolding meaning all_short
meaning_short n = words_short meanings n refl

cause_short : (n : ℕ) → length (cause n) ≤ 80
unfolding cause all_short
cause_short n = words_short causes n refl

-- a result
word_short : (v : ℕ) → length (verdict_word v) ≤ 7
unfolding verdict_word
word_short zero = omega arith
word_short (suc zero) = omega arith
word_short (suc (suc zero)) = omega arith
word_short (suc (suc (suc v))) = omega arith

field_short : (n : ℕ) → length (number_field n) ≤ 21
unfolding number_field
field_short n = both (bytes " ") (decimal n) 1 20 (omega arith) (decimal_short n)

pub results_are_short : ResultsAreShort
unfolding printed
results_are_short o =
    let names : List ℕ = bytes "verdict steps code trail place\n" in
    let first = names ++ verdict_word o.verdict in
    let second = first ++ number_field o.steps in
    let third = second ++ number_field o.number in
    let fourth = third ++ number_field o.entries in
    let fifth = fourth ++ number_field o.place in
    let verdict = both names (verdict_word o.verdict) 31 7 (omega arith) (word_short o.verdict) in
    let steps = both first (number_field o.steps) 38 21 verdict (field_short o.steps) in
    let number = both second (number_field o.number) 59 21 steps (field_short o.number) in
    let entries = both third (number_field o.entries) 80 21 number (field_short o.entries) in
    let place = both fourth (number_field o.place) 101 21 entries (field_short o.place) in
    let all = both fifth (bytes "\n") 122 1 place (omega arith) in
    omega (arith, all)

-- a complaint
part_short : (field : ℕ) → length (field_part field) ≤ 28
unfolding field_part
part_short field = either (eqb field 0) _ 28 (both (bytes ", field ") (decimal field) 8 20 (omega arith) (decimal_short field))

where_short : (line field : ℕ) → length (where_part line field) ≤ 55
unfolding where_part
where_short line field =
    let number = both (bytes "line ") (decimal line) 5 20 (omega arith) (decimal_short line) in
    let part = both (bytes "line " ++ decimal line) (field_part field) 25 28 number (part_short field) in
    either (eqb line 0) _ 55 (both (bytes "line " ++ decimal line ++ field_part field) (bytes ": ") 53 2 part (omega arith))

what_short : (n : ℕ) → length (what_part n) ≤ 101
unfolding what_part
what_short n =
    let number = both (decimal n) (bytes " ") 20 1 (decimal_short n) (omega arith) in
    both (decimal n ++ bytes " ") (meaning n) 21 80 number (meaning_short n)

why_short : (n : ℕ) → length (why_part n) ≤ 82
unfolding why_part
why_short n = either (eqb n 0) _ 82 (both (bytes ": ") (cause n) 2 80 (omega arith) (cause_short n))

pub complaints_are_short : ComplaintsAreShort
unfolding complained
complaints_are_short c =
    let place = where_part c.line c.field in
    let what = both place (what_part c.number) 55 101 (where_short c.line c.field) (what_short c.number) in
    let why = both (place ++ what_part c.number) (why_part c.why) 156 82 what (why_short c.why) in
    let all = both (place ++ what_part c.number ++ why_part c.why) (bytes "\n") 238 1 why (omega arith) in
    either (eqb c.number 0) _ 256 (omega (arith, all))

-- a text that is laid into a buffer with room for it stands there whole
pub laid_whole : (n : ℕ) (text : List ℕ) {k : ℕ} {out : List ℕ} → length text ≤ n → Laid n text k out → take k out ≡ text
laid_whole n text h laid = rw (laid.length_is, laid.out_is) (take_pad n text h)

pub laid_length : (n : ℕ) (text : List ℕ) {k : ℕ} {out : List ℕ} → Laid n text k out → n ≡ length out
laid_length n text laid = sym (ap length laid.out_is ∙ length_pad_to n text)
