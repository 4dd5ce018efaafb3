-- The parts that are laid are what is to be printed, and short.
use Rattle.std.specs.Prelude.{ℕ, ◌≤◌, ◌≡◌, Bool, true, false, not, ◌&&◌, List, [], ◌++◌, length, eqb}
use Rattle.std.proofs.Common.{refl, sym, ap, subst, ◌∙◌, arith, append_assoc}
use borrow.Author.Tests.{eq-eqb, ne_eqb}
use Rattle.calculus.specs.declared.Outcome.{Outcome}
use Rattle.text_fields.specs.Split.{pick, bytes}
use Rattle.report.specs.declared.Complaint.{Complaint}
use Rattle.report.specs.Put.{Laid}
use Rattle.report.specs.Printed.{decimal, verdict_word, number_field, printed}
use Rattle.report.specs.Words.{meaning, cause}
use Rattle.report.specs.Complaint.{field_part, where_part, what_part, why_part, complained}
use Rattle.report.proofs.Short.{results_are_short, complaints_are_short}

-- a result
parts_together : (h v s a t b u c w d n : List ℕ) → h ++ (v ++ (s ++ (a ++ (t ++ (b ++ (u ++ (c ++ (w ++ (d ++ n)))))))))
    ≡ h ++ v ++ (s ++ a) ++ (t ++ b) ++ (u ++ c) ++ (w ++ d) ++ n
parts_together h v s a t b u c w d n = simp append_assoc

module _ (o : Outcome) {word steps number entries place : List ℕ} (word_is : word ≡ verdict_word o.verdict) (steps_is : steps ≡ decimal o.steps)
    (number_is : number ≡ decimal o.number) (entries_is : entries ≡ decimal o.entries) (place_is : place ≡ decimal o.place) where
  abbrev result_text : List ℕ
  result_text =
      bytes "verdict steps code trail place\n"
      ++ (word ++ (bytes " " ++ (steps ++ (bytes " " ++ (number ++ (bytes " " ++ (entries ++ (bytes " " ++ (place ++ bytes "\n")))))))))

  pub spelled : result_text ≡ printed o
  unfolding printed number_field
  spelled =
      rw (word_is, steps_is, number_is, entries_is, place_is)
      (parts_together (bytes "verdict steps code trail place\n") _ (bytes " ") _ (bytes " ") _ (bytes " ") _ (bytes " ") _ (bytes "\n"))

  pub spelled_short : length result_text ≤ 256
  spelled_short = subst (λ (t : List ℕ). length t ≤ 256) (sym spelled) (omega (arith, results_are_short o))

four_together : (place number space words why n : List ℕ) → place ++ (number ++ (space ++ (words ++ (why ++ n)))) ≡ place ++ (number ++ space ++ words) ++ why ++ n
four_together place number space words why n = simp append_assoc

-- where a fault lies, before what is told next
where_told : (line field : ℕ) (rest : List ℕ) {a b c d e : List ℕ} → a ≡ pick (not (eqb line 0)) (bytes "line ") []
    → b ≡ pick (not (eqb line 0)) (decimal line) [] → c ≡ pick (not (eqb line 0) && not (eqb field 0)) (bytes ", field ") []
    → d ≡ pick (not (eqb line 0) && not (eqb field 0)) (decimal field) [] → e ≡ pick (not (eqb line 0)) (bytes ": ") []
    → a ++ (b ++ (c ++ (d ++ (e ++ rest)))) ≡ where_part line field ++ rest
unfolding where_part field_part
where_told line field rest p q r s t = rw (p, q, r, s, t) (go (eqb line 0) (eqb field 0)) where
  go : (x y : Bool) → pick (not x) (bytes "line ") [] ++ (pick (not x) (decimal line) [] ++ (pick (not x && not y) (bytes ", field ") []
      ++ (pick (not x && not y) (decimal field) [] ++ (pick (not x) (bytes ": ") [] ++ rest))))
      ≡ pick x [] (bytes "line " ++ decimal line ++ pick y [] (bytes ", field " ++ decimal field) ++ bytes ": ") ++ rest
  go true y = refl
  go false true = simp append_assoc
  go false false = simp append_assoc

why_told : (why : ℕ) (rest : List ℕ) {a b : List ℕ} → a ≡ pick (not (eqb why 0)) (bytes ": ") [] → b ≡ pick (not (eqb why 0)) (cause why) []
    → a ++ (b ++ rest) ≡ why_part why ++ rest
unfolding why_part
why_told why rest p q = rw (p, q) (go (eqb why 0)) where
  go : (x : Bool) → pick (not x) (bytes ": ") [] ++ (pick (not x) (cause why) [] ++ rest) ≡ pick x [] (bytes ": " ++ cause why) ++ rest
  go true = refl
  go false = simp append_assoc

-- a complaint
module _ (c : Complaint) where
  pub none_told : c.number ≡ 0 → [] ≡ complained c
  unfolding complained
  none_told z = rw (eq-eqb c.number 0 z)

  module _ (some : c.number ≡ 0 → ⊥) {t u v w x number words y z : List ℕ}
      (t_is : t ≡ pick (not (eqb c.line 0)) (bytes "line ") []) (u_is : u ≡ pick (not (eqb c.line 0)) (decimal c.line) [])
      (v_is : v ≡ pick (not (eqb c.line 0) && not (eqb c.field 0)) (bytes ", field ") [])
      (w_is : w ≡ pick (not (eqb c.line 0) && not (eqb c.field 0)) (decimal c.field) [])
      (x_is : x ≡ pick (not (eqb c.line 0)) (bytes ": ") []) (number_is : number ≡ decimal c.number) (words_is : words ≡ meaning c.number)
      (y_is : y ≡ pick (not (eqb c.why 0)) (bytes ": ") []) (z_is : z ≡ pick (not (eqb c.why 0)) (cause c.why) []) where
    abbrev complaint_text : List ℕ
    complaint_text = t ++ (u ++ (v ++ (w ++ (x ++ (number ++ (bytes " " ++ (words ++ (y ++ (z ++ bytes "\n")))))))))

    pub all_told : complaint_text ≡ complained c
    unfolding complained what_part
    all_told =
        where_told c.line c.field (number ++ (bytes " " ++ (words ++ (y ++ (z ++ bytes "\n"))))) t_is u_is v_is w_is x_is
        ∙ rw (why_told c.why (bytes "\n") y_is z_is, number_is, words_is, ne_eqb c.number 0 some)
        (four_together (where_part c.line c.field) (decimal c.number) (bytes " ") (meaning c.number) (why_part c.why) (bytes "\n"))

    pub told_short : length complaint_text ≤ 256
    told_short = subst (λ (l : List ℕ). length l ≤ 256) (sym all_told) (complaints_are_short c)
