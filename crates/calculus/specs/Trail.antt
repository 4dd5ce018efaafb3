-- The trail: entries in order, the newest first; sets of them; levels; what is kept.
use Rattle.std.specs.Prelude.{Bool, true, false, not, ◌&&◌, ◌||◌, cond, List, [], ◌∷◌, ◌++◌, map, ℕ, ◌+◌, max, eqb, leb}
use Rattle.calculus.specs.declared.Premise.{Premise}
use Rattle.calculus.specs.Lists.{has, num}
use Rattle.calculus.specs.Sheets.{blank}
use Rattle.calculus.specs.Terms.{prop}

-- ---- sets of term rows: with the trail's values they are sets of assignments on the trail

abbrev pub Set : Type 0
Set = ℕ → Bool

abbrev pub empty : Set
empty = λ u. false

abbrev pub everything : Set
everything = λ u. true

abbrev pub insert : Set → ℕ → Set
insert s t = λ u. s u || eqb u t

abbrev pub remove : Set → ℕ → Set
remove s t = λ u. s u && not (eqb u t)

-- all of xs removed
abbrev pub without : Set → List ℕ → Set
without s xs = λ u. s u && not (has xs u)

abbrev pub union : Set → Set → Set
union s r = λ u. s u || r u

abbrev pub intersection : Set → Set → Set
intersection s r = λ u. s u && r u

-- ---- entries

-- an assignment on the trail: its level, whether it is a decision, and its justification, which is empty for a decision
pub record Entry : Type 0 where
  pub term : ℕ
  pub value : ℕ
  pub level : ℕ
  pub decided : Bool
  pub why : Set

abbrev pub Trail : Type 0
Trail = List Entry

-- ---- look-up by term

unfoldable pub on : Trail → ℕ → Bool
on [] t = false
on (e ∷ older) t = eqb e.term t || on older t

-- stands for the entry of a term that is not on the trail
abbrev pub absent : Entry
absent = record { term = blank; value = blank; level = 0; decided = false; why = empty }

unfoldable pub entry : Trail → ℕ → Entry
entry [] t = absent
entry (e ∷ older) t = cond (eqb e.term t) e (entry older t)

abbrev pub value_at : Trail → ℕ → ℕ
value_at tr t = (entry tr t).value

abbrev pub level_at : Trail → ℕ → ℕ
level_at tr t = (entry tr t).level

abbrev pub decided_at : Trail → ℕ → Bool
decided_at tr t = (entry tr t).decided

-- the justification of t
abbrev pub why_at : Trail → ℕ → Set
why_at tr t = (entry tr t).why

-- t stands on the trail with value v
abbrev pub assigned : Trail → ℕ → ℕ → Bool
assigned tr t v = on tr t && eqb (value_at tr t) v

-- the rows ps with their values on the trail
abbrev pub premises_at : Trail → List ℕ → List Premise
premises_at tr ps = map (λ p. record { row = p; value = value_at tr p }) ps

-- some member of s has an entry of which p holds
unfoldable pub holds : Trail → Set → (Entry → Bool) → Bool
holds [] s p = false
holds (e ∷ older) s p = s e.term && p e || holds older s p

-- a decision of level m on a term that is not of sort prop: a first-order decision
abbrev pub first_order : List ℕ → ℕ → Entry → Bool
first_order ts m e = e.decided && (not (prop ts e.term) && eqb e.level m)

-- ---- levels, as Definition 5 of the CADE 2017 paper has them

-- the greatest level in a set; 0 for the empty one
unfoldable pub level_of : Trail → Set → ℕ
level_of [] s = 0
level_of (e ∷ older) s = max (level_of older s) (cond (s e.term) e.level 0)

-- the greatest level of all
abbrev pub top_level : Trail → ℕ
top_level tr = level_of tr everything

-- kept to m (Γ≤m): all entries of level at most m, in order
unfoldable pub kept_to : ℕ → Trail → Trail
kept_to m [] = []
kept_to m (e ∷ older) = cond (leb e.level m) (e ∷ kept_to m older) (kept_to m older)

-- ---- one entry more

-- a decision, one level above all before it
abbrev pub decision : Trail → ℕ → ℕ → Entry
decision tr t v = record { term = t; value = v; level = 1 + top_level tr; decided = true; why = empty }

-- an assignment that s justifies, at the greatest level in s
abbrev pub justified : Trail → ℕ → ℕ → Set → Entry
justified tr t v s = record { term = t; value = v; level = level_of tr s; decided = false; why = s }

-- ---- the trail as numbers, the oldest entry first: term, value, level, decision (1) or not (0)

abbrev pub entry_numbers : Entry → List ℕ
entry_numbers e = e.term ∷ e.value ∷ e.level ∷ num e.decided ∷ []

unfoldable pub trail_numbers_of : Trail → List ℕ
trail_numbers_of [] = []
trail_numbers_of (e ∷ older) = trail_numbers_of older ++ entry_numbers e
