-- Clausal forms (Definition 1 of the journal article) as a relation: an or whose arguments deny, or an and whose arguments affirm, some assignments.
use mathlib.Core.List.{List, [], ◌∷◌, ◌++◌, Memᴰ}
use Rattle.std.specs.Prelude.{ℕ}
use Rattle.calculus.specs.declared.Premise.{Premise}
use Rattle.calculus.specs.Terms.{not_head, and_head, or_head}
use Rattle.figure.specs.Inferences.{assign, Opposite, Applied}

-- no number stands twice
pub data Different : List ℕ → Type 0 where
  no_number : Different []
  one_more : {x : ℕ} {xs : List ℕ} → ¬ Memᴰ x xs → Different xs → Different (x ∷ xs)

-- a term that is false just where the assignment holds
pub data Denies (ts : List ℕ) : Premise → ℕ → Type 0 where
  denies_true : {l n : ℕ} → Applied ts n not_head (l ∷ []) → Denies ts (assign 1 l) n
  denies_false : {l : ℕ} → Denies ts (assign 0 l) l

-- one that is true just there
pub data Affirms (ts : List ℕ) : Premise → ℕ → Type 0 where
  affirms_true : {l : ℕ} → Affirms ts (assign 1 l) l
  affirms_false : {l n : ℕ} → Applied ts n not_head (l ∷ []) → Affirms ts (assign 0 l) n

-- assignments and terms in pairs of which P holds, one to one and in any order
pub data Paired (P : Premise → ℕ → Type 0) : List Premise → List ℕ → Type 0 where
  no_pair : Paired P [] []
  one_pair : {p : Premise} {x : ℕ} {H : List Premise} (xs ys : List ℕ) → P p x → Paired P H (xs ++ ys) → Paired P (p ∷ H) (xs ++ (x ∷ ys))

-- l with the value v is a clausal form of H: of one assignment its opposite, or an or that is true, or an and that is false
pub data ClausalForm (ts : List ℕ) : List Premise → ℕ → ℕ → Type 0 where
  opposite : {l v w : ℕ} → Opposite v w → ClausalForm ts (assign v l ∷ []) l w
  clause : {H : List Premise} {l : ℕ} {xs : List ℕ} → Applied ts l or_head xs → Paired (Denies ts) H xs → ClausalForm ts H l 1
  conjunction : {H : List Premise} {l : ℕ} {xs : List ℕ} → Applied ts l and_head xs → Paired (Affirms ts) H xs → ClausalForm ts H l 0
