-- The transitions of Figure 3 of the CADE 2017 paper, and LearnBackjump of the journal article's Figure 1, as a relation between states: one constructor
-- for each rule, as documents 01 and 02 state it.
use Rattle.std.specs.Prelude.{◌≡◌, ◌≢◌, ◌⊎◌, true, false, ℕ, ◌+◌, ◌≤◌, ◌<◌, length}
use mathlib.Core.List.{List, [], ◌∷◌, map, Memᴰ}
use Rattle.calculus.specs.declared.Premise.{Premise}
use Rattle.calculus.specs.declared.Rule.{Rule}
use Rattle.calculus.specs.Lists.{has}
use Rattle.calculus.specs.Sheets.{term_rows}
use Rattle.calculus.specs.Terms.{sort}
use Rattle.calculus.specs.Trail.{Set, empty, everything, remove, without, union, Entry, Trail}
use Rattle.calculus.specs.Rules.{row_of}
use Rattle.calculus.specs.Steps.{State, searching, conflict}
use Rattle.figure.specs.Inferences.{assign, Opposite, Infers}
use Rattle.figure.specs.Clauses.{Different, ClausalForm}

-- ---- terms

-- t is a term of the global basis, which is the term sheet
abbrev pub InBasis : List ℕ → ℕ → Type 0
InBasis ts t = t < term_rows ts

-- t is of sort prop
abbrev pub Boolean : List ℕ → ℕ → Type 0
Boolean ts t = sort ts t ≡ 0

-- v is a value for t: a prop is false or true
abbrev pub Suits : List ℕ → ℕ → ℕ → Type 0
Suits ts t v = Boolean ts t → v ≤ 1

-- ---- the trail

infix 40 ◌∈◌
-- e stands on the trail
abbrev pub ◌∈◌ : Entry → Trail → Type 0
e ∈ tr = Memᴰ e tr

-- e stands on the trail and in the set S
abbrev pub Among : Trail → Set → Entry → Type 0
Among tr S e = (e ∈ tr) × (S e.term ≡ true)

-- the trail gives t the value v
abbrev pub Assigned : Trail → ℕ → ℕ → Type 0
Assigned tr t v = (e : Entry) × (e ∈ tr) × (e.term ≡ t) × (e.value ≡ v)

-- the trail gives t no value
abbrev pub Absent : Trail → ℕ → Type 0
Absent tr t = (e : Entry) → e ∈ tr → e.term ≢ t

abbrev pub Decision : Entry → Type 0
Decision e = e.decided ≡ true

abbrev pub Justified : Entry → Type 0
Justified e = e.decided ≡ false

-- a decision on a term that is not of sort prop
abbrev pub FirstOrder : List ℕ → Entry → Type 0
FirstOrder ts e = Decision e × ¬ Boolean ts e.term

-- a decision, and an assignment with its justification, at their levels
abbrev pub decision_at : ℕ → ℕ → ℕ → Entry
decision_at t v m = record { term = t; value = v; level = m; decided = true; why = empty }

abbrev pub justified_at : ℕ → ℕ → ℕ → Set → Entry
justified_at t v m H = record { term = t; value = v; level = m; decided = false; why = H }

-- ---- levels

-- m is the greatest level of the members of S; 0 where it has none
pub record Level (tr : Trail) (S : Set) (m : ℕ) : Type 0 where
  pub bound : (e : Entry) → Among tr S e → e.level ≤ m
  pub met : (m ≡ 0) ⊎ ((e : Entry) × Among tr S e × (e.level ≡ m))

-- the restriction of a trail to its entries of level at most m
pub data Restricted (m : ℕ) : Trail → Trail → Type 0 where
  no_entry : Restricted m [] []
  kept : {e : Entry} {older rest : Trail} → e.level ≤ m → Restricted m older rest → Restricted m (e ∷ older) (e ∷ rest)
  dropped : {e : Entry} {older rest : Trail} → m < e.level → Restricted m older rest → Restricted m (e ∷ older) rest

-- ---- acceptable decisions, as Definition 3 of the CADE 2017 paper has them

-- what opposes t with the value v: from it and from assignments on the trail, J, an inference gives the Boolean l the value w; the trail has its opposite u
pub record Opposed (ts : List ℕ) (tr : Trail) (t v : ℕ) : Type 0 where
  pub r : Rule
  pub J : List Premise
  pub l : ℕ
  pub w : ℕ
  pub u : ℕ
  pub inference : Infers ts r J l w
  pub boolean : Boolean ts l
  pub used : Memᴰ (assign v t) J
  pub on_trail : (p : Premise) → Memᴰ p J → (p ≡ assign v t) ⊎ Assigned tr p.row p.value
  pub other : Opposite w u
  pub there : Assigned tr l u

-- t with the value v is acceptable: the trail gives t no value, and t is Boolean or nothing opposes it there
pub record Acceptable (ts : List ℕ) (tr : Trail) (t v : ℕ) : Type 0 where
  pub new : Absent tr t
  pub unopposed : Boolean ts t ⊎ ¬ Opposed ts tr t v

-- ---- actions and results

pub data Action : Type 0 where
  decide : ℕ → ℕ → Action
  deduce : Rule → ℕ → ℕ → List ℕ → Action
  clash : Rule → ℕ → ℕ → List ℕ → Action
  resolve : ℕ → Action
  clear : ℕ → Action
  jump : ℕ → Action
  flip : ℕ → ℕ → Action
  fail : Rule → ℕ → ℕ → List ℕ → Action
  learn : ℕ → ℕ → List ℕ → Action

pub data Result : Type 0 where
  next : State → Result
  unsat : Result

-- ---- the transitions

-- the rows xs as a set are has xs

-- what Deduce, Fail and ConflictSolve share: J stands on the trail and gives the Boolean l the value v, which the trail does not; w is the other value
pub record Inferred (ts : List ℕ) (tr : Trail) (r : Rule) (J : List Premise) (l v w : ℕ) : Type 0 where
  pub on_trail : (p : Premise) → Memᴰ p J → Assigned tr p.row p.value
  pub inference : Infers ts r J l v
  pub boolean : Boolean ts l
  pub other : Opposite v w
  pub new : ¬ Assigned tr l v

-- what LearnBackjump takes out of the conflict E: two to four different members, all Boolean
pub record Members (ts : List ℕ) (tr : Trail) (E : Set) (H : List Premise) : Type 0 where
  pub several : 2 ≤ length H
  pub few : length H ≤ 4
  pub different : Different (map row_of H)
  pub on_trail : (p : Premise) → Memᴰ p H → Assigned tr p.row p.value
  pub in_conflict : (p : Premise) → Memᴰ p H → E p.row ≡ true
  pub boolean : (p : Premise) → Memᴰ p H → Boolean ts p.row

pub data Transition (ts : List ℕ) : State → Action → Result → Type 0 where
  -- ---- search rules
  -- the term with its value as a decision, one level above the trail
  Decide : {tr : Trail} {t v m : ℕ}
      → InBasis ts t → Suits ts t v → Acceptable ts tr t v
      → Level tr everything m
      → Transition ts (searching tr) (decide t v) (next (searching (decision_at t v (1 + m) ∷ tr)))
  -- the premises, as a set, justify l, of which the trail has neither value
  Deduce : {tr : Trail} {r : Rule} {J : List Premise} {l v w m : ℕ}
      → InBasis ts l → Inferred ts tr r J l v w → ¬ Assigned tr l w
      → Level tr (has (map row_of J)) m
      → Transition ts (searching tr) (deduce r l v (map row_of J)) (next (searching (justified_at l v m (has (map row_of J)) ∷ tr)))
  -- premises and opposite are all at level 0
  Fail : {tr : Trail} {r : Rule} {J : List Premise} {l v w : ℕ}
      → Inferred ts tr r J l v w → Assigned tr l w
      → Level tr (has (l ∷ map row_of J)) 0
      → Transition ts (searching tr) (fail r l v (map row_of J)) unsat
  -- the opening of ConflictSolve: premises and opposite, not all at level 0, become the conflict
  Conflict : {tr : Trail} {r : Rule} {J : List Premise} {l v w m : ℕ}
      → Inferred ts tr r J l v w → Assigned tr l w
      → Level tr (has (l ∷ map row_of J)) m → 0 < m
      → Transition ts (searching tr) (clash r l v (map row_of J)) (next (conflict tr (has (l ∷ map row_of J))))
  -- ---- conflict resolution rules; E is the conflict
  -- a's justification, which holds no first-order decision at the conflict's level, takes the place of a
  Resolve : {tr : Trail} {E : Set} {a : Entry} {m : ℕ}
      → Among tr E a → Justified a
      → Level tr E m → ((d : Entry) → Among tr a.why d → FirstOrder ts d → d.level ≢ m)
      → Transition ts (conflict tr E) (resolve a.term) (next (conflict tr (union (remove E a.term) a.why)))
  -- a first-order decision above the rest of the conflict is undone, with all of its level and above
  Undo : {tr rest : Trail} {E : Set} {a : Entry} {m n : ℕ}
      → Among tr E a → FirstOrder ts a
      → a.level ≡ 1 + m → Level tr (remove E a.term) n → n < a.level
      → Restricted m tr rest
      → Transition ts (conflict tr E) (clear a.term) (next (searching rest))
  -- back to the level of the rest of the conflict, which justifies the opposite of l
  Backjump : {tr rest : Trail} {E : Set} {l : Entry} {m w : ℕ}
      → Among tr E l → Boolean ts l.term → Opposite l.value w
      → Level tr (remove E l.term) m → m < l.level
      → Restricted m tr rest
      → Transition ts (conflict tr E) (jump l.term) (next (searching (justified_at l.term w m (remove E l.term) ∷ rest)))
  -- l and k, two members, rest on one first-order decision at the conflict's level; below that level the opposite of l is decided
  UndoDecide : {tr rest : Trail} {E : Set} {l k d : Entry} {m n w : ℕ}
      → Among tr E l → Justified l → Boolean ts l.term → Opposite l.value w
      → Among tr E k → Justified k → l.term ≢ k.term
      → Among tr l.why d → Among tr k.why d → FirstOrder ts d
      → d.level ≡ 1 + m → Level tr E (1 + m)
      → Restricted m tr rest → Level rest everything n
      → Transition ts (conflict tr E) (flip l.term k.term) (next (searching (decision_at l.term w (1 + n) ∷ rest)))
  -- back to a level m, from that of the rest of the conflict to below that of H; the rest justifies a clausal form of H, of which the trail has
  -- neither value, at the level of the rest
  LearnBackjump : {tr rest : Trail} {E : Set} {H : List Premise} {t v m n k : ℕ}
      → Members ts tr E H
      → InBasis ts t → ClausalForm ts H t v → Absent tr t
      → Level tr (without E (map row_of H)) n → n ≤ m
      → Level tr (has (map row_of H)) k → m < k
      → Restricted m tr rest
      → Transition ts (conflict tr E) (learn t m (map row_of H)) (next (searching (justified_at t v n (without E (map row_of H)) ∷ rest)))
