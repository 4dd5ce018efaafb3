-- What the walk of deep finds, and what of it is remembered.
use Rattle.std.specs.Prelude.{◌≡◌, ◌≢◌, ◌⊎◌, Bool, true, false, not, ◌&&◌, ◌||◌, cond, List, [], ◌∷◌, map, ℕ, ◌+◌, ◌*◌, ◌/◌, ◌%◌, ◌≤◌, ◌<◌, max, eqb, leb, ltb, length, get_or, set}
use Rattle.std.specs.Int.Bits.{bit_or}
use Rattle.calculus.specs.declared.Premise.{Premise}
use Rattle.calculus.specs.Lists.{all, any, num, is_true}
use Rattle.calculus.specs.Terms.{not_head, and_head, or_head}
use Rattle.calculus.specs.Rules.{evaluates, is_premise, premise_value, grounded, walk_value, comes_to}
use Rattle.rule_deep.specs.declared.Walked.{Walked}

-- ---- premises as bits

-- the premises whose row has f, premise j as bit j
unfoldable pub marked : (ℕ → Bool) → List Premise → ℕ
marked f [] = 0
marked f (p ∷ ps) = num (f p.row) + 2 * marked f ps

abbrev pub every_one : ℕ → Bool
every_one u = true

-- the premises on t
abbrev pub same_row : ℕ → ℕ → Bool
same_row t u = eqb u t

-- ---- what a walk finds

-- r tells of any number n of connectives, from the height on, whether every path is grounded, whether the row is true, and which rows are come to
pub record Finds (ps : List Premise) (grounds truth : ℕ → Bool) (comes : ℕ → ℕ → Bool) (r : Walked) : Type 0 where
  pub reach : (n : ℕ) → grounds n ≡ leb r.height n
  pub truths : (n : ℕ) → r.height ≤ n → truth n ≡ r.truth
  pub meets : (n : ℕ) → r.height ≤ n → marked (comes n) ps ≡ r.met

module _ (ts : List ℕ) (ps : List Premise) where
  -- of row t
  abbrev pub FindsRow : ℕ → Walked → Type 0
  FindsRow t = Finds ps (λ n. grounded ts ps n t) (λ n. is_true (walk_value ts ps n t)) (λ n u. comes_to ts ps n u t)

  -- of the rows xs, under the connective h
  abbrev pub FindsArgs : ℕ → List ℕ → Walked → Type 0
  FindsArgs h xs =
      Finds ps (λ n. all (grounded ts ps n) xs) (λ n. evaluates h (map (walk_value ts ps n) xs) 1) (λ n u. any (comes_to ts ps n u) xs)

-- ---- as one number, which is never 0

unfoldable pub unpacked : ℕ → Walked
unpacked c = record { height = c / 4 % 16; met = c / 64; truth = eqb (c / 2 % 2) 1 }

-- it has room for r
pub record Small (r : Walked) : Type 0 where
  pub met : r.met ≤ 31
  pub height : r.height < 16

-- c says r, or is 0 where the number before it is
pub record Says (r : Walked) (before c : ℕ) : Type 0 where
  pub lost : before ≡ 0 → c ≡ 0
  pub said : before ≢ 0 → (unpacked c ≡ r) × (c ≢ 0)

-- of a row on which there are the premises m, the first with the value v
unfoldable pub premised : ℕ → ℕ → ℕ
premised m v = cond (eqb m 0) 0 (m * 64 + num (is_true v) * 2 + 1)

-- ---- connectives and their arguments

-- no argument under the connective h, and one more in front
abbrev pub no_argument : ℕ → Walked
no_argument h = record { height = 0; met = 0; truth = not (eqb h or_head) }

abbrev pub connected : ℕ → Bool → Bool → Bool
connected h a b = cond (eqb h not_head) (not a) (cond (eqb h and_head) (a && b) (a || b))

abbrev pub joined : ℕ → Walked → Walked → Walked
joined h r rest =
    record { height = max r.height rest.height; met = bit_or r.met rest.met; truth = connected h r.truth rest.truth }

-- the arguments of which the numbers cs say what was found
abbrev pub chain : ℕ → List ℕ → Walked
chain h [] = no_argument h
chain h (c ∷ cs) = joined h (unpacked c) (chain h cs)

-- ---- what is remembered of the first 256 rows: 0 where nothing is

-- nothing yet
pub record Empty (memo : List ℕ) : Type 0 where
  pub long : length memo ≡ 256
  pub zeros : (t : ℕ) → get_or memo t 0 ≡ 0

-- premise p is noted in its row, as this bit
pub record Noted (before after : List ℕ) (p : Premise) (bit : ℕ) : Type 0 where
  pub near : p.row < 256 → after ≡ set before p.row ((get_or before p.row 0 / 64 + bit) * 64 + num (is_true p.value) * 2 + 1)
  pub far : 256 ≤ p.row → after ≡ before

-- the premises ps are noted, the first as this bit; and `all` has a bit for each of them
pub record Notes (bit : ℕ) (ps : List Premise) (memo : List ℕ) (all : ℕ) : Type 0 where
  pub long : length memo ≡ 256
  pub room : (t : ℕ) → get_or memo t 0 / 64 + bit ≤ 32
  pub noted : (t : ℕ) → get_or memo t 0 ≡ cond (ltb t 256) (premised (bit * marked (same_row t) ps) (premise_value ps t)) 0
  pub counted : all ≡ bit * marked every_one ps

-- what is known of row t; of a row from 256 on, whether it is a premise
unfoldable pub recalled : List Premise → List ℕ → ℕ → ℕ
recalled ps memo t = cond (ltb t 256) (get_or memo t 0) (premised (marked (same_row t) ps) (premise_value ps t))

-- of row t, c is remembered, and of every other row what was; or all is as it was
abbrev pub Remembered : List ℕ → List ℕ → ℕ → ℕ → Type 0
Remembered before after t c = (u : ℕ) → (get_or after u 0 ≡ get_or before u 0) ⊎ ((u ≡ t) × (get_or after u 0 ≡ c))

module _ (ts : List ℕ) (ps : List Premise) where
  -- what is remembered was found, and of the premises it is all of these rows
  pub record Knows (memo : List ℕ) : Type 0 where
    pub remembers : (t : ℕ) → get_or memo t 0 ≢ 0 → FindsRow ts ps t (unpacked (get_or memo t 0))
    pub premises : (t : ℕ) → t < 256 → get_or memo t 0 ≡ 0 → is_premise ps t ≡ false

  -- c is 0 where some path is not grounded within n connectives; else it says what is found
  pub record Walks (grounds : ℕ → Bool) (Found : Walked → Type 0) (memo : List ℕ) (n c : ℕ) : Type 0 where
    pub lost : c ≡ 0 → grounds n ≡ false
    pub found : c ≢ 0 → Found (unpacked c) × ((unpacked c).height ≤ n)
    pub knows : Knows memo

  abbrev pub WalksRow : List ℕ → ℕ → ℕ → ℕ → Type 0
  WalksRow memo n t = Walks (λ k. grounded ts ps k t) (FindsRow ts ps t) memo n

  abbrev pub WalksArgs : List ℕ → ℕ → ℕ → List ℕ → ℕ → Type 0
  WalksArgs memo n h xs = Walks (λ k. all (grounded ts ps k) xs) (FindsArgs ts ps h xs) memo n
