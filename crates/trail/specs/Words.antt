-- The trail in the workspace, for N term rows and sets of w words: the justification of term t at t * w, then N words each for the
-- values, the levels and the kinds of the terms, then the term at each position of the trail, the oldest first, then the conflict.
-- Kind 0: the term is not on the trail; 1: it is justified; 2: it is a decision.
use Rattle.std.specs.Prelude.{ℕ, zero, suc, ◌+◌, ◌*◌, ◌%◌, ◌≤◌, ◌<◌, ◌≡◌, Bool, cond, List, [], ◌∷◌, eqb, length, get_or}
use Rattle.calculus.specs.Trail.{Set, Trail, Entry, empty, on, decided_at, kept_to, top_level}
use Rattle.calculus.specs.WellFormed.{Distinct, Below}
use Rattle.bitset.specs.Windows.{set_at, Only}

-- where each table begins: all linear in N * w and N
abbrev pub values : ℕ → ℕ → ℕ
values w N = N * w

abbrev pub levels : ℕ → ℕ → ℕ
levels w N = N * w + N

abbrev pub kinds : ℕ → ℕ → ℕ
kinds w N = N * w + 2 * N

abbrev pub order : ℕ → ℕ → ℕ
order w N = N * w + 3 * N

abbrev pub conflict : ℕ → ℕ → ℕ
conflict w N = N * w + 4 * N

-- the row of the entry at i, the oldest entry being at 0
abbrev pub row_at : ℕ → ℕ → List ℕ → ℕ → ℕ
row_at w N ws i = get_or ws (order w N + i) 0

-- an entry whose justification is the set s; a decision has none
abbrev pub entry_of : ℕ → ℕ → ℕ → Bool → Set → Entry
entry_of t v l d s = record { term = t; value = v; level = l; decided = d; why = cond d empty s }

-- one more entry of term t, whose justification stands in the term's own words
abbrev pub entry_new : ℕ → List ℕ → ℕ → ℕ → ℕ → Bool → Entry
entry_new w ws t v l d = entry_of t v l d (set_at ws (t * w) w)

-- the entry that the words of term t say
abbrev pub entry_for : ℕ → ℕ → List ℕ → ℕ → Entry
entry_for w N ws t =
    entry_of t (get_or ws (values w N + t) 0 % 65536) (get_or ws (levels w N + t) 0) (eqb (get_or ws (kinds w N + t) 0) 2) (set_at ws (t * w) w)

-- the trail of the first n positions, the newest first
unfoldable pub trail_in : ℕ → ℕ → List ℕ → ℕ → Trail
trail_in w N ws zero = []
trail_in w N ws (suc n) = entry_for w N ws (get_or ws (order w N + n) 0) ∷ trail_in w N ws n

-- the kind of term t
unfoldable pub kind_at : Trail → ℕ → ℕ
kind_at tr t = cond (on tr t) (cond (decided_at tr t) 2 1) 0

-- the words are a trail of n entries over N terms, whose rows sets of w words can hold; no row is 65,535, which is blank
pub record Laid (w N : ℕ) (ws : List ℕ) (n : ℕ) : Type 0 where
  pub enough : conflict w N + w ≤ length ws
  pub wide : N ≤ 64 * w
  pub narrow : w ≤ 1023
  pub marked : (t : ℕ) → t < N → get_or ws (kinds w N + t) 0 ≡ kind_at (trail_in w N ws n) t
  pub distinct : Distinct (trail_in w N ws n)
  pub below : Below N (trail_in w N ws n)

-- no entry: the kinds are 0, and no other word has changed
pub record Started (w N : ℕ) (ws vs : List ℕ) : Type 0 where
  pub only : Only ws vs (kinds w N) N
  pub laid : Laid w N vs 0

-- one entry more; justifications and conflict are as they were
pub record Pushed (w N : ℕ) (ws vs : List ℕ) (n : ℕ) (e : Entry) : Type 0 where
  pub only : Only ws vs (values w N) (4 * N)
  pub trail : trail_in w N vs (n + 1) ≡ e ∷ trail_in w N ws n
  pub laid : Laid w N vs (n + 1)

-- kept to level m: r entries, whose greatest level is top; justifications and conflict are as they were
pub record Cut (w N : ℕ) (ws vs : List ℕ) (n m r top : ℕ) : Type 0 where
  pub only : Only ws vs (values w N) (4 * N)
  pub trail : trail_in w N vs r ≡ kept_to m (trail_in w N ws n)
  pub laid : Laid w N vs r
  pub greatest : top ≡ top_level (trail_in w N vs r)

-- the words after a change are the same trail
pub record Still (w N : ℕ) (ws vs : List ℕ) (n : ℕ) : Type 0 where
  pub trail : trail_in w N vs n ≡ trail_in w N ws n
  pub laid : Laid w N vs n
