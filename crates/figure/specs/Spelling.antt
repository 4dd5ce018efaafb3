-- What a row of the step sheet spells: each column of an action filled, premises from the left, and blanks elsewhere.
use Rattle.std.specs.Prelude.{◌≡◌, ◌≢◌, List, [], ◌∷◌, ℕ, ◌≤◌, ◌<◌, length}
use Rattle.calculus.specs.declared.Step.{Step}
use Rattle.calculus.specs.declared.Rule.{Rule}
use Rattle.calculus.specs.declared.Rule.TheVariants.{Deep}
use Rattle.calculus.specs.declared.Kind.{Kind}
use Rattle.calculus.specs.declared.Kind.TheVariants.{Decide, Deduce, Clash, Resolve, Clear, Jump, Flip, Fail, Learn}
use Rattle.calculus.specs.Sheets.{blank}
use Rattle.calculus.specs.Rules.{rule_of}
use Rattle.calculus.specs.Steps.{premise_cells, kind_of}
use Rattle.figure.specs.Transitions.{Action, decide, deduce, clash, resolve, clear, jump, flip, fail, learn}

-- column c holds n
abbrev pub Filled : ℕ → ℕ → Type 0
Filled c n = (c ≡ n) × (n ≢ blank)

abbrev pub Blank : ℕ → Type 0
Blank c = c ≡ blank

-- the columns hold ps from the left, and blanks after them
pub data FromLeft : List ℕ → List ℕ → Type 0 where
  no_column : FromLeft [] []
  blank_column : {c : ℕ} {cs : List ℕ} → Blank c → FromLeft cs [] → FromLeft (c ∷ cs) []
  filled_column : {c p : ℕ} {cs ps : List ℕ} → Filled c p → FromLeft cs ps → FromLeft (c ∷ cs) (p ∷ ps)

-- the columns that every step has: the step, its term, its premises
pub record Columns (x : Step) (k : Kind) (t : ℕ) (ps : List ℕ) : Type 0 where
  pub kind : kind_of x.step ≡ k
  pub subject : Filled x.term t
  pub rows : FromLeft (premise_cells x) ps

abbrev pub Spells : Step → Action → Type 0
Spells x (decide t v) = Columns x Decide t [] × Blank x.rule × Filled x.value v
Spells x (deduce r l v ps) = Columns x Deduce l ps × (rule_of x.rule ≡ r) × Filled x.value v
Spells x (clash r l v ps) = Columns x Clash l ps × (rule_of x.rule ≡ r) × Filled x.value v
Spells x (resolve a) = Columns x Resolve a [] × Blank x.rule × Blank x.value
Spells x (clear a) = Columns x Clear a [] × Blank x.rule × Blank x.value
Spells x (jump l) = Columns x Jump l [] × Blank x.rule × Blank x.value
Spells x (flip l k) = Columns x Flip l (k ∷ []) × Blank x.rule × Blank x.value
Spells x (fail r l v ps) = Columns x Fail l ps × (rule_of x.rule ≡ r) × Filled x.value v
Spells x (learn t m hs) = Columns x Learn t hs × Blank x.rule × Filled x.value m

-- what a column can hold: a number of 16 bits
pub record SixteenBits (x : Step) : Type 0 where
  pub step : x.step ≤ blank
  pub rule : x.rule ≤ blank
  pub term : x.term ≤ blank
  pub value : x.value ≤ blank
  pub p : x.p ≤ blank
  pub q : x.q ≤ blank
  pub r : x.r ≤ blank
  pub s : x.s ≤ blank
  pub t : x.t ≤ blank

-- the premises of an inference by deep fit into the five columns; those by any other rule always do
abbrev pub FiveColumns : Rule → List ℕ → Type 0
FiveColumns r ps = r ≡ Deep → length ps ≤ 5

-- the value that a decision gives can be written, and so can the premises of an inference; the other actions have nothing that cannot
abbrev pub Writable : Action → Type 0
Writable (decide t v) = v < blank
Writable (deduce r l v ps) = FiveColumns r ps
Writable (clash r l v ps) = FiveColumns r ps
Writable (resolve a) = Unit {0}
Writable (clear a) = Unit {0}
Writable (jump l) = Unit {0}
Writable (flip l k) = Unit {0}
Writable (fail r l v ps) = FiveColumns r ps
Writable (learn t m hs) = Unit {0}
